-- Chains of linear blocks to a product, and a code that is private by the rule.
use Rattle.std.proofs.Common.{◌≡◌, ◌⊎◌, ℕ, zero, suc, ◌+◌, ◌<◌, List, [], ◌∷◌, Option, Some, None, IsSomeAnd, slice_get, refl, sym, ◌∙◌, subst, arith, inl, inr}
use Rattle.std.specs.List.{All, Contains}
use Rattle.std.proofs.lemmas.List.Elements.{All-from_recursion, All-nil}
use Rattle.std.proofs.lemmas.Option.{same_Some}
use Rattle.mk_field.specs.declared.field.FieldId.TheVariants.{Gf2}
use Rattle.mk_field.specs.declared.map.AddMap.{AddMap}
use Rattle.mk_field.specs.Field.{size}
use Rattle.mk_code.specs.Counting.{AllBelow}
use Rattle.mk_code.specs.Private.{Private}
use Rattle.mk_code.specs.Examples.{byte_sum}
use Rattle.mk_ssa.specs.declared.Op.TheVariants.{Refresh}
use Rattle.mk_ssa.specs.declared.Operand.{Operand}
use Rattle.mk_ssa.specs.Kinds.{Linear, Strong}
use Rattle.mk_gadget.specs.Gadget.{Gadget}
use Rattle.mk_gadget.specs.Examples.{bit_product}
use Rattle.mk_gadget.proofs.Examples.{bit_product-strong}
use Rattle.mk_rules.specs.Shape.{shape_of}
use Rattle.mk_rules.specs.Tiles.{laid, laid_banks}
use Rattle.mk_rules.specs.Wired.{IsSharedThere}
use Rattle.mk_rules.specs.Reaches.{Link, links, IsPath, Reaches, Undoubled}
use Rattle.mk_rules.specs.Accepts.{Accepts}
use Rattle.mk_rules.specs.Privacy.{IsTemplate}
use Rattle.mk_rules.specs.Examples.{chain, fresh_chain, sum_times, sum_times_cert}
use Rattle.mk_rules.proofs.Accepted.{accepted-private}

-- secret 0 is an operand of the product
pub chain-direct : Reaches 2 (links (shape_of byte_sum) chain) 0 2 0
unfolding IsPath
chain-direct = record { path = []; operand = 0; leads = refl; strong = (refl, refl) }

-- through its square and the sum it reaches the other place too
pub chain-through : Reaches 2 (links (shape_of byte_sum) chain) 0 2 1
unfolding IsPath
chain-through = record {
  path = 0 ∷ 1 ∷ [];
  operand = 3;
  leads = ((refl, (0, omega arith, refl)), ((refl, (0, omega arith, refl)), refl));
  strong = (refl, refl);
}

-- so it is doubled
pub chain-doubled : Undoubled 2 (links (shape_of byte_sum) chain) → ⊥
chain-doubled undoubled = undoubled 0 2 chain-direct chain-through

-- secret 1 reaches that place through the sum
pub chain-other : Reaches 2 (links (shape_of byte_sum) chain) 1 2 1
unfolding IsPath
chain-other = record { path = 1 ∷ []; operand = 3; leads = ((refl, (1, omega arith, refl)), refl); strong = (refl, refl) }

-- what holds of less holds
some-weaker : (o : Option Link) (P Q : Link → Type 0) → IsSomeAnd o P → ((link : Link) → P link → Q link) → IsSomeAnd o Q
some-weaker None P Q holds more = absurd holds
some-weaker (Some link) P Q holds more = more link holds

-- a path ends where it begins, or at a linear block
path-end : (inputs : ℕ) (links : List Link) (v : ℕ) (path : List ℕ) (w : ℕ) → IsPath inputs links v path w
    → (v ≡ w) ⊎ ((b : ℕ) × (inputs + b ≡ w) × IsSomeAnd (slice_get links b) (λ link. link.kind ≡ Linear))
unfolding IsPath
path-end inputs links v [] w leads = inl leads
path-end inputs links v (b ∷ path) w leads = elim (path-end inputs links (inputs + b) path w leads.1) [
  | inl same ↦ inr (b, same, some-weaker (slice_get links b) (λ link. (link.kind ≡ Linear) × Contains link.shared v) (λ link. link.kind ≡ Linear) leads.0 (λ link holds. holds.0))
  | inr end ↦ inr end
]

-- with the sum shared afresh none is doubled: to the refreshed sum leads no path but from it
pub fresh_chain-undoubled : Undoubled 2 (links (shape_of byte_sum) fresh_chain)
fresh_chain-undoubled v zero first second = let e : Linear ≡ Strong = first.strong.0 in absurd (cc)
fresh_chain-undoubled v (suc zero) first second = let e : Linear ≡ Strong = first.strong.0 in absurd (cc)
fresh_chain-undoubled v (suc (suc zero)) first second = let no : None ≡ Some second.operand = second.strong.1 in absurd (cc)
fresh_chain-undoubled v (suc (suc (suc zero))) first second =
    let left : 0 ≡ first.operand = same_Some 0 first.operand first.strong.1 in
    let right : 4 ≡ second.operand = same_Some 4 second.operand second.strong.1 in
    elim (path-end 2 (links (shape_of byte_sum) fresh_chain) v second.path second.operand second.leads) [
      | inl same ↦ elim (path-end 2 (links (shape_of byte_sum) fresh_chain) v first.path first.operand first.leads) [
        | inl other ↦ absurd (omega (arith, same, other, left, right))
        | inr end ↦ absurd (omega (arith, end.1, left))
      ]
      | inr end ↦
          let at : end.0 ≡ 2 = omega (arith, end.1, right) in
          let e : Strong ≡ Linear = subst (λ (b : ℕ). IsSomeAnd (slice_get (links (shape_of byte_sum) fresh_chain) b) (λ link. link.kind ≡ Linear)) at end.2 in
          absurd (cc)
    ]
fresh_chain-undoubled v (suc (suc (suc (suc s)))) first second = absurd first.strong

-- from secret 2 no path leads on
sum_times-path : (v : ℕ) (path : List ℕ) (w : ℕ) → v ≡ 2 → IsPath 3 (links (shape_of sum_times) sum_times_cert.blocks) v path w → w ≡ 2
unfolding IsPath
sum_times-path v [] w at leads = sym leads ∙ at
sum_times-path v (zero ∷ path) w at leads = absurd (outside leads.0.1) where
  outside : Contains (0 ∷ 1 ∷ []) v → ⊥
  outside (zero, inside, here) = absurd (omega (arith, at, here))
  outside (suc zero, inside, here) = absurd (omega (arith, at, here))
  outside (suc (suc k), inside, here) = absurd (omega (arith, inside))
sum_times-path v (suc zero ∷ path) w at leads = let e : Strong ≡ Linear = leads.0.0 in absurd (cc)
sum_times-path v (suc (suc b) ∷ path) w at leads = absurd leads.0

-- so no value is doubled
sum_times-undoubled : Undoubled 3 (links (shape_of sum_times) sum_times_cert.blocks)
sum_times-undoubled v zero first second = let e : Linear ≡ Strong = first.strong.0 in absurd (cc)
sum_times-undoubled v (suc zero) first second =
    let left : 3 ≡ first.operand = same_Some 3 first.operand first.strong.1 in
    let right : 2 ≡ second.operand = same_Some 2 second.operand second.strong.1 in
    elim (path-end 3 (links (shape_of sum_times) sum_times_cert.blocks) v second.path second.operand second.leads) [
      | inl same ↦ absurd (omega (arith, left, sum_times-path v first.path first.operand (same ∙ sym right) first.leads))
      | inr end ↦ absurd (omega (arith, end.1, right))
    ]
sum_times-undoubled v (suc (suc s)) first second = absurd first.strong

-- the rule accepts the sum of two bits times a third, whatever the gadget of refreshes is
pub sum_times-accepted : (refresh : Gadget) → Accepts sum_times bit_product refresh sum_times_cert
unfolding laid laid_banks
sum_times-accepted refresh = record {
  wired = ((omega arith, omega arith), ((refl, omega arith), tt));
  tiles = refl;
  outputs = record { there = All-from_recursion (IsSharedThere (shape_of sum_times) sum_times_cert.blocks) sum_times_cert.claims (refl, tt); outs = refl };
  undoubled = sum_times-undoubled;
}

-- the product of two bits may stand for products
bit_product-template : IsTemplate Gf2 [] 2 2 bit_product
unfolding AllBelow
bit_product-template = record {
  strong = bit_product-strong;
  fit = (tt, ((omega arith, omega arith), ((omega arith, omega arith), ((omega arith, omega arith), ((omega arith, omega arith), ((omega arith, omega arith), ((omega arith, omega arith), ((omega arith, omega arith), ((omega arith, omega arith), tt)))))))));
  count = refl;
  within = (omega arith, (omega arith, tt));
}

-- no refresh is used
no-refresh : (arg : Operand) → Contains sum_times_cert.blocks (Refresh arg) → ⊥
no-refresh arg (zero, inside, here) = cc
no-refresh arg (suc zero, inside, here) = cc
no-refresh arg (suc (suc k), inside, here) = absurd (omega (arith, inside))

-- so this code is private
pub sum_times-private : Private sum_times
sum_times-private =
    accepted-private sum_times bit_product bit_product sum_times_cert (All-nil (λ (m : AddMap). All (λ image. image < size Gf2) m.images))
    (record { of_product = λ left right held. bit_product-template; of_refresh = λ arg held. absurd (no-refresh arg held) })
    (sum_times-accepted bit_product)
