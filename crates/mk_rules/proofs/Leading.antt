-- Whether a value leads to another one through linear blocks, as a function over the blocks from behind: it
-- is what marks hold that are passed back from block to block, and it agrees with paths.
use Rattle.std.proofs.Common.{◌≡◌, ℕ, suc, ◌+◌, ◌-◌, ◌<◌, ◌≤◌, Bool, true, false, List, [], ◌∷◌, slice_get, Option, Some, None, IsSomeAnd, nat_eq, if◌then◌else◌, sym, ◌∙◌, ap, refl, subst, arith, inl, inr}
use Rattle.std.specs.List.{Contains}
use Rattle.std.proofs.lemmas.Bool.{cases_Bool, cases_lt, eqb-true, eq-eqb, ne_eqb, cond-true, cond-false}
use Rattle.std.proofs.lemmas.Option.{same_Some, slice_get_past, slice_get-get_or}
use Rattle.mk_ssa.specs.Kinds.{Kind, Linear, Strong}
use Rattle.mk_ssa.proofs.Lists.{IsSomeAnd-value}
use Rattle.mk_rules.specs.Reaches.{Link, IsPath, Reaches}
use Rattle.mk_rules.proofs.Blocks.{IsHit, any_marked, only, passed_on, any_marked-from, any_marked-at}
use Rattle.mk_rules.proofs.Needs.{carries-from, carries-at}
use Rattle.mk_rules.proofs.Views.{Contains-at}

-- whether the value v is one of these
abbrev pub is_among : List ℕ → ℕ → Bool
is_among values v = any_marked (only v) values

-- whether a value leads to the value w through these blocks, of which the first has the number `at`
unfoldable pub leads : ℕ → List Link → ℕ → ℕ → Bool
leads at [] w v = nat_eq v w
leads at (l ∷ ls) w v =
    if passed_on l.kind (leads (at + 1) ls w at) then (if is_among l.shared v then true else leads (at + 1) ls w v)
    else leads (at + 1) ls w v

-- where the first block passes the mark of its value on, its operands have it too
pub leads-passed : (at : ℕ) (l : Link) (ls : List Link) (w v : ℕ) → passed_on l.kind (leads (at + 1) ls w at) ≡ true
    → leads at (l ∷ ls) w v ≡ (if is_among l.shared v then true else leads (at + 1) ls w v)
unfolding leads
leads-passed at l ls w v passes = rw (passes) refl

-- where it doesn't, nothing changes
pub leads-kept : (at : ℕ) (l : Link) (ls : List Link) (w v : ℕ) → passed_on l.kind (leads (at + 1) ls w at) ≡ false
    → leads at (l ∷ ls) w v ≡ leads (at + 1) ls w v
unfolding leads
leads-kept at l ls w v passes = rw (passes) refl

-- through no block a value leads to itself alone
pub leads-none : (at w v : ℕ) → leads at [] w v ≡ nat_eq v w
unfolding leads
leads-none at w v = refl

-- a block behind a value doesn't lead to it
pub not_passed : (kind : Kind) → passed_on kind false ≡ false
not_passed Linear = refl
not_passed _ = refl

-- blocks behind a value don't lead to it
pub leads-behind : (at : ℕ) (ls : List Link) (w v : ℕ) → w < at → leads at ls w v ≡ nat_eq v w
leads-behind at [] w v behind = leads-none at w v
leads-behind at (l ∷ ls) w v behind =
    let other : leads (at + 1) ls w at ≡ false =
    leads-behind (at + 1) ls w at (omega (arith, behind)) ∙ ne_eqb at w (λ e. omega (arith, e, behind)) in
    leads-kept at l ls w v (ap (passed_on l.kind) other ∙ not_passed l.kind) ∙ leads-behind (at + 1) ls w v (omega (arith, behind))

-- what is one of these stands at a place
among-Contains : (values : List ℕ) (v : ℕ) → is_among values v ≡ true → Contains values v
among-Contains values v is =
    let found : (k : ℕ) × IsHit (only v) values k = any_marked-from (only v) values is in
    subst (Contains values) (eqb-true found.1.value v found.1.is) (Contains-at values found.0 found.1.value found.1.there)

-- and the other way round
Contains-among : (values : List ℕ) (v : ℕ) → Contains values v → is_among values v ≡ true
Contains-among values v held =
    any_marked-at (only v) values held.0
    (record {
      value = v;
      there = slice_get-get_or values held.0 v held.1 ∙ ap (λ (x : ℕ). Some x) held.2;
      is = eq-eqb v v refl;
    })

-- each block's operands come before it
abbrev pub Ordered : ℕ → List Link → Type 0
Ordered inputs links = (b v : ℕ) → IsSomeAnd (slice_get links b) (λ link. Contains link.shared v) → v < inputs + b

-- a path that is empty or whose first block is this one or behind
abbrev pub StartsFrom : ℕ → List ℕ → Type 0
StartsFrom d [] = Unit {0}
StartsFrom d (b ∷ path) = d ≤ b

-- each path does from the first
from-start : (path : List ℕ) → StartsFrom 0 path
from-start [] = tt
from-start (b ∷ path) = omega arith

-- what leads on through the blocks behind leads on
leads-still : (at : ℕ) (l : Link) (ls : List Link) (w v : ℕ) → leads (at + 1) ls w v ≡ true → leads at (l ∷ ls) w v ≡ true
leads-still at l ls w v on = elim (cases_Bool (passed_on l.kind (leads (at + 1) ls w at))) [
  | inr keeps ↦ leads-kept at l ls w v keeps ∙ on
  | inl passes ↦ leads-passed at l ls w v passes ∙ elim (cases_Bool (is_among l.shared v)) [
    | inl among ↦ cond-true (is_among l.shared v) true (leads (at + 1) ls w v) among
    | inr other ↦ cond-false (is_among l.shared v) true (leads (at + 1) ls w v) other ∙ on
  ]
]

module _ (inputs : ℕ) (links : List Link) where
  -- where a value leads to another one, there is a path
  pub leads-path : (d at : ℕ) (ls : List Link) (w v : ℕ) → at ≡ inputs + d → ((i : ℕ) → slice_get links (d + i) ≡ slice_get ls i)
      → leads at ls w v ≡ true → (path : List ℕ) × IsPath inputs links v path w
  unfolding IsPath
  leads-path d at [] w v here same on = ([], eqb-true v w (sym (leads-none at w v) ∙ on))
  leads-path d at (l ∷ ls) w v here same on =
      let rest : (x : ℕ) → leads (at + 1) ls w x ≡ true → (path : List ℕ) × IsPath inputs links x path w =
      λ x is. leads-path (d + 1) (at + 1) ls w x (omega (arith, here))
      (λ i. let e : d + 1 + i ≡ d + suc i = omega arith in ap (slice_get links) e ∙ same (suc i)) is in
      elim (cases_Bool (passed_on l.kind (leads (at + 1) ls w at))) [
        | inr keeps ↦ rest v (sym (leads-kept at l ls w v keeps) ∙ on)
        | inl passes ↦ elim (cases_Bool (is_among l.shared v)) [
          | inr other ↦
              rest v (sym (cond-false (is_among l.shared v) true (leads (at + 1) ls w v) other) ∙ sym (leads-passed at l ls w v passes) ∙ on)
          | inl among ↦
              let from : (l.kind ≡ Linear) × (leads (at + 1) ls w at ≡ true) = carries-from l.kind (leads (at + 1) ls w at) passes in
              let behind : (path : List ℕ) × IsPath inputs links at path w = rest at from.1 in
              let e : d + 0 ≡ d = omega arith in
              let there : slice_get links d ≡ Some l = ap (slice_get links) (sym e) ∙ same 0 in (
                d ∷ behind.0,
                (
                  subst (λ (o : Option Link). IsSomeAnd o (λ link. (link.kind ≡ Linear) × Contains link.shared v)) (sym there) (from.0, among-Contains l.shared v among),
                  subst (λ (x : ℕ). IsPath inputs links x behind.0 w) here behind.1,
                ),
              )
        ]
      ]

  module _ (ordered : Ordered inputs links) where
    -- a path from a block's value starts behind the block
    path-behind : (d : ℕ) (path : List ℕ) (w : ℕ) → IsPath inputs links (inputs + d) path w → StartsFrom (d + 1) path
    unfolding IsPath
    path-behind d [] w leads = tt
    path-behind d (b ∷ path) w leads =
        let at : (l : Link) × (slice_get links b ≡ Some l) × ((l.kind ≡ Linear) × Contains l.shared (inputs + d)) =
        IsSomeAnd-value (slice_get links b) (λ link. (link.kind ≡ Linear) × Contains link.shared (inputs + d)) leads.0 in
        let below : inputs + d < inputs + b =
        ordered b (inputs + d) (subst (λ (o : Option Link). IsSomeAnd o (λ link. Contains link.shared (inputs + d))) (sym at.1) at.2.1) in
        omega (arith, below)

    -- where there is a path, the value leads to the other one
    pub path-leads : (d at : ℕ) (ls : List Link) (w v : ℕ) (path : List ℕ) → at ≡ inputs + d → ((i : ℕ) → slice_get links (d + i) ≡ slice_get ls i)
        → StartsFrom d path → IsPath inputs links v path w → leads at ls w v ≡ true
    unfolding IsPath
    path-leads d at [] w v [] here same starts is = leads-none at w v ∙ eq-eqb v w is
    path-leads d at [] w v (b ∷ path) here same starts is =
        let i : ℕ = b - d in
        let e : d + i ≡ b = omega (arith, starts) in
        let none : slice_get links b ≡ None = ap (slice_get links) (sym e) ∙ same i ∙ slice_get_past [] i (omega arith) in
        absurd (subst (λ (o : Option Link). IsSomeAnd o (λ link. (link.kind ≡ Linear) × Contains link.shared v)) none is.0)
    path-leads d at (l ∷ ls) w v [] here same starts is =
        let more : leads (at + 1) ls w v ≡ true =
        path-leads (d + 1) (at + 1) ls w v [] (omega (arith, here))
        (λ i. let e : d + 1 + i ≡ d + suc i = omega arith in ap (slice_get links) e ∙ same (suc i)) tt is in
        leads-still at l ls w v more
    path-leads d at (l ∷ ls) w v (b ∷ path) here same starts is =
        let next : (i : ℕ) → slice_get links (d + 1 + i) ≡ slice_get ls i =
        λ i. let e : d + 1 + i ≡ d + suc i = omega arith in ap (slice_get links) e ∙ same (suc i) in
        elim (cases_lt d b) [
          | inl later ↦
              leads-still at l ls w v (path-leads (d + 1) (at + 1) ls w v (b ∷ path) (omega (arith, here)) next (omega (arith, later)) is)
          | inr now ↦
              let own : b ≡ d = omega (arith, starts, now) in
              let zeroth : d + 0 ≡ b = omega (arith, own) in
              let there : slice_get links b ≡ Some l = ap (slice_get links) (sym zeroth) ∙ same 0 in
              let link : (l.kind ≡ Linear) × Contains l.shared v =
              subst (λ (o : Option Link). IsSomeAnd o (λ link. (link.kind ≡ Linear) × Contains link.shared v)) there is.0 in
              let led : IsPath inputs links (inputs + d) path w = subst (λ (k : ℕ). IsPath inputs links (inputs + k) path w) own is.1 in
              let from : leads (at + 1) ls w at ≡ true =
              path-leads (d + 1) (at + 1) ls w at path (omega (arith, here)) next (path-behind d path w led)
              (subst (λ (x : ℕ). IsPath inputs links x path w) (sym here) led) in
              leads-passed at l ls w v (carries-at l.kind (leads (at + 1) ls w at) link.0 from)
              ∙ cond-true (is_among l.shared v) true (leads (at + 1) ls w v) (Contains-among l.shared v link.1)
        ]

    -- a value reaches a place of a strong block exactly where it leads to the operand there
    pub Reaches-leads : (v s k w : ℕ) (l : Link) → slice_get links s ≡ Some l → slice_get l.shared k ≡ Some w → Reaches inputs links v s k
        → leads inputs links w v ≡ true
    Reaches-leads v s k w l there at reaches =
        let strong : (l.kind ≡ Strong) × (slice_get l.shared k ≡ Some reaches.operand) =
        subst (λ (o : Option Link). IsSomeAnd o (λ link. (link.kind ≡ Strong) × (slice_get link.shared k ≡ Some reaches.operand))) there reaches.strong in
        let same : reaches.operand ≡ w = same_Some reaches.operand w (sym strong.1 ∙ at) in
        let led : leads inputs links reaches.operand v ≡ true =
        path-leads 0 inputs links reaches.operand v reaches.path (omega arith)
        (λ i. let e : 0 + i ≡ i = omega arith in ap (slice_get links) e) (from-start reaches.path) reaches.leads in
        subst (λ (x : ℕ). leads inputs links x v ≡ true) same led

  -- a value that leads to a place of a strong block reaches it
  pub Reaches-from : (v s k w : ℕ) (l : Link) → slice_get links s ≡ Some l → l.kind ≡ Strong → slice_get l.shared k ≡ Some w
      → leads inputs links w v ≡ true → Reaches inputs links v s k
  Reaches-from v s k w l there strong at on =
      let led : (path : List ℕ) × IsPath inputs links v path w =
      leads-path 0 inputs links w v (omega arith) (λ i. let e : 0 + i ≡ i = omega arith in ap (slice_get links) e) on in
      record {
        path = led.0;
        operand = w;
        leads = led.1;
        strong = subst (λ (o : Option Link). IsSomeAnd o (λ link. (link.kind ≡ Strong) × (slice_get link.shared k ≡ Some w))) (sym there) (strong, at);
      }
