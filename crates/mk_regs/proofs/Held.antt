-- What registers hold: on entry, and behind a write.
use Rattle.std.proofs.Common.{Bool, ◌≡◌, ◌≢◌, ◌⊎◌, ℕ, ◌+◌, ◌<◌, ◌≤◌, List, Option, Some, None, length, set, nat_lt, if◌then◌else◌, inl, inr, refl, sym, ◌∙◌, ap, arith, get_or-set_other, get_or-set_same}
use Rattle.std.specs.List.{range_with_len}
use Rattle.std.proofs.lemmas.Bool.{eq-eqb, ne_eqb, cases_Bool, cases_eq, ltb-true, ltb-false}
use Rattle.std.proofs.lemmas.List.{length-map, length-set, get_or-map, get_or_past}
use Rattle.std.proofs.lemmas.List.FromFn.{length-range_with_len, get_or-range_with_len}
use Rattle.std.proofs.lemmas.Option.{same_Some, none-some}
use Rattle.mk_regs.specs.declared.renamer.TheConstants.{NOTHING}
use Rattle.mk_regs.specs.Renaming.{holding, held_on_entry}
use Rattle.mk_regs.specs.Renamer.{held_by}

-- what a register holds on entry
abbrev pub on_entry : ℕ → ℕ → Option ℕ
on_entry entries r = if nat_lt r entries then Some r else None

-- a number below that for nothing is a position
pub held_by-number : (p : ℕ) → p < NOTHING → held_by p ≡ Some p
held_by-number p below = ap (λ (b : Bool). if b then None else Some p) (ne_eqb p NOTHING (λ e. absurd (omega (arith, below, e))))

-- the number for nothing is none
pub held_by-nothing : held_by NOTHING ≡ None
held_by-nothing = ap (λ (b : Bool). if b then None else Some NOTHING) (eq-eqb NOTHING NOTHING refl)

-- as many registers as stated
pub held-length : (entries registers : ℕ) → length (held_on_entry entries registers) ≡ registers
held-length entries registers = length-map (range_with_len 0 registers) (on_entry entries) ∙ length-range_with_len 0 registers

-- each of them
pub held-at : (entries registers r : ℕ) → r < registers → holding (held_on_entry entries registers) r ≡ on_entry entries r
held-at entries registers r below =
    let long : r < length (range_with_len 0 registers) = omega (arith, length-range_with_len 0 registers) in
    get_or-map (on_entry entries) (range_with_len 0 registers) r 0 None long
    ∙ ap (on_entry entries) (get_or-range_with_len 0 registers r 0 below ∙ omega arith)

-- a register holds nothing, or an entry
pub holding-cases : (o : Option ℕ) → (o ≡ None) ⊎ ((p : ℕ) × (o ≡ Some p))
holding-cases None = inl refl
holding-cases (Some p) = inr (p, refl)

-- registers that there aren't hold nothing
pub holds-within : (held : List (Option ℕ)) (r p : ℕ) → holding held r ≡ Some p → r < length held
holds-within held r p holds = elim (cases_lt r (length held)) [
  | inl below ↦ below
  | inr past ↦ absurd (none-some p (sym (get_or_past held r None past) ∙ holds))
] where
  cases_lt : (a b : ℕ) → (a < b) ⊎ (b ≤ a)
  cases_lt a b = elim (cases_Bool (nat_lt a b)) [ inl e ↦ inl (ltb-true a b e) | inr e ↦ inr (ltb-false a b e) ]

-- the register that is written holds the new entry, the others what they held
pub holding-set : (held : List (Option ℕ)) (to p : ℕ) → to < length held → holding (set held to (Some p)) to ≡ Some p
holding-set held to p there = get_or-set_same held to (Some p) None there

-- what another register holds stays
pub holding-other : (held : List (Option ℕ)) (to p r : ℕ) → r ≢ to → holding (set held to (Some p)) r ≡ holding held r
holding-other held to p r other = get_or-set_other held to r (Some p) None other

-- the entries that are held have positions below `len`, and each stands in one register
pub record IsTidy (held : List (Option ℕ)) (len : ℕ) : Type 0 where
  pub below : (r p : ℕ) → holding held r ≡ Some p → p < len
  pub one : (r s p : ℕ) → holding held r ≡ Some p → holding held s ≡ Some p → r ≡ s

-- on entry
entry-holds : (entries r p : ℕ) → on_entry entries r ≡ Some p → (p ≡ r) × (r < entries)
entry-holds entries r p holds = elim (cases_Bool (nat_lt r entries)) [
  | inl below ↦ (sym (same_Some r p (sym (ap (λ (b : _). if b then Some r else None) below) ∙ holds)), ltb-true r entries below)
  | inr past ↦ absurd (none-some p (sym (ap (λ (b : _). if b then Some r else None) past) ∙ holds))
]

-- what a register holds on entry has the number of the register and is an input
pub held-entry : (entries registers r p : ℕ) → holding (held_on_entry entries registers) r ≡ Some p → (p ≡ r) × (r < entries)
held-entry entries registers r p holds =
    let there : r < registers = omega (arith, holds-within (held_on_entry entries registers) r p holds, held-length entries registers) in
    entry-holds entries r p (sym (held-at entries registers r there) ∙ holds)

-- so it is tidy
pub tidy-entry : (entries registers : ℕ) → IsTidy (held_on_entry entries registers) entries
tidy-entry entries registers = record {
  below = λ r p holds. let at = held-entry entries registers r p holds in omega (arith, at.0, at.1);
  one = λ r s p left right. sym (held-entry entries registers r p left).0 ∙ (held-entry entries registers s p right).0;
}

-- behind a write
pub tidy-step : (held : List (Option ℕ)) (len to : ℕ) → IsTidy held len → IsTidy (set held to (Some len)) (len + 1)
tidy-step held len to tidy = record { below = below; one = one } where
  there : (r p : ℕ) → holding (set held to (Some len)) r ≡ Some p → to ≡ r → p ≡ len
  there r p holds same =
      let inside : r < length held = omega (arith, holds-within (set held to (Some len)) r p holds, length-set held to (Some len)) in
      let inside_to : to < length held = omega arith in
      same_Some p len (sym holds ∙ ap (holding (set held to (Some len))) (sym same) ∙ holding-set held to len inside_to)

  other : (r p : ℕ) → holding (set held to (Some len)) r ≡ Some p → to ≢ r → holding held r ≡ Some p
  other r p holds differ = sym (holding-other held to len r (λ e. differ (sym e))) ∙ holds

  below : (r p : ℕ) → holding (set held to (Some len)) r ≡ Some p → p < len + 1
  below r p holds = elim (cases_eq to r) [
    | inl same ↦ omega (arith, there r p holds same)
    | inr differ ↦ omega (arith, tidy.below r p (other r p holds differ))
  ]

  one : (r s p : ℕ) → holding (set held to (Some len)) r ≡ Some p → holding (set held to (Some len)) s ≡ Some p → r ≡ s
  one r s p left right = elim (cases_eq to r) [
    | inl same ↦ elim (cases_eq to s) [
      | inl also ↦ sym same ∙ also
      | inr differ ↦ absurd (omega (arith, there r p left same, tidy.below s p (other s p right differ)))
    ]
    | inr differ ↦ elim (cases_eq to s) [
      | inl also ↦ absurd (omega (arith, there s p right also, tidy.below r p (other r p left differ)))
      | inr apart ↦ tidy.one r s p (other r p left differ) (other s p right apart)
    ]
  ]
