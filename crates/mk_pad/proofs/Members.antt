-- Numbers in a list, and tests on lists.
use Rattle.std.proofs.Common.{◌≡◌, ◌≢◌, ◌⊎◌, inl, inr, ℕ, zero, suc, ◌<◌, length, slice_index, slice_index_or, Bool, true, false, List, [], ◌∷◌, not, nat_eq, cond, refl, sym, ◌∙◌, ap, arith, eq-eqb, ne_eqb}
use Rattle.std.specs.Prelude.{◌||◌}
use Rattle.std.specs.List.{filter, list_any}
use Rattle.std.proofs.lemmas.Bool.{cases_eq, false≢true}
use Rattle.mk_pad.specs.Shown.{is_in, without}

-- which of two tests passes
pub or-cases : (a b : Bool) → (a || b) ≡ true → (a ≡ true) ⊎ (b ≡ true)
or-cases true b e = inl refl
or-cases false b e = inr e

-- where neither does
pub or-none : (a b : Bool) → (a || b) ≡ false → (a ≡ false) × (b ≡ false)
or-none true b e = absurd (false≢true (sym e))
or-none false b e = (refl, e)

-- the second of two tests passes
pub or-second : (a b : Bool) → b ≡ true → (a || b) ≡ true
or-second true b e = refl
or-second false b e = e

-- a test passes or fails
pub bool-cases : (b : Bool) → (b ≡ true) ⊎ (b ≡ false)
bool-cases true = inl refl
bool-cases false = inr refl

-- equal numbers, by their test
pub eq-of_test : (x y : ℕ) → nat_eq x y ≡ true → x ≡ y
eq-of_test x y e = elim (cases_eq x y) [
  | inl same ↦ same
  | inr differ ↦ absurd (false≢true (sym (ne_eqb x y differ) ∙ e))
]

-- different ones
pub ne-of_test : (x y : ℕ) → nat_eq x y ≡ false → x ≢ y
ne-of_test x y e = λ same. false≢true (sym e ∙ eq-eqb x y same)

-- the first of a list is in it, and so is what is in the others
pub in-first : (x : ℕ) (xs : List ℕ) (q : ℕ) → q ≡ x → is_in (x ∷ xs) q ≡ true
in-first x xs q same = rw (eq-eqb q x same) refl

-- so is what is in the others
pub in-later : (x : ℕ) (xs : List ℕ) (q : ℕ) → is_in xs q ≡ true → is_in (x ∷ xs) q ≡ true
in-later x xs q there = or-second (nat_eq q x) (is_in xs q) there

-- what is in a list is its first or in the others
pub in-cases : (x : ℕ) (xs : List ℕ) (q : ℕ) → is_in (x ∷ xs) q ≡ true → (q ≡ x) ⊎ (is_in xs q ≡ true)
in-cases x xs q e = elim (or-cases (nat_eq q x) (is_in xs q) e) [
  | inl here ↦ inl (eq-of_test q x here)
  | inr there ↦ inr there
]

-- a test that none passes fails at each
pub any-none : (test : ℕ → Bool) (xs : List ℕ) (q : ℕ) → list_any test xs ≡ false → is_in xs q ≡ true → test q ≡ false
any-none test [] q none there = absurd (false≢true there)
any-none test (x ∷ xs) q none there =
    let parts = or-none (test x) (list_any test xs) none in
    elim (in-cases x xs q there) [
      | inl here ↦ ap test here ∙ parts.0
      | inr later ↦ any-none test xs q parts.1 later
    ]

-- one that passes is found
pub any-some : (test : ℕ → Bool) (xs : List ℕ) (q : ℕ) → is_in xs q ≡ true → test q ≡ true → list_any test xs ≡ true
any-some test xs q there passes = elim (bool-cases (list_any test xs)) [
  | inl found ↦ found
  | inr none ↦ absurd (false≢true (sym (any-none test xs q none there) ∙ passes))
]

-- the one that was found
pub any-found : (test : ℕ → Bool) (xs : List ℕ) → list_any test xs ≡ true → (q : ℕ) × (is_in xs q ≡ true) × (test q ≡ true)
any-found test [] e = absurd (false≢true e)
any-found test (x ∷ xs) e = elim (or-cases (test x) (list_any test xs) e) [
  | inl here ↦ (x, in-first x xs x refl, here)
  | inr later ↦ (
      let found = any-found test xs later in
      (found.0, in-later x xs found.0 found.1, found.2))
]

-- what a test lets pass is in the list, and passes
pub in-from_filter : (test : ℕ → Bool) (xs : List ℕ) (q : ℕ) → is_in (filter test xs) q ≡ true → (is_in xs q ≡ true) × (test q ≡ true)
in-from_filter test [] q e = absurd (false≢true e)
in-from_filter test (x ∷ xs) q e = elim (bool-cases (test x)) [
  | inl passes ↦ (
      let there : is_in (x ∷ filter test xs) q ≡ true = sym (ap (λ (b : Bool). is_in (cond b (x ∷ filter test xs) (filter test xs)) q) passes) ∙ e in
      elim (in-cases x (filter test xs) q there) [
        | inl here ↦ (in-first x xs q here, ap test here ∙ passes)
        | inr later ↦ (
            let more = in-from_filter test xs q later in
            (in-later x xs q more.0, more.1))
      ])
  | inr fails ↦ (
      let there : is_in (filter test xs) q ≡ true = sym (ap (λ (b : Bool). is_in (cond b (x ∷ filter test xs) (filter test xs)) q) fails) ∙ e in
      let more = in-from_filter test xs q there in
      (in-later x xs q more.0, more.1))
]

-- and what is in the list and passes is let pass
pub in-filter : (test : ℕ → Bool) (xs : List ℕ) (q : ℕ) → is_in xs q ≡ true → test q ≡ true → is_in (filter test xs) q ≡ true
in-filter test [] q e passes = absurd (false≢true e)
in-filter test (x ∷ xs) q e passes = elim (in-cases x xs q e) [
  | inl here ↦
      ap (λ (b : Bool). is_in (cond b (x ∷ filter test xs) (filter test xs)) q) (sym (ap test here) ∙ passes) ∙ in-first x (filter test xs) q here
  | inr later ↦ (
      let more = in-filter test xs q later passes in
      elim (bool-cases (test x)) [
        | inl kept ↦ ap (λ (b : Bool). is_in (cond b (x ∷ filter test xs) (filter test xs)) q) kept ∙ in-later x (filter test xs) q more
        | inr left_out ↦ ap (λ (b : Bool). is_in (cond b (x ∷ filter test xs) (filter test xs)) q) left_out ∙ more
      ])
]

-- a negated test
pub not-true : (b : Bool) → not b ≡ true → b ≡ false
not-true true e = absurd (false≢true e)
not-true false e = refl

-- the others of a list are in it, and differ from what was left out
pub in-from_without : (p : ℕ) (xs : List ℕ) (q : ℕ) → is_in (without p xs) q ≡ true → (is_in xs q ≡ true) × (q ≢ p)
in-from_without p xs q e =
    let parts = in-from_filter (λ r. not (nat_eq r p)) xs q e in
    (parts.0, ne-of_test q p (not-true (nat_eq q p) parts.1))

-- what differs from it is among the others
pub in-without : (p : ℕ) (xs : List ℕ) (q : ℕ) → is_in xs q ≡ true → q ≢ p → is_in (without p xs) q ≡ true
in-without p xs q there differ = in-filter (λ r. not (nat_eq r p)) xs q there (ap not (ne_eqb q p differ))

-- a number at a place, whatever stands where there is none
pub at-index : (xs : List ℕ) (k : ℕ) (p : ℕ) → k < length xs → slice_index_or xs k p ≡ p → slice_index xs k ≡ p
at-index [] k p within is = absurd (omega (arith, within))
at-index (x ∷ xs) zero p within is = is
at-index (x ∷ xs) (suc k) p within is = at-index xs k p (omega (arith, within)) is

-- what stands at a place is in the list
pub in-place : (xs : List ℕ) (k d : ℕ) → k < length xs → is_in xs (slice_index_or xs k d) ≡ true
in-place [] k d within = absurd (omega (arith, within))
in-place (x ∷ xs) zero d within = in-first x xs x refl
in-place (x ∷ xs) (suc k) d within = in-later x xs (slice_index_or xs k d) (in-place xs k d (omega (arith, within)))

-- what stands at a place is the same whatever would stand where there is none
pub any-default : (xs : List ℕ) (k d e : ℕ) → k < length xs → slice_index_or xs k d ≡ slice_index_or xs k e
any-default [] k d e within = absurd (omega (arith, within))
any-default (x ∷ xs) zero d e within = refl
any-default (x ∷ xs) (suc k) d e within = any-default xs k d e (omega (arith, within))
