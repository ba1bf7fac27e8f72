-- The number of a value in a table of different values.
use Rattle.std.proofs.Common.{◌≡◌, ℕ, zero, suc, List, [], ◌∷◌, ◌++◌, ◌⊎◌, inl, inr, Bool, true, false, ◌||◌, if◌then◌else◌, length, slice_get, Some, refl, sym, ◌∙◌, ap, subst}
use Rattle.std.specs.List.{list_any}
use Rattle.indexmap.specs.IndexSet.{insert_key}
use Rattle.mk_ssa.proofs.Lists.{slice_get-cases}
use Rattle.mk_simplify.proofs.Different.{true-not_false}

-- where neither of two holds
neither-first : (a b : Bool) → (a || b) ≡ false → a ≡ false
neither-first true b none = absurd (true-not_false none)
neither-first false b none = refl

-- the second of two of which none holds
neither-second : (a b : Bool) → (a || b) ≡ false → b ≡ false
neither-second true b none = absurd (true-not_false none)
neither-second false b none = none

-- where no element passes the test, none does
none-passes : {X : Type 0} (p : X → Bool) (xs : List X) (k : ℕ) (x : X) → list_any p xs ≡ false → slice_get xs k ≡ Some x → p x ≡ true → ⊥
none-passes p [] k x none at passes = absurd (cc)
none-passes p (y ∷ ys) zero x none at passes =
    let same : y ≡ x = cc in
    true-not_false (sym passes ∙ ap p (sym same) ∙ neither-first (p y) (list_any p ys) none)
none-passes p (y ∷ ys) (suc k) x none at passes = none-passes p ys k x (neither-second (p y) (list_any p ys) none) at passes

-- the value was there, or it is the next
found-cases : {X : Type 0} (eq : X → X → Bool) (ks next : List X) (x y : X) (number : ℕ) (there : Bool) → ((a b : X) → eq a b ≡ true → a ≡ b)
    → ((a : X) → eq a a ≡ true) → list_any (eq x) ks ≡ there → next ≡ (if there then ks else ks ++ x ∷ []) → slice_get next number ≡ Some y → eq x y ≡ true
    → ((next ≡ ks) × (slice_get ks number ≡ Some x)) ⊎ ((next ≡ ks ++ x ∷ []) × (number ≡ length ks) × ((k : ℕ) → slice_get ks k ≡ Some x → ⊥))
found-cases eq ks next x y number true sound reflexive any is at equal =
    inl (is, subst (λ (l : List _). slice_get l number ≡ Some x) is (at ∙ ap Some (sym (sound x y equal))))
found-cases eq ks next x y number false sound reflexive any is at equal =
    inr (
      is,
      elim (slice_get-cases ks x number y (subst (λ (l : List _). slice_get l number ≡ Some y) is at)) [
        | inl before ↦ absurd (none-passes (eq x) ks number y any before.1 equal)
        | inr last ↦ last.0
      ],
      λ k here. none-passes (eq x) ks k x any here (reflexive x),
    )

-- the number that a value has after it is put into the table
pub found-by : {X : Type 0} (eq : X → X → Bool) (ks next : List X) (x : X) (number : ℕ) → ((a b : X) → eq a b ≡ true → a ≡ b) → ((a : X) → eq a a ≡ true)
    → next ≡ insert_key eq ks x → (y : X) × (slice_get next number ≡ Some y) × (eq x y ≡ true)
    → ((next ≡ ks) × (slice_get ks number ≡ Some x)) ⊎ ((next ≡ ks ++ x ∷ []) × (number ≡ length ks) × ((k : ℕ) → slice_get ks k ≡ Some x → ⊥))
found-by eq ks next x number sound reflexive is stored =
    found-cases eq ks next x stored.0 number (list_any (eq x) ks) sound reflexive refl is stored.1 stored.2
