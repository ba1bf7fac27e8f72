-- Whether a number stands again later in a list.
use Rattle.std.proofs.Common.{◌≡◌, ◌↔◌, ℕ, ◌+◌, ◌-◌, ◌<◌, ◌≤◌, Bool, true, false, nat_eq, List, [], ◌∷◌, length, take, drop, slice_index, refl, sym, ◌∙◌, ap, subst, inl, inr}
use Rattle.std.specs.List.{AllByRecursion, IsDistinct, list_any}
use Rattle.std.proofs.lemmas.Bool.{or_cases, or_parts, eqb-true, eqb-false, ne_eqb, both_ways}
use Rattle.std.proofs.lemmas.List.{drop_more, drop_all, take_rest}

-- it isn't there
apart : (x : ℕ) (ys : List ℕ) → list_any (λ y. nat_eq y x) ys ≡ false → AllByRecursion (λ y. nat_eq x y ≡ false) ys
apart x [] none = tt
apart x (y ∷ ys) none =
    let parts = or_parts (nat_eq y x) (list_any (λ z. nat_eq z x) ys) none in
    (ne_eqb x y (λ same. eqb-false y x parts.0 (sym same)), apart x ys parts.1)

-- it is there
found : (x : ℕ) (ys : List ℕ) → list_any (λ y. nat_eq y x) ys ≡ true → AllByRecursion (λ y. nat_eq x y ≡ false) ys → ⊥
found x [] some all = both_ways false refl some
found x (y ∷ ys) some all = elim (or_cases (nat_eq y x) (list_any (λ z. nat_eq z x) ys) some) [
  | inl here ↦ eqb-false x y all.0 (sym (eqb-true y x here))
  | inr later ↦ found x ys later all.1
]

-- what a search for the i-th number behind it says
searched : (xs : List ℕ) (i : ℕ) (r : Bool) → r ≡ list_any (λ y. nat_eq y (slice_index xs i)) (take (length xs - (i + 1)) (drop (i + 1) xs))
    → r ≡ list_any (λ y. nat_eq y (slice_index xs i)) (drop (i + 1) xs)
searched xs i r is = is ∙ ap (list_any (λ y. nat_eq y (slice_index xs i))) (take_rest xs (i + 1))

-- a number that stands again later
pub not-different : (xs : List ℕ) (i : ℕ) (r : Bool) → i < length xs
    → r ≡ list_any (λ y. nat_eq y (slice_index xs i)) (take (length xs - (i + 1)) (drop (i + 1) xs))
    → r ≡ true → IsDistinct nat_eq (drop i xs) → ⊥
unfolding IsDistinct
not-different xs i r within is some distinct =
    let whole : IsDistinct nat_eq (slice_index xs i ∷ drop (i + 1) xs) = subst (IsDistinct nat_eq) (drop_more xs i 0 within) distinct in
    found (slice_index xs i) (drop (i + 1) xs) (sym (searched xs i r is) ∙ some) whole.0

-- one number more that does not stand again
pub different-more : (xs : List ℕ) (i : ℕ) (r : Bool) → i < length xs
    → r ≡ list_any (λ y. nat_eq y (slice_index xs i)) (take (length xs - (i + 1)) (drop (i + 1) xs))
    → r ≡ false → IsDistinct nat_eq xs ↔ IsDistinct nat_eq (drop i xs) → IsDistinct nat_eq xs ↔ IsDistinct nat_eq (drop (i + 1) xs)
unfolding IsDistinct
different-more xs i r within is none before = (
  λ all.
      let whole : IsDistinct nat_eq (slice_index xs i ∷ drop (i + 1) xs) = subst (IsDistinct nat_eq) (drop_more xs i 0 within) (before.0 all) in
      whole.1,
  λ rest. before.1 (subst (IsDistinct nat_eq) (sym (drop_more xs i 0 within))
      (apart (slice_index xs i) (drop (i + 1) xs) (sym (searched xs i r is) ∙ none), rest)),
)

-- none is left
pub different-none : (xs : List ℕ) (i : ℕ) → length xs ≤ i → IsDistinct nat_eq (drop i xs)
unfolding IsDistinct
different-none xs i past = subst (IsDistinct nat_eq) (sym (drop_all i xs past)) tt
