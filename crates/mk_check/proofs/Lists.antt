-- Where two lists first differ.
use Rattle.std.proofs.Common.{◌≡◌, true, false, nat_lt, refl, ℕ, zero, suc, ◌+◌, ◌<◌, ◌≤◌, List, [], ◌∷◌, ◌++◌, length, take, get_or, slice_get, slice_index, Some, None, inl, inr, sym, ◌∙◌, ap, subst, arith}
use Rattle.std.proofs.lemmas.List.{take_more_same, get_or_append_left, get_or_push}
use Rattle.std.proofs.lemmas.Option.{slice_get_past, slice_get_within, get_or_from_slice_get, slice_get_read}
use Rattle.std.proofs.lemmas.Bool.{ltb-true, ltb-false, cases_lt}

-- one equal element more
pub take-same-more : {X : Type 0} (xs ys : List X) (position : ℕ) (d y : X) → position < length xs → take position xs ≡ take position ys
    → slice_get ys position ≡ Some y → get_or xs position d ≡ y → take (position + 1) xs ≡ take (position + 1) ys
take-same-more xs ys position d y below same there equal =
    take_more_same xs ys position d below (slice_get_within ys position y there) same (equal ∙ sym (get_or_from_slice_get ys position y d there))

-- nothing is there only behind the end
pub slice_get_none-past : {X : Type 0} (xs : List X) (k : ℕ) → slice_get xs k ≡ None → length xs ≤ k
slice_get_none-past [] k none = omega arith
slice_get_none-past (x ∷ xs) zero none = absurd (cc)
slice_get_none-past (x ∷ xs) (suc k) none = omega (arith, slice_get_none-past xs k none)

-- the element that was read
pub found-at : {X : Type 0} (xs zs : List X) (k : ℕ) (v : X) → zs ≡ xs → true ≡ nat_lt k (length zs) → v ≡ get_or zs k v → slice_get xs k ≡ Some v
found-at xs zs k v same below read =
    ap (λ (l : List _). slice_get l k) (sym same) ∙ slice_get_read zs (length zs) k v refl (ltb-true k (length zs) (sym below)) read

-- no element was there
pub none-at : {X : Type 0} (xs zs : List X) (k : ℕ) → zs ≡ xs → false ≡ nat_lt k (length zs) → slice_get xs k ≡ None
none-at xs zs k same behind =
    ap (λ (l : List _). slice_get l k) (sym same) ∙ slice_get_past zs k (ltb-false k (length zs) (sym behind))

-- two lists that agree, and one equal element more
pub agree-more : {X : Type 0} (xs ys : List X) (position : ℕ) (found wanted : X) → take position xs ≡ take position ys → slice_get xs position ≡ Some found
    → slice_get ys position ≡ Some wanted → found ≡ wanted → take (position + 1) xs ≡ take (position + 1) ys
agree-more xs ys position found wanted same here there equal =
    take-same-more xs ys position found wanted (slice_get_within xs position found here) same there (get_or_from_slice_get xs position found found here ∙ equal)

-- what holds of each element of a list and of the next one
pub each-pushed : (P : ℕ → ℕ → Type 0) (xs : List ℕ) (n x : ℕ) → length xs ≡ n → ((k : ℕ) → k < n → P k (slice_index xs k)) → P n x
    → (k : ℕ) → k < n + 1 → P k (slice_index (xs ++ x ∷ []) k)
each-pushed P xs n x count each last k below = elim (cases_lt k n) [
  | inl before ↦ subst (P k) (sym (get_or_append_left xs (x ∷ []) 0 k (omega (arith, before, count)))) (each k before)
  | inr late ↦
      let same : n ≡ k = omega (arith, late, below) in
      subst (P k) (sym (get_or_push xs x 0 k (count ∙ same))) (subst (λ (j : ℕ). P j x) same last)
]
