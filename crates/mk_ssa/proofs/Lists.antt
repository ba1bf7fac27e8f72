-- Elements of lists, and of lists with one more at the end.
use Rattle.std.proofs.Common.{◌≡◌, ℕ, zero, suc, ◌<◌, List, [], ◌∷◌, ◌++◌, ◌⊎◌, inl, inr, length, take, slice_get, get_or, Option, Some, None, IsSomeAnd, refl, ap, arith}

-- the value of which something holds
pub IsSomeAnd-value : {X : Type 0} (o : Option X) (P : X → Type 0) → IsSomeAnd o P → (x : X) × (o ≡ Some x) × P x
IsSomeAnd-value None P there = absurd there
IsSomeAnd-value (Some x) P there = (x, refl, there)

-- a value of which something holds
pub IsSomeAnd-from : {X : Type 0} (o : Option X) (P : X → Type 0) (x : X) → o ≡ Some x → P x → IsSomeAnd o P
IsSomeAnd-from None P x is holds = absurd (cc)
IsSomeAnd-from (Some y) P x is holds = let same : y ≡ x = cc in rw same holds

-- an element of a front of a list is that of the list
pub slice_get-take : {X : Type 0} (xs : List X) (k j : ℕ) → j < k → slice_get (take k xs) j ≡ slice_get xs j
slice_get-take xs zero j below = absurd (omega (arith, below))
slice_get-take [] (suc k) j below = refl
slice_get-take (x ∷ xs) (suc k) zero below = refl
slice_get-take (x ∷ xs) (suc k) (suc j) below = slice_get-take xs k j (omega arith)

-- a front of a front
pub take-take-below : {X : Type 0} (xs : List X) (k j : ℕ) → j < k → take j (take k xs) ≡ take j xs
take-take-below xs zero j below = absurd (omega (arith, below))
take-take-below [] (suc k) j below = refl
take-take-below (x ∷ xs) (suc k) zero below = refl
take-take-below (x ∷ xs) (suc k) (suc j) below = ap (λ (ys : List _). x ∷ ys) (take-take-below xs k j (omega arith))

-- an element of a front of a list is within the front
pub slice_get-front : {X : Type 0} (xs : List X) (k j : ℕ) (x : X) → slice_get (take k xs) j ≡ Some x → (j < k) × (slice_get xs j ≡ Some x)
slice_get-front xs zero j x is = absurd (cc)
slice_get-front [] (suc k) j x is = absurd (cc)
slice_get-front (y ∷ ys) (suc k) zero x is = (omega arith, is)
slice_get-front (y ∷ ys) (suc k) (suc j) x is = let rest = slice_get-front ys k j x is in (omega (arith, rest.0), rest.1)

-- an element stays where it is when others come behind
pub slice_get-more : {X : Type 0} (xs ys : List X) (k : ℕ) (x : X) → slice_get xs k ≡ Some x → slice_get (xs ++ ys) k ≡ Some x
slice_get-more [] ys k x is = absurd (cc)
slice_get-more (z ∷ zs) ys zero x is = is
slice_get-more (z ∷ zs) ys (suc k) x is = slice_get-more zs ys k x is

-- the element at the end
pub slice_get-last : {X : Type 0} (xs : List X) (x : X) → slice_get (xs ++ x ∷ []) (length xs) ≡ Some x
slice_get-last [] x = refl
slice_get-last (y ∷ ys) x = slice_get-last ys x

-- an element of a list with one more at the end is one of the list, or the last
pub slice_get-cases : {X : Type 0} (xs : List X) (y : X) (k : ℕ) (x : X) → slice_get (xs ++ y ∷ []) k ≡ Some x
    → ((k < length xs) × (slice_get xs k ≡ Some x)) ⊎ ((k ≡ length xs) × (y ≡ x))
slice_get-cases [] y zero x is = inr (refl, cc)
slice_get-cases [] y (suc k) x is = absurd (cc)
slice_get-cases (z ∷ zs) y zero x is = inl (omega arith, is)
slice_get-cases (z ∷ zs) y (suc k) x is = elim (slice_get-cases zs y k x is) [
  | inl before ↦ inl (omega (arith, before.0), before.1)
  | inr last ↦ inr (ap suc last.0, last.1)
]

-- an element that is there is the one at its place
pub slice_get-at : {X : Type 0} (xs : List X) (k : ℕ) (x d : X) → slice_get xs k ≡ Some x → (k < length xs) × (get_or xs k d ≡ x)
slice_get-at [] k x d is = absurd (cc)
slice_get-at (y ∷ ys) zero x d is = (omega arith, cc)
slice_get-at (y ∷ ys) (suc k) x d is = let rest = slice_get-at ys k x d is in (omega (arith, rest.0), rest.1)
