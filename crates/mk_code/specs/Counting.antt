-- Counting over lists of elements: sums over the elements of a field, and over all lists of them.
use Rattle.std.specs.Prelude.{◌≡◌, ℕ, zero, suc, ◌+◌, ◌<◌, List, [], ◌∷◌, length, nat_eq, if◌then◌else◌}

-- the sum of g over the numbers below q
unfoldable pub sum_below : ℕ → (ℕ → ℕ) → ℕ
sum_below zero g = 0
sum_below (suc q) g = sum_below q g + g q

-- the sum of g over all lists of n numbers below q
unfoldable pub total : ℕ → ℕ → (List ℕ → ℕ) → ℕ
total q zero g = g []
total q (suc n) g = sum_below q (λ a. total q n (λ rest. g (a ∷ rest)))

-- 1 where the lists are equal, else 0
unfoldable pub one_if_equal : List ℕ → List ℕ → ℕ
one_if_equal [] [] = 1
one_if_equal [] (y ∷ ys) = 0
one_if_equal (x ∷ xs) [] = 0
one_if_equal (x ∷ xs) (y ∷ ys) = if nat_eq x y then one_if_equal xs ys else 0

-- each of the numbers is below q
unfoldable pub AllBelow : ℕ → List ℕ → Type 0
AllBelow q [] = Unit {0}
AllBelow q (a ∷ rest) = (a < q) × AllBelow q rest

-- a list of n elements, numbers below q
pub record Elements (q n : ℕ) (xs : List ℕ) : Type 0 where
  pub count : length xs ≡ n
  pub below : AllBelow q xs
