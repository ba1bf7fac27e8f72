-- The laws of totals over lists of elements.
use Rattle.std.specs.Prelude.{◌≡◌, ◌≢◌, ℕ, ◌+◌, ◌*◌, ◌^◌, ◌≤◌, ◌<◌, List, ◌∷◌, ◌++◌, length, bit_xor, slice_index}
use Rattle.mk_field.specs.Sharing.{added}
use Rattle.mk_code.specs.Counting.{total, one_if_equal, AllBelow, Elements}

-- f gives the same for lists of n numbers below q that are equal but at position j
pub record Overlooks {A : Type 0} (q n j : ℕ) (f : List ℕ → A) : Type 0 where
  pub same : (s t : List ℕ) → Elements q n s → Elements q n t → ((i : ℕ) → i ≢ j → slice_index s i ≡ slice_index t i) → f s ≡ f t

-- how totals over the lists of n numbers below q are counted. `matched`: where each observation is made by
-- equally many lists under u and under v, and equal observations go with equal numbers, the totals are equal.
-- `renamed`: where a value that doesn't depend on an element is added to it, the element alone gives the same
-- total. `taken_out`: such a sum, seen beside entries that don't depend on the element either, is each number
-- below 2 ^ k for one in 2 ^ k of the lists that show these entries
pub record CountingLaws : Type 0 where
  pub same : (q n : ℕ) (g h : List ℕ → ℕ) → ((s : List ℕ) → Elements q n s → g s ≡ h s) → total q n g ≡ total q n h
  pub of_sum : (q n : ℕ) (g h : List ℕ → ℕ) → total q n (λ s. g s + h s) ≡ total q n g + total q n h
  pub split : (q m n : ℕ) (g : List ℕ → ℕ) → total q (m + n) g ≡ total q m (λ a. total q n (λ b. g (a ++ b)))
  pub exchange : (q m n : ℕ) (g : List ℕ → List ℕ → ℕ)
      → total q m (λ s. total q n (λ t. g s t)) ≡ total q n (λ t. total q m (λ s. g s t))
  pub moved : (k n : ℕ) (d : List ℕ) (g : List ℕ → ℕ) → length d ≤ n → AllBelow (2 ^ k) d
      → total (2 ^ k) n (λ s. g (added d s)) ≡ total (2 ^ k) n g
  pub matched : (q n : ℕ) (u v : List ℕ → List ℕ) (g h : List ℕ → ℕ)
      → ((seen : List ℕ) → total q n (λ s. one_if_equal (u s) seen) ≡ total q n (λ s. one_if_equal (v s) seen))
      → ((s t : List ℕ) → Elements q n s → Elements q n t → u s ≡ v t → g s ≡ h t)
      → total q n g ≡ total q n h
  pub renamed : (k n j : ℕ) (v : List ℕ → ℕ) (h : ℕ → List ℕ → ℕ) → j < n
      → ((s : List ℕ) → Elements (2 ^ k) n s → v s < 2 ^ k) → Overlooks (2 ^ k) n j v → ((a : ℕ) → Overlooks (2 ^ k) n j (h a))
      → total (2 ^ k) n (λ s. h (bit_xor (v s) (slice_index s j)) s) ≡ total (2 ^ k) n (λ s. h (slice_index s j) s)
  pub taken_out : (k n j a : ℕ) (v : List ℕ → ℕ) (others : List ℕ → List ℕ) (seen : List ℕ) → j < n → a < 2 ^ k
      → ((s : List ℕ) → Elements (2 ^ k) n s → v s < 2 ^ k) → Overlooks (2 ^ k) n j v → Overlooks (2 ^ k) n j others
      → 2 ^ k * total (2 ^ k) n (λ s. one_if_equal (bit_xor (v s) (slice_index s j) ∷ others s) (a ∷ seen))
      ≡ total (2 ^ k) n (λ s. one_if_equal (others s) seen)
