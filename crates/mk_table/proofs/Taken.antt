-- A sum over a list in which each number of a range stands once is the sum over the range.
use Rattle.std.proofs.Common.{◌≡◌, ℕ, zero, suc, ◌+◌, Bool, true, false, ◌&&◌, cond, nat_eq, List, [], ◌∷◌, map, bit_xor, refl, sym, ◌∙◌, ap, true≢false}
use Rattle.std.proofs.lemmas.Bool.{and_parts, eqb-true}
use Rattle.mk_field.specs.Sharing.{field_sum}
use Rattle.mk_field.proofs.Sum.{sum-left_comm}
use Rattle.mk_table.specs.Coefficients.{sum_from}
use Rattle.mk_table.proofs.Sums.{sum_from-none, sum_from-first}

-- whether a number stands in a list
abbrev pub has : ℕ → List ℕ → Bool
has x [] = false
has x (y ∷ ys) = cond (nat_eq y x) true (has x ys)

-- the list without the first place of a number
abbrev pub without : ℕ → List ℕ → List ℕ
without x [] = []
without x (y ∷ ys) = cond (nat_eq y x) ys (y ∷ without x ys)

-- the sum with the number in front
sum-without : (f : ℕ → ℕ) (x : ℕ) (xs : List ℕ) → has x xs ≡ true → field_sum (map f xs) ≡ bit_xor (f x) (field_sum (map f (without x xs)))
unfolding field_sum
sum-without f x [] found = absurd (true≢false (sym found))
sum-without f x (y ∷ ys) found = by (nat_eq y x) refl found (sum-without f x ys)
  where
    by : (b : Bool) → nat_eq y x ≡ b → cond b true (has x ys) ≡ true
        → (has x ys ≡ true → field_sum (map f ys) ≡ bit_xor (f x) (field_sum (map f (without x ys)))) → field_sum (map f (y ∷ ys)) ≡ bit_xor (f x) (field_sum (map f (cond b ys (y ∷ without x ys))))
    by true same here rest = ap (λ (v : ℕ). bit_xor (f v) (field_sum (map f ys))) (eqb-true y x same)
    by false other later rest =
        ap (bit_xor (f y)) (rest later)
        ∙ sum-left_comm (f y) (f x) (field_sum (map f (without x ys)))

-- whether nothing stands in a list
abbrev pub is_nothing : List ℕ → Bool
is_nothing [] = true
is_nothing (x ∷ xs) = false

-- whether each of n numbers from this one on stands once in the list, and no other number
unfoldable pub all_once : ℕ → ℕ → List ℕ → Bool
all_once first zero xs = is_nothing xs
all_once first (suc n) xs = has first xs && all_once (first + 1) n (without first xs)

-- so the sum is that over the range
pub sum-all_once : (f : ℕ → ℕ) (first n : ℕ) (xs : List ℕ) → all_once first n xs ≡ true → field_sum (map f xs) ≡ sum_from first n f
unfolding all_once field_sum
sum-all_once f first zero [] all = sym (sum_from-none first f)
sum-all_once f first zero (x ∷ xs) all = absurd (true≢false (sym all))
sum-all_once f first (suc n) xs all =
    let parts = and_parts (has first xs) (all_once (first + 1) n (without first xs)) all in
    sum-without f first xs parts.0
    ∙ ap (bit_xor (f first)) (sum-all_once f (first + 1) n (without first xs) parts.1)
    ∙ sym (sum_from-first first n f)
