-- Sums of a function over numbers that follow one another.
use Rattle.std.proofs.Common.{◌≡◌, ◌≢◌, ℕ, zero, suc, ◌+◌, ◌≤◌, ◌<◌, ◌^◌, bit_xor, refl, sym, ◌∙◌, ap, inl, inr, arith}
use Rattle.std.specs.Int.Bits.{xor_self, xor_zero_l, xor_zero_r}
use Rattle.std.proofs.lemmas.Nat.{xor_lt}
use Rattle.std.proofs.lemmas.Bool.{cases_lt}
use Rattle.mk_field.specs.Sharing.{field_sum}
use Rattle.mk_field.specs.Field.{byte_product}
use Rattle.mk_field.proofs.Sum.{sum-assoc, sum-interchange}
use Rattle.mk_field.proofs.Bytes.{byte_product-sum_right, byte_product-sum_left, byte_product-zero_left, byte_product-zero_right}
use Rattle.mk_table.specs.Coefficients.{sum_from}

-- no numbers
pub sum_from-none : (first : ℕ) (f : ℕ → ℕ) → sum_from first 0 f ≡ 0
unfolding sum_from field_sum
sum_from-none first f = refl

-- the first number and those behind it
pub sum_from-first : (first n : ℕ) (f : ℕ → ℕ) → sum_from first (suc n) f ≡ bit_xor (f first) (sum_from (first + 1) n f)
unfolding sum_from field_sum
sum_from-first first n f = refl

-- functions that agree have one sum
pub sum_from-same : (first n : ℕ) (f g : ℕ → ℕ) → ((k : ℕ) → first ≤ k → k < first + n → f k ≡ g k) → sum_from first n f ≡ sum_from first n g
unfolding sum_from field_sum
sum_from-same first zero f g same = refl
sum_from-same first (suc n) f g same =
    λ i. bit_xor (same first (omega arith) (omega arith) i) (sum_from-same (first + 1) n f g (λ k low high. same k (omega arith) (omega arith)) i)

-- a sum of zeros
pub sum_from-zero : (first n : ℕ) (f : ℕ → ℕ) → ((k : ℕ) → first ≤ k → k < first + n → f k ≡ 0) → sum_from first n f ≡ 0
unfolding sum_from field_sum
sum_from-zero first zero f same = refl
sum_from-zero first (suc n) f same =
    λ i. bit_xor (same first (omega arith) (omega arith) i) (sum_from-zero (first + 1) n f (λ k low high. same k (omega arith) (omega arith)) i)

-- the sum of two functions
pub sum_from-both : (first n : ℕ) (f g : ℕ → ℕ) → sum_from first n (λ k. bit_xor (f k) (g k)) ≡ bit_xor (sum_from first n f) (sum_from first n g)
unfolding sum_from field_sum
sum_from-both first zero f g = refl
sum_from-both first (suc n) f g =
    ap (bit_xor (bit_xor (f first) (g first))) (sum_from-both (first + 1) n f g)
    ∙ sum-interchange (f first) (g first) (sum_from (first + 1) n f) (sum_from (first + 1) n g)

-- the sum up to and with the last
pub sum_from-last : (first n : ℕ) (f : ℕ → ℕ) → sum_from first (suc n) f ≡ bit_xor (sum_from first n f) (f (first + n))
unfolding sum_from field_sum
sum_from-last first zero f = let e : first ≡ first + 0 = omega arith in xor_zero_r (f first) ∙ ap f e ∙ sym (xor_zero_l (f (first + 0)))
sum_from-last first (suc n) f =
    let e : first + 1 + n ≡ first + suc n = omega arith in
    ap (bit_xor (f first)) (sum_from-last (first + 1) n f ∙ ap (λ (k : ℕ). bit_xor (sum_from (first + 1) n f) (f k)) e)
    ∙ sym (sum-assoc (f first) (sum_from (first + 1) n f) (f (first + suc n)))

-- a factor on the left
pub sum_from-times : (c first n : ℕ) (f : ℕ → ℕ) → byte_product c (sum_from first n f) ≡ sum_from first n (λ k. byte_product c (f k))
unfolding sum_from field_sum
sum_from-times c first zero f = byte_product-zero_right c
sum_from-times c first (suc n) f =
    byte_product-sum_right c (f first) (sum_from (first + 1) n f)
    ∙ ap (bit_xor (byte_product c (f first))) (sum_from-times c (first + 1) n f)

-- the sum of bytes is a byte
pub sum_from-below : (first n : ℕ) (f : ℕ → ℕ) → ((k : ℕ) → first ≤ k → k < first + n → f k < 2 ^ 8) → sum_from first n f < 2 ^ 8
unfolding sum_from field_sum
sum_from-below first zero f small = omega arith
sum_from-below first (suc n) f small =
    xor_lt 8 (f first) (sum_from (first + 1) n f) (small first (omega arith) (omega arith))
    (sum_from-below (first + 1) n f (λ k low high. small k (omega arith) (omega arith)))

-- a factor on the right
pub sum_from-times_right : (c first n : ℕ) (f : ℕ → ℕ) → ((k : ℕ) → first ≤ k → k < first + n → f k < 2 ^ 8)
    → byte_product (sum_from first n f) c ≡ sum_from first n (λ k. byte_product (f k) c)
unfolding sum_from field_sum
sum_from-times_right c first zero f small = byte_product-zero_left c
sum_from-times_right c first (suc n) f small =
    byte_product-sum_left (f first) (sum_from (first + 1) n f) c (small first (omega arith) (omega arith))
    (sum_from-below (first + 1) n f (λ k low high. small k (omega arith) (omega arith)))
    ∙ ap (bit_xor (byte_product (f first) c)) (sum_from-times_right c (first + 1) n f (λ k low high. small k (omega arith) (omega arith)))

-- two sums change places
pub sum_from-swap : (first n other m : ℕ) (f : ℕ → ℕ → ℕ)
    → sum_from first n (λ a. sum_from other m (f a)) ≡ sum_from other m (λ k. sum_from first n (λ a. f a k))
sum_from-swap first zero other m f =
    sum_from-none first (λ a. sum_from other m (f a))
    ∙ sym (sum_from-zero other m (λ k. sum_from first 0 (λ a. f a k)) (λ k low high. sum_from-none first (λ a. f a k)))
sum_from-swap first (suc n) other m f =
    sum_from-first first n (λ a. sum_from other m (f a))
    ∙ ap (bit_xor (sum_from other m (f first))) (sum_from-swap (first + 1) n other m f)
    ∙ sym (sum_from-both other m (f first) (λ k. sum_from (first + 1) n (λ a. f a k)))
    ∙ sum_from-same other m (λ k. bit_xor (f first k) (sum_from (first + 1) n (λ a. f a k))) (λ k. sum_from first (suc n) (λ a. f a k))
    (λ k low high. sym (sum_from-first first n (λ a. f a k)))

-- a sum with a single value that is not zero
pub sum_from-one : (first n x : ℕ) (f : ℕ → ℕ) → first ≤ x → x < first + n → ((k : ℕ) → first ≤ k → k < first + n → k ≢ x → f k ≡ 0) → sum_from first n f ≡ f x
sum_from-one first zero x f low high same = absurd (omega arith)
sum_from-one first (suc n) x f low high same = elim (cases_lt first x) [
  | inr below ↦
      let here : first ≡ x = omega arith in
      sum_from-first first n f
      ∙ ap (bit_xor (f first)) (sum_from-zero (first + 1) n f (λ k above within. same k (omega arith) (omega arith) (λ e. omega arith)))
      ∙ xor_zero_r (f first) ∙ ap f here
  | inl behind ↦
      sum_from-first first n f
      ∙ ap (λ (v : ℕ). bit_xor v (sum_from (first + 1) n f)) (same first (omega arith) (omega arith) (λ e. omega arith))
      ∙ xor_zero_l (sum_from (first + 1) n f)
      ∙ sum_from-one (first + 1) n x f (omega arith) (omega arith) (λ k above within other. same k (omega arith) (omega arith) other)
]

-- one value so many times
pub sum_from-twice : (first n v : ℕ) → sum_from first (n + n) (λ k. v) ≡ 0
sum_from-twice first zero v = sum_from-none first (λ k. v)
sum_from-twice first (suc n) v =
    let e : suc n + suc n ≡ suc (suc (n + n)) = omega arith in
    ap (λ (m : ℕ). sum_from first m (λ k. v)) e
    ∙ sum_from-first first (suc (n + n)) (λ k. v)
    ∙ ap (bit_xor v) (sum_from-first (first + 1) (n + n) (λ k. v) ∙ ap (bit_xor v) (sum_from-twice (first + 1 + 1) n v) ∙ xor_zero_r v)
    ∙ xor_self v
