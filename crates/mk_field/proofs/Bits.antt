-- Sums over the set bits of a number, and functions that are additive on the numbers of so many bits.
use Rattle.std.proofs.Common.{◌≡◌, ℕ, zero, suc, ◌+◌, ◌*◌, ◌/◌, ◌%◌, ◌^◌, ◌≤◌, ◌<◌, ◌⊎◌, if◌then◌else◌, nat_eq, bit_and, bit_xor, refl, sym, ◌∙◌, ap, inl, inr, arith}
use Rattle.std.specs.Int.{bit_at}
use Rattle.std.specs.Int.Bits.{xor_self, xor_zero_l, xor_zero_r}
use Rattle.std.proofs.lemmas.Nat.{xor_lt, xor_block, mod-pow-add, pow_pos, pow_below, mod_below}
use Rattle.std.proofs.lemmas.Nat.Bits.{bit_at_xor, shr_and_one, bit_at-lt, bit_at-pow_same, bit_at-pow_other, bit_at-zero}
use Rattle.std.proofs.lemmas.Bool.{cases_lt}
use Rattle.std.proofs.Math.Nat.{mod-one, mod-eq_of_lt}
use Rattle.std.proofs.Math.Numerals.{one-add, add-one}
use Rattle.mk_field.specs.Field.{sum_bits}
use Rattle.mk_field.specs.Laws.{IsAdditive}
use Rattle.mk_field.proofs.Sum.{sum-interchange}

-- f at a place where the bit is 1, and else 0
abbrev pub at_bit : ℕ → ℕ → ℕ
at_bit bit value = if nat_eq bit 1 then value else 0

-- a bit is 0 or 1
pub bit_cases : (bit : ℕ) → bit < 2 → (bit ≡ 0) ⊎ (bit ≡ 1)
bit_cases zero below = inl refl
bit_cases (suc zero) below = inr refl
bit_cases (suc (suc n)) below = absurd (omega arith)

-- a value at the sum of two bits
pub at_bit-sum : (a b value : ℕ) → a < 2 → b < 2 → at_bit ((a + b) % 2) value ≡ bit_xor (at_bit a value) (at_bit b value)
at_bit-sum a b value left right = elim (bit_cases a left) [
  | inl p ↦ elim (bit_cases b right) [ inl q ↦ rw (p, q) refl | inr q ↦ rw (p, q) (sym (xor_zero_l value)) ]
  | inr p ↦ elim (bit_cases b right) [ inl q ↦ rw (p, q) (sym (xor_zero_r value)) | inr q ↦ rw (p, q) (sym (xor_self value)) ]
]

-- the sum of two values at one bit
at_bit-values : (bit x y : ℕ) → bit < 2 → at_bit bit (bit_xor x y) ≡ bit_xor (at_bit bit x) (at_bit bit y)
at_bit-values bit x y below = elim (bit_cases bit below) [ inl p ↦ rw p refl | inr p ↦ rw p refl ]

-- a value at a bit stays below a bound
pub at_bit-below : (k bit value : ℕ) → bit < 2 → value < 2 ^ k → at_bit bit value < 2 ^ k
at_bit-below k bit value below small = elim (bit_cases bit below) [ inl p ↦ rw p (pow_pos k) | inr p ↦ rw p small ]

-- the sum over the bits of a sum
pub sum_bits-sum : (n : ℕ) (f : ℕ → ℕ) (a b : ℕ) → sum_bits n f (bit_xor a b) ≡ bit_xor (sum_bits n f a) (sum_bits n f b)
unfolding sum_bits
sum_bits-sum zero f a b = refl
sum_bits-sum (suc n) f a b =
    ap (bit_xor (sum_bits n f (bit_xor a b))) (ap (λ (x : ℕ). at_bit x (f n)) (bit_at_xor a b n) ∙ at_bit-sum (bit_at a n) (bit_at b n) (f n) (bit_at-lt a n) (bit_at-lt b n))
    ∙ ap (λ (x : ℕ). bit_xor x (bit_xor (at_bit (bit_at a n) (f n)) (at_bit (bit_at b n) (f n)))) (sum_bits-sum n f a b)
    ∙ sum-interchange (sum_bits n f a) (sum_bits n f b) (at_bit (bit_at a n) (f n)) (at_bit (bit_at b n) (f n))

-- the sum of two functions over the bits of a number
pub sum_bits-functions : (n : ℕ) (f g : ℕ → ℕ) (b : ℕ) → sum_bits n (λ i. bit_xor (f i) (g i)) b ≡ bit_xor (sum_bits n f b) (sum_bits n g b)
unfolding sum_bits
sum_bits-functions zero f g b = refl
sum_bits-functions (suc n) f g b =
    ap (bit_xor (sum_bits n (λ i. bit_xor (f i) (g i)) b)) (at_bit-values (bit_at b n) (f n) (g n) (bit_at-lt b n))
    ∙ ap (λ (x : ℕ). bit_xor x (bit_xor (at_bit (bit_at b n) (f n)) (at_bit (bit_at b n) (g n)))) (sum_bits-functions n f g b)
    ∙ sum-interchange (sum_bits n f b) (sum_bits n g b) (at_bit (bit_at b n) (f n)) (at_bit (bit_at b n) (g n))

-- functions that agree at the places have one sum
pub sum_bits-same : (n : ℕ) (f g : ℕ → ℕ) (b : ℕ) → ((i : ℕ) → i < n → f i ≡ g i) → sum_bits n f b ≡ sum_bits n g b
unfolding sum_bits
sum_bits-same zero f g b same = refl
sum_bits-same (suc n) f g b same =
    ap (bit_xor (sum_bits n f b)) (ap (at_bit (bit_at b n)) (same n (omega arith)))
    ∙ ap (λ (x : ℕ). bit_xor x (at_bit (bit_at b n) (g n))) (sum_bits-same n f g b (λ i below. same i (omega arith)))

-- the sum of numbers of k bits has k bits
pub sum_bits-below : (n k : ℕ) (f : ℕ → ℕ) (b : ℕ) → ((i : ℕ) → i < n → f i < 2 ^ k) → sum_bits n f b < 2 ^ k
unfolding sum_bits
sum_bits-below zero k f b small = pow_pos k
sum_bits-below (suc n) k f b small =
    xor_lt k (sum_bits n f b) (at_bit (bit_at b n) (f n)) (sum_bits-below n k f b (λ i below. small i (omega arith)))
    (at_bit-below k (bit_at b n) (f n) (bit_at-lt b n) (small n (omega arith)))

-- the sum over the bits of 0
pub sum_bits-zero : (n : ℕ) (f : ℕ → ℕ) → sum_bits n f 0 ≡ 0
unfolding sum_bits
sum_bits-zero zero f = refl
sum_bits-zero (suc n) f =
    ap (bit_xor (sum_bits n f 0)) (ap (λ (x : ℕ). at_bit x (f n)) (bit_at-zero n))
    ∙ xor_zero_r (sum_bits n f 0) ∙ sum_bits-zero n f

-- one more bit, which is set
pub sum_bits-set : (n : ℕ) (f : ℕ → ℕ) (b : ℕ) → bit_and (b / 2 ^ n) 1 ≡ 1 → sum_bits (n + 1) f b ≡ bit_xor (sum_bits n f b) (f n)
unfolding sum_bits
sum_bits-set n f b set =
    let bit : bit_at b n ≡ 1 = sym (shr_and_one b n) ∙ set in
    rw add-one (ap (bit_xor (sum_bits n f b)) (ap (λ (x : ℕ). at_bit x (f n)) bit))

-- one more bit, which is not set
pub sum_bits-clear : (n : ℕ) (f : ℕ → ℕ) (b : ℕ) → (bit_and (b / 2 ^ n) 1 ≡ 1 → ⊥) → sum_bits (n + 1) f b ≡ sum_bits n f b
unfolding sum_bits
sum_bits-clear n f b clear = elim (bit_cases (bit_at b n) (bit_at-lt b n)) [
  | inl bit ↦ rw add-one (ap (bit_xor (sum_bits n f b)) (ap (λ (x : ℕ). at_bit x (f n)) bit) ∙ xor_zero_r (sum_bits n f b))
  | inr bit ↦ absurd (clear (shr_and_one b n ∙ bit))
]

-- a bit above the places does not count
sum_bits-pow_above : (n : ℕ) (f : ℕ → ℕ) (j : ℕ) → n ≤ j → sum_bits n f (2 ^ j) ≡ 0
unfolding sum_bits
sum_bits-pow_above zero f j above = refl
sum_bits-pow_above (suc n) f j above =
    ap (bit_xor (sum_bits n f (2 ^ j))) (ap (λ (x : ℕ). at_bit x (f n)) (bit_at-pow_other j n (λ e. omega arith)))
    ∙ xor_zero_r (sum_bits n f (2 ^ j)) ∙ sum_bits-pow_above n f j (omega arith)

-- the sum over a single bit
pub sum_bits-pow : (n : ℕ) (f : ℕ → ℕ) (j : ℕ) → j < n → sum_bits n f (2 ^ j) ≡ f j
unfolding sum_bits
sum_bits-pow zero f j below = absurd (omega arith)
sum_bits-pow (suc n) f j below = elim (cases_lt j n) [
  | inl p ↦
      ap (bit_xor (sum_bits n f (2 ^ j))) (ap (λ (x : ℕ). at_bit x (f n)) (bit_at-pow_other j n (λ e. omega arith)))
      ∙ xor_zero_r (sum_bits n f (2 ^ j)) ∙ sum_bits-pow n f j p
  | inr p ↦
      let same : j ≡ n = omega arith in
      rw same (ap (λ (x : ℕ). bit_xor x (at_bit (bit_at (2 ^ n) n) (f n))) (sum_bits-pow_above n f n (omega arith))
      ∙ xor_zero_l (at_bit (bit_at (2 ^ n) n) (f n)) ∙ ap (λ (x : ℕ). at_bit x (f n)) (bit_at-pow_same n))
]

-- a power at a bit is their product
at_bit-times : (bit value : ℕ) → bit < 2 → at_bit bit value ≡ bit * value
at_bit-times bit value below = elim (bit_cases bit below) [ inl p ↦ rw p (omega arith) | inr p ↦ rw p (omega arith) ]

-- a bit put above the bits of a number
one_above : (k bit r : ℕ) → r < 2 ^ k → bit_xor r (bit * 2 ^ k) ≡ bit * 2 ^ k + r
one_above k bit r below =
    let first : 0 * 2 ^ k + r ≡ r = omega arith in
    let second : bit * 2 ^ k + 0 ≡ bit * 2 ^ k = omega arith in
    let block : bit_xor (0 * 2 ^ k + r) (bit * 2 ^ k + 0) ≡ bit_xor 0 bit * 2 ^ k + bit_xor r 0 = xor_block k 0 bit r 0 below (pow_pos k) in
    ap (λ (x : ℕ). bit_xor x (bit * 2 ^ k)) (sym first) ∙ ap (bit_xor (0 * 2 ^ k + r)) (sym second) ∙ block
    ∙ ap (λ (x : ℕ). bit * 2 ^ k + x) (xor_zero_r r)

-- the lowest n bits of a number as a sum of powers of 2
sum_bits-mod : (n a : ℕ) → sum_bits n (λ i. 2 ^ i) a ≡ a % 2 ^ n
unfolding sum_bits
sum_bits-mod zero a = sym (mod-one a)
sum_bits-mod (suc n) a =
    ap (λ (x : ℕ). bit_xor x (at_bit (bit_at a n) (2 ^ n))) (sum_bits-mod n a)
    ∙ ap (bit_xor (a % 2 ^ n)) (at_bit-times (bit_at a n) (2 ^ n) (bit_at-lt a n))
    ∙ one_above n (bit_at a n) (a % 2 ^ n) (mod_below a (2 ^ n) (pow_pos n))
    ∙ sym (mod-pow-add a 1 n)
    ∙ ap (λ (x : ℕ). a % 2 ^ x) (one-add n)

-- a number of n bits is the sum of the powers of 2 at its set bits
pub sum_bits-powers : (n a : ℕ) → a < 2 ^ n → sum_bits n (λ i. 2 ^ i) a ≡ a
sum_bits-powers n a below = sum_bits-mod n a ∙ mod-eq_of_lt below

-- an additive function takes 0 to 0
additive-zero : (k : ℕ) (h : ℕ → ℕ) → IsAdditive k h → h 0 ≡ 0
additive-zero k h additive = additive 0 0 (pow_pos k) (pow_pos k) ∙ xor_self (h 0)

-- an additive function at a value that a bit may leave out
additive-at_bit : (k : ℕ) (h : ℕ → ℕ) → IsAdditive k h → (bit value : ℕ) → bit < 2 → h (at_bit bit value) ≡ at_bit bit (h value)
additive-at_bit k h additive bit value below =
    elim (bit_cases bit below) [ inl p ↦ rw p (additive-zero k h additive) | inr p ↦ rw p refl ]

-- an additive function takes the sum over the set bits to the sum of its values
pub additive-sum_bits : (n k : ℕ) (h f : ℕ → ℕ) (b : ℕ) → IsAdditive k h → ((i : ℕ) → i < n → f i < 2 ^ k)
    → h (sum_bits n f b) ≡ sum_bits n (λ i. h (f i)) b
unfolding sum_bits
additive-sum_bits zero k h f b additive small = additive-zero k h additive
additive-sum_bits (suc n) k h f b additive small =
    additive (sum_bits n f b) (at_bit (bit_at b n) (f n)) (sum_bits-below n k f b (λ i below. small i (omega arith)))
    (at_bit-below k (bit_at b n) (f n) (bit_at-lt b n) (small n (omega arith)))
    ∙ ap (bit_xor (h (sum_bits n f b))) (additive-at_bit k h additive (bit_at b n) (f n) (bit_at-lt b n))
    ∙ ap (λ (x : ℕ). bit_xor x (at_bit (bit_at b n) (h (f n)))) (additive-sum_bits n k h f b additive (λ i below. small i (omega arith)))

-- additive functions that agree at the powers of 2 agree at all numbers of k bits
pub additive-same : (k : ℕ) (h g : ℕ → ℕ) → IsAdditive k h → IsAdditive k g → ((i : ℕ) → i < k → h (2 ^ i) ≡ g (2 ^ i))
    → (a : ℕ) → a < 2 ^ k → h a ≡ g a
additive-same k h g additive_h additive_g same a below =
    ap h (sym (sum_bits-powers k a below))
    ∙ additive-sum_bits k k h (λ i. 2 ^ i) a additive_h (λ i less. pow_below i k less)
    ∙ sum_bits-same k (λ i. h (2 ^ i)) (λ i. g (2 ^ i)) a same
    ∙ sym (additive-sum_bits k k g (λ i. 2 ^ i) a additive_g (λ i less. pow_below i k less))
    ∙ ap g (sum_bits-powers k a below)
