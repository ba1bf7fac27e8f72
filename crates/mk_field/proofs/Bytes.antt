-- Laws of the product of bytes: it is additive in each argument and commutes with doubling, and so it
-- is settled by its values at the powers of 2.
use Rattle.std.proofs.Common.{◌≡◌, ℕ, zero, suc, ◌+◌, ◌-◌, ◌*◌, ◌^◌, ◌<◌, bit_xor, refl, sym, ◌∙◌, ap, subst, inl, inr, arith, zero-add}
use Rattle.std.specs.Int.{bit_at}
use Rattle.std.specs.Int.Bits.{xor_self, xor_zero_r}
use Rattle.std.proofs.lemmas.Nat.{xor_lt, xor_block}
use Rattle.std.proofs.lemmas.Nat.Bits.{bit_at_xor, bit_at-lt}
use Rattle.std.proofs.lemmas.Bool.{cases_lt, lt-ltb, le-ltb}
use Rattle.mk_field.specs.Field.{double, doubled, byte_product}
use Rattle.mk_field.specs.Laws.{IsAdditive}
use Rattle.mk_field.proofs.Sum.{sum-interchange}
use Rattle.mk_field.proofs.Bits.{at_bit, at_bit-sum, sum_bits-sum, sum_bits-functions, sum_bits-same, sum_bits-below, sum_bits-zero, sum_bits-pow, sum_bits-powers, additive-sum_bits, additive-same}

-- twice a sum
twice-sum : (a b : ℕ) → 2 * bit_xor a b ≡ bit_xor (2 * a) (2 * b)
twice-sum a b =
    let block : bit_xor (a * 2 ^ 1 + 0) (b * 2 ^ 1 + 0) ≡ bit_xor a b * 2 ^ 1 + bit_xor 0 0 = xor_block 1 a b 0 0 (omega arith) (omega arith) in
    let left : 2 * a ≡ a * 2 ^ 1 + 0 = omega arith in
    let right : 2 * b ≡ b * 2 ^ 1 + 0 = omega arith in
    let whole : 2 * bit_xor a b ≡ bit_xor a b * 2 ^ 1 + bit_xor 0 0 = omega arith in
    whole ∙ sym block ∙ ap (λ (x : ℕ). bit_xor x (b * 2 ^ 1 + 0)) (sym left) ∙ ap (bit_xor (2 * a)) (sym right)

-- a byte doubled, by its highest bit
double-by_bit : (a : ℕ) → a < 2 ^ 8 → double a ≡ bit_xor (2 * a) (at_bit (bit_at a 7) 0x11b)
double-by_bit a below = elim (cases_lt (2 * a) 256) [
  | inl small ↦
      let bit : bit_at a 7 ≡ 0 = omega arith in
      rw (lt-ltb (2 * a) 256 small, bit) (sym (xor_zero_r (2 * a)))
  | inr large ↦
      let bit : bit_at a 7 ≡ 1 = omega arith in
      rw (le-ltb (2 * a) 256 large, bit) refl
]

-- doubling is additive on bytes
pub double-additive : IsAdditive 8 double
double-additive a b left right =
    double-by_bit (bit_xor a b) (xor_lt 8 a b left right)
    ∙ ap (λ (x : ℕ). bit_xor x (at_bit (bit_at (bit_xor a b) 7) 0x11b)) (twice-sum a b)
    ∙ ap (bit_xor (bit_xor (2 * a) (2 * b)))
    (ap (λ (x : ℕ). at_bit x 0x11b) (bit_at_xor a b 7) ∙ at_bit-sum (bit_at a 7) (bit_at b 7) 0x11b (bit_at-lt a 7) (bit_at-lt b 7))
    ∙ sum-interchange (2 * a) (2 * b) (at_bit (bit_at a 7) 0x11b) (at_bit (bit_at b 7) 0x11b)
    ∙ ap (bit_xor (bit_xor (2 * a) (at_bit (bit_at a 7) 0x11b))) (sym (double-by_bit b right))
    ∙ ap (λ (x : ℕ). bit_xor x (double b)) (sym (double-by_bit a left))

-- a byte doubled is a byte
pub double-below : (a : ℕ) → a < 2 ^ 8 → double a < 2 ^ 8
double-below a below = elim (cases_lt (2 * a) 256) [
  | inl small ↦ rw (lt-ltb (2 * a) 256 small) small
  | inr large ↦
      let rest : 2 * a - 256 < 2 ^ 8 = omega arith in
      let same : 2 * a ≡ 1 * 2 ^ 8 + (2 * a - 256) = omega arith in
      let block : bit_xor (1 * 2 ^ 8 + (2 * a - 256)) 0x11b ≡ bit_xor (2 * a - 256) 0x1b = xor_block 8 1 1 (2 * a - 256) 0x1b rest (omega arith) ∙ zero-add (bit_xor (2 * a - 256) 0x1b) in
      let inside : bit_xor (2 * a - 256) 0x1b < 2 ^ 8 = xor_lt 8 (2 * a - 256) 0x1b rest (omega arith) in
      rw (le-ltb (2 * a) 256 large) (subst (λ (x : ℕ). bit_xor x 0x11b < 2 ^ 8) (sym same) (subst (λ (x : ℕ). x < 2 ^ 8) (sym block) inside))
]

-- a byte doubled so many times is a byte
pub doubled-below : (n a : ℕ) → a < 2 ^ 8 → doubled n a < 2 ^ 8
doubled-below zero a below = below
doubled-below (suc n) a below = double-below (doubled n a) (doubled-below n a below)

-- doubling so many times is additive on bytes
pub doubled-additive : (n : ℕ) → IsAdditive 8 (doubled n)
doubled-additive zero a b left right = refl
doubled-additive (suc n) a b left right =
    ap double (doubled-additive n a b left right)
    ∙ double-additive (doubled n a) (doubled n b) (doubled-below n a left) (doubled-below n b right)

-- to double first or last is one
doubled-double : (n a : ℕ) → doubled n (double a) ≡ double (doubled n a)
doubled-double zero a = refl
doubled-double (suc n) a = ap double (doubled-double n a)

-- the product is additive in its first argument
pub byte_product-sum_left : (a b c : ℕ) → a < 2 ^ 8 → b < 2 ^ 8 → byte_product (bit_xor a b) c ≡ bit_xor (byte_product a c) (byte_product b c)
byte_product-sum_left a b c left right =
    sum_bits-same 8 (λ i. doubled i (bit_xor a b)) (λ i. bit_xor (doubled i a) (doubled i b)) c (λ i below. doubled-additive i a b left right)
    ∙ sum_bits-functions 8 (λ i. doubled i a) (λ i. doubled i b) c

-- the product is additive in its second argument
pub byte_product-sum_right : (a b c : ℕ) → byte_product a (bit_xor b c) ≡ bit_xor (byte_product a b) (byte_product a c)
byte_product-sum_right a b c = sum_bits-sum 8 (λ i. doubled i a) b c

-- the product of bytes is a byte
pub byte_product-below : (a b : ℕ) → a < 2 ^ 8 → byte_product a b < 2 ^ 8
byte_product-below a b below = sum_bits-below 8 8 (λ i. doubled i a) b (λ i less. doubled-below i a below)

-- a product with the first argument doubled
byte_product-double : (a b : ℕ) → a < 2 ^ 8 → byte_product (double a) b ≡ double (byte_product a b)
byte_product-double a b below =
    sum_bits-same 8 (λ i. doubled i (double a)) (λ i. double (doubled i a)) b (λ i less. doubled-double i a)
    ∙ sym (additive-sum_bits 8 8 double (λ i. doubled i a) b double-additive (λ i less. doubled-below i a below))

-- a product with the first argument doubled so many times
byte_product-doubled : (n a b : ℕ) → a < 2 ^ 8 → byte_product (doubled n a) b ≡ doubled n (byte_product a b)
byte_product-doubled zero a b below = refl
byte_product-doubled (suc n) a b below =
    byte_product-double (doubled n a) b (doubled-below n a below) ∙ ap double (byte_product-doubled n a b below)

-- a product with a power of 2
byte_product-power : (a i : ℕ) → i < 8 → byte_product a (2 ^ i) ≡ doubled i a
byte_product-power a i below = sum_bits-pow 8 (λ i. doubled i a) i below

-- below 8 times, doubling 1 gives the powers of 2
doubled-one : (i : ℕ) → i < 8 → doubled i 1 ≡ 2 ^ i
doubled-one zero below = refl
doubled-one (suc zero) below = refl
doubled-one (suc (suc zero)) below = refl
doubled-one (suc (suc (suc zero))) below = refl
doubled-one (suc (suc (suc (suc zero)))) below = refl
doubled-one (suc (suc (suc (suc (suc zero))))) below = refl
doubled-one (suc (suc (suc (suc (suc (suc zero)))))) below = refl
doubled-one (suc (suc (suc (suc (suc (suc (suc zero))))))) below = refl
doubled-one (suc (suc (suc (suc (suc (suc (suc (suc n)))))))) below = absurd (omega arith)

-- 1 times a byte
pub byte_product-one_left : (a : ℕ) → a < 2 ^ 8 → byte_product 1 a ≡ a
byte_product-one_left a below = sum_bits-same 8 (λ i. doubled i 1) (λ i. 2 ^ i) a doubled-one ∙ sum_bits-powers 8 a below

-- a byte times 1
pub byte_product-one_right : (a : ℕ) → byte_product a 1 ≡ a
byte_product-one_right a = byte_product-power a 0 (omega arith)

-- a power of 2 times a byte
byte_product-power_left : (a i : ℕ) → i < 8 → a < 2 ^ 8 → byte_product (2 ^ i) a ≡ doubled i a
byte_product-power_left a i less below =
    ap (λ (x : ℕ). byte_product x a) (sym (doubled-one i less))
    ∙ byte_product-doubled i 1 a (omega arith) ∙ ap (doubled i) (byte_product-one_left a below)

-- 0 times a byte
pub byte_product-zero_left : (a : ℕ) → byte_product 0 a ≡ 0
byte_product-zero_left a =
    let empty : byte_product (bit_xor 0 0) a ≡ bit_xor (byte_product 0 a) (byte_product 0 a) = byte_product-sum_left 0 0 a (omega arith) (omega arith) in
    empty ∙ xor_self (byte_product 0 a)

-- a byte times 0
pub byte_product-zero_right : (a : ℕ) → byte_product a 0 ≡ 0
byte_product-zero_right a = sum_bits-zero 8 (λ i. doubled i a)

-- the product of bytes is commutative
pub byte_product-comm : (a b : ℕ) → a < 2 ^ 8 → b < 2 ^ 8 → byte_product a b ≡ byte_product b a
byte_product-comm a b left right =
    additive-same 8 (byte_product a) (λ x. byte_product x a)
    (λ x y p q. byte_product-sum_right a x y) (λ x y p q. byte_product-sum_left x y a p q)
    (λ i less. byte_product-power a i less ∙ sym (byte_product-power_left a i less left)) b right

-- the product of bytes is associative
pub byte_product-assoc : (a b c : ℕ) → a < 2 ^ 8 → b < 2 ^ 8 → c < 2 ^ 8 → byte_product (byte_product a b) c ≡ byte_product a (byte_product b c)
byte_product-assoc a b c first second third =
    additive-same 8 (byte_product (byte_product a b)) (λ x. byte_product a (byte_product b x))
    (λ x y p q. byte_product-sum_right (byte_product a b) x y)
    (λ x y p q. ap (byte_product a) (byte_product-sum_right b x y) ∙ byte_product-sum_right a (byte_product b x) (byte_product b y))
    (λ i less.
    byte_product-power (byte_product a b) i less
    ∙ ap (doubled i) (byte_product-comm a b first second)
    ∙ sym (byte_product-doubled i b a second)
    ∙ byte_product-comm (doubled i b) a (doubled-below i b second) first
    ∙ ap (byte_product a) (sym (byte_product-power b i less)))
    c third
