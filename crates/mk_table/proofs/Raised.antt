-- Powers of bytes.
use Rattle.std.proofs.Common.{◌≡◌, ℕ, zero, suc, ◌+◌, ◌*◌, ◌≤◌, ◌<◌, ◌^◌, bit_xor, refl, sym, ◌∙◌, ap, arith}
use Rattle.std.specs.Int.Bits.{xor_self, xor_zero_l}
use Rattle.std.proofs.lemmas.Nat.{xor_lt}
use Rattle.mk_field.specs.declared.field.FieldId.TheVariants.{Gf256}
use Rattle.mk_field.specs.Field.{byte_product, raised}
use Rattle.mk_field.proofs.Sum.{sum-cancel_right}
use Rattle.mk_field.proofs.Bytes.{byte_product-sum_right, byte_product-one_right, byte_product-zero_left}
use Rattle.mk_field.proofs.Raised.{raised-in_field, raised-sum, raised-size, zero-product}

-- a power of a byte is a byte
pub raised-below : (a n : ℕ) → a < 2 ^ 8 → raised Gf256 a n < 2 ^ 8
raised-below a n below = raised-in_field Gf256 a n below

-- to the power 0
pub raised-none : (a : ℕ) → raised Gf256 a 0 ≡ 1
unfolding raised
raised-none a = refl

-- one exponent more
pub raised-more : (a n : ℕ) → raised Gf256 a (suc n) ≡ byte_product a (raised Gf256 a n)
unfolding raised
raised-more a n = refl

-- a power of a power
pub raised-times : (a m n : ℕ) → a < 2 ^ 8 → raised Gf256 a (n * m) ≡ raised Gf256 (raised Gf256 a m) n
unfolding raised
raised-times a m zero below = let e : 0 * m ≡ 0 = omega arith in ap (raised Gf256 a) e
raised-times a m (suc n) below =
    let e : suc n * m ≡ m + n * m = omega arith in
    ap (raised Gf256 a) e ∙ raised-sum Gf256 a m (n * m) below ∙ ap (byte_product (raised Gf256 a m)) (raised-times a m n below)

-- to the power 1
pub raised-once : (a : ℕ) → raised Gf256 a 1 ≡ a
unfolding raised
raised-once a = byte_product-one_right a

-- powers of 1
pub raised-one : (n : ℕ) → raised Gf256 1 n ≡ 1
unfolding raised
raised-one zero = refl
raised-one (suc n) = ap (byte_product 1) (raised-one n) ∙ byte_product-one_right 1

-- powers of 0
pub raised-zero : (n : ℕ) → raised Gf256 0 (suc n) ≡ 0
unfolding raised
raised-zero n = byte_product-zero_left (raised Gf256 0 n)

-- each byte but 0 to the power 255 is 1
pub raised-255 : (a : ℕ) → 0 < a → a < 256 → raised Gf256 a 255 ≡ 1
raised-255 a positive below =
    let p = raised Gf256 a 255 in
    let inside : p < 2 ^ 8 = raised-below a 255 below in
    let whole : byte_product a p ≡ a = sym (raised-more a 255) ∙ raised-size Gf256 a below in
    let nothing : byte_product a (bit_xor p 1) ≡ 0 = byte_product-sum_right a p 1 ∙ (λ i. bit_xor (whole i) (byte_product-one_right a i)) ∙ xor_self a in
    let none : bit_xor p 1 ≡ 0 = zero-product Gf256 a (bit_xor p 1) below (xor_lt 8 p 1 inside (omega arith)) (λ e. omega arith) nothing in
    sym (sum-cancel_right p 1) ∙ ap (λ (v : ℕ). bit_xor v 1) none ∙ xor_zero_l 1

-- each byte to the power 256 is itself
pub raised-256 : (a : ℕ) → a < 256 → raised Gf256 a 256 ≡ a
raised-256 a below = raised-size Gf256 a below

-- exponents that are not 0 count up to multiples of 255
pub raised-again : (a n times : ℕ) → a < 256 → 1 ≤ n → raised Gf256 a (n + times * 255) ≡ raised Gf256 a n
raised-again zero zero times below positive = absurd (omega arith)
raised-again zero (suc n) times below positive =
    let e : suc n + times * 255 ≡ suc (n + times * 255) = omega arith in
    ap (raised Gf256 0) e ∙ raised-zero (n + times * 255) ∙ sym (raised-zero n)
raised-again (suc a) n times below positive =
    raised-sum Gf256 (suc a) n (times * 255) below
    ∙ ap (byte_product (raised Gf256 (suc a) n)) (raised-times (suc a) 255 times below ∙ ap (λ (x : ℕ). raised Gf256 x times) (raised-255 (suc a) (omega arith) below) ∙ raised-one times)
    ∙ byte_product-one_right (raised Gf256 (suc a) n)
