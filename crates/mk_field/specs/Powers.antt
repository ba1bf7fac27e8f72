-- The powers of 03, the byte x + 1.
use Rattle.std.specs.Prelude.{◌≡◌, ℕ, zero, suc, refl}
use Rattle.mk_field.specs.Field.{sum_bits, byte_product}

-- 03 to an exponent
unfoldable pub power : ℕ → ℕ
power zero = 1
power (suc n) = byte_product (power n) 3

-- 03 to the power 8 is {1a}
pub power-8 : power 8 ≡ 0x1a
unfolding power sum_bits
power-8 = refl
