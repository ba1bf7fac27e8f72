-- The polynomial of a table of 256 elements (interpolation over the field of 256 elements; see Lidl and
-- Niederreiter, Finite Fields, section 7.1).
use Rattle.std.specs.Prelude.{◌≡◌, ℕ, zero, suc, ◌-◌, ◌<◌, List, ◌∷◌, map, replicate, slice_index, refl}
use Rattle.std.specs.List.{AllByRecursion, range_with_len}
use Rattle.mk_field.specs.declared.field.FieldId.TheVariants.{Gf256}
use Rattle.mk_field.specs.Field.{sum_bits, product, raised}
use Rattle.mk_field.specs.Sharing.{field_sum}

-- the sum of f over the n numbers from this one on
unfoldable pub sum_from : ℕ → ℕ → (ℕ → ℕ) → ℕ
sum_from first n f = field_sum (map f (range_with_len first n))

-- the coefficient of x to the power k: the value at 0, and else the sum of each value times its place to
-- the power 255 - k; 0 to the power 0 is 1
unfoldable pub coefficient : List ℕ → ℕ → ℕ
coefficient table zero = slice_index table 0
coefficient table (suc k) = sum_from 0 256 (λ a. product Gf256 (slice_index table a) (raised Gf256 a (255 - suc k)))

-- a table of elements is the polynomial of its coefficients
abbrev pub IsInterpolated : List ℕ → Type 0
IsInterpolated table =
    AllByRecursion (λ a. a < 256) table
    → (x : ℕ) → x < 256 → sum_from 0 256 (λ k. product Gf256 (coefficient table k) (raised Gf256 x k)) ≡ slice_index table x

-- 02 to the power 8 is {1b}
pub raised-02 : raised Gf256 2 8 ≡ 0x1b
unfolding raised sum_bits
raised-02 = refl

-- the table of zeros has no term of the highest exponent
pub zeros-last : coefficient (replicate 256 0) 255 ≡ 0
unfolding coefficient sum_from field_sum raised sum_bits
zeros-last = refl

-- that of one value at 0 has it, with that value
pub single-last : coefficient (0x35 ∷ replicate 255 0) 255 ≡ 0x35
unfolding coefficient sum_from field_sum raised sum_bits
single-last = refl

-- and this is the value at 0
pub single-first : coefficient (0x35 ∷ replicate 255 0) 0 ≡ 0x35
unfolding coefficient
single-first = refl

-- the identity has none
pub identity-last : coefficient (range_with_len 0 256) 255 ≡ 0
unfolding coefficient sum_from field_sum raised sum_bits
identity-last = refl
