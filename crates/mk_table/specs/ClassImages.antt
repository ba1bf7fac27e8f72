-- The additive map of a class of exponents: it takes a to the sum of the terms of a polynomial in x whose
-- exponents are in the class, where a is the power of x whose exponent leads the class.
use Rattle.std.specs.Prelude.{ℕ, ◌^◌, List, map}
use Rattle.std.specs.List.{range_with_len}
use Rattle.mk_field.specs.declared.field.FieldId.TheVariants.{Gf256}
use Rattle.mk_field.specs.Field.{product, raised}
use Rattle.mk_table.specs.Coefficients.{sum_from}
use Rattle.mk_table.specs.Classes.{doubled_exponent, class_size}

-- The coefficients of a polynomial, by their exponents.
module _ (coefficient : ℕ → ℕ) where
  -- the image of a under the map of the class of k: for each exponent of the class, which is k doubled j
  -- times, its coefficient times a to the power 2^j
  abbrev pub class_image : ℕ → ℕ → ℕ
  class_image k a = sum_from 0 (class_size k) (λ j. product Gf256 (coefficient (doubled_exponent k j)) (raised Gf256 a (2 ^ j)))

  -- the images of the eight bits, that of bit 0 first
  abbrev pub class_images : ℕ → List ℕ
  class_images k = map (λ b. class_image k (2 ^ b)) (range_with_len 0 8)
