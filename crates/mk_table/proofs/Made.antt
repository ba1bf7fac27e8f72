-- The program that is made of the coefficients is that of the table, and its elements are bytes.
use Rattle.std.proofs.Common.{◌≡◌, ℕ, zero, suc, ◌+◌, ◌*◌, ◌%◌, ◌^◌, ◌<◌, List, map, slice_index, ◌∙◌, ap, arith}
use Rattle.std.specs.List.{AllByRecursion, range_with_len}
use Rattle.std.proofs.lemmas.List.FromFn.{get_or-map-range_with_len, length-map-range_with_len}
use Rattle.std.proofs.lemmas.Nat.{mod_below}
use Rattle.mk_field.specs.declared.field.FieldId.TheVariants.{Gf256}
use Rattle.mk_field.specs.Field.{byte_product, raised}
use Rattle.mk_table.specs.Coefficients.{coefficient}
use Rattle.mk_table.specs.Classes.{doubled_exponent, class_size}
use Rattle.mk_table.specs.ClassImages.{class_image, class_images}
use Rattle.mk_table.specs.Source.{source, table_source}
use Rattle.mk_table.proofs.Sums.{sum_from-same}
use Rattle.mk_table.proofs.Interpolation.{coefficient-below}
use Rattle.mk_table.proofs.Additive.{class_image-below}
use Rattle.mk_table.proofs.Regular.{AreBytes}

-- the coefficients of a table, in order
abbrev coefficient_list : List ℕ → List ℕ
coefficient_list table = map (coefficient table) (range_with_len 0 256)

-- one of them
listed : (table : List ℕ) (k : ℕ) → k < 256 → slice_index (coefficient_list table) k ≡ coefficient table k
listed table k below = get_or-map-range_with_len (coefficient table) 0 256 k k 0 below (omega arith)

-- the image of a under the map of a class
same_image : (table : List ℕ) (k a : ℕ) → class_image (slice_index (coefficient_list table)) k a ≡ class_image (coefficient table) k a
same_image table k a =
    sum_from-same 0 (class_size k) (λ j. byte_product (slice_index (coefficient_list table) (doubled_exponent k j)) (raised Gf256 a (2 ^ j)))
    (λ j. byte_product (coefficient table (doubled_exponent k j)) (raised Gf256 a (2 ^ j)))
    (λ j low high. ap (λ (v : ℕ). byte_product v (raised Gf256 a (2 ^ j))) (listed table (doubled_exponent k j) (within (k * 2 ^ j))))
  where
    within : (n : ℕ) → n % 255 < 256
    within n = let below : n % 255 < 255 = mod_below n 255 (omega arith) in omega (arith, below)

-- so the program of the list is that of the table
pub made_of : (table coefficients : List ℕ) → coefficients ≡ coefficient_list table
    → source (class_images (slice_index coefficients)) (slice_index coefficients 255) (slice_index coefficients 0) ≡ table_source table
made_of table coefficients is =
    ap (λ cs. source (class_images (slice_index cs)) (slice_index cs 255) (slice_index cs 0)) is
    ∙ (λ i. source (λ k. map (λ b. same_image table k (2 ^ b) i) (range_with_len 0 8)) (listed table 255 (omega arith) i) (listed table 0 (omega arith) i))

-- what holds of each value of a function
all_of_range : (f : ℕ → ℕ) → ((a : ℕ) → f a < 256) → (first n : ℕ) → AllByRecursion (λ b. b < 256) (map f (range_with_len first n))
all_of_range f small first zero = tt
all_of_range f small first (suc n) = (small first, all_of_range f small (first + 1) n)

-- the images and the coefficients are bytes
pub table_bytes : (table : List ℕ) → AllByRecursion (λ a. a < 256) table → AreBytes (class_images (coefficient table)) (coefficient table 255) (coefficient table 0)
table_bytes table all = record {
  eight = λ k. length-map-range_with_len (λ b. class_image (coefficient table) k (2 ^ b)) 0 8;
  bytes = λ k. all_of_range (λ b. class_image (coefficient table) k (2 ^ b)) (λ b. class_image-below table all k (2 ^ b)) 0 8;
  last_byte = coefficient-below table all 255;
  first_byte = coefficient-below table all 0;
}
