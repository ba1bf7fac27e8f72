-- The program of a table gives the elements of the table.
use Rattle.std.proofs.Common.{◌≡◌, ℕ, ◌<◌, ◌^◌, List, [], ◌∷◌, Some, map, bit_xor, slice_index, refl, sym, ap, ◌∙◌}
use Rattle.std.specs.Prelude.{fold}
use Rattle.std.specs.List.{AllByRecursion}
use Rattle.mk_field.specs.declared.field.FieldId.TheVariants.{Gf256}
use Rattle.mk_field.specs.Field.{byte_product, raised, image}
use Rattle.mk_field.specs.Sharing.{field_sum}
use Rattle.mk_field.proofs.Sum.{sum-assoc}
use Rattle.mk_field.proofs.Bytes.{byte_product-comm}
use Rattle.mk_table.specs.Coefficients.{coefficient}
use Rattle.mk_table.specs.Classes.{leaders, further_leaders}
use Rattle.mk_table.specs.ClassImages.{class_image, class_images}
use Rattle.mk_table.specs.Source.{table_source}
use Rattle.mk_table.specs.Table.{Computes}
use Rattle.mk_table.proofs.Interpolation.{coefficient-below}
use Rattle.mk_table.proofs.Raised.{raised-below, raised-once}
use Rattle.mk_table.proofs.Additive.{image-class}
use Rattle.mk_table.proofs.Whole.{whole}
use Rattle.mk_table.proofs.Made.{table_bytes}
use Rattle.mk_table.proofs.Regular.{source_regular}
use Rattle.mk_table.proofs.Values.{power_image, sum_at, fold_sum, source_result}

-- A table of bytes, and a byte.
module _ (table : List ℕ) (bytes : AllByRecursion (λ a. a < 256) table) (x : ℕ) (small : x < 256) where
  -- the image of the bit b under the map of the class of k
  abbrev bit_image : ℕ → ℕ → ℕ
  bit_image k b = class_image (coefficient table) k (2 ^ b)

  -- what the map of the class of k gives
  abbrev class_term : ℕ → ℕ
  class_term k = class_image (coefficient table) k (raised Gf256 x k)

  -- the sum of the images of some powers
  images_sum : (ks : List ℕ) → field_sum (map (power_image bit_image 0 0 x) ks) ≡ field_sum (map class_term ks)
  unfolding field_sum
  images_sum [] = refl
  images_sum (k ∷ ks) = λ i. bit_xor (image-class table k (raised Gf256 x k) (raised-below x k small) i) (images_sum ks i)

  -- the sum of all images
  all_images : fold (λ v k. bit_xor v (power_image bit_image 0 0 x k)) (image (record { images = class_images (coefficient table) 1 }) x) further_leaders ≡ field_sum (map class_term leaders)
  unfolding field_sum
  all_images =
      fold_sum (power_image bit_image 0 0 x) (image (record { images = class_images (coefficient table) 1 }) x) further_leaders
      ∙ (λ i. bit_xor ((image-class table 1 x small ∙ ap (class_image (coefficient table) 1) (sym (raised-once x))) i) (images_sum further_leaders i))

  -- the sum is the element of the table
  sum_is_entry : sum_at bit_image (coefficient table 255) (coefficient table 0) x ≡ slice_index table x
  sum_is_entry =
      (λ i. bit_xor (bit_xor (all_images i) (byte_product-comm (raised Gf256 x 255) (coefficient table 255) (raised-below x 255 small) (coefficient-below table bytes 255) i)) (coefficient table 0))
      ∙ sum-assoc (field_sum (map class_term leaders)) (byte_product (coefficient table 255) (raised Gf256 x 255)) (coefficient table 0)
      ∙ whole table x small bytes

-- the program gives it
pub table_computes : (table : List ℕ) → AllByRecursion (λ a. a < 256) table → Computes table (table_source table)
table_computes table bytes x small =
    source_result (λ k b. class_image (coefficient table) k (2 ^ b)) (coefficient table 255) (coefficient table 0)
    (source_regular (class_images (coefficient table)) (coefficient table 255) (coefficient table 0) (table_bytes table bytes)) x small
    ∙ ap (λ v. Some (v ∷ [])) (sum_is_entry table bytes x small)
