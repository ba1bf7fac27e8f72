-- The map of a class has the images that are wanted.
use Rattle.std.proofs.Common.{◌≡◌, ℕ, zero, suc, ◌+◌, ◌^◌, ◌<◌, List, bit_xor, slice_index, sym, ◌∙◌, ap, arith}
use Rattle.std.specs.List.{AllByRecursion}
use Rattle.std.proofs.lemmas.List.FromFn.{get_or-map-range_with_len}
use Rattle.std.proofs.lemmas.Nat.{xor_lt, pow_below}
use Rattle.mk_field.specs.declared.field.FieldId.TheVariants.{Gf256}
use Rattle.mk_field.specs.Field.{byte_product, image, raised}
use Rattle.mk_field.specs.Laws.{IsAdditive}
use Rattle.mk_field.proofs.Bits.{sum_bits-same, sum_bits-powers, additive-sum_bits}
use Rattle.mk_field.proofs.Bytes.{byte_product-below, byte_product-sum_right}
use Rattle.mk_field.proofs.Product.{square-sum}
use Rattle.mk_table.specs.Coefficients.{coefficient}
use Rattle.mk_table.specs.Classes.{doubled_exponent, class_size}
use Rattle.mk_table.specs.ClassImages.{class_image, class_images}
use Rattle.mk_table.proofs.Sums.{sum_from-same, sum_from-both, sum_from-below}
use Rattle.mk_table.proofs.Raised.{raised-below, raised-once}
use Rattle.mk_field.proofs.Raised.{raised-sum}
use Rattle.mk_table.proofs.Interpolation.{coefficient-below}

-- a power of 2 doubled
twice-power : (j : ℕ) → 2 ^ suc j ≡ 2 ^ j + 2 ^ j
twice-power j = omega arith

-- to raise to a power of 2 is additive
pub raised-additive : (j : ℕ) → IsAdditive 8 (λ a. raised Gf256 a (2 ^ j))
raised-additive zero a b left right =
    raised-once (bit_xor a b) ∙ (λ i. bit_xor (sym (raised-once a) i) (sym (raised-once b) i))
raised-additive (suc j) a b left right =
    let p = raised Gf256 a (2 ^ j) in
    let q = raised Gf256 b (2 ^ j) in
    squared (bit_xor a b) (xor_lt 8 a b left right)
    ∙ (λ i. byte_product (raised-additive j a b left right i) (raised-additive j a b left right i))
    ∙ square-sum Gf256 p q (raised-below a (2 ^ j) left) (raised-below b (2 ^ j) right)
    ∙ (λ i. bit_xor (sym (squared a left) i) (sym (squared b right) i))
  where
    squared : (c : ℕ) → c < 2 ^ 8 → raised Gf256 c (2 ^ suc j) ≡ byte_product (raised Gf256 c (2 ^ j)) (raised Gf256 c (2 ^ j))
    squared c small = ap (raised Gf256 c) (twice-power j) ∙ raised-sum Gf256 c (2 ^ j) (2 ^ j) small

-- the wanted map is additive
class_image-additive : (table : List ℕ) (k : ℕ) → IsAdditive 8 (class_image (coefficient table) k)
class_image-additive table k a b left right =
    sum_from-same 0 (class_size k) (λ j. byte_product (factor j) (raised Gf256 (bit_xor a b) (2 ^ j))) (λ j. bit_xor (byte_product (factor j) (raised Gf256 a (2 ^ j))) (byte_product (factor j) (raised Gf256 b (2 ^ j))))
    (λ j low high. ap (byte_product (factor j)) (raised-additive j a b left right) ∙ byte_product-sum_right (factor j) (raised Gf256 a (2 ^ j)) (raised Gf256 b (2 ^ j)))
    ∙ sum_from-both 0 (class_size k) (λ j. byte_product (factor j) (raised Gf256 a (2 ^ j))) (λ j. byte_product (factor j) (raised Gf256 b (2 ^ j)))
  where
    factor : ℕ → ℕ
    factor j = coefficient table (doubled_exponent k j)

-- an image is a byte
pub class_image-below : (table : List ℕ) → AllByRecursion (λ a. a < 256) table → (k a : ℕ) → class_image (coefficient table) k a < 2 ^ 8
class_image-below table all k a =
    sum_from-below 0 (class_size k) (λ j. byte_product (coefficient table (doubled_exponent k j)) (raised Gf256 a (2 ^ j)))
    (λ j low high. byte_product-below (coefficient table (doubled_exponent k j)) (raised Gf256 a (2 ^ j)) (coefficient-below table all (doubled_exponent k j)))

-- the map by the images of the bits is the wanted one
pub image-class : (table : List ℕ) (k a : ℕ) → a < 2 ^ 8 → image (record { images = class_images (coefficient table) k }) a ≡ class_image (coefficient table) k a
image-class table k a below =
    sum_bits-same 8 (λ b. slice_index (class_images (coefficient table) k) b) (λ b. class_image (coefficient table) k (2 ^ b)) a
    (λ b small. get_or-map-range_with_len (λ b. class_image (coefficient table) k (2 ^ b)) 0 8 b b 0 small (omega arith))
    ∙ sym (additive-sum_bits 8 8 (class_image (coefficient table) k) (λ b. 2 ^ b) a (class_image-additive table k) (λ b small. pow_below b 8 small))
    ∙ ap (class_image (coefficient table) k) (sum_bits-powers 8 a below)
