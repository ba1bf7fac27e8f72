-- Laws of the product and the square of elements, in both fields, and of additive maps.
use Rattle.std.proofs.Common.{◌≡◌, ℕ, zero, suc, ◌+◌, ◌%◌, ◌^◌, ◌<◌, min, bit_and, bit_xor, slice_index, refl, sym, ◌∙◌, ap, inl, inr, arith}
use Rattle.std.specs.Int.{bit_at}
use Rattle.std.proofs.lemmas.Nat.{and_comm, and_assoc, and_le_l}
use Rattle.std.proofs.lemmas.Nat.Bits.{bit_at_and, bit_at_xor, bit_at-lt, same_from_bits}
use Rattle.mk_field.specs.declared.field.FieldId.{FieldId}
use Rattle.mk_field.specs.declared.field.FieldId.TheVariants.{Gf2, Gf256}
use Rattle.mk_field.specs.declared.map.AddMap.{AddMap}
use Rattle.mk_field.specs.Field.{size, product, square, image}
use Rattle.mk_field.specs.Laws.{IsPermutation, ProductLaws, MapLaws}
use Rattle.mk_field.proofs.Sum.{sum-cancel, sum-inject, sum-in_field, sum-assoc}
use Rattle.mk_field.proofs.Bits.{bit_cases, sum_bits-sum, sum_bits-zero, sum_bits-below}
use Rattle.mk_field.proofs.Bytes.{byte_product-sum_left, byte_product-sum_right, byte_product-below, byte_product-one_left, byte_product-zero_left, byte_product-zero_right, byte_product-comm, byte_product-assoc}

-- and distributes over exclusive or at one bit
bit-and_xor : (a b c : ℕ) → a < 2 → b < 2 → c < 2 → min a ((b + c) % 2) ≡ (min a b + min a c) % 2
bit-and_xor a b c first second third = elim (bit_cases a first) [
  | inl p ↦ elim (bit_cases b second) [
    | inl q ↦ elim (bit_cases c third) [ inl r ↦ rw (p, q, r) | inr r ↦ rw (p, q, r) ]
    | inr q ↦ elim (bit_cases c third) [ inl r ↦ rw (p, q, r) | inr r ↦ rw (p, q, r) ]
  ]
  | inr p ↦ elim (bit_cases b second) [
    | inl q ↦ elim (bit_cases c third) [ inl r ↦ rw (p, q, r) | inr r ↦ rw (p, q, r) ]
    | inr q ↦ elim (bit_cases c third) [ inl r ↦ rw (p, q, r) | inr r ↦ rw (p, q, r) ]
  ]
]

-- and distributes over exclusive or
and_xor : (a b c : ℕ) → bit_and a (bit_xor b c) ≡ bit_xor (bit_and a b) (bit_and a c)
and_xor a b c = same_from_bits (bit_and a (bit_xor b c)) (bit_xor (bit_and a b) (bit_and a c)) (λ i.
    bit_at_and a (bit_xor b c) i ∙ ap (min (bit_at a i)) (bit_at_xor b c i)
    ∙ bit-and_xor (bit_at a i) (bit_at b i) (bit_at c i) (bit_at-lt a i) (bit_at-lt b i) (bit_at-lt c i)
    ∙ ap (λ (x : ℕ). (x + min (bit_at a i) (bit_at c i)) % 2) (sym (bit_at_and a b i))
    ∙ ap (λ (x : ℕ). (bit_at (bit_and a b) i + x) % 2) (sym (bit_at_and a c i))
    ∙ sym (bit_at_xor (bit_and a b) (bit_and a c) i))

-- the product is commutative
pub product-comm : (field : FieldId) (a b : ℕ) → a < size field → b < size field → product field a b ≡ product field b a
product-comm Gf2 a b left right = and_comm a b
product-comm Gf256 a b left right = byte_product-comm a b left right

-- the product is associative
pub product-assoc : (field : FieldId) (a b c : ℕ) → a < size field → b < size field → c < size field
    → product field (product field a b) c ≡ product field a (product field b c)
product-assoc Gf2 a b c first second third = and_assoc c a b
product-assoc Gf256 a b c first second third = byte_product-assoc a b c first second third

-- the product of elements is an element
pub product-in_field : (field : FieldId) (a b : ℕ) → a < size field → product field a b < size field
product-in_field Gf2 a b below = omega (arith, and_le_l a b)
product-in_field Gf256 a b below = byte_product-below a b below

-- the product is additive in its second argument
pub product-sum_right : (field : FieldId) (a b c : ℕ) → product field a (bit_xor b c) ≡ bit_xor (product field a b) (product field a c)
product-sum_right Gf2 a b c = and_xor a b c
product-sum_right Gf256 a b c = byte_product-sum_right a b c

-- the product is additive in its first argument
pub product-sum_left : (field : FieldId) (a b c : ℕ) → a < size field → b < size field
    → product field (bit_xor a b) c ≡ bit_xor (product field a c) (product field b c)
product-sum_left Gf2 a b c left right =
    and_comm (bit_xor a b) c ∙ and_xor c a b ∙ ap (λ (x : ℕ). bit_xor x (bit_and c b)) (and_comm c a)
    ∙ ap (bit_xor (bit_and a c)) (and_comm c b)
product-sum_left Gf256 a b c left right = byte_product-sum_left a b c left right

-- 0 times an element
pub product-zero_left : (field : FieldId) (a : ℕ) → product field 0 a ≡ 0
product-zero_left Gf2 a = refl
product-zero_left Gf256 a = byte_product-zero_left a

-- an element times 0
pub product-zero_right : (field : FieldId) (a : ℕ) → product field a 0 ≡ 0
product-zero_right Gf2 a = and_comm a 0
product-zero_right Gf256 a = byte_product-zero_right a

-- 1 times an element
pub product-one_left : (field : FieldId) (a : ℕ) → a < size field → product field 1 a ≡ a
product-one_left Gf2 zero below = refl
product-one_left Gf2 (suc zero) below = refl
product-one_left Gf2 (suc (suc n)) below = absurd (omega arith)
product-one_left Gf256 a below = byte_product-one_left a below

-- the square of a sum
pub square-sum : (field : FieldId) (a b : ℕ) → a < size field → b < size field
    → square field (bit_xor a b) ≡ bit_xor (square field a) (square field b)
square-sum field a b left right =
    let cross : bit_xor (product field b a) (bit_xor (product field a b) (product field b b)) ≡ product field b b =
    ap (λ (x : ℕ). bit_xor (product field b a) (bit_xor x (product field b b))) (product-comm field a b left right)
    ∙ sum-cancel (product field b a) (product field b b) in
    product-sum_right field (bit_xor a b) a b
    ∙ ap (λ (x : ℕ). bit_xor x (product field (bit_xor a b) b)) (product-sum_left field a b a left right)
    ∙ ap (bit_xor (bit_xor (product field a a) (product field b a))) (product-sum_left field a b b left right)
    ∙ sum-assoc (product field a a) (product field b a) (bit_xor (product field a b) (product field b b))
    ∙ ap (bit_xor (product field a a)) cross

-- the square of an element is an element
pub square-in_field : (field : FieldId) (a : ℕ) → a < size field → square field a < size field
square-in_field field a below = product-in_field field a a below

-- to add a fixed element is its own inverse, and so permutes the elements
pub sum-permutes : (field : FieldId) (c : ℕ) → c < size field → IsPermutation (size field) (bit_xor c)
sum-permutes field c below = record {
  closed = λ a small. sum-in_field field c a below small;
  injective = λ a b left right same. sum-inject c a b same;
  onto = λ b small. (bit_xor c b, sum-in_field field c b below small, sum-cancel c b);
}

-- the image of a sum under an additive map
pub image-sum : (m : AddMap) (a b : ℕ) → image m (bit_xor a b) ≡ bit_xor (image m a) (image m b)
image-sum m a b = sum_bits-sum 8 (λ i. slice_index m.images i) a b

-- the image of 0
pub image-zero : (m : AddMap) → image m 0 ≡ 0
image-zero m = sum_bits-zero 8 (λ i. slice_index m.images i)

-- an image is a byte where those of the eight bits are
pub image-below : (k : ℕ) (m : AddMap) (a : ℕ) → ((i : ℕ) → i < 8 → slice_index m.images i < 2 ^ k) → image m a < 2 ^ k
image-below k m a small = sum_bits-below 8 k (λ i. slice_index m.images i) a small

-- the laws of the product hold in both fields
pub product_laws-hold : (field : FieldId) → ProductLaws field
product_laws-hold field = record {
  commutative = λ a b left right. product-comm field a b left right;
  associative = λ a b c first second third. product-assoc field a b c first second third;
  closed = λ a b left right. product-in_field field a b left;
  distributes = λ a b c. product-sum_right field a b c;
  zero_left = λ a. product-zero_left field a;
  one_left = λ a below. product-one_left field a below;
  square_closed = λ a below. square-in_field field a below;
  square_additive = λ a b left right. square-sum field a b left right;
  sum_permutes = λ c below. sum-permutes field c below;
}

-- the laws of additive maps hold for each map
pub map_laws-hold : (m : AddMap) → MapLaws m
map_laws-hold m = record {
  additive = λ a b. image-sum m a b;
  of_zero = image-zero m;
  closed = λ k small a. image-below k m a small;
}
