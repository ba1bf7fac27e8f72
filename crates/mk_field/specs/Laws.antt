-- The laws of the sum and the product of elements, and of additive maps.
use Rattle.std.specs.Prelude.{◌≡◌, ℕ, ◌^◌, ◌<◌, List, ◌++◌, bit_xor, slice_index}
use Rattle.mk_field.specs.declared.field.FieldId.{FieldId}
use Rattle.mk_field.specs.declared.map.AddMap.{AddMap}
use Rattle.mk_field.specs.Field.{size, product, square, image}
use Rattle.mk_field.specs.Sharing.{field_sum, added}

-- h takes the sum of two numbers of k bits to the sum of its values
abbrev pub IsAdditive : ℕ → (ℕ → ℕ) → Type 0
IsAdditive k h = (a b : ℕ) → a < 2 ^ k → b < 2 ^ k → h (bit_xor a b) ≡ bit_xor (h a) (h b)

-- f takes the numbers below n to the numbers below n, each of which it takes from just one
pub record IsPermutation (n : ℕ) (f : ℕ → ℕ) : Type 0 where
  pub closed : (a : ℕ) → a < n → f a < n
  pub injective : (a b : ℕ) → a < n → b < n → f a ≡ f b → a ≡ b
  pub onto : (b : ℕ) → b < n → (a : ℕ) × (a < n) × (f a ≡ b)

-- the elements are a group of which each is its own inverse, and sums of lists are made of those of
-- their parts
pub record SumLaws (field : FieldId) : Type 0 where
  pub associative : (a b c : ℕ) → bit_xor (bit_xor a b) c ≡ bit_xor a (bit_xor b c)
  pub commutative : (a b : ℕ) → bit_xor a b ≡ bit_xor b a
  pub zero_left : (a : ℕ) → bit_xor 0 a ≡ a
  pub self_inverse : (a : ℕ) → bit_xor a a ≡ 0
  pub closed : (a b : ℕ) → a < size field → b < size field → bit_xor a b < size field
  pub of_append : (xs ys : List ℕ) → field_sum (xs ++ ys) ≡ bit_xor (field_sum xs) (field_sum ys)
  pub of_added : (xs ys : List ℕ) → field_sum (added xs ys) ≡ bit_xor (field_sum xs) (field_sum ys)

-- the elements are a commutative ring of characteristic 2, whose square is additive; to add a fixed
-- element permutes them
pub record ProductLaws (field : FieldId) : Type 0 where
  pub commutative : (a b : ℕ) → a < size field → b < size field → product field a b ≡ product field b a
  pub associative : (a b c : ℕ) → a < size field → b < size field → c < size field
      → product field (product field a b) c ≡ product field a (product field b c)
  pub closed : (a b : ℕ) → a < size field → b < size field → product field a b < size field
  pub distributes : (a b c : ℕ) → product field a (bit_xor b c) ≡ bit_xor (product field a b) (product field a c)
  pub zero_left : (a : ℕ) → product field 0 a ≡ 0
  pub one_left : (a : ℕ) → a < size field → product field 1 a ≡ a
  pub square_closed : (a : ℕ) → a < size field → square field a < size field
  pub square_additive : (a b : ℕ) → a < size field → b < size field → square field (bit_xor a b) ≡ bit_xor (square field a) (square field b)
  pub sum_permutes : (c : ℕ) → c < size field → IsPermutation (size field) (bit_xor c)

-- a map is additive, and where the images of the eight bits have k bits, all images have
pub record MapLaws (m : AddMap) : Type 0 where
  pub additive : (a b : ℕ) → image m (bit_xor a b) ≡ bit_xor (image m a) (image m b)
  pub of_zero : image m 0 ≡ 0
  pub closed : (k : ℕ) → ((i : ℕ) → i < 8 → slice_index m.images i < 2 ^ k) → (a : ℕ) → image m a < 2 ^ k
