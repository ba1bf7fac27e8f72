-- The two fields, after FIPS 197 section 4: elements are numbers below the size, and the sum in both
-- is exclusive or, `bit_xor`.
use Rattle.std.specs.Prelude.{◌≡◌, ℕ, zero, suc, ◌*◌, ◌^◌, ◌/◌, ◌%◌, Bool, true, false, MatchBool, if◌then◌else◌, nat_lt, nat_eq, List, [], bit_and, bit_xor, slice_index, slice_index_or, refl}
use Rattle.mk_field.specs.declared.field.FieldId.{FieldId}
use Rattle.mk_field.specs.declared.field.FieldId.TheVariants.{Gf2, Gf256}
use Rattle.mk_field.specs.declared.map.AddMap.{AddMap}

-- how many bits an element has
abbrev pub bits : FieldId → ℕ
bits Gf2 = 1
bits Gf256 = 8

-- how many elements the field has
abbrev pub size : FieldId → ℕ
size field = 2 ^ bits field

-- a byte times x: doubled, and reduced by x^8 + x^4 + x^3 + x + 1, the number 0x11b
abbrev pub double : ℕ → ℕ
double a = if nat_lt (2 * a) 256 then 2 * a else bit_xor (2 * a) 0x11b

-- doubled so many times
abbrev pub doubled : ℕ → ℕ → ℕ
doubled zero a = a
doubled (suc n) a = double (doubled n a)

-- the sum of f at the places of the set bits of b, among its lowest n bits
unfoldable pub sum_bits : ℕ → (ℕ → ℕ) → ℕ → ℕ
sum_bits zero f b = 0
sum_bits (suc n) f b = bit_xor (sum_bits n f b) (if nat_eq ((b / 2 ^ n) % 2) 1 then f n else 0)

-- the product of two bytes: a doubled i times, summed over the set bits i of b
abbrev pub byte_product : ℕ → ℕ → ℕ
byte_product a b = sum_bits 8 (λ i. doubled i a) b

-- the product of two elements
abbrev pub product : FieldId → ℕ → ℕ → ℕ
product Gf2 a b = bit_and a b
product Gf256 a b = byte_product a b

-- the square of an element
abbrev pub square : FieldId → ℕ → ℕ
square field a = product field a a

-- an element raised to an exponent
unfoldable pub raised : FieldId → ℕ → ℕ → ℕ
raised field a zero = 1
raised field a (suc e) = product field a (raised field a e)

-- the image of a byte under an additive map: the sum of the images of its set bits
abbrev pub image : AddMap → ℕ → ℕ
image m a = sum_bits 8 (λ i. slice_index m.images i) a

-- the image of a byte under the map of this number; there is one where values or code fit together
abbrev pub image_by : List AddMap → ℕ → ℕ → ℕ
image_by maps m a = image (slice_index_or maps m (record { images = [] })) a

-- whether there are additive maps on the field's elements: on bytes alone
abbrev pub has_maps : FieldId → Bool
has_maps Gf2 = false
has_maps Gf256 = true

-- there are none of these maps but on bytes
abbrev pub HasMapsOnlyInBytes : FieldId → List AddMap → Type 0
HasMapsOnlyInBytes field maps = MatchBool (has_maps field) (Unit {0}) (maps ≡ [])

-- {57} times {83} is {c1}, the example of FIPS 197 section 4.2
pub product-57-83 : product Gf256 0x57 0x83 ≡ 0xc1
unfolding sum_bits
product-57-83 = refl

-- {57} times {13} is {fe}, the example of FIPS 197 section 4.2.1
pub product-57-13 : product Gf256 0x57 0x13 ≡ 0xfe
unfolding sum_bits
product-57-13 = refl

-- {57} plus {83} is {d4}, the example of FIPS 197 section 4.1
pub sum-57-83 : bit_xor 0x57 0x83 ≡ 0xd4
sum-57-83 = refl
