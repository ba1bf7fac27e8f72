-- The places for which a row of bits stands, in order.
use Rattle.std.specs.Prelude.{◌≡◌, ◌↔◌, ℕ, ◌+◌, ◌*◌, ◌/◌, ◌%◌, ◌<◌, Bool, Some, List, [], ◌∷◌, length, map, nat_eq, slice_get, slice_index, refl}
use Rattle.std.specs.Int.{bit_at}
use Rattle.std.specs.List.{filter, range_with_len}
use Rattle.mk_ssa.specs.declared.Op.{Op}
use Rattle.mk_rules.specs.Products.{products_before}
use Rattle.mk_rules.specs.Rows.{HasBit}
use Rattle.mk_rules.specs.Shape.{Shape}
use Rattle.mk_report.specs.declared.need.ProductPlace.{ProductPlace}
use Rattle.mk_report.specs.Reached.{IsProduct, ReachesPlace}

-- the bit for a place: 2r and 2r + 1 are those of product r
abbrev pub bit_of : List Op → ProductPlace → ℕ
bit_of blocks p = 2 * products_before blocks p.block + p.operand

-- bit k is that of a place that the value reaches
abbrev pub IsBitOf : Shape → List Op → ℕ → ℕ → Type 0
IsBitOf shape blocks v k = (p : ProductPlace) × ReachesPlace shape blocks v p × (bit_of blocks p ≡ k)

-- the row stands for the places that the value reaches: exactly the bits for these are set
abbrev pub IsRowOf : Shape → List Op → ℕ → List ℕ → Type 0
IsRowOf shape blocks v row = (k : ℕ) → HasBit row k ↔ IsBitOf shape blocks v k

-- these are the blocks of the products, in order
abbrev pub AreProducts : List Op → List ℕ → Type 0
AreProducts blocks products = (b : ℕ) → IsProduct blocks b → slice_get products (products_before blocks b) ≡ Some b

-- whether a bit of a row is set
abbrev pub has : List ℕ → ℕ → Bool
has row k = nat_eq (bit_at (slice_index row (k / 64)) (k % 64)) 1

-- the bits of a row that are set, in order: those of n bits, from one on
abbrev pub bits_between : List ℕ → ℕ → ℕ → List ℕ
bits_between row from n = filter (has row) (range_with_len from n)

-- all of them
abbrev pub set_bits : List ℕ → List ℕ
set_bits row = bits_between row 0 (64 * length row)

-- the place for a bit, where these are the blocks of the products
abbrev pub place_for : List ℕ → ℕ → ProductPlace
place_for products k = record { block = slice_index products (k / 2); operand = k % 2 }

-- the places for which a row stands
abbrev pub places_in : List ℕ → List ℕ → List ProductPlace
places_in products row = map (place_for products) (set_bits row)

-- each bit that is set is that of a product
abbrev pub HavePlaces : List ℕ → List ℕ → Type 0
HavePlaces products row = (k : ℕ) → HasBit row k → k / 2 < length products

-- in a row of the words 6 and 1 these are set: the second place of the first product, the first of the second, and the
-- first of the product of number 32
pub set_bits-row : set_bits (6 ∷ 1 ∷ []) ≡ 1 ∷ 2 ∷ 64 ∷ []
set_bits-row = refl
