-- What the pass from the last value to the first does: the row of a value is made of what its uses bring, and
-- then it is told how many places the value reaches, and which are the first. What the calls of the crate
-- promise needs none of it.
use Rattle.std.specs.Prelude.{◌≡◌, ◌↔◌, ◌⊎◌, ℕ, suc, ◌+◌, ◌-◌, ◌*◌, ◌^◌, ◌<◌, ◌≤◌, Bool, true, false, IsSomeAnd, List, [], length, take, Contains, slice_get, slice_index_or}
use Rattle.mk_ssa.specs.declared.Op.{Op}
use Rattle.mk_ssa.specs.declared.Op.TheVariants.{Const, Add, AddPub, Scale, Sq, Map}
use Rattle.mk_ssa.specs.Operators.{Operator, operator}
use Rattle.mk_rules.specs.declared.uses.OperandPlace.{OperandPlace}
use Rattle.mk_rules.specs.Shape.{Shape}
use Rattle.mk_rules.specs.Products.{AreNumbers, products_before}
use Rattle.mk_rules.specs.Rows.{HasBit}
use Rattle.mk_rules.specs.Uses.{AreUsesAt, shared_numbers}
use Rattle.mk_report.specs.declared.need.ProductPlace.{ProductPlace}
use Rattle.mk_report.specs.declared.need.Told.{Told}
use Rattle.mk_report.specs.Reached.{ArePlacesOf}
use Rattle.mk_report.specs.Rows.{AreProducts, IsRowOf}

-- whether a block passes the places of its value on: it is linear, and has shared operands
abbrev pub passes : Op → Bool
passes (Add left right) = true
passes (AddPub left right) = true
passes (Scale left right) = true
passes (Sq arg) = true
passes (Map map arg) = true
passes op = false

-- the block with this number
abbrev pub block_at : List Op → ℕ → Op
block_at blocks b = slice_index_or blocks b (Const 0)

-- the row of block b, that of the last block being the first one
abbrev pub row_at : List Op → List (List ℕ) → ℕ → List ℕ
row_at blocks rows b = slice_index_or rows (length blocks - suc b) []

-- a use brings bit k: a product that of its place, a block that passes places on those of its row
abbrev pub Brings : List Op → List (List ℕ) → OperandPlace → ℕ → Type 0
Brings blocks rows u k =
    ((operator (block_at blocks u.value) ≡ Operator.Mul) × (k ≡ 2 * products_before blocks u.value + u.operand))
    ⊎ ((passes (block_at blocks u.value) ≡ true) × HasBit (row_at blocks rows u.value) k)

-- a use is by a block that is there, and that has one of the rows
abbrev pub IsBehind : List Op → List (List ℕ) → OperandPlace → Type 0
IsBehind blocks rows u = (u.value < length blocks) × (length blocks - suc u.value < length rows)

-- it is as one of two operands, and the row has so many words if the block passes places on
pub record IsReady (blocks : List Op) (rows : List (List ℕ)) (words : ℕ) (u : OperandPlace) : Type 0 where
  pub behind : IsBehind blocks rows u
  pub two : u.operand < 2
  pub count : passes (block_at blocks u.value) ≡ true → length (row_at blocks rows u.value) ≡ words

-- the row has exactly the bits that these uses bring
abbrev pub IsGathered : List Op → List (List ℕ) → List OperandPlace → List ℕ → Type 0
IsGathered blocks rows us row = (k : ℕ) → HasBit row k ↔ ((u : OperandPlace) × Contains us u × Brings blocks rows u k)

-- the block has a shared operand before the value with this number
abbrev pub HasEarlier : Shape → Op → ℕ → Type 0
HasEarlier shape op number = (v : ℕ) × Contains (shared_numbers shape op) v × (v < number)

-- there is a row for block b, which stands for the places that its value reaches
pub record HasRow (shape : Shape) (blocks : List Op) (rows : List (List ℕ)) (words b : ℕ) : Type 0 where
  pub count : length (row_at blocks rows b) ≡ words
  pub is : IsRowOf shape blocks (shape.secrets + shape.publics + b) (row_at blocks rows b)

-- there is one for each block that has to pass it on to a value before value n
abbrev pub HasRows : Shape → List Op → List (List ℕ) → ℕ → ℕ → Type 0
HasRows shape blocks rows words n =
    (b : ℕ) → n ≤ shape.secrets + shape.publics + b → b < length blocks → passes (block_at blocks b) ≡ true → HasEarlier shape (block_at blocks b) n
    → HasRow shape blocks rows words b

-- what the pass goes by: the uses, how many products stand before each block, the blocks of the products, and
-- words enough for two bits each
pub record IsIndex (shape : Shape) (blocks : List Op) (noted : List (List OperandPlace)) (numbers products : List ℕ) (words : ℕ) : Type 0 where
  pub noted_all : AreUsesAt shape blocks 0 noted
  pub count : length numbers ≡ length blocks + 1
  pub each : AreNumbers blocks numbers
  pub all : AreProducts blocks products
  pub room : 2 * products_before blocks (length blocks) ≤ 64 * words
  pub small : words < 2 ^ 32

-- how many places there are, and the first eight of them
abbrev pub IsTold : List ProductPlace → Told → Type 0
IsTold places told = (told.count ≡ length places) × (told.shown ≡ take 8 places)

-- these are told of the places of each value, of those of the last one first
abbrev pub AreTold : (ℕ → List ProductPlace) → List Told → Type 0
AreTold places told = (v : ℕ) → v < length told → IsSomeAnd (slice_get told (length told - suc v)) (IsTold (places v))

-- these are told of the places of products that each value reaches
pub record TellsOf (shape : Shape) (blocks : List Op) (told : List Told) : Type 0 where
  pub places : ℕ → List ProductPlace
  pub reached : (v : ℕ) → ArePlacesOf shape blocks v (places v)
  pub are : AreTold places told
