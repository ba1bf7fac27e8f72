-- Where the values of a code in the making stand: for the contracts inside the crate, none of the public ones cites it.
use Rattle.std.specs.Prelude.{◌≡◌, ℕ, ◌+◌, ◌*◌, ◌<◌, Bool, true, false, List, [], ◌∷◌, ◌++◌, All, IsSomeAnd, map, slice_get, slice_index_or}
use Rattle.std.specs.List.{flat_map, range_with_len}
use Rattle.mk_field.specs.declared.field.FieldId.{FieldId}
use Rattle.mk_field.specs.Field.{size}
use Rattle.mk_code.specs.declared.instr.Instr.{Instr}
use Rattle.mk_code.specs.Counting.{AllBelow}
use Rattle.mk_ssa.specs.declared.Operand.{Operand}
use Rattle.mk_ssa.specs.declared.Operand.TheVariants as operand
use Rattle.mk_ssa.specs.declared.Op.{Op}
use Rattle.mk_ssa.specs.declared.Op.TheVariants.{Const, PubMap, Map}
use Rattle.mk_ssa.specs.Kinds.{is_public, shared_operands, public_operands}
use Rattle.mk_rules.specs.Shape.{Shape}
use Rattle.mk_rules.specs.Tiles.{input_banks}
use Rattle.mk_compile.specs.RightValues.{built_banks}
use Rattle.mk_compile.specs.Emitting.{instrs_of}
use Rattle.mk_compile.specs.declared.positions.Position.{Position}
use Rattle.mk_compile.specs.declared.positions.Position.TheVariants.{Shared, Public}

-- the map of an operator is one of so many
abbrev pub HasMap : ℕ → Op → Type 0
HasMap maps (PubMap map arg) = map < maps
HasMap maps (Map map arg) = map < maps
HasMap maps _ = Unit {0}

-- the constant of an operator is an element of the field
abbrev pub IsElement : FieldId → Op → Type 0
IsElement field (Const value) = value < size field
IsElement field _ = Unit {0}

module _ {N : ℕ} where
  -- the positions of a value of a block
  abbrev pub bank_at : Position N → List ℕ
  bank_at (Shared bank) = bank.regs
  bank_at (Public position) = position ∷ []

  -- whether the value is public
  abbrev pub is_public_at : Position N → Bool
  is_public_at (Shared bank) = false
  is_public_at (Public position) = true

  -- the positions of an operand among so many secrets and the values of these blocks: the shares of the secrets
  -- stand first, and then the public inputs
  abbrev pub bank_of : ℕ → List (Position N) → Operand → List ℕ
  bank_of secrets blocks (operand.Secret k) = range_with_len (k * N) N
  bank_of secrets blocks (operand.Public k) = (secrets * N + k) ∷ []
  bank_of secrets blocks (operand.Block k) = bank_at (slice_index_or blocks k (Public 0))

  -- the operand is a secret that is there or a shared value among those of the blocks
  abbrev pub IsSharedAt : ℕ → List (Position N) → Operand → Type 0
  IsSharedAt secrets blocks (operand.Secret k) = k < secrets
  IsSharedAt secrets blocks (operand.Public k) = ⊥
  IsSharedAt secrets blocks (operand.Block k) = IsSomeAnd (slice_get blocks k) (λ position. is_public_at position ≡ false)

  -- the operand is a public input that is there or a public value among those of the blocks
  abbrev pub IsPublicAt : ℕ → List (Position N) → Operand → Type 0
  IsPublicAt publics blocks (operand.Secret k) = ⊥
  IsPublicAt publics blocks (operand.Public k) = k < publics
  IsPublicAt publics blocks (operand.Block k) = IsSomeAnd (slice_get blocks k) (λ position. is_public_at position ≡ true)

  -- the positions that an operator reads
  abbrev pub positions_read : ℕ → List (Position N) → Op → List ℕ
  positions_read secrets blocks op = flat_map (bank_of secrets blocks) (shared_operands op ++ public_operands op)

  -- the operands of an operator are there and of their kind, and its map is one of so many
  pub record HasOperands (secrets publics maps : ℕ) (blocks : List (Position N)) (op : Op) : Type 0 where
    pub shared : All (IsSharedAt secrets blocks) (shared_operands op)
    pub public : All (IsPublicAt publics blocks) (public_operands op)
    pub map : HasMap maps op

  -- the values of the blocks stand before the position `len`
  abbrev pub AreBefore : ℕ → List (Position N) → Type 0
  AreBefore len blocks = All (λ position. AllBelow len (bank_at position)) blocks

  -- over a shape, the templates of the blocks were laid, and the values stand at these positions
  pub record ArePlaced (shape : Shape) (blocks : List Op) (instrs : List Instr) (positions : List (Position N)) : Type 0 where
    pub laid : instrs ≡ instrs_of shape blocks
    pub banks : input_banks shape ++ map bank_at positions ≡ built_banks shape blocks
    pub kinds : map is_public_at positions ≡ map is_public blocks
