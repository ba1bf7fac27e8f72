-- Operands that are there, and of their kind.
use Rattle.std.specs.Prelude.{◌≡◌, ◌<◌, List, [], ◌∷◌, ◌++◌, length, true, false, IsSomeAnd, slice_get}
use Rattle.mk_field.specs.Field.{size}
use Rattle.mk_ssa.specs.declared.Operand.{Operand}
use Rattle.mk_ssa.specs.declared.Operand.TheVariants.{Secret, Public, Block}
use Rattle.mk_ssa.specs.declared.Op.{Op}
use Rattle.mk_ssa.specs.declared.Op.TheVariants.{Const, PubAdd, PubMul, PubSq, PubMap, Lift, Add, AddPub, Scale, Sq, Map, Mul, Refresh}
use Rattle.mk_ssa.specs.Kinds.{is_public}
use Rattle.mk_rules.specs.Shape.{Shape}

-- a secret that is there, or a shared block among those before
abbrev pub IsSharedThere : Shape → List Op → Operand → Type 0
IsSharedThere shape before (Secret k) = k < shape.secrets
IsSharedThere shape before (Public k) = ⊥
IsSharedThere shape before (Block k) = IsSomeAnd (slice_get before k) (λ op. is_public op ≡ false)

-- a public input that is there, or a public block among those before
abbrev pub IsPublicThere : Shape → List Op → Operand → Type 0
IsPublicThere shape before (Secret k) = ⊥
IsPublicThere shape before (Public k) = k < shape.publics
IsPublicThere shape before (Block k) = IsSomeAnd (slice_get before k) (λ op. is_public op ≡ true)

-- each operand of the operator is there and of its kind among the blocks before, its map is one of the
-- code's, and its constant an element of the field
abbrev pub IsWired : Shape → List Op → Op → Type 0
IsWired shape before (Const value) = value < size shape.field
IsWired shape before (PubAdd left right) = IsPublicThere shape before left × IsPublicThere shape before right
IsWired shape before (PubMul left right) = IsPublicThere shape before left × IsPublicThere shape before right
IsWired shape before (PubSq arg) = IsPublicThere shape before arg
IsWired shape before (PubMap map arg) = (map < length shape.maps) × IsPublicThere shape before arg
IsWired shape before (Lift arg) = IsPublicThere shape before arg
IsWired shape before (Add left right) = IsSharedThere shape before left × IsSharedThere shape before right
IsWired shape before (AddPub left right) = IsSharedThere shape before left × IsPublicThere shape before right
IsWired shape before (Scale left right) = IsSharedThere shape before left × IsPublicThere shape before right
IsWired shape before (Sq arg) = IsSharedThere shape before arg
IsWired shape before (Map map arg) = (map < length shape.maps) × IsSharedThere shape before arg
IsWired shape before (Mul left right) = IsSharedThere shape before left × IsSharedThere shape before right
IsWired shape before (Refresh arg) = IsSharedThere shape before arg

-- each of the blocks is wired behind those before it
abbrev pub AllWired : Shape → List Op → List Op → Type 0
AllWired shape before [] = Unit {0}
AllWired shape before (op ∷ ops) = IsWired shape before op × AllWired shape (before ++ op ∷ []) ops

-- the blocks are wired
abbrev pub Wired : Shape → List Op → Type 0
Wired shape blocks = AllWired shape [] blocks
