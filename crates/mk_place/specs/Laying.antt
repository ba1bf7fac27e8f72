-- A certificate in the making: the blocks so far, and the number of the block of each value so far. What the calls
-- of the crate promise needs none of it.
use Rattle.std.specs.Prelude.{◌≡◌, ℕ, ◌<◌, Bool, nat_eq, Option, None, Some, List, [], ◌∷◌, ◌++◌, length, take, slice_get, slice_index, if◌then◌else◌}
use Rattle.std.specs.List.{AllByRecursion}
use Rattle.mk_ssa.specs.declared.Operand.{Operand}
use Rattle.mk_ssa.specs.declared.Operand.TheVariants.{Secret, Public, Block}
use Rattle.mk_ssa.specs.declared.Op.{Op}
use Rattle.mk_ssa.specs.declared.Op.TheVariants.{Refresh}
use Rattle.mk_ssa.specs.Kinds.{shared_operands}
use Rattle.mk_ssa.specs.Operators.{operands, with_operands_by}
use Rattle.mk_place.specs.declared.marking.Fresh.{Fresh}
use Rattle.mk_place.specs.Layout.{Marks, blocks_before, own_block, blocks_from}

-- an operand by its new number
abbrev pub named : List ℕ → Operand → Operand
named names (Secret k) = Secret k
named names (Public k) = Public k
named names (Block k) = Block (slice_index names k)

-- there is a new number for it
abbrev pub HasName : List ℕ → Operand → Type 0
HasName names (Secret k) = Unit {0}
HasName names (Public k) = Unit {0}
HasName names (Block k) = k < length names

-- there is one for each operand
abbrev pub HasNames : List ℕ → Op → Type 0
HasNames names op = AllByRecursion (HasName names) (operands op)

-- a shared operand behind `len` blocks: its refresh, if it is to have one
abbrev pub argument : List ℕ → ℕ → Option Operand → Bool → Operand
argument names len None fresh = Secret 0
argument names len (Some v) fresh = if fresh then Block len else named names v

-- its refresh
abbrev pub refreshes : List ℕ → Option Operand → Bool → List Op
refreshes names None fresh = []
refreshes names (Some v) fresh = if fresh then Refresh (named names v) ∷ [] else []

-- one of two operands, by place
abbrev pub pick : Operand → Operand → ℕ → Operand → Operand
pick first second k v = if nat_eq k 0 then first else second

-- the blocks with the refreshes for a value
abbrev pub with_refreshes : List ℕ → List Op → Op → Fresh → List Op
with_refreshes names blocks op fresh =
    (blocks ++ refreshes names (slice_get (shared_operands op) 0) fresh.first) ++ refreshes names (slice_get (shared_operands op) 1) fresh.second

-- its own block
abbrev pub own_of : List ℕ → List Op → Op → Fresh → Op
own_of names blocks op fresh =
    with_operands_by (pick (argument names (length blocks) (slice_get (shared_operands op) 0) fresh.first)
    (argument names (length (blocks ++ refreshes names (slice_get (shared_operands op) 0) fresh.first)) (slice_get (shared_operands op) 1) fresh.second))
    (named names) op

-- the blocks so far are those of the first values, and the names are the numbers of their own blocks
pub record IsLaid (marks : Marks) (values : List Op) (i : ℕ) (blocks : List Op) (names : List ℕ) : Type 0 where
  pub same : blocks ≡ blocks_from marks 0 (take i values)
  pub count : length blocks ≡ blocks_before marks i
  pub long : length names ≡ i
  pub each : (k : ℕ) → k < length names → slice_index names k ≡ own_block marks k
