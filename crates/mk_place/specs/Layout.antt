-- How a certificate is made of values, of which some uses are refreshed. It is this project's own form.
use Rattle.std.specs.Prelude.{ℕ, zero, suc, ◌+◌, Bool, true, false, List, [], ◌∷◌, ◌++◌, map, slice_index_or, if◌then◌else◌}
use Rattle.mk_ssa.specs.declared.Operand.{Operand}
use Rattle.mk_ssa.specs.declared.Operand.TheVariants.{Secret, Public, Block}
use Rattle.mk_ssa.specs.declared.Op.{Op}
use Rattle.mk_ssa.specs.declared.Op.TheVariants.{Refresh}
use Rattle.mk_ssa.specs.Kinds.{shared_operands}
use Rattle.mk_ssa.specs.Operators.{with_operands_by}
use Rattle.mk_ssa.specs.Values.{Values}
use Rattle.mk_rules.specs.Claimed.{Claimed}

-- whether the use by this value at this place, 0 or 1, goes through a refresh
abbrev pub Marks : Type 0
Marks = ℕ → ℕ → Bool

-- 1 for a mark
abbrev pub one : Bool → ℕ
one true = 1
one false = 0

-- how many blocks stand before those of a value: the values before it, and the refreshes for them
unfoldable pub blocks_before : Marks → ℕ → ℕ
blocks_before marks zero = 0
blocks_before marks (suc i) = blocks_before marks i + one (marks i 0) + one (marks i 1) + 1

-- the number of a value's own block: it stands behind the refreshes for it
abbrev pub own_block : Marks → ℕ → ℕ
own_block marks i = blocks_before marks i + one (marks i 0) + one (marks i 1)

-- the number of the refresh for the use by a value at a place: that for place 0 stands first
abbrev pub refresh_block : Marks → ℕ → ℕ → ℕ
refresh_block marks i zero = blocks_before marks i
refresh_block marks i (suc k) = blocks_before marks i + one (marks i 0)

-- an operand by its new number
abbrev pub renamed : Marks → Operand → Operand
renamed marks (Secret k) = Secret k
renamed marks (Public k) = Public k
renamed marks (Block k) = Block (own_block marks k)

-- a shared operand of value i at place k: its refresh, where the use is marked
abbrev pub refreshed : Marks → ℕ → ℕ → Operand → Operand
refreshed marks i k v = if marks i k then Block (refresh_block marks i k) else renamed marks v

-- the refresh for the use by value i at place k, if it is marked
abbrev pub refresh_at : Marks → ℕ → ℕ → Op → List Op
refresh_at marks i k op = if marks i k then Refresh (renamed marks (slice_index_or (shared_operands op) k (Secret 0))) ∷ [] else []

-- the blocks of value i: the refreshes for it, and then itself
abbrev pub blocks_of : Marks → ℕ → Op → List Op
blocks_of marks i op =
    refresh_at marks i 0 op ++ refresh_at marks i 1 op ++ with_operands_by (refreshed marks i) (renamed marks) op ∷ []

-- the blocks of values, of which the first has the number i
unfoldable pub blocks_from : Marks → ℕ → List Op → List Op
blocks_from marks i [] = []
blocks_from marks i (op ∷ ops) = blocks_of marks i op ++ blocks_from marks (suc i) ops

-- the certificate of values whose marked uses go through refreshes
abbrev pub laid_out : Marks → Values → Claimed
laid_out marks s = record { blocks = blocks_from marks 0 s.values; claims = map (renamed marks) s.outs }
