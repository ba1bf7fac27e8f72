-- A certificate without its refreshes: they are taken out, a use of one is a use of its operand, and the
-- other blocks are numbered anew. It is this project's own form.
use Rattle.std.specs.Prelude.{ℕ, Bool, true, false, Option, Some, List, map, filter, count_by, take, slice_get}
use Rattle.mk_ssa.specs.declared.Operand.{Operand}
use Rattle.mk_ssa.specs.declared.Operand.TheVariants.{Secret, Public, Block}
use Rattle.mk_ssa.specs.declared.Op.{Op}
use Rattle.mk_ssa.specs.declared.Op.TheVariants.{Refresh}
use Rattle.mk_ssa.specs.Operators.{with_operands}
use Rattle.mk_rules.specs.Claimed.{Claimed}

-- whether a block is no refresh
abbrev pub is_no_refresh : Op → Bool
is_no_refresh (Refresh arg) = false
is_no_refresh op = true

-- the new number of block k: how many of the blocks before it are no refreshes
abbrev pub new_number : List Op → ℕ → ℕ
new_number blocks k = count_by is_no_refresh (take k blocks)

-- the operand of the block if it is a refresh, and else this operand
abbrev pub refreshed_or : Option Op → Operand → Operand
refreshed_or (Some (Refresh arg)) v = arg
refreshed_or block v = v

-- what an operand stands for: a refresh for its own operand, another one for itself. No refresh is the
-- operand of another, as `IsUsedOnce` says
abbrev pub unrefreshed : List Op → Operand → Operand
unrefreshed blocks (Secret k) = Secret k
unrefreshed blocks (Public k) = Public k
unrefreshed blocks (Block k) = refreshed_or (slice_get blocks k) (Block k)

-- an operand by its new number
abbrev pub renumbered : List Op → Operand → Operand
renumbered blocks (Secret k) = Secret k
renumbered blocks (Public k) = Public k
renumbered blocks (Block k) = Block (new_number blocks k)

-- what an operand stands for, by its new number
abbrev pub new_operand : List Op → Operand → Operand
new_operand blocks v = renumbered blocks (unrefreshed blocks v)

-- the other blocks in order, and the claims, all by what their operands stand for
abbrev pub without_refreshes : Claimed → Claimed
without_refreshes cert = record {
  blocks = map (with_operands (new_operand cert.blocks)) (filter is_no_refresh cert.blocks);
  claims = map (new_operand cert.blocks) cert.claims;
}
