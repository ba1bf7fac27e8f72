-- So many outputs are marked, and then the operands of the values from the last on.
use Rattle.std.proofs.Common.{◌≤◌, length, take}
use Rattle.mk_simplify.proofs.Marks.{IsMarking}
use Rattle.mk_simplify.proofs.needs.needs.Given as goal

abbrev pub invariant-loop-out : goal.invariant-loop-out
invariant-loop-out l = IsMarking l.ops l.outs (take l.out-index l.outs) (length l.ops) l.marks.items

abbrev pub decreases-loop-k : goal.decreases-loop-k
decreases-loop-k l = l.k

abbrev pub invariant-loop-k : goal.invariant-loop-k
invariant-loop-k l = IsMarking l.ops l.outs l.outs l.k l.marks.items × (l.k ≤ length l.ops)
