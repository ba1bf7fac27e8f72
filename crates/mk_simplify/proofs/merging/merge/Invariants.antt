-- The values so far are merged.
use Rattle.mk_ssa.specs.Values.{draft, front}
use Rattle.mk_simplify.specs.Renumbering.{IsMerged}
use Rattle.mk_simplify.proofs.merging.merge.Given as goal

abbrev pub invariant-loop-op : goal.invariant-loop-op
invariant-loop-op l = IsMerged (front (draft l.s) l.op-index) l.ops.keys l.numbers
