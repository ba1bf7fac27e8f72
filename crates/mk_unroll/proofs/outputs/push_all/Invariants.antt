-- The operands so far.
use Rattle.std.proofs.Common.{◌≡◌, ◌++◌, take}
use Rattle.mk_unroll.proofs.outputs.push_all.Given as goal

abbrev pub invariant-loop-operand : goal.invariant-loop-operand
invariant-loop-operand l = l.outs ≡ l.initial.outs ++ take l.operand-index l.operands
