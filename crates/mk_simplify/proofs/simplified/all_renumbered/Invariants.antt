-- The operands so far are renumbered.
use Rattle.std.proofs.Common.{◌≡◌, map, take}
use Rattle.mk_simplify.specs.Renumbering.{renumbered}
use Rattle.mk_simplify.proofs.simplified.all_renumbered.Given as goal

abbrev pub invariant-loop-operand : goal.invariant-loop-operand
invariant-loop-operand l = l.others ≡ map (renumbered l.numbers) (take l.operand-index l.list)
