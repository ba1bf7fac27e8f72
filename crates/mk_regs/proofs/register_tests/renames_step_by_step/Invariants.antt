use Rattle.std.proofs.Common.{◌≤◌}
use Rattle.mk_regs.proofs.register_tests.renames_step_by_step.Given as goal

-- no more steps were accepted than tried
abbrev pub invariant-loop-step : goal.invariant-loop-step
invariant-loop-step g l = l.renamer.accepted ≤ l.step-index
