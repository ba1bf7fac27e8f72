use Rattle.std.proofs.Common.{◌+◌}
use Rattle.mk_pad.specs.Looking.{AreSmallShown}
use Rattle.mk_pad.proofs.verdict.first_not_shown.Given as goal

abbrev pub invariant-loop-more : goal.invariant-loop-more
invariant-loop-more l = AreSmallShown l.gadget (l.more + 1)
