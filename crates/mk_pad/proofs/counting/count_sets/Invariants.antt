use Rattle.std.proofs.Common.{◌≡◌}
use Rattle.mk_pad.specs.Verified.{choose, sets_up_to}
use Rattle.mk_pad.proofs.counting.count_sets.Given as goal

abbrev pub invariant-loop-size : goal.invariant-loop-size
invariant-loop-size l = (l.sets ≡ choose l.things l.size) × (l.total ≡ sets_up_to l.things l.size)
