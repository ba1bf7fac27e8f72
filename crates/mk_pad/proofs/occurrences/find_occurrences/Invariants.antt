use Rattle.std.proofs.Common.{take}
use Rattle.mk_pad.specs.Looking.{AreNoted}
use Rattle.mk_pad.proofs.occurrences.find_occurrences.Given as goal

abbrev pub invariant-loop-position : goal.invariant-loop-position
invariant-loop-position l = AreNoted l.shares l.variables (take l.position-index l.positions) l.rows
