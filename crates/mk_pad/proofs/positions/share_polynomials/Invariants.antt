use Rattle.std.proofs.Common.{◌≡◌}
use Rattle.mk_pad.specs.Positions.{variables}
use Rattle.mk_pad.proofs.positions.share_polynomials.Given as goal

abbrev pub invariant-loop-share : goal.invariant-loop-share
invariant-loop-share l = l.positions ≡ variables l.ring.variables l.share
