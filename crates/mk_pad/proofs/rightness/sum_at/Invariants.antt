use Rattle.std.proofs.Common.{◌≡◌, take, map}
use Rattle.mk_pad.specs.Positions.{polynomial_at}
use Rattle.mk_pad.specs.Value.{sum_all}
use Rattle.mk_pad.proofs.rightness.sum_at.Given as goal

abbrev pub invariant-loop-out : goal.invariant-loop-out
invariant-loop-out l = l.terms.items ≡ sum_all (map (polynomial_at l.positions) (take l.out-index l.outs))
