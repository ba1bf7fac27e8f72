use Rattle.std.proofs.Common.{◌≡◌, take}
use Rattle.mk_pad.specs.Value.{sum_all}
use Rattle.mk_pad.proofs.ring.Ring.sum.Given as goal

abbrev pub invariant-loop-polynomial : goal.invariant-loop-polynomial
invariant-loop-polynomial l = l.terms.items ≡ sum_all (take l.polynomial-index l.polynomials)
