use Rattle.std.proofs.Common.{◌≡◌, ◌++◌, drop}
use Rattle.mk_pad.specs.Polynomial.{exponents_sum}
use Rattle.mk_pad.proofs.ring.Ring.term_product.Given as goal

abbrev pub invariant-loop-i : goal.invariant-loop-i
invariant-loop-i l = l.exponents ++ exponents_sum l.self.field (drop l.i l.first) (drop l.i l.second) ≡ exponents_sum l.self.field l.first l.second
