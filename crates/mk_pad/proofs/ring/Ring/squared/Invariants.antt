use Rattle.std.proofs.Common.{◌≡◌, [], map, take}
use Rattle.mk_pad.specs.Polynomial.{plus, term_product}
use Rattle.mk_pad.proofs.ring.Ring.squared.Given as goal

abbrev pub invariant-loop-term : goal.invariant-loop-term
invariant-loop-term l = l.squares.items ≡ plus [] (map (λ p. term_product l.self.field p p) (take l.term-index l.terms))
