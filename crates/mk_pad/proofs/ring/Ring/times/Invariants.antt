use Rattle.std.proofs.Common.{◌≡◌, [], map, take}
use Rattle.std.specs.List.{flat_map}
use Rattle.mk_pad.specs.Polynomial.{plus, term_product}
use Rattle.mk_pad.proofs.ring.Ring.times.Given as goal

abbrev pub invariant-loop-term : goal.invariant-loop-term
invariant-loop-term l = l.terms.items ≡ plus [] (flat_map (λ p. map (term_product l.self.field p) l.right) (take l.term-index l.left))
