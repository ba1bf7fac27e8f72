use Rattle.std.proofs.Common.{◌≡◌, map, take}
use Rattle.mk_pad.specs.Polynomial.{plus, term_product}
use Rattle.mk_pad.proofs.ring.Ring.add_products.Given as goal

abbrev pub invariant-loop-other : goal.invariant-loop-other
invariant-loop-other l = l.terms.items ≡ plus l.initial.terms.items (map (term_product l.self.field l.factor) (take l.other-index l.others))
