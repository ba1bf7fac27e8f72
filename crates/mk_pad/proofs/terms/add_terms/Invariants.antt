use Rattle.std.proofs.Common.{◌≡◌, take}
use Rattle.mk_pad.specs.Polynomial.{plus}
use Rattle.mk_pad.proofs.terms.add_terms.Given as goal

abbrev pub invariant-loop-term : goal.invariant-loop-term
invariant-loop-term l = l.terms.items ≡ plus l.initial.terms.items (take l.term-index l.more)
