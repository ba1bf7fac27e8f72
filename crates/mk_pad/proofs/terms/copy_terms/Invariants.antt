use Rattle.std.proofs.Common.{◌≡◌, take}
use Rattle.mk_pad.proofs.terms.copy_terms.Given as goal

abbrev pub invariant-loop-term : goal.invariant-loop-term
invariant-loop-term l = l.copied.items ≡ take l.term-index l.terms
