use Rattle.std.proofs.Common.{◌≡◌, false, take}
use Rattle.mk_pad.specs.Shown.{occurs}
use Rattle.mk_pad.proofs.occurrences.occurs.Given as goal

abbrev pub invariant-loop-term : goal.invariant-loop-term
invariant-loop-term l = occurs l.variable (take l.term-index l.terms) ≡ false
