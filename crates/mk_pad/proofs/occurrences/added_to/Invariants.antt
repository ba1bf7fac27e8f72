use Rattle.mk_pad.specs.Looking.{AreAdded}
use Rattle.mk_pad.proofs.occurrences.added_to.Given as goal

abbrev pub invariant-loop-variable : goal.invariant-loop-variable
invariant-loop-variable l = AreAdded l.shares l.variable l.variables l.terms l.added
