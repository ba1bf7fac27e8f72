use Rattle.std.proofs.Common.{◌≡◌, [], cond, take}
use Rattle.std.specs.List.{filter}
use Rattle.mk_pad.specs.Positions.{variable}
use Rattle.mk_pad.specs.Shown.{has_variable}
use Rattle.mk_pad.proofs.occurrences.is_added.Given as goal

abbrev pub invariant-loop-term : goal.invariant-loop-term
invariant-loop-term l = filter (has_variable l.variable) (take l.term-index l.terms) ≡ cond l.found (variable l.variables l.variable) []
