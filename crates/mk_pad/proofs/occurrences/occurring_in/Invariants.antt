use Rattle.std.proofs.Common.{◌≡◌, map}
use Rattle.std.specs.List.{range_with_len}
use Rattle.mk_pad.specs.Shown.{occurs}
use Rattle.mk_pad.proofs.occurrences.occurring_in.Given as goal

abbrev pub invariant-loop-variable : goal.invariant-loop-variable
invariant-loop-variable l = l.occurring ≡ map (λ v. occurs v l.terms) (range_with_len 0 l.variable)
