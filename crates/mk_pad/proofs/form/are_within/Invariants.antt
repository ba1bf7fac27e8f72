use Rattle.std.proofs.Common.{◌≤◌, ◌<◌, ◌↔◌, drop}
use Rattle.std.specs.List.{AllByRecursion}
use Rattle.mk_pad.proofs.form.are_within.Given as goal

abbrev pub invariant-loop-position : goal.invariant-loop-position
invariant-loop-position l =
    AllByRecursion (λ p. (l.first ≤ p) × (p < l.end)) l.positions ↔ AllByRecursion (λ p. (l.first ≤ p) × (p < l.end)) (drop l.position-index l.positions)
