use Rattle.std.proofs.Common.{◌≤◌, ◌<◌, ℕ, List, length}
use Rattle.std.specs.List.{AllByRecursion}
use Rattle.mk_pad.specs.declared.TheConstants.{MOST_PROBES}
use Rattle.mk_pad.specs.Form.{position_count}
use Rattle.mk_pad.specs.Shown.{Leaves}
use Rattle.mk_pad.proofs.shown.rest_of.Given as goal

abbrev pub invariant-loop-position : goal.invariant-loop-position
invariant-loop-position l =
    ((taken : List ℕ) × Leaves l.gadget taken l.set l.left.items) × AllByRecursion (λ p. p < position_count l.gadget) l.left.items
    × (length l.left.items ≤ MOST_PROBES)

abbrev pub decreases-loop-position : goal.decreases-loop-position
decreases-loop-position l = length l.left.items
