-- The last event was not answered yet.
use Rattle.mk_bundle.specs.Reads.{IsGoing, to_come}
use Rattle.mk_layer_rows.proofs.bundles.events.Given as goal

abbrev pub invariant-loop-events : goal.invariant-loop-events
invariant-loop-events l = IsGoing l.reader

abbrev pub decreases-loop-events : goal.decreases-loop-events
decreases-loop-events l = to_come l.reader
