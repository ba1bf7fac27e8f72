-- The parts are what the events so far give.
use Rattle.std.proofs.Common.{◌≡◌, ◌≤◌, ℕ, List}
use Rattle.mk_bundle.specs.declared.event.Event.{Event}
use Rattle.mk_bundle.specs.Taking.{Comes}
use Rattle.mk_bundle.specs.Reads.{IsGoing, to_come, Read}
use Rattle.mk_bundle.specs.Gathering.{gathered_of, nothing, gather_all}
use Rattle.mk_bundle.proofs.collect.collect_bundle.Given as goal

abbrev pub invariant-loop-parts : goal.invariant-loop-parts
invariant-loop-parts g l = record {
  going : IsGoing l.reader;
  limit : l.reader.limit ≡ l.limit;
  read : (taken : List ℕ) × (events : List Event) × Comes taken (g.S.Source.left l.initial.src) (g.S.Source.left l.src) × Read l.reader taken events × (gathered_of l.parts ≡ gather_all nothing events);
  falls : g.S.Source.faults l.initial.src ≤ g.S.Source.faults l.src;
}

abbrev pub decreases-loop-parts : goal.decreases-loop-parts
decreases-loop-parts g l = to_come l.reader
