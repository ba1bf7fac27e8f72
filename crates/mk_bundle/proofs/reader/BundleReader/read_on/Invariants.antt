-- The lines that were read so far have no events of their own.
use Rattle.std.proofs.Common.{◌≡◌, ◌≤◌, ◌++◌, ℕ, List, None}
use Rattle.mk_bundle.specs.declared.event.Event.{Event}
use Rattle.mk_bundle.specs.Taking.{Comes}
use Rattle.mk_bundle.specs.Reads.{IsGoing, to_come, Read}
use Rattle.mk_bundle.proofs.reader.BundleReader.read_on.Given as goal

abbrev pub invariant-loop-event : goal.invariant-loop-event
invariant-loop-event g l = record {
  going : IsGoing l.self;
  waiting : l.self.waiting ≡ None;
  limit : l.self.limit ≡ l.initial.self.limit;
  fewer : to_come l.self ≤ to_come l.initial.self;
  read : (taken : List ℕ) (events : List Event) → Read l.initial.self taken events
      → (came : List ℕ) × Comes came (g.S.Source.left l.initial.src) (g.S.Source.left l.src) × Read l.self (taken ++ came) events;
  falls : g.S.Source.faults l.initial.src ≤ g.S.Source.faults l.src;
}

abbrev pub decreases-loop-event : goal.decreases-loop-event
decreases-loop-event g l = to_come l.self
