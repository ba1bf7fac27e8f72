-- The checker was given what the events behind the line `code` gave.
use Rattle.std.proofs.Common.{◌≤◌, List, Option, ℕ}
use Rattle.mk_bundle.specs.Reads.{IsGoing, to_come}
use Rattle.mk_top.specs.Reading.{IsBegun}
use Rattle.mk_top.proofs.bundle.judged.Given as goal

abbrev pub invariant-loop-checker : goal.invariant-loop-checker
invariant-loop-checker g l = record {
  going : IsGoing l.reader;
  falls : g.S.Source.faults l.initial.src ≤ g.S.Source.faults l.src;
  begun : (before : Option (List ℕ)) → IsBegun before (g.S.Source.left l.initial.src) l.initial.reader l.initial.checker → IsBegun before (g.S.Source.left l.src) l.reader l.checker;
}

abbrev pub decreases-loop-checker : goal.decreases-loop-checker
decreases-loop-checker g l = to_come l.reader
