-- The bytes so far are those that came, at most as many as the limit.
use Rattle.std.proofs.Common.{length, ◌-◌, ◌≤◌, ◌+◌, IfSome}
use Rattle.mk_base.proofs.Told.{Came}
use Rattle.mk_base.proofs.streams.read_all.Given as goal

abbrev pub invariant-loop-bytes : goal.invariant-loop-bytes
invariant-loop-bytes g l = record {
  few : length l.bytes.items ≤ l.limit;
  came : IfSome (g.S.Source.left l.initial.src) (λ rest. Came l.bytes.items rest (g.S.Source.left l.src));
  falls : g.S.Source.faults l.initial.src ≤ g.S.Source.faults l.src;
}

abbrev pub decreases-loop-bytes : goal.decreases-loop-bytes
decreases-loop-bytes g l = l.limit + 1 - length l.bytes.items
