-- The sink has taken the piece as far as `start`.
use Rattle.std.proofs.Common.{length, ◌-◌, ◌≡◌, ◌≤◌, ◌++◌, Some, IfSome, take}
use Rattle.mk_base.proofs.streams.write_all.Given as goal

abbrev pub invariant-loop-start : goal.invariant-loop-start
invariant-loop-start g l = record {
  within : l.start ≤ length l.piece;
  taken : IfSome (g.O.Sink.taken l.initial.sink) (λ before. g.O.Sink.taken l.sink ≡ Some (before ++ take l.start l.piece));
  falls : g.O.Sink.faults l.initial.sink ≤ g.O.Sink.faults l.sink;
}

abbrev pub decreases-loop-start : goal.decreases-loop-start
decreases-loop-start g l = length l.piece - l.start
