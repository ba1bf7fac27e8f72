-- The lines of the outputs so far were passed on; with those that are left they are all, and enough numbers are left. Those so far have 32 bits.
use Rattle.std.proofs.Common.{◌≡◌, ◌≤◌, ◌<◌, ◌*◌, ◌-◌, ◌^◌, ◌/◌, ◌++◌, ℕ, List, length}
use Rattle.std.specs.List.{AllByRecursion}
use Rattle.mk_lines.specs.CodeLines.{out_lines}
use Rattle.mk_bundle.specs.Passing.{Sends}
use Rattle.mk_bundle.proofs.write.put_outs.Given as goal

abbrev pub invariant-loop-output : goal.invariant-loop-output
invariant-loop-output g l = record {
  room : (l._output-end - l._output) * l.shares ≤ length l.rest;
  sends : (done : List ℕ)
      × Sends (g.O.Sink.taken l.initial.out) l.initial.piece.bytes done (g.O.Sink.taken l.out) l.piece.bytes
      × (done ++ out_lines l.shares (l._output-end - l._output) l.rest ≡ out_lines l.shares (length l.outs / l.shares) l.outs);
  fits : (passed : List ℕ) × (passed ++ l.rest ≡ l.outs) × (length passed ≡ l._output * l.shares) × AllByRecursion (λ n. n < 2 ^ 32) passed;
  falls : g.O.Sink.faults l.initial.out ≤ g.O.Sink.faults l.out;
}
