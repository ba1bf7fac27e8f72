-- Some bytes came, at most as many as may come.
use Rattle.std.proofs.Common.{◌≡◌, ◌≤◌, ◌+◌, ◌-◌, ℕ, List, length}
use Rattle.mk_bundle.specs.Taking.{Comes}
use Rattle.mk_bundle.proofs.input.Input.drain.Given as goal

abbrev pub invariant-loop-count : goal.invariant-loop-count
invariant-loop-count g l = record {
  came : (came : List ℕ) × Comes came (g.S.Source.left l.initial.src) (g.S.Source.left l.src) × (l.self.count ≡ l.initial.self.count + length came);
  pending : l.self.pending ≡ l.initial.self.pending;
  limit : l.self.limit ≡ l.initial.self.limit;
  within : l.self.count ≤ l.self.limit;
  falls : g.S.Source.faults l.initial.src ≤ g.S.Source.faults l.src;
}

abbrev pub decreases-loop-count : goal.decreases-loop-count
decreases-loop-count g l = l.self.limit + 1 - l.self.count
