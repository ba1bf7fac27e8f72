-- The first pair of the words so far.
use Rattle.std.proofs.Common.{◌≡◌, ◌⊎◌, ◌<◌, ◌≤◌, ℕ, IfSome, IsSomeAnd}
use Rattle.mk_check.specs.Passing.{HasBoth}
use Rattle.mk_check.proofs.doubled.first_clash.Given as goal

abbrev pub invariant-loop-value : goal.invariant-loop-value
invariant-loop-value l = record {
  both : IfSome l.first (λ clash. HasBoth l.marks clash.product clash.value × (clash.value < l.value));
  first : (r v : ℕ) → v < l.value → HasBoth l.marks r v
      → IsSomeAnd l.first (λ clash. (clash.product < r) ⊎ ((clash.product ≡ r) × (clash.value ≤ v)));
}
