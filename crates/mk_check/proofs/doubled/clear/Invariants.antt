-- The words so far have no bit.
use Rattle.std.proofs.Common.{◌≡◌, ◌<◌, ℕ, slice_index}
use Rattle.mk_check.proofs.doubled.clear.Given as goal

abbrev pub invariant-loop-number : goal.invariant-loop-number
invariant-loop-number l = (v : ℕ) → v < l.number → slice_index l.marks v ≡ 0
