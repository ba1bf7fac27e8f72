use Rattle.std.proofs.Common.{◌≡◌, ℕ, ◌<◌, slice_index, nat_eq, if◌then◌else◌}
use Rattle.mk_pad.proofs.term.is_unit.Given as goal

abbrev pub invariant-loop-i : goal.invariant-loop-i
invariant-loop-i l = (k : ℕ) → k < l.i → slice_index l.exponents k ≡ (if nat_eq k l.place then 1 else 0)
