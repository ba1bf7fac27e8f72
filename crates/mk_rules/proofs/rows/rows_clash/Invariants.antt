-- No word so far has a pair.
use Rattle.std.proofs.Common.{ℕ, ◌<◌, slice_index, bit_or}
use Rattle.mk_rules.specs.Rows.{HasPair}
use Rattle.mk_rules.proofs.rows.rows_clash.Given as goal

abbrev pub invariant-loop-k : goal.invariant-loop-k
invariant-loop-k l = (j : ℕ) → j < l.k → HasPair (bit_or (slice_index l.a j) (slice_index l.b j)) → ⊥
