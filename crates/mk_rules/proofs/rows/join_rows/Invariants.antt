-- The words so far are joined, and the others as they were.
use Rattle.std.proofs.Common.{◌≡◌, ℕ, ◌<◌, ◌≤◌, length, slice_index, bit_or}
use Rattle.mk_rules.proofs.rows.join_rows.Given as goal

abbrev pub invariant-loop-k : goal.invariant-loop-k
invariant-loop-k l =
    (length l.row ≡ length l.fn.row)
    × ((j : ℕ) → j < l.k → slice_index l.row j ≡ bit_or (slice_index l.fn.row j) (slice_index l.other j))
    × ((j : ℕ) → l.k ≤ j → slice_index l.row j ≡ slice_index l.fn.row j)
