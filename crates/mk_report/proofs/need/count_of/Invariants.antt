-- The bits of the words so far are counted.
use Rattle.std.proofs.Common.{◌≡◌, ◌*◌, ◌≤◌, length}
use Rattle.mk_report.specs.Rows.{bits_between}
use Rattle.mk_report.proofs.need.count_of.Given as goal

abbrev pub invariant-loop-word : goal.invariant-loop-word
invariant-loop-word l = (l.count ≡ length (bits_between l.row 0 (64 * l.word-index))) × (l.count ≤ 64 * l.word-index)
