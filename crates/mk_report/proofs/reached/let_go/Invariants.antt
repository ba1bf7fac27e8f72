-- As many rows are there, and those of blocks that have an earlier operand are as they were.
use Rattle.std.proofs.Common.{◌≡◌, ℕ, length}
use Rattle.mk_rules.specs.Shape.{shape_of}
use Rattle.mk_report.specs.Passing.{HasEarlier, block_at, row_at}
use Rattle.mk_report.proofs.reached.let_go.Given as goal

abbrev pub invariant-loop-at : goal.invariant-loop-at
invariant-loop-at l = record {
  count : length l.rows.items ≡ length l.initial.rows.items;
  kept : (b : ℕ) → HasEarlier (shape_of l.code) (block_at l.blocks b) l.number → row_at l.blocks l.rows.items b ≡ row_at l.blocks l.initial.rows.items b;
}
