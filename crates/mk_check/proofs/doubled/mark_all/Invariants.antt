-- The marks say what is reached by uses in the blocks so far, from behind.
use Rattle.std.proofs.Common.{◌≡◌, ◌+◌, ◌≤◌}
use Rattle.mk_check.specs.Outlines.{outlined}
use Rattle.mk_rules.specs.Products.{products_before}
use Rattle.mk_check.specs.Passing.{AreMarks}
use Rattle.mk_check.proofs.doubled.mark_all.Given as goal

abbrev pub invariant-loop-block : goal.invariant-loop-block
invariant-loop-block l = record {
  before : l.block ≤ l.batch.end;
  marks : AreMarks (outlined l.outline) l.blocks l.batch l.block l.marks;
  number : l.batch.from ≤ l.block → products_before l.blocks l.block ≡ products_before l.blocks l.batch.from + l.products;
}

abbrev pub decreases-loop-block : goal.decreases-loop-block
decreases-loop-block l = l.block
