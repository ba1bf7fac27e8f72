-- So many products are left before the one that is asked for.
use Rattle.std.proofs.Common.{◌≡◌, ◌+◌, ◌-◌, ◌≤◌}
use Rattle.mk_rules.specs.Products.{products_before}
use Rattle.mk_check.proofs.doubled.block_of.Given as goal

abbrev pub invariant-loop-block : goal.invariant-loop-block
invariant-loop-block l = record {
  from : l.batch.from ≤ l.block;
  before : l.block ≤ l.batch.end;
  left : products_before l.blocks l.block + l.left ≡ products_before l.blocks l.batch.from + l.product;
}

abbrev pub decreases-loop-block : goal.decreases-loop-block
decreases-loop-block l = l.batch.end - l.block
