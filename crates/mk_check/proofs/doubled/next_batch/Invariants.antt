-- The products so far are counted, and are at most 32.
use Rattle.std.proofs.Common.{◌≡◌, ◌⊎◌, ◌+◌, ◌-◌, ◌<◌, ◌≤◌, length}
use Rattle.mk_rules.specs.Products.{products_before}
use Rattle.mk_check.proofs.doubled.next_batch.Given as goal

abbrev pub invariant-loop-end : goal.invariant-loop-end
invariant-loop-end l = record {
  from : l.from ≤ l.end;
  within : l.end ≤ length l.blocks;
  start : (l.from < l.end) ⊎ (l.products ≡ 0);
  count : products_before l.blocks l.end ≡ products_before l.blocks l.from + l.products;
  few : l.products ≤ 32;
}

abbrev pub decreases-loop-end : goal.decreases-loop-end
decreases-loop-end l = length l.blocks - l.end
