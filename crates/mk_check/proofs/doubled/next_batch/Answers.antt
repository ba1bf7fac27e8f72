-- One block more, which counts if it is a product.
use Rattle.std.proofs.Common.{◌≡◌, ◌+◌, ◌≤◌, slice_index_or, inl, arith}
use Rattle.mk_ssa.specs.declared.Op.TheVariants.{Const}
use Rattle.mk_rules.specs.Products.{products_before}
use Rattle.mk_rules.proofs.Counting.{product-none, product-one}
use Rattle.mk_check.proofs.Marking.{counted-next}
use Rattle.mk_check.proofs.doubled.next_batch.Goals as goal
use Rattle.mk_check.proofs.doubled.next_batch.Goals.{then-is_product, else-is_product}

pub loop-end-preserved : goal.loop-end-preserved
loop-end-preserved c =
    let next = counted-next c.args.blocks.now c.loop-end.end c.loop-end-test.true in
    let op = slice_index_or c.args.blocks.now c.loop-end.end (Const 0) in
    let count : (products_before c.args.blocks.now (c.loop-end.end + 1) ≡ products_before c.args.blocks.now c.args.from + c.if-is_product.products)
    × (c.if-is_product.products ≤ 32) = elim c.if-is_product.branch [
      | then-is_product w ↦ (
        omega (arith, next, product-one op (c.is_product.ensures.0 w.if-is_product.true), c.loop-end.invariant.count, w.products-is),
        omega (arith, c.if-products-lt-BATCH.true, w.products-is),
      )
      | else-is_product w ↦ (
        omega (arith, next, product-none op (λ is. absurd (cc (c.is_product.ensures.1 is, w.if-is_product.false))), c.loop-end.invariant.count, w.products-is),
        omega (arith, c.loop-end.invariant.few, w.products-is),
      )
    ] in
    record {
      from = omega (arith, c.loop-end.invariant.from);
      within = omega (arith, c.loop-end-test.true);
      start = inl (omega (arith, c.loop-end.invariant.from));
      count = count.0;
      few = count.1;
    }
