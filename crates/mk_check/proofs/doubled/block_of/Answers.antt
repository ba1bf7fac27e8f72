-- A block that is no product, or one before that which is asked for, is passed over.
use Rattle.std.proofs.Common.{◌<◌, length, slice_index_or, arith}
use Rattle.mk_ssa.specs.declared.Op.TheVariants.{Const}
use Rattle.mk_rules.proofs.Counting.{product-none, product-one}
use Rattle.mk_check.proofs.Marking.{counted-next}
use Rattle.mk_check.proofs.doubled.block_of.Goals as goal
use Rattle.mk_check.proofs.doubled.block_of.Goals.{then-is_product+else-left-eq0, else-is_product}

pub loop-block-preserved : goal.loop-block-preserved
loop-block-preserved c =
    let within : c.loop-block.block < length c.args.blocks.now = omega (arith, c.loop-block-test.true, c.requires.batch.within) in
    let next = counted-next c.args.blocks.now c.loop-block.block within in
    let op = slice_index_or c.args.blocks.now c.loop-block.block (Const 0) in
    record {
      from = omega (arith, c.loop-block.invariant.from);
      before = omega (arith, c.loop-block-test.true);
      left = elim c.if-is_product.branch [
        | then-is_product+else-left-eq0 w ↦
            omega (arith, next, product-one op (c.is_product.ensures.0 w.if-is_product.true), c.loop-block.invariant.left, w.left-is, w.if-left-eq0.false)
        | else-is_product w ↦
            omega (arith, next, product-none op (λ is. absurd (cc (c.is_product.ensures.1 is, w.if-is_product.false))), c.loop-block.invariant.left, w.left-is)
      ];
    }
