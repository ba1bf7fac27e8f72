-- A block of the batch has a number if it is a product.
use Rattle.std.proofs.Common.{◌≡◌, ◌-◌, ◌<◌, ℕ, slice_index_or, length, Some, ap, arith}
use Rattle.std.proofs.lemmas.Option.{same_Some}
use Rattle.mk_ssa.specs.declared.Op.TheVariants.{Const}
use Rattle.mk_rules.proofs.Counting.{product-one, products-up}
use Rattle.mk_check.proofs.Marking.{counted-next, product-numbered, numbered-product}
use Rattle.mk_check.proofs.doubled.product_number.Goals as goal
use Rattle.mk_check.proofs.doubled.product_number.Goals.{else-block-batch-via-then-block-batch+else-is_product, else-block-batch-via-else-block-batch}

pub overflow_sub-result : goal.overflow_sub-result
overflow_sub-result c =
    let within : c.args.block < length c.args.blocks.now = omega (arith, c.requires.there, c.requires.batch.within) in
    let op = slice_index_or c.args.blocks.now c.args.block (Const 0) in
    omega (
      arith,
      counted-next c.args.blocks.now c.args.block within,
      product-one op (c.is_product.ensures.0 c.if-is_product.true),
      products-up c.args.blocks.now c.args.batch.from c.args.block c.if-block-batch.true,
      c.requires.count c.if-block-batch.true,
    )

pub returns-then-is_product : goal.returns-then-is_product
returns-then-is_product c r =
    let within : c.args.block < length c.args.blocks.now = omega (arith, c.requires.there, c.requires.batch.within) in
    let op = slice_index_or c.args.blocks.now c.args.block (Const 0) in
    let next = counted-next c.args.blocks.now c.args.block within in
    let one = product-one op (c.is_product.ensures.0 c.if-is_product.true) in
    let up = products-up c.args.blocks.now c.args.batch.from c.args.block c.if-block-batch.true in
    let count = c.requires.count c.if-block-batch.true in (
      λ is. product-numbered c.args.blocks.now c.args.batch c.args.block r c.if-block-batch.true c.requires.there within
          (c.is_product.ensures.0 c.if-is_product.true) (omega (arith, next, one, up, count, same_Some (c.args.products - 1) r is)),
      λ numbered. let e : c.args.products - 1 ≡ r = omega (arith, next, one, count, numbered.number) in ap (λ (n : ℕ). Some n) e,
    )

pub returns-else-block-batch : goal.returns-else-block-batch
returns-else-block-batch c r =
    let within : c.args.block < length c.args.blocks.now = omega (arith, c.requires.there, c.requires.batch.within) in (
      λ is. absurd (cc (is)),
      λ numbered. absurd (elim c.else-block-batch.branch [
        | else-block-batch-via-then-block-batch+else-is_product w ↦
            cc (w.is_product.ensures.1 (numbered-product c.args.blocks.now c.args.batch c.args.block r within numbered), w.if-is_product.false)
        | else-block-batch-via-else-block-batch w ↦ omega (arith, numbered.from, w.if-block-batch.false)
      ]),
    )
