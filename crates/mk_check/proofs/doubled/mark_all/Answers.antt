-- A block passes on what its own word says, and a product of the batch its places.
use Rattle.std.proofs.Common.{◌≡◌, ◌+◌, ◌-◌, ◌<◌, ℕ, Option, Some, None, IfSome, length, slice_index_or, sym, ◌∙◌, ap, subst, refl, arith}
use Rattle.std.proofs.lemmas.Option.{slice_get-get_or}
use Rattle.mk_ssa.specs.declared.Op.TheVariants.{Const}
use Rattle.mk_check.specs.Outlines.{outlined}
use Rattle.mk_rules.specs.Products.{products_before}
use Rattle.mk_check.specs.Passing.{AreMarks}
use Rattle.mk_check.proofs.Marking.{operand-there, numbered-few, marks-none, marks-next, counted-back}
use Rattle.mk_check.proofs.doubled.mark_all.Goals as goal

pub loop-block-init : goal.loop-block-init
loop-block-init c = record {
  before = omega arith;
  marks =
      marks-none (outlined c.args.outline.now) c.args.blocks.now c.args.batch c.requires.wired c.clear.new.marks
      (c.clear.ensures.count ∙ c.requires.count) c.clear.ensures.none;
  number = λ from. c.requires.batch.count;
}

pub pass_on-requires-clause-first : goal.pass_on-requires-clause-first
pass_on-requires-clause-first c =
    let within : c.loop-block.block - 1 < length c.args.blocks.now = omega (arith, c.loop-block-test.true, c.loop-block.invariant.before, c.requires.batch.within) in
    operand-there (outlined c.args.outline.now) c.args.blocks.now c.requires.wired (c.loop-block.block - 1)
    (slice_index_or c.args.blocks.now (c.loop-block.block - 1) (Const 0)) 0 (length c.loop-block.marks)
    (slice_get-get_or c.args.blocks.now (c.loop-block.block - 1) (Const 0) within) c.loop-block.invariant.marks.count

pub pass_on-requires-clause-second : goal.pass_on-requires-clause-second
pass_on-requires-clause-second c =
    let within : c.loop-block.block - 1 < length c.args.blocks.now = omega (arith, c.loop-block-test.true, c.loop-block.invariant.before, c.requires.batch.within) in
    operand-there (outlined c.args.outline.now) c.args.blocks.now c.requires.wired (c.loop-block.block - 1)
    (slice_index_or c.args.blocks.now (c.loop-block.block - 1) (Const 0)) 1 (length c.loop-block.marks)
    (slice_get-get_or c.args.blocks.now (c.loop-block.block - 1) (Const 0) within) c.loop-block.invariant.marks.count

pub pass_on-requires-clause-few : goal.pass_on-requires-clause-few
pass_on-requires-clause-few c = few c.product_number-product.result refl
  where
    few : (o : Option ℕ) → c.product_number-product.result ≡ o → IfSome o (λ r. r < 32)
    few None is = tt
    few (Some r) is =
        omega (
          arith,
          numbered-few (outlined c.args.outline.now) c.args.blocks.now c.args.batch r (c.loop-block.block - 1) c.requires.batch
              ((c.product_number-product.ensures r).0 is),
          c.requires.batch.few,
        )

pub loop-block-preserved : goal.loop-block-preserved
loop-block-preserved c =
    let k : ℕ = c.loop-block.block - 1 in
    let within : k < length c.args.blocks.now = omega (arith, c.loop-block-test.true, c.loop-block.invariant.before, c.requires.batch.within) in
    let here : k + 1 ≡ c.loop-block.block = omega (arith, c.loop-block-test.true) in
    record {
      before = omega (arith, c.loop-block.invariant.before);
      marks =
          marks-next (outlined c.args.outline.now) c.args.blocks.now c.args.batch c.requires.wired k (slice_index_or c.args.blocks.now k (Const 0))
          (slice_get-get_or c.args.blocks.now k (Const 0) within) c.product_number-product.result c.product_number-product.ensures
          c.loop-block.marks c.pass_on.new.marks
          (subst (λ (n : ℕ). AreMarks (outlined c.args.outline.now) c.args.blocks.now c.args.batch n c.loop-block.marks) (sym here) c.loop-block.invariant.marks)
          c.pass_on.ensures.marks c.pass_on.ensures.count;
      number = λ from.
          counted-back c.args.blocks.now c.args.batch k c.loop-block.products c.product_number-product.result c.product_number-product.ensures from
          (omega (arith, c.loop-block-test.true, c.loop-block.invariant.before)) within
          (ap (products_before c.args.blocks.now) here ∙ c.loop-block.invariant.number (omega (arith, from)))
          ∙ ap (λ (n : ℕ). products_before c.args.blocks.now c.args.batch.from + n) (sym c.unwrap_or-products.ensures);
    }
