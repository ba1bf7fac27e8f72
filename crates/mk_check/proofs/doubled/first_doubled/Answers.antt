-- The first clash of a batch is the first doubled value, and where there is none the next batch follows.
use Rattle.std.proofs.Common.{arith}
use Rattle.mk_check.specs.Outlines.{outlined}
use Rattle.mk_check.proofs.Marking.{batch-own, numbered-few, both-doubled, clash-none, clash-first, all-undoubled}
use Rattle.mk_check.proofs.doubled.first_doubled.Goals as goal

pub block_of-block-requires-clause-there : goal.block_of-block-requires-clause-there
block_of-block-requires-clause-there c =
    let shape = outlined c.args.outline.now in
    let batch = c.next_batch-batch.result in
    let own = batch-own c.args.blocks.now c.loop-from.from batch c.next_batch-batch.ensures in
    let found = both-doubled shape c.args.blocks.now batch c.requires.wired own c.mark_all.new.marks c.mark_all.ensures c.in-Some.clash.product
    c.in-Some.clash.value c.in-Some.ensures.both in
    numbered-few shape c.args.blocks.now batch c.in-Some.clash.product found.0 own found.1

pub returns-in-Some-clause-first : goal.returns-in-Some-clause-first
returns-in-Some-clause-first c =
    let shape = outlined c.args.outline.now in
    let batch = c.next_batch-batch.result in
    let own = batch-own c.args.blocks.now c.loop-from.from batch c.next_batch-batch.ensures in
    clash-first shape c.args.blocks.now batch c.requires.wired own c.mark_all.new.marks c.mark_all.ensures
    (λ s v early. c.loop-from.invariant.none s v (omega (arith, early, c.next_batch-batch.ensures.starts)))
    c.in-Some.clash.product c.in-Some.clash.value c.block_of-block.result c.value_at.result c.in-Some.ensures.both c.block_of-block.ensures
    c.in-Some.ensures.first c.value_at.ensures

pub loop-from-preserved : goal.loop-from-preserved
loop-from-preserved c =
    let shape = outlined c.args.outline.now in
    let batch = c.next_batch-batch.result in
    let own = batch-own c.args.blocks.now c.loop-from.from batch c.next_batch-batch.ensures in
    record {
      count = c.mark_all.ensures.count;
      none = λ s v low doubled.
          clash-none shape c.args.blocks.now batch c.requires.wired own c.mark_all.new.marks c.mark_all.ensures
          (λ q w early. c.loop-from.invariant.none q w (omega (arith, early, c.next_batch-batch.ensures.starts)))
          (λ r w both. c.in_default.ensures.first r w both) s v low doubled;
    }

pub returns-clause-none : goal.returns-clause-none
returns-clause-none c =
    all-undoubled (outlined c.args.outline.now) c.args.blocks.now c.loop-from.from c.loop-from-test.false c.loop-from.invariant.none
