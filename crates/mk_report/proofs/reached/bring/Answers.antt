-- The bit for a place is within the row.
use Rattle.std.proofs.Common.{arith, length}
use Rattle.std.proofs.lemmas.Option.{slice_get-get_or}
use Rattle.mk_ssa.specs.declared.Op.TheVariants.{Const}
use Rattle.mk_report.specs.Passing.{block_at}
use Rattle.mk_rules.proofs.Counting.{products-more}
use Rattle.mk_report.proofs.reached.bring.Goals as goal

pub set_bit-requires : goal.set_bit-requires
set_bit-requires c =
    let below = c.requires.ready.behind.0 in
    let more =
    products-more c.args.blocks.now c.args.place.value (length c.args.blocks.now) (block_at c.args.blocks.now c.args.place.value)
    (slice_get-get_or c.args.blocks.now c.args.place.value (Const 0) below) (c.is_product.ensures.0 c.if-is_product.true) below in
    omega (arith, c.requires.numbers c.args.place.value (omega (arith, below)), more, c.requires.room, c.requires.ready.two)
