-- The number of a pair is one of the numbers of pairs.
use Rattle.std.proofs.Common.{arith, ◌<◌}
use Rattle.mk_gadget.proofs.Pairs.{pair_number-below}
use Rattle.mk_gadget.proofs.strong.cell_position.Goals as goal

pub overflow_add-result : goal.overflow_add-result
overflow_add-result g c =
    let less : c.args.column < c.args.row = omega (arith, c.requires.other, c.if-row-column.false) in
    omega (arith, c.pair_position-else-row-column.ensures, pair_number-below g.row.N g.row.N c.args.column c.args.row c.requires.column less c.requires.row, c.requires.fits)
