-- The number of a pair is one of the numbers of pairs.
use Rattle.std.proofs.Common.{arith}
use Rattle.mk_gadget.proofs.Pairs.{pair_number-below}
use Rattle.mk_gadget.proofs.strong.pair_position.Goals as goal

pub overflow_add-pair : goal.overflow_add-pair
overflow_add-pair g c = omega (arith, c.pairs_before.ensures, pair_number-below g.row.N g.row.N c.args.low c.args.high (omega (arith, c.requires.order, c.requires.within)) c.requires.order c.requires.within, c.requires.order, c.requires.fits)

pub overflow_cast-result : goal.overflow_cast-result
overflow_cast-result g c = omega (arith, c.pairs_before.ensures, pair_number-below g.row.N g.row.N c.args.low c.args.high (omega (arith, c.requires.order, c.requires.within)) c.requires.order c.requires.within, c.requires.order, c.requires.fits)

pub overflow_mul-result : goal.overflow_mul-result
overflow_mul-result g c = omega (arith, c.pairs_before.ensures, pair_number-below g.row.N g.row.N c.args.low c.args.high (omega (arith, c.requires.order, c.requires.within)) c.requires.order c.requires.within, c.requires.order, c.requires.fits)

pub overflow_add-result : goal.overflow_add-result
overflow_add-result g c = omega (arith, c.pairs_before.ensures, pair_number-below g.row.N g.row.N c.args.low c.args.high (omega (arith, c.requires.order, c.requires.within)) c.requires.order c.requires.within, c.requires.order, c.requires.fits)
