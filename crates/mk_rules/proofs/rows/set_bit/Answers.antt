-- The word where the bit stands has one bit more.
use Rattle.mk_rules.proofs.RowBits.{with-bit}
use Rattle.mk_rules.proofs.rows.set_bit.Goals as goal

pub returns-clause-bits : goal.returns-clause-bits
returns-clause-bits c = with-bit c.args.row.now c.args.k c.requires
