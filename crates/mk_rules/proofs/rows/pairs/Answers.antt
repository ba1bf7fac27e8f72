-- Both bits of a pair are one bit of even number.
use Rattle.mk_rules.proofs.RowBits.{pair-bits}
use Rattle.mk_rules.proofs.rows.pairs.Goals as goal

pub returns : goal.returns
returns c = pair-bits c.args.word
