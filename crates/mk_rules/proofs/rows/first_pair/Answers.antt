-- The lowest bit that stands for a pair is that of the first one.
use Rattle.mk_rules.proofs.RowBits.{lowest-pair}
use Rattle.mk_rules.proofs.rows.first_pair.Goals as goal

pub returns-clause-pair : goal.returns-clause-pair
returns-clause-pair c = (lowest-pair c.args.word c.pairs-pairs.result c.pairs-pairs.type_inv c.pairs-pairs.ensures c.if-pairs-eq0.false).0

pub returns-clause-first : goal.returns-clause-first
returns-clause-first c = (lowest-pair c.args.word c.pairs-pairs.result c.pairs-pairs.type_inv c.pairs-pairs.ensures c.if-pairs-eq0.false).1
