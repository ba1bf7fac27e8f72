-- A word has a pair where some bit stands for one.
use Rattle.mk_rules.proofs.RowBits.{no-pair, lowest-pair, test-some, some-test}
use Rattle.mk_rules.proofs.rows.has_pair.Goals as goal

pub returns : goal.returns
returns c = (
  λ some. (_, (lowest-pair c.args.word c.pairs.result c.pairs.type_inv c.pairs.ensures (test-some _ some)).0),
  λ pair. some-test _ (λ none. no-pair c.args.word c.pairs.result c.pairs.type_inv c.pairs.ensures none pair.0 pair.1),
)
