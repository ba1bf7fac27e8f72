-- An observer of few positions sees nothing of some column.
use Rattle.mk_code.proofs.Columns.{HasColumns-private, columns-depend}
use Rattle.mk_code.proofs.laws.columns_law.Goals as goal

pub returns : goal.returns
returns c = record { private = HasColumns-private; depends = columns-depend }
