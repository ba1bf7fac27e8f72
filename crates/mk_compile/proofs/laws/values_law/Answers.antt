-- The law of right values holds.
use Rattle.mk_compile.proofs.Whole.{right_values-hold}
use Rattle.mk_compile.proofs.laws.values_law.Goals as goal

pub returns : goal.returns
returns c = right_values-hold
