-- The laws hold in each of the two fields.
use Rattle.mk_field.proofs.Sum.{sum_laws-hold}
use Rattle.mk_field.proofs.laws.sum_laws.Goals as goal

pub returns : goal.returns
returns c = sum_laws-hold
