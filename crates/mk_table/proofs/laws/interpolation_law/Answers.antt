-- The law of interpolation holds.
use Rattle.mk_table.proofs.Interpolation.{interpolated}
use Rattle.mk_table.proofs.laws.interpolation_law.Goals as goal

pub returns : goal.returns
returns c = interpolated
