-- The law of different blocks holds.
use Rattle.mk_place.proofs.Differing.{laid-different}
use Rattle.mk_place.proofs.laws.different_law.Goals as goal

pub returns : goal.returns
returns c = laid-different
