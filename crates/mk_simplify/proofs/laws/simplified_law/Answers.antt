-- The law holds.
use Rattle.mk_simplify.proofs.Only.{simplified-only}
use Rattle.mk_simplify.proofs.laws.simplified_law.Goals as goal

pub returns : goal.returns
returns c = simplified-only
