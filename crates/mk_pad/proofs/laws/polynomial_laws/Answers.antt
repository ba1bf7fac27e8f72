use Rattle.mk_pad.proofs.Equal.{polynomial_laws-hold}
use Rattle.mk_pad.proofs.laws.polynomial_laws.Goals as goal

pub returns : goal.returns
returns c = polynomial_laws-hold
