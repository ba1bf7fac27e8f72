use Rattle.mk_pad.proofs.Rests.{rest-unique}
use Rattle.mk_pad.proofs.laws.rest_law.Goals as goal

pub returns : goal.returns
returns c = rest-unique
