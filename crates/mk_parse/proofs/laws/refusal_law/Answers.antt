use Rattle.mk_parse.proofs.Refusals.{one_place}
use Rattle.mk_parse.proofs.laws.refusal_law.Goals as goal

pub returns : goal.returns
returns c = one_place
