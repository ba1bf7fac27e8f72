use Rattle.mk_parse.proofs.Refusals.{one_program}
use Rattle.mk_parse.proofs.laws.spelling_law.Goals as goal

pub returns : goal.returns
returns c = one_program
