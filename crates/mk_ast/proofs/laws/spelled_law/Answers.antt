use Rattle.mk_ast.proofs.SpelledProgram.{spelled_is_regular}
use Rattle.mk_ast.proofs.laws.spelled_law.Goals as goal

pub returns : goal.returns
returns c = spelled_is_regular
