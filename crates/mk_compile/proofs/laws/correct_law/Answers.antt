-- The law of correct code holds.
use Rattle.mk_compile.proofs.Corrects.{made-correct}
use Rattle.mk_compile.proofs.laws.correct_law.Goals as goal

pub returns : goal.returns
returns c = made-correct
