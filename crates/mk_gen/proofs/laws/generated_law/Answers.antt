-- The law of generated texts holds.
use Rattle.mk_gen.proofs.Spelled.{generated_program}
use Rattle.mk_gen.proofs.laws.generated_law.Goals as goal

pub returns : goal.returns
returns c = generated_program
