-- The laws of runs hold.
use Rattle.mk_code.proofs.Runs.{run_laws-hold}
use Rattle.mk_code.proofs.laws.run_laws.Goals as goal

pub returns : goal.returns
returns c = run_laws-hold
