-- Register code computes what the code does that it is renamed to.
use Rattle.mk_top.proofs.Renamed.{correct-renamed}
use Rattle.mk_top.proofs.registers.correctness_law.Goals as goal

pub returns : goal.returns
returns c = correct-renamed
