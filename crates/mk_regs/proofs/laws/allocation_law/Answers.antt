-- What is allocated is determined instruction by instruction.
use Rattle.mk_regs.proofs.Unique.{allocated-one}
use Rattle.mk_regs.proofs.laws.allocation_law.Goals as goal

pub returns : goal.returns
returns c = allocated-one
