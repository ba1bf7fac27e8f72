-- The laws of renaming hold.
use Rattle.mk_regs.proofs.Privacy.{renaming-laws}
use Rattle.mk_regs.proofs.laws.renaming_law.Goals as goal

pub returns : goal.returns
returns c = λ r code listing is. renaming-laws r code listing.registers.0 is
