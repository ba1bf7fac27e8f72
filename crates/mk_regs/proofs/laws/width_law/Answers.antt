-- Each live entry stands in a register of its own.
use Rattle.mk_regs.proofs.Widths.{width-least}
use Rattle.mk_regs.proofs.laws.width_law.Goals as goal

pub returns : goal.returns
returns c = λ code r listing is. width-least code r listing.registers.0 is
