-- A write shows at most two positions.
use Rattle.mk_regs.proofs.Privacy.{renaming-laws}
use Rattle.mk_regs.proofs.Writes.{writes-private}
use Rattle.mk_regs.proofs.laws.transitions_law.Goals as goal

pub returns : goal.returns
returns c = λ r code listing is private. writes-private r ((renaming-laws r code listing.registers.0 is).private.1 private)
