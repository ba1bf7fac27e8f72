use Rattle.mk_pad.proofs.Right.{positions_law-holds}
use Rattle.mk_pad.proofs.laws.positions_law.Goals as goal

pub returns : goal.returns
returns c = positions_law-holds
