use Rattle.mk_pad.proofs.Strengths.{strong-from_shown}
use Rattle.mk_pad.proofs.laws.strength_law.Goals as goal

pub returns : goal.returns
returns c = strong-from_shown
