-- A placed gadget computes what it computes alone.
use Rattle.mk_gadget.proofs.Placed.{PlacedLaw-holds}
use Rattle.mk_gadget.proofs.laws.placed_law.Goals as goal

pub returns : goal.returns
returns c = PlacedLaw-holds
