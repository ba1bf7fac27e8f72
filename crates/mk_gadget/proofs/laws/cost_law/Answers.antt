-- What the product and the refresh cost follows from the number of pairs.
use Rattle.mk_gadget.proofs.Costs.{CostLaw-holds}
use Rattle.mk_gadget.proofs.laws.cost_law.Goals as goal

pub returns : goal.returns
returns c = CostLaw-holds
