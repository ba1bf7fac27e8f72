-- The templates of operators that aren't strong are steady.
use Rattle.mk_gadget.proofs.Steady.{template-steady}
use Rattle.mk_gadget.proofs.laws.steady_law.Goals as goal

pub returns : goal.returns
returns c = template-steady
