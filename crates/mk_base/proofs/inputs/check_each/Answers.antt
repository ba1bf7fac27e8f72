-- No input is no element.
use Rattle.std.proofs.Common.{sym, ◌∙◌}
use Rattle.mk_base.proofs.Wanted.{below-all}
use Rattle.mk_base.proofs.inputs.check_each.Goals as goal

pub returns-in-None-clause-elements : goal.returns-in-None-clause-elements
returns-in-None-clause-elements c = below-all c.args.size c.args.inputs.now (sym c.first_other.ensures ∙ c.in-None.is)
