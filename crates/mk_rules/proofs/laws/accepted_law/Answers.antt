-- What the rule accepts is private.
use Rattle.mk_rules.proofs.Accepted.{accepted-private}
use Rattle.mk_rules.proofs.laws.accepted_law.Goals as goal

pub returns : goal.returns
returns c = accepted-private
