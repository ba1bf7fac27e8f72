-- The causes exclude each other.
use Rattle.mk_check.proofs.Verdicts.{accepted-not_refused, refused-once}
use Rattle.mk_check.proofs.verdict_law.Goals as goal

pub returns-clause-accepted : goal.returns-clause-accepted
returns-clause-accepted c = accepted-not_refused

pub returns-clause-one : goal.returns-clause-one
returns-clause-one c = refused-once
