-- The law of reports.
use Rattle.mk_report.proofs.Texts.{report-one, kind-of-line, public-none, total-is}
use Rattle.mk_report.proofs.laws.report_law.Goals as goal

pub returns-clause-one : goal.returns-clause-one
returns-clause-one c = report-one

pub returns-clause-kinds : goal.returns-clause-kinds
returns-clause-kinds c = kind-of-line

pub returns-clause-public : goal.returns-clause-public
returns-clause-public c = public-none

pub returns-clause-total : goal.returns-clause-total
returns-clause-total c = total-is
