-- A count has one table.
use Rattle.mk_run.proofs.OneTable.{one-table}
use Rattle.mk_run.proofs.table.table_law.Goals as goal

pub returns : goal.returns
returns c = one-table
