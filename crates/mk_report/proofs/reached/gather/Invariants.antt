-- The row has what the uses so far bring.
use Rattle.std.proofs.Common.{◌≡◌, length, take}
use Rattle.mk_report.specs.Passing.{IsGathered}
use Rattle.mk_report.proofs.reached.gather.Given as goal

abbrev pub invariant-loop-at : goal.invariant-loop-at
invariant-loop-at l = (length l.row.items ≡ l.index.words) × IsGathered l.blocks l.rows (take l.at l.uses) l.row.items
