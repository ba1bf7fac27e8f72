-- So many of the last values are told of, and the rows that are to be passed on to earlier ones are there.
use Rattle.std.proofs.Common.{◌≡◌, ◌+◌, ◌-◌, length}
use Rattle.mk_rules.specs.Shape.{shape_of}
use Rattle.mk_report.specs.Passing.{HasRows}
use Rattle.mk_report.proofs.Telling.{AreToldFrom}
use Rattle.mk_report.proofs.reached.reached.Given as goal

abbrev pub invariant-loop-done : goal.invariant-loop-done
invariant-loop-done l = record {
  first : l.inputs ≡ l.code.secrets + l.code.publics;
  total : l.total ≡ l.code.secrets + l.code.publics + length l.blocks;
  count : length l.rows.items ≡ l.done;
  rows : HasRows (shape_of l.code) l.blocks l.rows.items l.index.words (l.total - l.done);
  told : AreToldFrom (shape_of l.code) l.blocks (l.total - l.done) l.told.items;
}
