-- What the blocks so far cost; each costs less than a number of 32 bits holds.
use Rattle.std.proofs.Common.{◌≡◌, ◌*◌, ◌≤◌, take}
use Rattle.std.specs.List.{sum_by}
use Rattle.mk_report.specs.Report.{instrs_of, randoms_of}
use Rattle.mk_report.proofs.lines.total_of.Given as goal

abbrev pub invariant-loop-op : goal.invariant-loop-op
invariant-loop-op l = record {
  instrs : l.instrs ≡ sum_by (instrs_of l.order) (take l.op-index l.blocks);
  randoms : l.randoms ≡ sum_by (randoms_of l.order) (take l.op-index l.blocks);
  few_instrs : l.instrs ≤ l.op-index * 4294967295;
  few_randoms : l.randoms ≤ l.op-index * 4294967295;
}
