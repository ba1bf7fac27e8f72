-- The laws of totals, one by one.
use Rattle.mk_code.proofs.Totals.{total-same, total-add, total-split, total-exchange, total-moved}
use Rattle.mk_code.proofs.Matching.{total-matched}
use Rattle.mk_code.proofs.TakenOut.{total-renamed, total-taken_out}
use Rattle.mk_code.proofs.laws.counting_laws.Goals as goal

pub returns : goal.returns
returns c = record {
  same = total-same;
  of_sum = total-add;
  split = total-split;
  exchange = total-exchange;
  moved = total-moved;
  matched = total-matched;
  renamed = total-renamed;
  taken_out = total-taken_out;
}
