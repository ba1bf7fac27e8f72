use Rattle.std.proofs.Common.{◌≡◌}
use Rattle.std.specs.List.{count_by, range_with_len}
use Rattle.mk_pad.specs.Shown.{occurs_in}
use Rattle.mk_pad.proofs.shown.count_shares_in.Given as goal

abbrev pub invariant-loop-index : goal.invariant-loop-index
invariant-loop-index l = l.count ≡ count_by (occurs_in l.gadget l.rest l.operand) (range_with_len 0 l.index)
