-- The digits that are left make the number of all behind what was made so far, which is little greater than one of 32 bits.
use Rattle.std.proofs.Common.{◌≡◌, ◌≤◌, ◌+◌, ◌*◌, length}
use Rattle.mk_lines.specs.declared.parse.TheConstants.{MOST_BEFORE}
use Rattle.mk_lines.specs.Parsing.{digits_from}
use Rattle.mk_lines.proofs.parse.digits_behind.Given as goal

abbrev pub invariant-loop-rest : goal.invariant-loop-rest
invariant-loop-rest l = record {
  same : digits_from l.value l.rest ≡ digits_from l.first l.bytes;
  small : l.value ≤ MOST_BEFORE * 10 + 9;
}

abbrev pub decreases-loop-rest : goal.decreases-loop-rest
decreases-loop-rest l = length l.rest
