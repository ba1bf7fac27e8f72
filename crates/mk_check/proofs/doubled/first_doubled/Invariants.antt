-- No value is doubled by the blocks so far.
use Rattle.std.proofs.Common.{◌≡◌, ◌+◌, ◌-◌, ◌<◌, ℕ, length}
use Rattle.mk_check.specs.Outlines.{outlined}
use Rattle.mk_rules.specs.Faults.{IsDoubled}
use Rattle.mk_check.proofs.doubled.first_doubled.Given as goal

abbrev pub invariant-loop-from : goal.invariant-loop-from
invariant-loop-from l = record {
  count : length l.marks ≡ l.outline.secrets + l.outline.publics + length l.blocks;
  none : (s v : ℕ) → s < l.from → ¬ IsDoubled (outlined l.outline) l.blocks v s;
}

abbrev pub decreases-loop-from : goal.decreases-loop-from
decreases-loop-from l = length l.blocks - l.from
