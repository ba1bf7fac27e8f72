-- The starts of the blocks so far.
use Rattle.std.proofs.Common.{◌≡◌, ◌<◌, ◌≤◌, ◌*◌, ℕ, length, slice_index}
use Rattle.mk_code.specs.declared.TheConstants.{MOST_INSTRS}
use Rattle.mk_check.specs.Outlines.{outlined}
use Rattle.mk_check.specs.Plans.{laid_len}
use Rattle.mk_check.proofs.plan.starts_of.Given as goal

abbrev pub invariant-loop-at : goal.invariant-loop-at
invariant-loop-at l = record {
  count : length l.starts.items ≡ l.at;
  start : l.start ≡ laid_len (outlined l.outline) l.templates l.blocks l.at;
  few : l.start ≤ l.at * MOST_INSTRS;
  each : (k : ℕ) → k < l.at → slice_index l.starts.items k ≡ laid_len (outlined l.outline) l.templates l.blocks k;
  small : (k : ℕ) → k < l.at → slice_index l.starts.items k ≤ k * MOST_INSTRS;
}
