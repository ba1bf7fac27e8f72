-- So many values have a row, and their uses are marked; then those of so many inputs.
use Rattle.std.proofs.Common.{◌≡◌, ◌⊎◌, ◌↔◌, ◌+◌, ◌-◌, ◌<◌, ◌≤◌, ℕ, length}
use Rattle.mk_place.specs.Marking.{HasRows, IsMarked, inputs}
use Rattle.mk_place.proofs.Marked.{IsSettled}
use Rattle.mk_place.proofs.marking.marks.Given as goal

abbrev pub invariant-loop-done : goal.invariant-loop-done
invariant-loop-done l = record {
  len : l.len ≡ length l.s.values;
  first : l.inputs ≡ inputs l.s;
  count : length l.rows.items ≡ l.done;
  rows : HasRows l.s l.rows.items l.index.words (l.len - l.done);
  long : length l.fresh.items ≡ length l.s.values;
  marks : (i k : ℕ) → IsMarked l.fresh.items i k ↔ IsSettled l.s (λ v. inputs l.s + (l.len - l.done) ≤ v) i k;
}

abbrev pub invariant-loop-number : goal.invariant-loop-number
invariant-loop-number l = record {
  first : l.inputs ≡ inputs l.s;
  rows : HasRows l.s l.rows.items l.index.words 0;
  long : length l.fresh.items ≡ length l.s.values;
  marks : (i k : ℕ) → IsMarked l.fresh.items i k ↔ IsSettled l.s (λ v. (inputs l.s ≤ v) ⊎ (v < l.number)) i k;
}
