-- The row stands for the need by the uses so far, and of these are marked those that are to be.
use Rattle.std.proofs.Common.{◌≡◌, ◌⊎◌, ◌↔◌, ℕ, length, take}
use Rattle.mk_rules.specs.Uses.{last_first}
use Rattle.mk_place.specs.Uses.{uses}
use Rattle.mk_place.specs.Marking.{IsMarked, all_marks}
use Rattle.mk_place.proofs.Gathering.{Stands}
use Rattle.mk_place.proofs.Marked.{IsAmong}
use Rattle.mk_place.proofs.marking.gather.Given as goal

abbrev pub invariant-loop-at : goal.invariant-loop-at
invariant-loop-at l = record {
  noted : l.uses ≡ last_first l.number (uses l.s);
  words : length l.row.items ≡ l.index.words;
  stands : Stands l.s l.number l.at l.row.items;
  count : length l.fresh ≡ length l.s.values;
  marks : (i k : ℕ) → IsMarked l.fresh i k ↔ (IsMarked l.fn.fresh i k ⊎ IsAmong (all_marks l.s) (take l.at l.uses) i k);
}
