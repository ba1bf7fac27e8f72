-- The places for the bits of the word so far are appended, as many as are shown.
use Rattle.std.proofs.Common.{◌≡◌, ◌*◌, ◌++◌, map, take}
use Rattle.mk_report.specs.Rows.{bits_between, place_for}
use Rattle.mk_report.proofs.need.show_word.Given as goal

abbrev pub invariant-loop-at : goal.invariant-loop-at
invariant-loop-at l = l.shown ≡ take 8 (l.initial.shown ++ map (place_for l.products) (bits_between l.row (64 * l.word) l.at))
