-- The places for the bits of the words so far are there, as many as are shown.
use Rattle.std.proofs.Common.{◌≡◌, ◌*◌, map, take}
use Rattle.mk_report.specs.Rows.{bits_between, place_for}
use Rattle.mk_report.proofs.need.shown_of.Given as goal

abbrev pub invariant-loop-word : goal.invariant-loop-word
invariant-loop-word l = l.shown ≡ take 8 (map (place_for l.products) (bits_between l.row 0 (64 * l.word)))
