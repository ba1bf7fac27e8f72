-- Each word shows the places for its bits; once there are eight, they are the first of all.
use Rattle.std.proofs.Common.{◌∙◌, arith}
use Rattle.mk_report.specs.Rows.{place_for}
use Rattle.mk_report.proofs.Bits.{all-shown, word-shown, word-skipped}
use Rattle.mk_report.proofs.need.shown_of.Goals as goal
use Rattle.mk_report.proofs.need.shown_of.Goals.{then-row-word-ne0+in_ok-show_word, else-row-word-ne0}

pub returns-then-len-ge-SHOWN : goal.returns-then-len-ge-SHOWN
returns-then-len-ge-SHOWN c =
    all-shown c.args.row.now (place_for c.args.products.now) c.loop-word.word c.loop-word.shown c.loop-word.invariant c.loop-word.auto.word-end
    (omega (arith, c.len.ensures.count, c.if-len-ge-SHOWN.true))

pub loop-word-preserved : goal.loop-word-preserved
loop-word-preserved c = elim c.if-row-word-ne0.branch [
  | then-row-word-ne0+in_ok-show_word w ↦
      w.shown-is
      ∙ word-shown c.args.row.now (place_for c.args.products.now) c.loop-word.word c.loop-word.shown c.loop-word.invariant w.show_word.new.shown
      w.in_ok-show_word.ensures
  | else-row-word-ne0 w ↦
      w.shown-is
      ∙ word-skipped c.args.row.now (place_for c.args.products.now) c.loop-word.word c.loop-word.shown c.loop-word.invariant w.if-row-word-ne0.false
]
