-- Each next position is tried, one after the other.
use Rattle.std.proofs.Common.{arith, sym, ◌∙◌, ap, ◌<◌, ◌∷◌, [], length, length-append}
use Rattle.std.proofs.lemmas.Bool.{false≢true}
use Rattle.mk_pad.specs.Form.{position_count}
use Rattle.mk_pad.proofs.Noting.{notes-length}
use Rattle.mk_pad.proofs.Right.{positions-few}
use Rattle.mk_pad.proofs.Firsts.{behind-none, first-itself, tried-none, within-next, first-later, tried-more, behind-all}
use Rattle.mk_pad.proofs.verdict.+first_behind.Goals as goal

pub returns-then-is_shown : goal.returns-then-is_shown
returns-then-is_shown t c = behind-none c.args.gadget.now c.args.set.now c.args.from c.args.more c.if-more-eq0.true (c.is_shown.ensures.0 c.if-is_shown.true)

pub returns-else-is_shown : goal.returns-else-is_shown
returns-else-is_shown t c =
    first-itself c.args.gadget.now c.args.set.now c.args.from c.args.more c.copy_of.result.items c.if-more-eq0.true c.copy_of.ensures
    (λ shown. false≢true (sym c.if-is_shown.false ∙ c.is_shown.ensures.1 shown))

pub overflow_cast-position-end : goal.overflow_cast-position-end
overflow_cast-position-end t c =
    omega (arith, notes-length c.args.gadget.now c.args.rows.now c.requires.rows, positions-few c.args.gadget.now c.requires.rows.form)

pub loop-position-init : goal.loop-position-init
loop-position-init t c = tried-none c.args.gadget.now c.args.set.now c.args.from c.args.more

pub first_behind-requires : goal.first_behind-requires
first_behind-requires t c =
    let g = c.args.gadget.now in
    let below : c.loop-position.position < position_count g =
    omega (arith, c.loop-position-test.true, notes-length g c.args.rows.now c.requires.rows) in
    let is = c.as_slice.ensures.value ∙ c.with-next.ensures in (
      omega (arith, c.decreases, c.if-more-eq0.false),
      (
        c.requires.rows,
        (
          within-next (λ p. p < position_count g) c.args.set.now c.as_slice.result.now c.loop-position.position is c.requires.set below,
          omega (arith, ap length is, length-append c.args.set.now (c.loop-position.position ∷ []), c.requires.few, c.if-more-eq0.false),
        ),
      ),
    )

pub returns-in-Some : goal.returns-in-Some
returns-in-Some t c =
    let g = c.args.gadget.now in
    first-later g c.args.set.now c.args.from c.args.more c.loop-position.position c.as_slice.result.now c.in-Some.found.items (omega (arith, c.if-more-eq0.false))
    (omega (arith, c.loop-position.auto.position)) (omega (arith, c.loop-position-test.true, notes-length g c.args.rows.now c.requires.rows))
    (c.as_slice.ensures.value ∙ c.with-next.ensures) c.loop-position.invariant c.in-Some.ensures

pub loop-position-preserved : goal.loop-position-preserved
loop-position-preserved t c =
    tried-more c.args.gadget.now c.args.set.now c.args.from c.args.more c.loop-position.position c.as_slice.result.now
    (c.as_slice.ensures.value ∙ c.with-next.ensures) c.loop-position.invariant c.in_default.ensures

pub returns : goal.returns
returns t c =
    behind-all c.args.gadget.now c.args.set.now c.args.from c.args.more c.loop-position.position (omega (arith, c.if-more-eq0.false))
    (omega (arith, c.loop-position-test.false, notes-length c.args.gadget.now c.args.rows.now c.requires.rows)) c.loop-position.invariant
