-- Each random element that is added was looked at.
use Rattle.std.proofs.Common.{◌≡◌, ◌∙◌, sym, arith, refl, true}
use Rattle.std.specs.List.{list_any}
use Rattle.std.proofs.lemmas.Bool.{false≢true}
use Rattle.mk_pad.specs.Shown.{occurs, polynomial_of, without}
use Rattle.mk_pad.proofs.Noting.{notes-length}
use Rattle.mk_pad.proofs.Taking.{added-there, may-from_added, none-may, within-more}
use Rattle.mk_pad.proofs.shown.may_take.Goals as goal

pub bounds-rows-position : goal.bounds-rows-position
bounds-rows-position c = omega (arith, c.requires.position, notes-length c.args.gadget.now c.args.rows.now c.requires.rows)

pub occurs_elsewhere-requires-clause-variable : goal.occurs_elsewhere-requires-clause-variable
occurs_elsewhere-requires-clause-variable c =
    (added-there c.args.gadget.now c.args.rows.now c.args.position c.index-rows-position.result c.as_slice-added.result.now c.loop-random.random-index 0 c.requires.rows
    c.requires.position c.as_slice-added.ensures.items c.loop-random-test.true).1

pub returns-then-not-occurs_elsewhere : goal.returns-then-not-occurs_elsewhere
returns-then-not-occurs_elsewhere c = (
  λ yes. may-from_added c.args.gadget.now c.args.rows.now c.args.left.now c.args.position c.index-rows-position.result c.as_slice-added.result.now c.loop-random.random-index
      c.occurs_elsewhere.result c.requires.rows c.requires.position c.as_slice-added.ensures.items c.loop-random-test.true c.occurs_elsewhere.ensures
      c.if-not-occurs_elsewhere.true,
  λ may. refl,
)

pub loop-random-preserved : goal.loop-random-preserved
loop-random-preserved c =
    within-more (λ random. list_any (λ q. occurs random (polynomial_of c.args.gadget.now q)) (without c.args.position c.args.left.now) ≡ true)
    c.as_slice-added.result.now c.loop-random.random-index c.loop-random-test.true c.loop-random.invariant (sym c.occurs_elsewhere.ensures ∙ c.if-not-occurs_elsewhere.false)

pub returns : goal.returns
returns c = (
  λ no. absurd (false≢true no),
  λ may. absurd (none-may c.args.gadget.now c.args.rows.now c.args.left.now c.args.position c.index-rows-position.result c.as_slice-added.result.now c.loop-random.random-index
      c.requires.rows c.requires.position c.as_slice-added.ensures.items (λ less. absurd (omega (arith, less, c.loop-random-test.false))) c.loop-random.invariant may),
)
