-- A number that stands again later is found where it stands first.
use Rattle.std.proofs.Common.{refl}
use Rattle.std.proofs.lemmas.Bool.{false≢true}
use Rattle.mk_pad.proofs.Different.{not-different, different-more, different-none}
use Rattle.mk_pad.proofs.form.are_different.Goals as goal

pub returns-then-contains : goal.returns-then-contains
returns-then-contains c = (
  λ no. absurd (false≢true no),
  λ all. absurd (not-different c.args.positions.now c.loop-i.i c.contains.result c.loop-i-test.true c.contains.ensures.value c.if-contains.true (c.loop-i.invariant.0 all)),
)

pub loop-i-preserved : goal.loop-i-preserved
loop-i-preserved c =
    different-more c.args.positions.now c.loop-i.i c.contains.result c.loop-i-test.true c.contains.ensures.value c.if-contains.false c.loop-i.invariant

pub returns : goal.returns
returns c = (λ yes. c.loop-i.invariant.1 (different-none c.args.positions.now c.loop-i.i c.loop-i-test.false), λ all. refl)
