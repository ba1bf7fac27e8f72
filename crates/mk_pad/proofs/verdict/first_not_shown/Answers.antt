-- One size after the other.
use Rattle.std.proofs.Common.{arith, subst, ℕ, ◌+◌, []}
use Rattle.mk_pad.specs.Looking.{AreShownBehind, IsFirstBehind}
use Rattle.mk_pad.proofs.Firsts.{small-none, small-more, first-of, all-small}
use Rattle.mk_pad.proofs.verdict.first_not_shown.Goals as goal

pub loop-more-init : goal.loop-more-init
loop-more-init c = small-none c.args.gadget.now 1 (omega arith)

pub returns-in-Some : goal.returns-in-Some
returns-in-Some c =
    let g = c.args.gadget.now in
    let more : ℕ = c.loop-more.more in
    first-of g (more + 1) c.in-Some.found.items (omega arith) (omega (arith, c.loop-more-test.true, c.from-more-end.ensures, c.order.ensures))
    c.loop-more.invariant
    (subst (λ (from : ℕ). IsFirstBehind g [] from (more + 1) c.in-Some.found.items) c.requires.shares c.in-Some.ensures)

pub loop-more-preserved : goal.loop-more-preserved
loop-more-preserved c =
    let g = c.args.gadget.now in
    let more : ℕ = c.loop-more.more in
    small-more g (more + 1) c.loop-more.invariant
    (subst (λ (from : ℕ). AreShownBehind g [] from (more + 1)) c.requires.shares c.in_default.ensures)

pub returns : goal.returns
returns c =
    all-small c.args.gadget.now (c.loop-more.more + 1) (omega (arith, c.loop-more-test.false, c.from-more-end.ensures, c.order.ensures)) c.loop-more.invariant
