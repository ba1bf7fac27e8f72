-- No position that was looked at may be taken out.
use Rattle.std.proofs.Common.{sym, subst, arith}
use Rattle.mk_pad.specs.Shown.{MayTake}
use Rattle.mk_pad.proofs.Members.{at-index}
use Rattle.mk_pad.proofs.Strengths.{contains-in}
use Rattle.mk_pad.proofs.shown.position_to_take.Goals as goal

pub returns : goal.returns
returns c = λ p there may.
    let at = contains-in c.args.left.now p there in
    c.loop-position.invariant at.0 (omega (arith, at.1, c.loop-position-test.false))
    (subst (MayTake c.args.gadget.now c.args.left.now) (sym (at-index c.args.left.now at.0 p at.1 at.2)) may)
