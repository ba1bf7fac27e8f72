-- All variables were looked at.
use Rattle.std.proofs.Common.{arith}
use Rattle.mk_pad.proofs.occurrences.added_to.Goals as goal

pub returns : goal.returns
returns c = λ v. (
  λ there.
      let h = (c.loop-variable.invariant v).0 there in
      (h.0, omega (arith, h.1, c.loop-variable.auto.variable-end, c.requires.shares), h.2),
  λ h. (c.loop-variable.invariant v).1 (h.0, omega (arith, h.1, c.loop-variable-test.false), h.2),
)
