-- The value and the zeros so far were appended.
use Rattle.mk_gadget.proofs.Emitting.{Emitting}
use Rattle.mk_gadget.proofs.Values.{lift-row}
use Rattle.mk_gadget.proofs.linear.emit_lift.Given as goal

abbrev pub invariant-loop-share : goal.invariant-loop-share
invariant-loop-share g l = Emitting l.fn.builder l.builder (lift-row l.p) g.row.N l.share l.regs
