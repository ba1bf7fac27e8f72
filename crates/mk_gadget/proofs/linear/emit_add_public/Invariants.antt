-- The sum and the copies so far were appended.
use Rattle.mk_gadget.proofs.Emitting.{Emitting}
use Rattle.mk_gadget.proofs.Values.{public_addition-row}
use Rattle.mk_gadget.proofs.linear.emit_add_public.Given as goal

abbrev pub invariant-loop-share : goal.invariant-loop-share
invariant-loop-share g l = Emitting l.fn.builder l.builder (public_addition-row l.x.regs l.p) g.row.N l.share l.regs
