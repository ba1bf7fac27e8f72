-- The sums of the shares so far were appended.
use Rattle.mk_gadget.proofs.Emitting.{Emitting}
use Rattle.mk_gadget.proofs.Values.{addition-row}
use Rattle.mk_gadget.proofs.linear.emit_add.Given as goal

abbrev pub invariant-loop-share : goal.invariant-loop-share
invariant-loop-share g l = Emitting l.fn.builder l.builder (addition-row l.x.regs l.y.regs) g.row.N l.share l.regs
