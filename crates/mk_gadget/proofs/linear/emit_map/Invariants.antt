-- The images of the shares so far were appended.
use Rattle.mk_gadget.proofs.Emitting.{Emitting}
use Rattle.mk_gadget.proofs.Values.{mapping-row}
use Rattle.mk_gadget.proofs.linear.emit_map.Given as goal

abbrev pub invariant-loop-share : goal.invariant-loop-share
invariant-loop-share g l = Emitting l.fn.builder l.builder (mapping-row l.map l.x.regs) g.row.N l.share l.regs
