-- The instructions of the pairs so far were appended.
use Rattle.mk_gadget.proofs.RefreshEmitting.{Refreshing}
use Rattle.mk_gadget.proofs.strong.emit_refresh.Given as goal

abbrev pub invariant-loop-j : goal.invariant-loop-j
invariant-loop-j g l = Refreshing l.fn.builder l.builder l.x.regs l.regs g.row.N l.i l.j

abbrev pub invariant-loop-i : goal.invariant-loop-i
invariant-loop-i g l = Refreshing l.fn.builder l.builder l.x.regs l.regs g.row.N l.i l.i
