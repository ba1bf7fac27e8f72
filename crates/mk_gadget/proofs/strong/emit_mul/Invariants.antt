-- The instructions of the pairs so far were appended, and then of the rows.
use Rattle.mk_gadget.proofs.ProductEmitting.{Crossing, Rowing, Columning}
use Rattle.mk_gadget.proofs.strong.emit_mul.Given as goal

abbrev pub invariant-loop-high : goal.invariant-loop-high
invariant-loop-high g l = Crossing l.fn.builder l.builder l.x.regs l.y.regs g.row.N l.low l.high

abbrev pub invariant-loop-low : goal.invariant-loop-low
invariant-loop-low g l = Crossing l.fn.builder l.builder l.x.regs l.y.regs g.row.N l.low l.low

abbrev pub invariant-loop-column : goal.invariant-loop-column
invariant-loop-column g l = Columning l.fn.builder l.builder l.x.regs l.y.regs g.row.N l.row l.column l.sum

abbrev pub invariant-loop-row : goal.invariant-loop-row
invariant-loop-row g l = Rowing l.fn.builder l.builder l.x.regs l.y.regs l.regs g.row.N l.row
