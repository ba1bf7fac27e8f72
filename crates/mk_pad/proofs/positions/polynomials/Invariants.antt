use Rattle.mk_pad.proofs.Walk.{IsWalk}
use Rattle.mk_pad.proofs.positions.polynomials.Given as goal

abbrev pub invariant-loop-instr : goal.invariant-loop-instr
invariant-loop-instr l = IsWalk l.ring.field l.ring.variables l.shares l.instrs l.instr-index l.next l.positions
