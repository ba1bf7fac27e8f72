use Rattle.std.proofs.Common.{◌≡◌, take}
use Rattle.mk_regs.specs.Trace.{register_randoms}
use Rattle.mk_regs.proofs.code.count_randoms.Given as goal

-- the count so far is what the instructions so far take
abbrev pub invariant-loop-instr : goal.invariant-loop-instr
invariant-loop-instr l = l.count ≡ register_randoms (take l.instr-index l.instrs)
