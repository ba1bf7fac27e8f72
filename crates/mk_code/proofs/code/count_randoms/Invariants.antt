use Rattle.std.proofs.Common.{◌≡◌, take}
use Rattle.mk_code.specs.Trace.{randoms}
use Rattle.mk_code.proofs.code.count_randoms.Given as goal

-- the count so far is what the instructions so far take
abbrev pub invariant-loop-instr : goal.invariant-loop-instr
invariant-loop-instr l = l.count ≡ randoms (take l.instr-index l.instrs)
