use Rattle.std.proofs.Common.{◌≡◌, ◌+◌, ◌-◌, length, drop}
use Rattle.mk_code.specs.Trace.{trace}
use Rattle.mk_code.specs.Machine.{needed, outcome}
use Rattle.mk_code.proofs.machine_tests.run_all.Given as goal

-- the whole trace is that of the definition, and what is left of the tape is what is needed
abbrev pub invariant-loop-word : goal.invariant-loop-word
invariant-loop-word l =
    (l.machine.code ≡ l.fn.code)
    × (outcome l.machine (drop l.taken l.tape) ≡ trace l.fn.code l.publics l.shares l.tape)
    × (l.taken + needed l.machine ≡ length l.tape)

-- one instruction fewer is left after each step
abbrev pub decreases-loop-word : goal.decreases-loop-word
decreases-loop-word l = length l.machine.code.instrs - l.machine.at
