use Rattle.std.proofs.Common.{◌≡◌, ◌+◌, ◌-◌, ◌≤◌, length, drop}
use Rattle.mk_code.specs.Machine.{needed, outcome}
use Rattle.mk_run.proofs.running.finish.Given as goal

-- the whole trace stays, and there is enough left of the tape
abbrev pub invariant-loop-word : goal.invariant-loop-word
invariant-loop-word l =
    (l.machine.code ≡ l.fn.machine.code)
    × (outcome l.machine (drop l.taken l.tape) ≡ outcome l.fn.machine l.tape)
    × (l.taken + needed l.machine ≤ length l.tape)

-- one instruction fewer is left after each step
abbrev pub decreases-loop-word : goal.decreases-loop-word
decreases-loop-word l = length l.machine.code.instrs - l.machine.at
