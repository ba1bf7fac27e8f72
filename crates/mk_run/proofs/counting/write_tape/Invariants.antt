use Rattle.std.proofs.Common.{◌≡◌, ◌-◌, ◌++◌, length, take}
use Rattle.mk_field.specs.Field.{size}
use Rattle.mk_run.specs.Tapes.{numbered}
use Rattle.mk_run.proofs.counting.write_tape.Given as goal

-- what is written, and the digits of what is left
abbrev pub invariant-loop-slot : goal.invariant-loop-slot
invariant-loop-slot l =
    (take l.slot-index l.slot-items ++ numbered (size l.fn.field) (length l.slot-items - l.slot-index) l.left ≡ numbered (size l.fn.field) (length l.fn.tape) l.number)
    × (length l.slot-items ≡ length l.fn.tape)
