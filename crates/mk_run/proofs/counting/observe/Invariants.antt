use Rattle.std.proofs.Common.{◌≡◌, length, take}
use Rattle.mk_code.specs.Private.{observation}
use Rattle.mk_run.proofs.counting.observe.Given as goal

-- what is written is what is seen at the first places
abbrev pub invariant-loop-i : goal.invariant-loop-i
invariant-loop-i l = (take l.i l.seen ≡ observation (take l.i l.probes) l.trace) × (length l.seen ≡ length l.probes)
