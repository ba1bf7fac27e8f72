use Rattle.std.proofs.Common.{◌≡◌, map, take, slice_index}
use Rattle.mk_regs.proofs.allocation.registers_of.Given as goal

-- the entries so far
abbrev pub invariant-loop-entry : goal.invariant-loop-entry
invariant-loop-entry l = l.registers ≡ map (slice_index l.register_of) (take l.entry-index l.entries)
