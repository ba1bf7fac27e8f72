use Rattle.std.proofs.Common.{◌≡◌, ℕ, ◌+◌, ◌<◌, length, take, slice_index, if◌then◌else◌}
use Rattle.mk_code.specs.Listing.{trace_len}
use Rattle.mk_regs.specs.Width.{is_among}
use Rattle.mk_regs.proofs.LastReads.{IsMarked}
use Rattle.mk_regs.proofs.last.last_readers.Given as goal

-- the outs so far are marked
abbrev pub invariant-loop-out : goal.invariant-loop-out
invariant-loop-out l =
    (length l.last.items ≡ trace_len l.code)
    × ((p : ℕ) → p < trace_len l.code
    → slice_index l.last.items p ≡ (if is_among p (take l.out-index l.code.outs) then length l.code.instrs + 1 else 0))

-- what the outs and the instructions from number k on read is marked
abbrev pub invariant-loop-k : goal.invariant-loop-k
invariant-loop-k l = IsMarked l.code l.k l.last.items
