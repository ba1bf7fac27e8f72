use Rattle.std.proofs.Common.{◌≡◌, ℕ, ◌+◌, nat_lt, nat_le, ◌&&◌, slice_index}
use Rattle.std.specs.BinaryHeap.{heap_items}
use Rattle.std.specs.List.{range_with_len}
use Rattle.mk_regs.specs.Tables.{times_free, one_where}
use Rattle.mk_regs.proofs.allocation.place_inputs.Given as goal

-- the inputs so far have their register_of, and of their registers those of unread ones are free
abbrev pub invariant-loop-entry : goal.invariant-loop-entry
invariant-loop-entry l = record {
  registers : l.register_of.items ≡ range_with_len 0 l.entry;
  next : l.free.next ≡ l.fn.free.next;
  free : (r : ℕ) → times_free (heap_items l.free.heap) r
      ≡ times_free (heap_items l.fn.free.heap) r + one_where (nat_lt r l.entry && nat_le (slice_index l.last r) 0);
}
