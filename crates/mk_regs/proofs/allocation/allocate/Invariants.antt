use Rattle.std.proofs.Common.{◌≡◌, ℕ, ◌+◌, ◌≤◌, length}
use Rattle.std.specs.List.{AllByRecursion}
use Rattle.std.specs.BinaryHeap.{heap_items}
use Rattle.mk_code.specs.Listing.{inputs_len}
use Rattle.mk_regs.specs.Form.{HasParts, operation}
use Rattle.mk_regs.specs.Width.{width}
use Rattle.mk_regs.proofs.Allocating.{IsSoFar}
use Rattle.mk_regs.proofs.allocation.allocate.Given as goal

-- what is allocated so far, over any registers that are enough: no more than the code is wide, and no more than entries
abbrev pub invariant-loop-instr : goal.invariant-loop-instr
invariant-loop-instr l = record {
  behind : l.behind ≡ l.instr-index;
  room : inputs_len l.fn.code.order l.fn.code.secrets l.fn.code.publics ≤ l.free.next;
  few : l.free.next ≤ inputs_len l.fn.code.order l.fn.code.secrets l.fn.code.publics + l.instr-index;
  wide : l.free.next ≤ width l.fn.code;
  count : length l.register_of.items ≡ inputs_len l.fn.code.order l.fn.code.secrets l.fn.code.publics + l.instr-index;
  done : length l.allocated.items ≡ l.instr-index;
  parts : AllByRecursion (λ i. HasParts l.fn.code.field (length l.fn.code.maps) (operation i)) l.allocated.items;
  so_far : (registers : ℕ) → l.free.next ≤ registers
      → IsSoFar l.fn.code l.instr-index registers l.allocated.items l.register_of.items (heap_items l.free.heap) l.free.next;
}
