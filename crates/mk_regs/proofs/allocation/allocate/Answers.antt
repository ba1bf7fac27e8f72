-- The inputs stand in their registers, then one result after the other goes to the least free one.
use Rattle.std.proofs.Common.{◌≡◌, ℕ, ◌+◌, ◌-◌, ◌<◌, ◌≤◌, ◌++◌, [], ◌∷◌, List, length, map, get_or, slice_index, refl, sym, ◌∙◌, ap, arith, subst}
use Rattle.std.specs.List.{AllByRecursion}
use Rattle.std.specs.BinaryHeap.{heap_items}
use Rattle.std.proofs.lemmas.List.{length_push, get_or_read}
use Rattle.std.proofs.lemmas.List.FromFn.{length-range_with_len}
use Rattle.mk_code.specs.declared.instr.Instr.{Instr}
use Rattle.mk_code.specs.declared.instr.Instr.TheVariants as op
use Rattle.mk_code.specs.Listing.{inputs_len, trace_len}
use Rattle.mk_regs.specs.declared.instr.RegInstr.{RegInstr}
use Rattle.mk_regs.specs.Form.{HasParts, operation, into_register, with_operands}
use Rattle.mk_regs.specs.Allocation.{IsAllocated}
use Rattle.mk_regs.specs.Tables.{IsTaken}
use Rattle.mk_regs.specs.Width.{width}
use Rattle.mk_regs.proofs.Widths.{width-least}
use Rattle.mk_regs.proofs.Placing.{taken-next}
use Rattle.mk_regs.proofs.Allocating.{IsSoFar, begun, operands-within, came-free, came-unread, instr_at, next-width, so_far-step, parts-step, made, made-fits, allocated}
use Rattle.mk_regs.proofs.allocation.allocate.Goals as goal

pub loop-instr-init : goal.loop-instr-init
loop-instr-init c =
    let code = c.args.code.now in
    let own : c.as_slice-instrs.result.now ≡ code.instrs = c.as_slice-instrs.ensures.items ∙ c.instrs.ensures in
    let entries : ℕ = c.trace_len.result - length c.as_slice-instrs.result.now in
    let e : entries ≡ inputs_len code.order code.secrets code.publics = omega (arith, c.trace_len.ensures.value, ap length own) in
    let next : c.place_inputs.new.free.next ≡ entries = c.in_ok-place_inputs.ensures.next ∙ c.in_ok-free.ensures.1 in
    record {
      behind = refl;
      room = omega (arith, e, next);
      few = omega (arith, e, next);
      wide = omega (arith, e, next);
      count = ap length c.in_ok-place_inputs.ensures.registers ∙ length-range_with_len 0 entries ∙ e ∙ omega arith;
      done = ap length c.in_ok-allocated.ensures.items;
      parts = subst (AllByRecursion (λ (i : RegInstr). HasParts code.field (length code.maps) (operation i))) (sym c.in_ok-allocated.ensures.items) tt;
      so_far = λ registers enough.
          begun code registers entries c.place_inputs.new.free.next c.in_ok-last.last.items c.as_slice.result.now c.place_inputs.new.register_of.items
          c.in_ok-allocated.allocated.items (heap_items c.in_ok-free.free.heap) (heap_items c.place_inputs.new.free.heap)
          c.in_ok-last.ensures e next c.as_slice.ensures.value c.in_ok-place_inputs.ensures.registers c.in_ok-allocated.ensures.items c.in_ok-free.ensures.0
          c.in_ok-place_inputs.ensures.free enough;
    }

pub over_registers-operation-requires : goal.over_registers-operation-requires
over_registers-operation-requires c =
    let own = c.as_slice-instrs.ensures.items ∙ c.instrs.ensures in
    operands-within c.args.code.now c.loop-instr.instr-index (length c.as_slice-in-loop-instr.result.now) c.as_slice-instrs.result.now c.law.ensures.fits own
    c.loop-instr-test.true (omega (arith, ap length c.as_slice-in-loop-instr.ensures.value, c.loop-instr.invariant.count))

pub free_operands-requires-clause-placed : goal.free_operands-requires-clause-placed
free_operands-requires-clause-placed c =
    let own = c.as_slice-instrs.ensures.items ∙ c.instrs.ensures in
    operands-within c.args.code.now c.loop-instr.instr-index (length c.as_slice-in-loop-instr-2.result.now) c.as_slice-instrs.result.now c.law.ensures.fits own
    c.loop-instr-test.true (omega (arith, ap length c.as_slice-in-loop-instr-2.ensures.value, c.loop-instr.invariant.count))

pub free_operands-requires-clause-known : goal.free_operands-requires-clause-known
free_operands-requires-clause-known c =
    let own = c.as_slice-instrs.ensures.items ∙ c.instrs.ensures in
    operands-within c.args.code.now c.loop-instr.instr-index (length c.as_slice-in-loop-instr-3.result.now) c.as_slice-instrs.result.now c.law.ensures.fits own
    c.loop-instr-test.true (omega (arith, ap length c.as_slice-in-loop-instr-3.ensures.value, ap length own, c.in_ok-last.ensures.count, c.loop-instr-test.true))

pub loop-instr-preserved : goal.loop-instr-preserved
loop-instr-preserved c =
    let code = c.args.code.now in
    let k = c.loop-instr.instr-index in
    let position : ℕ = inputs_len code.order code.secrets code.publics + k in
    let own : c.as_slice-instrs.result.now ≡ code.instrs = c.as_slice-instrs.ensures.items ∙ c.instrs.ensures in
    let below : k < length code.instrs = omega (arith, ap length own, c.loop-instr-test.true) in
    let last = c.in_ok-last.last.items in
    let register_of = c.loop-instr.register_of.items in
    let done = c.loop-instr.allocated.items in
    let to = c.take-to.result in
    let items = heap_items c.loop-instr.free.heap in
    let before = heap_items c.free_operands.new.free.heap in
    let after = heap_items c.take-to.new.self.heap in
    let ends = heap_items c.free_unread.new.free.heap in
    let next = c.loop-instr.free.next in
    let behind = c.take-to.new.self.next in
    let from : c.loop-instr.behind + 1 ≡ k + 1 = omega (arith, c.loop-instr.invariant.behind) in
    let came = came-free code k (c.loop-instr.behind + 1) register_of c.as_slice-in-loop-instr-2.result.now last c.as_slice-in-loop-instr-3.result.now c.as_slice-instrs.result.now items before
    own c.as_slice-in-loop-instr-2.ensures.value c.as_slice-in-loop-instr-3.ensures.value from c.in_ok-free_operands.ensures.free in
    let taken : IsTaken before after next behind to = subst (λ (n : ℕ). IsTaken before after n behind to) c.in_ok-free_operands.ensures.next c.take-to.ensures in
    let moved = taken-next before after next behind to taken in
    let len : c.len-in-loop-instr.result ≡ position = omega (arith, c.len-in-loop-instr.ensures, c.loop-instr.register_of.ok.0, c.loop-instr.invariant.count) in
    let told : c.len-in-loop-instr.result < length last = omega (arith, len, below, c.in_ok-last.ensures.count) in
    let mark : c.index.result.now ≡ slice_index last position =
    get_or_read last c.len-in-loop-instr.result c.index.result.now told c.index.ensures 0 ∙ ap (slice_index last) len in
    let unread = came-unread k (c.loop-instr.behind + 1) c.index.result.now position to last after ends mark from c.in_ok-free_unread.ensures.free in
    let stays : c.free_unread.new.free.next ≡ behind = c.in_ok-free_unread.ensures.next in
    let made_instr : c.new-in-loop-instr.result ≡ into_register to (with_operands (slice_index register_of) (instr_at code k)) =
    c.new-in-loop-instr.ensures
    ∙ ap (into_register to) (c.over_registers-operation.ensures
    ∙ ap (λ (ps : List ℕ). with_operands (slice_index ps) (get_or c.as_slice-instrs.result.now k op.Rnd)) c.as_slice-in-loop-instr.ensures.value
    ∙ ap (λ (is : List Instr). with_operands (slice_index register_of) (get_or is k op.Rnd)) own) in
    let more : c.push-in-loop-instr.new.self.items ≡ done ++ into_register to (with_operands (slice_index register_of) (instr_at code k)) ∷ [] =
    c.in_ok-push-2.ensures.items ∙ ap (λ (i : RegInstr). done ++ i ∷ []) made_instr in
    let placed : c.push.new.self.items ≡ register_of ++ to ∷ [] = c.in_ok-push.ensures.items in
    record {
      behind = from;
      room = omega (arith, stays, moved.0, c.loop-instr.invariant.room);
      few = omega (arith, stays, moved.1, c.loop-instr.invariant.few);
      wide = subst (λ (n : ℕ). n ≤ width code) (sym stays)
          (next-width code k last register_of done items before after next behind to c.law.ensures.fits c.in_ok-last.ensures below
          (c.loop-instr.invariant.so_far (next + 1) (omega arith)) came taken c.loop-instr.invariant.wide);
      count = ap length placed ∙ length_push register_of to ∙ omega (arith, c.loop-instr.invariant.count);
      done = ap length more ∙ length_push done (into_register to (with_operands (slice_index register_of) (instr_at code k))) ∙ omega (arith, c.loop-instr.invariant.done);
      parts = subst (AllByRecursion (λ (i : RegInstr). HasParts code.field (length code.maps) (operation i))) (sym more)
          (parts-step code k to register_of done c.law.ensures.fits below c.loop-instr.invariant.parts);
      so_far = λ registers enough.
          subst (λ (n : ℕ). IsSoFar code (k + 1) registers c.push-in-loop-instr.new.self.items c.push.new.self.items ends n) (sym stays)
          (subst (λ (ps : List ℕ). IsSoFar code (k + 1) registers c.push-in-loop-instr.new.self.items ps ends behind) (sym placed)
          (subst (λ (is : List RegInstr). IsSoFar code (k + 1) registers is (register_of ++ to ∷ []) ends behind) (sym more)
          (so_far-step code k registers last register_of done items before after ends next behind to c.law.ensures.fits c.in_ok-last.ensures below
          (c.loop-instr.invariant.so_far registers (omega (arith, stays, moved.0, enough))) came taken unread (omega (arith, stays, enough)))));
    }

pub new-requires-2 : goal.new-requires-2
new-requires-2 c =
    let code = c.args.code.now in
    let own : c.as_slice-instrs.result.now ≡ code.instrs = c.as_slice-instrs.ensures.items ∙ c.instrs.ensures in
    let maps : c.in_ok-maps.maps ≡ code.maps = c.in_ok-maps.ensures ∙ c.maps.ensures in
    let ends : c.as_slice-3.result.now ≡ code.outs = c.as_slice-3.ensures.items ∙ c.outs.ensures in
    let outs : c.in_ok-outs.outs ≡ map (slice_index c.loop-instr.register_of.items) code.outs =
    c.in_ok-outs.ensures ∙ ap (λ (ps : List ℕ). map (slice_index ps) c.as_slice-3.result.now) c.as_slice-2.ensures.value
    ∙ ap (map (slice_index c.loop-instr.register_of.items)) ends in
    let count : length c.loop-instr.allocated.items ≡ length code.instrs = omega (arith, ap length own, c.loop-instr.invariant.done) in
    let few : c.loop-instr.free.next ≤ trace_len code = omega (arith, ap length own, c.loop-instr.invariant.few) in
    rw (c.field.ensures.value, c.order.ensures, c.secrets.ensures, c.publics.ensures, maps, c.from_vec.ensures, outs)
    (made-fits code c.loop-instr.allocated.items c.loop-instr.register_of.items c.loop-instr.free.next c.law.ensures.fits
    c.loop-instr.invariant.room few count c.loop-instr.invariant.parts)

pub returns-clause-allocated : goal.returns-clause-allocated
returns-clause-allocated c =
    let code = c.args.code.now in
    let own : c.as_slice-instrs.result.now ≡ code.instrs = c.as_slice-instrs.ensures.items ∙ c.instrs.ensures in
    let maps : c.in_ok-maps.maps ≡ code.maps = c.in_ok-maps.ensures ∙ c.maps.ensures in
    let ends : c.as_slice-3.result.now ≡ code.outs = c.as_slice-3.ensures.items ∙ c.outs.ensures in
    let outs : c.in_ok-outs.outs ≡ map (slice_index c.loop-instr.register_of.items) code.outs =
    c.in_ok-outs.ensures ∙ ap (λ (ps : List ℕ). map (slice_index ps) c.as_slice-3.result.now) c.as_slice-2.ensures.value
    ∙ ap (map (slice_index c.loop-instr.register_of.items)) ends in
    let same : c.new-2.result ≡ made code c.loop-instr.free.next c.loop-instr.allocated.items c.loop-instr.register_of.items =
    rw (c.field.ensures.value, c.order.ensures, c.secrets.ensures, c.publics.ensures, maps, c.from_vec.ensures, outs) at c.new-2.ensures in
    subst (IsAllocated code) (sym same)
    (allocated code c.loop-instr.allocated.items c.loop-instr.register_of.items (heap_items c.loop-instr.free.heap) c.loop-instr.free.next c.loop-instr.instr-index
    c.law.ensures.fits (omega (arith, ap length own)) (omega (arith, ap length own))
    (c.loop-instr.invariant.so_far c.loop-instr.free.next (omega arith)) c.loop-instr.invariant.room c.loop-instr.invariant.wide)

pub returns-clause-registers : goal.returns-clause-registers
returns-clause-registers c = (returns-clause-allocated c).registers

pub returns-clause-fewest : goal.returns-clause-fewest
returns-clause-fewest c = λ s listing is.
    omega (arith, (returns-clause-allocated c).registers, width-least c.args.code.now s listing.registers.0 is)
