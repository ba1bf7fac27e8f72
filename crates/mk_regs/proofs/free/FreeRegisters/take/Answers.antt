-- The greatest element of the heap is the least register.
use Rattle.std.proofs.Common.{nat_eq, arith, ℕ, inl, refl}
use Rattle.std.proofs.lemmas.List.Sorted.{sum_by_popped}
use Rattle.std.specs.declared.cmp.Reverse.{Reverse}
use Rattle.mk_regs.specs.Tables.{one_where}
use Rattle.mk_regs.proofs.Heaps.{none-below}
use Rattle.mk_regs.proofs.free.FreeRegisters.take.Goals as goal

pub returns-in-Some : goal.returns-in-Some
returns-in-Some c = record {
  least = λ s below. none-below c.args.self.now.heap.data.items c.in-Some.field-0.0 s (c.in-Some.ensures.heap_order c.args.self.now.ordered).1 below;
  taken = inl (
    (λ r. let less = sum_by_popped (λ (x : Reverse ℕ). one_where (nat_eq x.0 r)) _ _ _ c.in-Some.ensures.permutation in omega (arith, less)),
    refl,
  );
}
