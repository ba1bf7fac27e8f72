-- One input more.
use Rattle.std.proofs.Common.{◌∙◌, ◌++◌, [], ◌∷◌, sym, ap, arith, List, ℕ}
use Rattle.mk_regs.proofs.Placing.{range-more, inputs-more}
use Rattle.mk_regs.proofs.allocation.place_inputs.Goals as goal

pub loop-entry-preserved : goal.loop-entry-preserved
loop-entry-preserved c =
    let e = c.loop-entry.entry in
    record {
      registers = c.in_ok-push.ensures.items ∙ ap (λ (xs : List ℕ). xs ++ e ∷ []) c.loop-entry.invariant.registers ∙ sym (range-more e);
      next = c.in_ok-free_unread.ensures.next ∙ c.loop-entry.invariant.next;
      free = λ r. omega (arith, c.in_ok-free_unread.ensures.free r, c.loop-entry.invariant.free r, inputs-more c.args.last.now e r);
    }
