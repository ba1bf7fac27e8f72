-- The outs are marked, and then the operands of one instruction after the other, from the last on.
use Rattle.std.proofs.Common.{◌≡◌, ℕ, ◌+◌, ◌-◌, ◌<◌, ◌≤◌, List, length, get_or, if◌then◌else◌, sym, ◌∙◌, ap, arith, subst}
use Rattle.std.specs.List.{AllByRecursion, fold}
use Rattle.std.proofs.lemmas.List.{take_all}
use Rattle.mk_code.specs.declared.instr.Instr.{Instr}
use Rattle.mk_code.specs.declared.instr.Instr.TheVariants as op
use Rattle.mk_code.specs.Listing.{inputs_len}
use Rattle.mk_regs.specs.Form.{operands}
use Rattle.mk_regs.specs.Width.{is_among}
use Rattle.mk_regs.specs.Tables.{marked}
use Rattle.mk_regs.proofs.LastReads.{IsMarked, marked-outs, operands-there, all-wider, marked-step, tells-reads}
use Rattle.mk_regs.proofs.last.last_readers.Goals as goal

pub loop-k-init : goal.loop-k-init
loop-k-init c =
    let code = c.args.code.now in
    let last = c.loop-out.last.items in
    let own : c.as_slice-instrs.result.now ≡ code.instrs = c.as_slice-instrs.ensures.items ∙ c.instrs.ensures in
    let outs : c.as_slice-out-items.result.now ≡ code.outs = c.as_slice-out-items.ensures.items ∙ c.outs.ensures in
    let past : length code.outs ≤ c.loop-out.out-index = omega (arith, ap length outs) in
    subst (λ (n : ℕ). IsMarked code n last) (ap length (sym own))
    (marked-outs code last c.loop-out.invariant.0
    (λ p below. c.loop-out.invariant.1 p below
    ∙ ap (λ (qs : List ℕ). if is_among p qs then length code.instrs + 1 else 0) (take_all c.loop-out.out-index code.outs past)))

pub mark_operands-requires : goal.mark_operands-requires
mark_operands-requires c =
    let code = c.args.code.now in
    let own : c.as_slice-instrs.result.now ≡ code.instrs = c.as_slice-instrs.ensures.items ∙ c.instrs.ensures in
    let k = c.loop-k.k - 1 in
    let long : k < length code.instrs = omega (arith, ap length own) in
    let wide : inputs_len code.order code.secrets code.publics + k ≤ length c.loop-k.last.items = omega (arith, c.loop-k.invariant.count) in
    subst (λ (is : List Instr). AllByRecursion (λ q. q < length c.loop-k.last.items) (operands (get_or is k op.Rnd))) (sym own)
    (all-wider (inputs_len code.order code.secrets code.publics + k) (length c.loop-k.last.items) (operands (get_or code.instrs k op.Rnd)) wide
    (operands-there code k c.law.ensures.fits long))

pub loop-k-preserved : goal.loop-k-preserved
loop-k-preserved c =
    let code = c.args.code.now in
    let own : c.as_slice-instrs.result.now ≡ code.instrs = c.as_slice-instrs.ensures.items ∙ c.instrs.ensures in
    let k = c.loop-k.k - 1 in
    let long : k < length code.instrs = omega (arith, ap length own) in
    let one : k + 1 ≡ c.loop-k.k = omega arith in
    let before : IsMarked code (k + 1) c.loop-k.last.items = subst (λ (n : ℕ). IsMarked code n c.loop-k.last.items) (sym one) c.loop-k.invariant in
    let new : c.mark_operands.new.last.items ≡ fold (marked (k + 1)) c.loop-k.last.items (operands (get_or code.instrs k op.Rnd)) =
    c.mark_operands.ensures ∙ ap (λ (is : List Instr). fold (marked (k + 1)) c.loop-k.last.items (operands (get_or is k op.Rnd))) own in
    subst (IsMarked code k) (sym new) (marked-step code k c.loop-k.last.items c.law.ensures.fits long before)

pub returns : goal.returns
returns c = tells-reads c.args.code.now c.loop-k.last.items (subst (λ (n : ℕ). IsMarked c.args.code.now n c.loop-k.last.items) (omega arith) c.loop-k.invariant)
