-- One output more, and one value less.
use Rattle.std.proofs.Common.{rules, ◌≡◌, ◌+◌, ◌-◌, ◌<◌, ℕ, false, sym, ◌∙◌, ap, subst, length, get_or, take, Some, arith, replicate}
use Rattle.std.proofs.lemmas.List.{take_more}
use Rattle.std.proofs.lemmas.List.Elements.{All-get_or, Contains-get_or}
use Rattle.std.proofs.lemmas.Option.{slice_get-get_or}
use Rattle.mk_ssa.specs.declared.Op.TheVariants.{Const}
use Rattle.mk_ssa.specs.declared.Operand.TheVariants.{Secret}
use Rattle.mk_simplify.specs.Renumbering.{IsBelow, IsMarked}
use Rattle.mk_simplify.proofs.Marks.{IsMarking, IsMarking-new, IsMarking-out, IsMarking-value, IsMarking-passed, operands-within, unmarked}
use Rattle.mk_simplify.proofs.needs.needs.Goals as goal

pub loop-out-init : goal.loop-out-init
loop-out-init c =
    let e : c.in_ok-marks.marks.items ≡ replicate (length c.args.ops.now) false = search (rules, c.in_ok-marks.ensures.items_if_clones_equal) in
    rw e (IsMarking-new c.args.ops.now c.args.outs.now)

pub loop-out-preserved : goal.loop-out-preserved
loop-out-preserved c =
    let outs = c.args.outs.now in
    let k = c.loop-out.out-index in
    let v = get_or outs k (Secret 0) in
    rw (take_more outs k (Secret 0) c.loop-out-test.true, c.mark.ensures)
    (IsMarking-out c.args.ops.now outs (take k outs) c.loop-out.marks.items v c.loop-out.invariant
    (All-get_or (IsBelow (length c.args.ops.now)) outs k (Secret 0) c.loop-out-test.true c.requires.outs)
    (Contains-get_or outs k (Secret 0) c.loop-out-test.true))

pub mark_operands-requires : goal.mark_operands-requires
mark_operands-requires c =
    let ops = c.args.ops.now in
    let k = c.loop-k.k - 1 in
    let below : k < length ops = omega (arith, c.loop-k.invariant.1, c.loop-k-test.true) in
    operands-within ops k (get_or ops k (Const 0)) (length c.loop-k.marks.items) c.requires.earlier (omega (arith, below, c.loop-k.invariant.0.count))
    (slice_get-get_or ops k (Const 0) below)

pub loop-k-preserved-then-index : goal.loop-k-preserved-then-index
loop-k-preserved-then-index c =
    let ops = c.args.ops.now in
    let k = c.loop-k.k - 1 in
    let marks = c.loop-k.marks.items in
    let x = get_or ops k (Const 0) in
    let below : k < length ops = omega (arith, c.loop-k.invariant.1, c.loop-k-test.true) in
    let next : c.loop-k.k ≡ k + 1 = omega (arith, c.loop-k-test.true) in
    let at : IsMarked marks k =
    slice_get-get_or marks k c.index.result.now (omega (arith, below, c.loop-k.invariant.0.count)) ∙ ap Some (sym c.index.ensures ∙ c.if-index.true) in
    let so_far : IsMarking ops c.args.outs.now c.args.outs.now (k + 1) marks =
    subst (λ (n : ℕ). IsMarking ops c.args.outs.now c.args.outs.now n marks) next c.loop-k.invariant.0 in (
      rw c.mark_operands.ensures (IsMarking-value ops c.args.outs.now k x marks c.requires.earlier so_far at (slice_get-get_or ops k (Const 0) below)),
      omega (arith, below),
    )

pub loop-k-preserved : goal.loop-k-preserved
loop-k-preserved c =
    let ops = c.args.ops.now in
    let k = c.loop-k.k - 1 in
    let marks = c.loop-k.marks.items in
    let below : k < length ops = omega (arith, c.loop-k.invariant.1, c.loop-k-test.true) in
    let next : c.loop-k.k ≡ k + 1 = omega (arith, c.loop-k-test.true) in
    let not : ¬ IsMarked marks k =
    unmarked marks k c.index.result.now c.index.ensures c.if-index.false in
    let so_far : IsMarking ops c.args.outs.now c.args.outs.now (k + 1) marks =
    subst (λ (n : ℕ). IsMarking ops c.args.outs.now c.args.outs.now n marks) next c.loop-k.invariant.0 in
    (IsMarking-passed ops c.args.outs.now k marks so_far not, omega (arith, below))
