-- One value more has its place.
use Rattle.std.proofs.Common.{◌≡◌, ℕ, ◌+◌, ◌++◌, ◌∷◌, [], List, false, length, slice_get, get_or, Some, refl, ◌∙◌, ap, arith}
use Rattle.std.proofs.lemmas.List.{length-append}
use Rattle.std.proofs.lemmas.Option.{slice_get-get_or}
use Rattle.mk_ssa.specs.declared.Op.TheVariants.{Const}
use Rattle.mk_ssa.specs.Values.{Draft, pushed}
use Rattle.mk_ssa.specs.Operators.{with_operands}
use Rattle.mk_simplify.specs.Renumbering.{IsMarked, renumbered}
use Rattle.mk_simplify.proofs.Carried.{made-earlier}
use Rattle.mk_simplify.proofs.Marks.{operands-within}
use Rattle.mk_simplify.proofs.Placing.{ArePlaced-new, keeping-fits, keeping-marked, keeping-passed, IsDraft-empty}
use Rattle.mk_simplify.proofs.simplified.keep.Goals as goal
use Rattle.mk_simplify.proofs.simplified.keep.Goals.{then-marks-k+in_ok-push-2, else-marks-k}

pub loop-k-init : goal.loop-k-init
loop-k-init c =
    let b : Draft = c.args.builder.now in (
      rw (c.requires.empty, c.new-places.ensures) (ArePlaced-new c.args.ops.now c.args.marks.now),
      refl,
      IsDraft-empty b c.args.ops.now c.requires.empty c.requires.made,
    )

pub with_renumbered-requires : goal.with_renumbered-requires
with_renumbered-requires c =
    let ops = c.args.ops.now in
    let d : Draft = record c.args.builder.now { values = ops } in
    let k = c.loop-k.k in
    let x = get_or ops k (Const 0) in
    let long : length c.as_slice.result.now ≡ k + 1 =
    ap length (c.as_slice.ensures.items ∙ c.in_ok-push.ensures.ok) ∙ omega (arith, length-append c.loop-k.places (c.len.result ∷ []), c.loop-k.invariant.0.count) in
    operands-within ops k x (length c.as_slice.result.now) (made-earlier d c.requires.made) (omega (arith, long)) (slice_get-get_or ops k (Const 0) c.loop-k-test.true)

pub push-requires-then-marks-k : goal.push-requires-then-marks-k
push-requires-then-marks-k c =
    let ops = c.args.ops.now in
    let k = c.loop-k.k in
    let x = get_or ops k (Const 0) in
    let is : IsMarked c.args.marks.now k =
    slice_get-get_or c.args.marks.now k false (omega (arith, c.loop-k-test.true, c.requires.count)) ∙ ap Some c.if-marks-k.true in
    let places : c.as_slice.result.now ≡ c.loop-k.places ++ c.len.result ∷ [] = c.as_slice.ensures.items ∙ c.in_ok-push.ensures.ok in
    rw (c.with_renumbered.ensures, places)
    (keeping-fits c.args.builder.now ops c.args.marks.now k c.loop-k.builder c.loop-k.places c.len.result x c.requires.made c.requires.closed c.loop-k.invariant is
    (slice_get-get_or ops k (Const 0) c.loop-k-test.true))

pub loop-k-preserved : goal.loop-k-preserved
loop-k-preserved c =
    let b : Draft = c.args.builder.now in
    let ops = c.args.ops.now in
    let marks = c.args.marks.now in
    let k = c.loop-k.k in
    let x = get_or ops k (Const 0) in
    let at : slice_get ops k ≡ Some x = slice_get-get_or ops k (Const 0) c.loop-k-test.true in
    let places : c.push.new.self ≡ c.loop-k.places ++ length c.loop-k.builder.values ∷ [] =
    c.in_ok-push.ensures.ok ∙ ap (λ (n : ℕ). c.loop-k.places ++ n ∷ []) c.len.ensures.count in
    let mark : slice_get marks k ≡ Some (get_or marks k false) = slice_get-get_or marks k false (omega (arith, c.loop-k-test.true, c.requires.count)) in
    elim c.if-marks-k.branch [
      | then-marks-k+in_ok-push-2 w ↦
          let y : w.with_renumbered.result ≡ with_operands (renumbered (c.loop-k.places ++ length c.loop-k.builder.values ∷ [])) x =
          w.with_renumbered.ensures ∙ ap (λ (l : List ℕ). with_operands (renumbered l) x) (w.as_slice.ensures.items ∙ places) in
          let next : c.if-marks-k.builder ≡ pushed c.loop-k.builder (with_operands (renumbered (c.loop-k.places ++ length c.loop-k.builder.values ∷ [])) x) =
          w.builder-is ∙ w.in_ok-push-2.ensures.ok ∙ ap (pushed c.loop-k.builder) y in
          rw (next, places) (keeping-marked b ops marks k c.loop-k.builder c.loop-k.places x c.requires.made c.requires.closed c.loop-k.invariant (mark ∙ ap Some w.if-marks-k.true) at)
      | else-marks-k w ↦
          rw (w.builder-is, places)
          (keeping-passed b ops marks k c.loop-k.builder c.loop-k.places (length c.loop-k.builder.values) c.requires.made c.loop-k.invariant c.loop-k-test.true
          (mark ∙ ap Some w.if-marks-k.false))
    ]
