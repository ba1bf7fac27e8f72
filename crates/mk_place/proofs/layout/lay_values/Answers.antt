-- Each value is laid behind those before it.
use Rattle.std.proofs.Common.{◌≡◌, ◌<◌, ◌+◌, ◌∷◌, ◌++◌, [], ℕ, suc, List, Some, length, slice_get, slice_index_or, sym, ◌∙◌, ap, subst, arith}
use Rattle.std.proofs.lemmas.Option.{slice_get-get_or}
use Rattle.mk_ssa.specs.declared.Op.{Op}
use Rattle.mk_ssa.specs.declared.Op.TheVariants.{Const}
use Rattle.mk_ssa.specs.Values.{Values}
use Rattle.mk_rules.specs.Claimed.{Claimed}
use Rattle.mk_place.specs.declared.marking.Fresh.{Fresh}
use Rattle.mk_place.specs.Marking.{all_marks, unmarked}
use Rattle.mk_place.specs.Laying.{IsLaid, with_refreshes, own_of}
use Rattle.mk_place.proofs.Placing.{laid-none, laid-next, next-named}
use Rattle.mk_place.proofs.layout.lay_values.Goals as goal

pub loop-at-init : goal.loop-at-init
loop-at-init c =
    let s : Values = c.args.s.now in (
      c.len-len.ensures.count ∙ ap (λ (xs : List Op). length xs) c.values.ensures.values,
      subst (λ (bs : List Op). IsLaid (all_marks s) s.values 0 bs c.new-names.result) (sym (ap (λ (x : Claimed). x.blocks) c.new-cert.ensures))
          (subst (λ (ns : List ℕ). IsLaid (all_marks s) s.values 0 [] ns) (sym c.new-names.ensures) (laid-none s)),
      ap (λ (x : Claimed). x.claims) c.new-cert.ensures,
    )

pub push-requires : goal.push-requires
push-requires c =
    let s : Values = c.args.s.now in
    let i : ℕ = c.loop-at.at in
    let op : Op = slice_index_or c.as_slice.result.now i (Const 0) in
    let same : c.as_slice.result.now ≡ s.values = c.as_slice.ensures.items ∙ c.values-in-loop-at.ensures.values in
    let within : i < length c.as_slice.result.now =
    omega (arith, c.loop-at-test.true, c.loop-at.invariant.0, ap (λ (xs : List Op). length xs) same) in
    let there : slice_get s.values i ≡ Some op =
    subst (λ (xs : List Op). slice_get xs i ≡ Some op) same (slice_get-get_or c.as_slice.result.now i (Const 0) within) in
    next-named s c.values.ensures.fits i op there c.loop-at.cert.blocks c.loop-at.names c.loop-at.invariant.1

pub loop-at-preserved : goal.loop-at-preserved
loop-at-preserved c =
    let s : Values = c.args.s.now in
    let i : ℕ = c.loop-at.at in
    let op : Op = slice_index_or c.as_slice.result.now i (Const 0) in
    let same : c.as_slice.result.now ≡ s.values = c.as_slice.ensures.items ∙ c.values-in-loop-at.ensures.values in
    let within : i < length c.as_slice.result.now =
    omega (arith, c.loop-at-test.true, c.loop-at.invariant.0, ap (λ (xs : List Op). length xs) same) in
    let there : slice_get s.values i ≡ Some op =
    subst (λ (xs : List Op). slice_get xs i ≡ Some op) same (slice_get-get_or c.as_slice.result.now i (Const 0) within) in
    let bs : List Op = c.loop-at.cert.blocks in
    let ns : List ℕ = c.loop-at.names in
    let fresh : List Fresh = c.args.fresh.now in
    let x : Fresh = slice_index_or fresh i unmarked in
    let at : slice_get fresh i ≡ Some x =
    slice_get-get_or fresh i unmarked (omega (arith, c.loop-at-test.true, c.loop-at.invariant.0, c.requires.count)) in
    let next : suc i ≡ i + 1 = omega arith in
    let laid : IsLaid (all_marks s) s.values (i + 1) (with_refreshes ns bs op x ++ own_of ns bs op x ∷ []) (ns ++ length (with_refreshes ns bs op x) ∷ []) =
    subst (λ (n : ℕ). IsLaid (all_marks s) s.values n (with_refreshes ns bs op x ++ own_of ns bs op x ∷ []) (ns ++ length (with_refreshes ns bs op x) ∷ []))
    next (laid-next s c.values.ensures.fits i op there bs ns c.loop-at.invariant.1 fresh x c.requires at) in (
      c.loop-at.invariant.0,
      subst (λ (ys : List ℕ). IsLaid (all_marks s) s.values (i + 1) c.push.new.cert.blocks ys) (sym c.in_ok-push.ensures.names)
          (subst (λ (xs : List Op). IsLaid (all_marks s) s.values (i + 1) xs (ns ++ length (with_refreshes ns bs op x) ∷ []))
          (sym c.in_ok-push.ensures.blocks) laid),
      c.in_ok-push.ensures.claims ∙ c.loop-at.invariant.2,
    )
