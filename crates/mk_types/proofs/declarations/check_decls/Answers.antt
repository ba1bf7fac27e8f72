-- A name is taken where its first declaration stands before.
use Rattle.std.proofs.Common.{arith, ◌≡◌, ◌++◌, ◌∷◌, [], nat_lt, is_some, take, sym, ap, ◌∙◌}
use Rattle.std.proofs.lemmas.List.{take_more}
use Rattle.mk_types.specs.declared.offence.OffenceKind.TheVariants as kind_
use Rattle.mk_types.specs.Noted.{noted}
use Rattle.mk_types.specs.Scope.{declared}
use Rattle.mk_types.specs.Elements.{number_of}
use Rattle.mk_types.specs.Offences.{when, is_no_map_of, decl_offences, decls_offences}
use Rattle.mk_types.proofs.Known.{taken_before}
use Rattle.mk_types.proofs.Lists.{decls_more}
use Rattle.mk_types.proofs.declarations.check_decls.Goals as goal

pub loop-number-preserved : goal.loop-number-preserved
loop-number-preserved c =
    let decls = c.args.decls.now in
    let field = c.args.field in
    let i = c.loop-number.number in
    let before = take i decls in
    let d = c.index-decls-number.result in
    let more = take_more decls i d c.loop-number-test.true ∙ ap (λ x. before ++ x ∷ []) (sym c.index-decls-number.is) in
    let tested : nat_lt c.number.result i ≡ is_some (declared before d.name) =
    ap (λ n. nat_lt n i) (c.number.ensures ∙ ap (λ ds. number_of ds c.as_slice.result.now) c.in_ok-names.ensures ∙ ap (number_of decls) c.as_slice.ensures.items)
    ∙ taken_before decls i d.name (omega (arith, c.loop-number-test.true)) in
    c.check_decl.ensures
    ∙ ap (λ b. noted c.loop-number.found (when b d.at kind_.Twice ++ when (is_no_map_of field d.what) d.at kind_.MapForm)) tested
    ∙ ap (λ o. noted o (decl_offences field before d)) c.loop-number.invariant
    ∙ sym (decls_more field c.args.found.now before d)
    ∙ ap (λ ds. noted c.args.found.now (decls_offences field [] ds)) (sym more)
