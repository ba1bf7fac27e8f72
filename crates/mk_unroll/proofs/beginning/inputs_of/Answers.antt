-- There is room for one more declaration.
use Rattle.std.proofs.Common.{◌++◌, ◌∷◌, [], take, sym, ap, ◌∙◌}
use Rattle.std.proofs.lemmas.List.{take_more}
use Rattle.mk_types.specs.Elements.{is_secret_class, is_public_class}
use Rattle.mk_unroll.proofs.FirstOperands.{room}
use Rattle.mk_unroll.proofs.beginning.inputs_of.Goals as goal

pub with-inputs-requires-clause-secrets : goal.with-inputs-requires-clause-secrets
with-inputs-requires-clause-secrets c =
    let ds = c.args.decls.now in
    let i = c.loop-decl.decl-index in
    let d = c.decl-item.result in
    room is_secret_class ds i d c.loop-decl.inputs.secrets 65536 (take_more ds i d c.loop-decl-test.true ∙ ap (λ x. take i ds ++ x ∷ []) (sym c.decl-item.is))
    c.requires c.loop-decl.invariant.secrets

pub with-inputs-requires-clause-publics : goal.with-inputs-requires-clause-publics
with-inputs-requires-clause-publics c =
    let ds = c.args.decls.now in
    let i = c.loop-decl.decl-index in
    let d = c.decl-item.result in
    room is_public_class ds i d c.loop-decl.inputs.publics 65536 (take_more ds i d c.loop-decl-test.true ∙ ap (λ x. take i ds ++ x ∷ []) (sym c.decl-item.is))
    c.requires c.loop-decl.invariant.publics
