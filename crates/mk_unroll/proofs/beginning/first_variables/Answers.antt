-- There is room for one more declaration, and what its variable holds is behind the others.
use Rattle.std.proofs.Common.{◌++◌, ◌∷◌, [], ◌+◌, take, sym, ap, ◌∙◌, arith}
use Rattle.std.proofs.lemmas.List.{take_more}
use Rattle.mk_types.specs.Elements.{is_secret_class, is_public_class, elements_in}
use Rattle.mk_unroll.specs.Beginning.{first_operands, first_env}
use Rattle.mk_unroll.proofs.FirstOperands.{room, among_more, env_more}
use Rattle.mk_unroll.proofs.beginning.first_variables.Goals as goal

pub first_operands-requires-clause-secrets : goal.first_operands-requires-clause-secrets
first_operands-requires-clause-secrets c =
    let ds = c.args.decls.now in
    let i = c.loop-decl.decl-index in
    let d = c.decl-item.result in
    let more = take_more ds i d c.loop-decl-test.true ∙ ap (λ x. take i ds ++ x ∷ []) (sym c.decl-item.is) in
    omega (arith, room is_secret_class ds i d c.loop-decl.inputs.secrets 65536 more c.requires c.loop-decl.invariant.secrets)

pub first_operands-requires-clause-publics : goal.first_operands-requires-clause-publics
first_operands-requires-clause-publics c =
    let ds = c.args.decls.now in
    let i = c.loop-decl.decl-index in
    let d = c.decl-item.result in
    let more = take_more ds i d c.loop-decl-test.true ∙ ap (λ x. take i ds ++ x ∷ []) (sym c.decl-item.is) in
    omega (arith, room is_public_class ds i d c.loop-decl.inputs.publics 65536 more c.requires c.loop-decl.invariant.publics)

pub with-inputs-requires-clause-secrets : goal.with-inputs-requires-clause-secrets
with-inputs-requires-clause-secrets c =
    let ds = c.args.decls.now in
    let i = c.loop-decl.decl-index in
    let d = c.decl-item.result in
    room is_secret_class ds i d c.loop-decl.inputs.secrets 65536 (take_more ds i d c.loop-decl-test.true ∙ ap (λ x. take i ds ++ x ∷ []) (sym c.decl-item.is))
    c.requires c.loop-decl.invariant.secrets

pub with-inputs-requires-clause-publics : goal.with-inputs-requires-clause-publics
with-inputs-requires-clause-publics c =
    let ds = c.args.decls.now in
    let i = c.loop-decl.decl-index in
    let d = c.decl-item.result in
    room is_public_class ds i d c.loop-decl.inputs.publics 65536 (take_more ds i d c.loop-decl-test.true ∙ ap (λ x. take i ds ++ x ∷ []) (sym c.decl-item.is))
    c.requires c.loop-decl.invariant.publics

pub loop-decl-preserved : goal.loop-decl-preserved
loop-decl-preserved c =
    let ds = c.args.decls.now in
    let i = c.loop-decl.decl-index in
    let d = c.decl-item.result in
    let more = take_more ds i d c.loop-decl-test.true ∙ ap (λ x. take i ds ++ x ∷ []) (sym c.decl-item.is) in
    record {
      variables =
          c.in_ok-push.ensures
          ∙ ap (λ env. env ++ c.in_ok-first_operands.field-0.items ∷ []) c.loop-decl.invariant.variables
          ∙ ap (λ v. first_env [] (take i ds) ++ v ∷ [])
          (c.in_ok-first_operands.ensures
          ∙ ap (λ n. first_operands d.what n c.loop-decl.inputs.publics) c.loop-decl.invariant.secrets
          ∙ ap (first_operands d.what _) c.loop-decl.invariant.publics)
          ∙ env_more ds i d more;
      secrets = c.with-inputs.ensures.secrets ∙ ap (λ n. n + elements_in is_secret_class d.what) c.loop-decl.invariant.secrets ∙ among_more is_secret_class ds i d more;
      publics = c.with-inputs.ensures.publics ∙ ap (λ n. n + elements_in is_public_class d.what) c.loop-decl.invariant.publics ∙ among_more is_public_class ds i d more;
    }
