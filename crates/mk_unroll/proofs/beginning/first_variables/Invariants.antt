-- The variables and the inputs so far.
use Rattle.std.proofs.Common.{◌≡◌, [], take}
use Rattle.mk_types.specs.Elements.{is_secret_class, is_public_class, elements_among}
use Rattle.mk_unroll.specs.Beginning.{first_env}
use Rattle.mk_unroll.proofs.beginning.first_variables.Given as goal

abbrev pub invariant-loop-decl : goal.invariant-loop-decl
invariant-loop-decl l = record {
  variables : l.variables ≡ first_env [] (take l.decl-index l.decls);
  secrets : l.inputs.secrets ≡ elements_among is_secret_class (take l.decl-index l.decls);
  publics : l.inputs.publics ≡ elements_among is_public_class (take l.decl-index l.decls);
}
