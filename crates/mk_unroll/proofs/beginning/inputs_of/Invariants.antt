-- The inputs so far.
use Rattle.std.proofs.Common.{◌≡◌, take}
use Rattle.mk_types.specs.Elements.{is_secret_class, is_public_class, elements_among}
use Rattle.mk_unroll.proofs.beginning.inputs_of.Given as goal

abbrev pub invariant-loop-decl : goal.invariant-loop-decl
invariant-loop-decl l = record {
  secrets : l.inputs.secrets ≡ elements_among is_secret_class (take l.decl-index l.decls);
  publics : l.inputs.publics ≡ elements_among is_public_class (take l.decl-index l.decls);
}
