-- The elements so far are few.
use Rattle.std.proofs.Common.{◌≡◌, ◌≤◌, true, take}
use Rattle.mk_types.specs.Elements.{elements_among}
use Rattle.mk_unroll.proofs.beginning.check_elements.Given as goal

abbrev pub invariant-loop-decl : goal.invariant-loop-decl
invariant-loop-decl l = record {
  elements : l.elements ≡ elements_among (λ class. true) (take l.decl-index l.decls);
  few : l.elements ≤ 65536;
}
