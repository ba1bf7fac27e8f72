-- None of the expressions so far is shared.
use Rattle.std.proofs.Common.{◌≡◌, false, take}
use Rattle.std.specs.List.{list_any}
use Rattle.mk_types.specs.Scope.{is_shared}
use Rattle.mk_types.proofs.expressions.+shared.Given as goal

abbrev pub invariant-has_shared-loop-expr : goal.invariant-has_shared-loop-expr
invariant-has_shared-loop-expr l = list_any (is_shared l.scope.decls) (take l.expr-index l.exprs) ≡ false
