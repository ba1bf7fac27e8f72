-- What is noted of the expressions so far.
use Rattle.std.proofs.Common.{◌≡◌, take, flat_map}
use Rattle.mk_types.specs.Noted.{noted}
use Rattle.mk_types.specs.Offences.{expr_offences}
use Rattle.mk_types.proofs.expressions.+check.Given as goal

abbrev pub invariant-check_exprs-loop-expr : goal.invariant-check_exprs-loop-expr
invariant-check_exprs-loop-expr l = l.found ≡ noted l.initial.found (flat_map (expr_offences l.scope) (take l.expr-index l.exprs))
