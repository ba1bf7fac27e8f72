-- What is noted of the statements so far.
use Rattle.std.proofs.Common.{◌≡◌, take, flat_map}
use Rattle.mk_types.specs.Noted.{noted}
use Rattle.mk_types.specs.Offences.{stmt_offences}
use Rattle.mk_types.proofs.statements.+stmt.Given as goal

abbrev pub invariant-check_stmts-loop-stmt : goal.invariant-check_stmts-loop-stmt
invariant-check_stmts-loop-stmt l = record {
  scope : l.scope ≡ l.initial.scope;
  found : l.found ≡ noted l.initial.found (flat_map (λ s. stmt_offences s l.initial.scope) (take l.stmt-index l.stmts));
}
