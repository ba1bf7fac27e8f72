-- What is appended for the statements so far.
use Rattle.std.proofs.Common.{◌≡◌, ◌++◌, take, flat_map}
use Rattle.mk_ast.specs.Canonical.{laid, stmt_lines}
use Rattle.mk_ast.proofs.text.+stmt.Given as goal

abbrev pub invariant-push_stmts-loop-stmt : goal.invariant-push_stmts-loop-stmt
invariant-push_stmts-loop-stmt l = l.text ≡ l.initial.text ++ laid l.loops (flat_map stmt_lines (take l.stmt-index l.stmts))
