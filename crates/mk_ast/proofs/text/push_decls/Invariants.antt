-- What is appended for the declarations so far.
use Rattle.std.proofs.Common.{◌≡◌, ◌++◌, take, map}
use Rattle.mk_ast.specs.Canonical.{laid, decl_line}
use Rattle.mk_ast.proofs.text.push_decls.Given as goal

abbrev pub invariant-loop-decl : goal.invariant-loop-decl
invariant-loop-decl l = l.text ≡ l.initial.text ++ laid 0 (map decl_line (take l.decl-index l.decls))
