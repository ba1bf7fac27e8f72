-- Two spaces are appended for each loop so far.
use Rattle.std.proofs.Common.{◌≡◌, ◌++◌}
use Rattle.mk_ast.specs.Canonical.{indent}
use Rattle.mk_ast.proofs.writer.Writer.indent.Given as goal

abbrev pub invariant-loop-within : goal.invariant-loop-within
invariant-loop-within l = l.self ≡ l.initial.self ++ indent l._within
