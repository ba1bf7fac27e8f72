-- What is appended so far.
use Rattle.std.proofs.Common.{◌≡◌, ◌++◌, take, map}
use Rattle.mk_ast.specs.declared.tree.Class.TheVariants as class_
use Rattle.mk_table.specs.Source.{scalar, power_name}
use Rattle.mk_table.proofs.source.push_powers.Given as goal

abbrev pub invariant-loop-k : goal.invariant-loop-k
invariant-loop-k l = l.decls ≡ l.initial.decls ++ map (λ k. scalar class_.LocalSecret (power_name k)) (take l.k-index l.ks)
