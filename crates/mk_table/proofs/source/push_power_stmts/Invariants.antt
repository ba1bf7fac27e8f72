-- What is appended so far.
use Rattle.std.proofs.Common.{◌≡◌, ◌++◌, take, map}
use Rattle.mk_table.specs.Source.{power_stmt}
use Rattle.mk_table.proofs.source.push_power_stmts.Given as goal

abbrev pub invariant-loop-k : goal.invariant-loop-k
invariant-loop-k l = l.body ≡ l.initial.body ++ map power_stmt (take l.k-index l.ks)
