-- The squares so far.
use Rattle.std.proofs.Common.{◌≡◌}
use Rattle.mk_table.specs.Source.{squared}
use Rattle.mk_table.proofs.source.squared.Given as goal

abbrev pub invariant-loop : goal.invariant-loop
invariant-loop l = l.power ≡ squared l.counter l.fn.base
