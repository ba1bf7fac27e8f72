-- The coefficients so far.
use Rattle.std.proofs.Common.{◌≡◌, map}
use Rattle.std.specs.List.{range_with_len}
use Rattle.mk_table.specs.Coefficients.{coefficient}
use Rattle.mk_table.proofs.coefficients.coefficients_of.Given as goal

abbrev pub invariant-loop-k : goal.invariant-loop-k
invariant-loop-k l = l.list ≡ map (coefficient l.table) (range_with_len 0 l.k)
