use Rattle.std.proofs.Common.{◌≡◌, ◌++◌, map}
use Rattle.mk_run.proofs.Rows.{row_of}
use Rattle.mk_run.proofs.counting.rows_of.Given as goal

-- the rows, and those of the entries that are left
abbrev pub invariant-loop-key : goal.invariant-loop-key
invariant-loop-key l = l.rows ++ map row_of l.key-iterator ≡ map row_of l.fn.tallies.entries
