-- The lines of the rows so far.
use Rattle.std.proofs.Common.{◌≡◌, ◌++◌, take, flat_map, string_bytes}
use Rattle.mk_top.specs.Counts.{row_line}
use Rattle.mk_top.proofs.counts.push_rows.Given as goal

abbrev pub invariant-loop-row : goal.invariant-loop-row
invariant-loop-row l = string_bytes l.text ≡ string_bytes l.initial.text ++ flat_map row_line (take l.row-index l.rows)
