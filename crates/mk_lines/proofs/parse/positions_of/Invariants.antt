-- The positions so far, before those that the rest gives, are those that all bytes give.
use Rattle.std.proofs.Common.{◌≡◌, ◌-◌, ◌++◌, Some}
use Rattle.mk_lines.specs.Parsing.{◌>>=◌, positions_of}
use Rattle.mk_lines.proofs.parse.positions_of.Given as goal

abbrev pub invariant-loop : goal.invariant-loop
invariant-loop l = (positions_of (l.count - l.counter) l.len l.rest >>= λ ps. Some (l.positions ++ ps)) ≡ positions_of l.count l.len l.words
