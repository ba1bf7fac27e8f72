-- What is appended for the positions so far.
use Rattle.std.proofs.Common.{◌≡◌, ◌≤◌, ◌<◌, ◌+◌, ◌*◌, ◌^◌, ◌++◌, take, flat_map}
use Rattle.std.specs.List.{AllByRecursion}
use Rattle.arrayvec.specs.ArrayString.{array_string_len}
use Rattle.mk_lines.specs.CodeLines.{position_word}
use Rattle.mk_lines.proofs.lines.push_positions.Given as goal

abbrev pub invariant-loop-position : goal.invariant-loop-position
invariant-loop-position l = record {
  text : l.line.bytes ≡ l.initial.line.bytes ++ flat_map position_word (take l.position-index l.positions);
  fits : AllByRecursion (λ p. p < 2 ^ 32) (take l.position-index l.positions);
  len : array_string_len l.line ≤ array_string_len l.initial.line + 11 * l.position-index;
}
