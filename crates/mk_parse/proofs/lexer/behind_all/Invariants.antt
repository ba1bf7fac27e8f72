-- The place behind the bytes so far.
use Rattle.std.proofs.Common.{◌≡◌, ℕ, ◌+◌, ◌≤◌, List, ◌++◌, take}
use Rattle.mk_ast.specs.Tokens.{place_behind}
use Rattle.mk_parse.proofs.lexer.behind_all.Given as goal

abbrev pub invariant-loop-byte : goal.invariant-loop-byte
invariant-loop-byte l = record {
  place : (front : List ℕ) → l.fn.at ≡ place_behind front → l.here ≡ place_behind (front ++ take l.byte-index l.bytes);
  line : l.here.line ≤ l.fn.at.line + l.byte-index;
  column : l.here.column ≤ l.fn.at.column + l.byte-index;
}
