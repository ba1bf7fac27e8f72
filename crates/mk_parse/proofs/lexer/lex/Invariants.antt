-- The tokens so far reach as far as the text was read, which the rest of it shortens.
use Rattle.std.proofs.Common.{◌-◌, length}
use Rattle.mk_parse.proofs.Lexed.{Reached}
use Rattle.mk_parse.proofs.lexer.lex.Given as goal

abbrev pub invariant-loop-written : goal.invariant-loop-written
invariant-loop-written l = Reached l.text l.tokens l.spot.index l.spot.at

abbrev pub decreases-loop-written : goal.decreases-loop-written
decreases-loop-written l = length l.text - l.spot.index
