-- Behind the letters so far, the rest is what stands behind the word.
use Rattle.std.proofs.Common.{◌≡◌, drop}
use Rattle.mk_lines.specs.Parsing.{after}
use Rattle.mk_lines.proofs.parse.after.Given as goal

abbrev pub invariant-loop-letter : goal.invariant-loop-letter
invariant-loop-letter l = after (drop l.letter-index l.word) l.rest ≡ after l.word l.bytes
