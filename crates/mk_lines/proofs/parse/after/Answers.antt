-- Letter after letter.
use Rattle.std.proofs.Common.{arith}
use Rattle.mk_lines.specs.Parsing.{after}
use Rattle.mk_lines.proofs.Loops.{after_more, after_other, after_done}
use Rattle.mk_lines.proofs.parse.after.Goals as goal

pub returns-in_default : goal.returns-in_default
returns-in_default c =
    after_other c.args.word.now c.loop-letter.rest.now c.loop-letter.letter-index (after c.args.word.now c.args.bytes.now) c.loop-letter-test.true (λ some. absurd (omega (arith, some, c.in_default.len_below))) c.loop-letter.invariant

pub returns-then-letter-first : goal.returns-then-letter-first
returns-then-letter-first c =
    after_other c.args.word.now c.loop-letter.rest.now c.loop-letter.letter-index (after c.args.word.now c.args.bytes.now) c.loop-letter-test.true (λ some. c.if-letter-first.true) c.loop-letter.invariant

pub loop-letter-preserved : goal.loop-letter-preserved
loop-letter-preserved c =
    after_more c.args.word.now c.loop-letter.rest.now c.loop-letter.letter-index (after c.args.word.now c.args.bytes.now) c.loop-letter-test.true (omega (arith, c.in-len1-up.len_at_least)) c.if-letter-first.false c.loop-letter.invariant

pub returns : goal.returns
returns c =
    after_done c.args.word.now c.loop-letter.rest.now c.loop-letter.letter-index (after c.args.word.now c.args.bytes.now) c.loop-letter-test.false c.loop-letter.invariant
