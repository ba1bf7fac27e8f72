-- A first byte, and as many bytes that go on as there are.
use Rattle.std.proofs.Common.{arith, sym, ◌∙◌}
use Rattle.mk_parse.proofs.Munching.{word_rest}
use Rattle.mk_parse.proofs.lexer.is_word.Goals as goal

pub returns-then-rest-lt64 : goal.returns-then-rest-lt64
returns-then-rest-lt64 c =
    word_rest c.args.text.now c.run_length.result (omega arith) (sym c.begins_word.ensures ∙ c.if-rest-lt64.true.0) c.if-rest-lt64.true.1 c.run_length.ensures
