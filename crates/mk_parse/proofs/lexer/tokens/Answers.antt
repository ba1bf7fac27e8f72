-- What was read is all or stops at a first bad place.
use Rattle.mk_parse.proofs.Lexed.{lexed_bad, lexed_whole}
use Rattle.mk_parse.proofs.lexer.tokens.Goals as goal

pub returns-then-not-whole : goal.returns-then-not-whole
returns-then-not-whole c =
    let lexed = c.in_ok-tokens.field-0 in
    lexed_bad c.args.text.now lexed.tokens lexed.end lexed.whole c.in_ok-tokens.ensures c.if-not-whole.true

pub returns : goal.returns
returns c =
    let lexed = c.in_ok-tokens.field-0 in
    lexed_whole c.args.text.now lexed.tokens lexed.end lexed.whole c.in_ok-tokens.ensures c.if-not-whole.false
