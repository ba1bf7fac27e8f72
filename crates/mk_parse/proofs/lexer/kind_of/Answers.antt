-- Kind after kind.
use Rattle.std.proofs.lemmas.Bool.{both_ways}
use Rattle.mk_parse.proofs.Munching.{no_kind}
use Rattle.mk_parse.proofs.lexer.kind_of.Goals as goal

pub returns : goal.returns
returns c =
    no_kind c.args.text.now
    (λ h. both_ways c.is_word.result c.if-is_word.false (c.is_word.ensures.1 h))
    c.in_default.ensures
    c.in_default-element.ensures
    (λ h. both_ways c.is_symbol.result c.if-is_symbol.false (c.is_symbol.ensures.1 h))
