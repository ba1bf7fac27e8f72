-- Token after token.
use Rattle.std.proofs.Common.{List, refl, sym, subst}
use Rattle.mk_parse.specs.declared.token.Token.{Token}
use Rattle.mk_parse.proofs.Lexed.{Reached, reached_more, reached_end}
use Rattle.mk_parse.proofs.lexer.lex.Goals as goal

pub loop-written-preserved : goal.loop-written-preserved
loop-written-preserved c =
    let text = c.args.text.now in
    let spot = c.past_gap-spot-in-Some.result in
    let token : Token = record { kind = c.kind.result; from = c.loop-written.spot.index; to = c.in-Some.end.index; at = c.loop-written.spot.at; written = c.in-Some.written } in
    let gap = c.past_gap-spot-in-Some.ensures in
    let more = reached_more text c.loop-written.tokens token spot.index spot.at c.in-Some.end.at c.loop-written.invariant c.in-Some.ensures.0 c.kind.ensures c.in-Some.ensures.1 gap.placed gap.gap gap.begins in
    subst (λ (tokens : List Token). Reached text tokens spot.index spot.at) (sym c.in_ok-push.ensures.ok) more

pub returns : goal.returns
returns c = reached_end c.args.text.now c.loop-written.tokens c.loop-written.spot.index c.loop-written.spot.at _ c.loop-written.invariant c.in_default.ensures refl
