-- What stands here has a kind or none.
use Rattle.std.proofs.Common.{ℕ, ◌-◌, length, take, drop, subst, sym}
use Rattle.std.proofs.lemmas.List.{take_rest}
use Rattle.mk_parse.specs.Lexing.{IsTokenBetween, NoTokenBegins}
use Rattle.mk_parse.proofs.Lexed.{no_token, token_between}
use Rattle.mk_parse.proofs.lexer.token_at.Goals as goal

pub returns-in_err-kind : goal.returns-in_err-kind
returns-in_err-kind c =
    let text = c.args.text.now in
    let i = c.args.spot.index in
    let none = no_token (take (length text - i) (drop i text)) c.piece_length-length.result c.piece_length-length.ensures.alone c.in_err-kind.ensures in
    rw (c.from_residual.ensures) (subst NoTokenBegins (take_rest text i) none)

pub returns : goal.returns
returns c =
    let text = c.args.text.now in
    let i = c.args.spot.index in
    let n = c.piece_length-length.result in
    let kind = c.in_ok-kind.kind in
    let between = token_between text (take (length text - i) (drop i text)) i n kind (take_rest text i) c.in_ok-kind.ensures (c.piece_length-length.ensures.whole kind c.in_ok-kind.ensures) in
    (subst (λ (j : ℕ). IsTokenBetween text i kind j) (sym c.forward.ensures.index) between, c.forward.ensures.placed)
