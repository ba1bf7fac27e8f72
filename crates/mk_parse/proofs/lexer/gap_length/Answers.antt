-- Byte after byte.
use Rattle.std.proofs.Common.{ℕ, ◌+◌, Bool, List, sym, ◌∙◌, subst, take, get_or, cond, not}
use Rattle.std.specs.Prelude.{◌||◌, ◌==◌}
use Rattle.std.proofs.lemmas.Bool.{or_cases}
use Rattle.std.proofs.lemmas.List.{take_more}
use Rattle.mk_ast.specs.Tokens.{is_blank}
use Rattle.mk_parse.proofs.Gaps.{IsSoFar, so_far_more}
use Rattle.mk_parse.proofs.lexer.gap_length.Goals as goal

pub loop-index-preserved : goal.loop-index-preserved
loop-index-preserved c =
    let bytes = c.args.bytes.now in
    let i = c.loop-index.index in
    let comment = c.loop-index.in_comment in
    let b = get_or bytes i 0 in
    let held = sym c.stands_in_gap.ensures ∙ c.if-not-stands_in_gap.false in
    let more = so_far_more comment (take i bytes) b c.loop-index.invariant (or_cases comment (is_blank b || b == 35) held) in
    subst (λ (t : Bool). IsSoFar t (take (i + 1) bytes)) (sym c.goes_into_comment-in_comment.ensures)
    (subst (λ (front : List ℕ). IsSoFar (cond comment (not (b == 10)) (b == 35)) front) (sym (take_more bytes i 0 c.loop-index-test.true)) more)
