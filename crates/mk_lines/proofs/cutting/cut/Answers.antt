-- The first line feed stands behind the line.
use Rattle.std.proofs.Common.{ℕ, take, drop, ap, ◌∙◌, arith}
use Rattle.std.proofs.lemmas.List.{nil_from_length}
use Rattle.mk_lines.proofs.Feeds.{cuts_behind, cuts_nothing}
use Rattle.mk_lines.proofs.cutting.cut.Goals as goal

pub returns-in-empty : goal.returns-in-empty
returns-in-empty c =
    let bytes = c.args.text.now in
    let behind = c.split_at.result.1.now in
    cuts_nothing bytes behind (c.split_at.ensures.back ∙ ap (λ (n : ℕ). drop n bytes) c.line_len.ensures.count) (nil_from_length behind (omega (arith, c.in-empty.len_below)))

pub returns-in-len1-up : goal.returns-in-len1-up
returns-in-len1-up c =
    let bytes = c.args.text.now in
    let behind = c.split_at.result.1.now in
    cuts_behind bytes c.split_at.result.0.now behind (c.split_at.ensures.front ∙ ap (λ (n : ℕ). take n bytes) c.line_len.ensures.count) (c.split_at.ensures.back ∙ ap (λ (n : ℕ). drop n bytes) c.line_len.ensures.count) (omega (arith, c.in-len1-up.len_at_least))
