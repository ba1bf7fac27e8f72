-- A word other than `-` says elements where it is an even number of digits.
use Rattle.std.proofs.Common.{◌≢◌, ◌%◌, length, true≢false, sym, ◌∙◌}
use Rattle.std.specs.Prelude.{codes}
use Rattle.std.proofs.lemmas.Bool.Decides.{Decides-eqb}
use Rattle.mk_words.proofs.Commands.{other-word}
use Rattle.mk_words.proofs.Digits.{says-digits, says-only, no-byte, some-byte}
use Rattle.mk_words.proofs.elements.are_elements.Goals as goal

pub returns-then-word-eq0 : goal.returns-then-word-eq0
returns-then-word-eq0 c =
    let other : c.args.word.now ≢ codes "-" = λ e. other-word _ _ (sym c.eq.ensures ∙ c.if-eq.false) (e ∙ sym c.as_slice.ensures) in
    (λ t. says-digits c.args.word.now (some-byte c.args.word.now (sym c.is_empty.ensures ∙ c.if-is_empty.false)) c.if-word-eq0.true (c.are_digits.ensures.0 t), λ says. c.are_digits.ensures.1 (says-only c.args.word.now other says).2)

pub returns-else-word-eq0 : goal.returns-else-word-eq0
returns-else-word-eq0 c =
    let other : c.args.word.now ≢ codes "-" = λ e. other-word _ _ (sym c.eq.ensures ∙ c.if-eq.false) (e ∙ sym c.as_slice.ensures) in (
      λ t. absurd (c.if-word-eq0.false ((Decides-eqb (length c.args.word.now % 2) 0).0 t)),
      λ says. absurd (c.if-word-eq0.false (says-only c.args.word.now other says).1),
    )

pub returns-then-is_empty : goal.returns-then-is_empty
returns-then-is_empty c =
    let other : c.args.word.now ≢ codes "-" = λ e. other-word _ _ (sym c.eq.ensures ∙ c.if-eq.false) (e ∙ sym c.as_slice.ensures) in
    (λ t. absurd (true≢false (sym t)), λ says. let h = says-only c.args.word.now other says in absurd (h.0 (no-byte c.args.word.now (sym c.is_empty.ensures ∙ c.if-is_empty.true))))
