-- A word other than `-` says probes where all its parts are numbers.
use Rattle.std.proofs.Common.{◌≢◌, sym, ◌∙◌, rules, tests}
use Rattle.std.specs.Prelude.{codes, ◌==◌}
use Rattle.std.proofs.lemmas.Iterator.{cases_from_all}
use Rattle.std.proofs.lemmas.Iterator.Splits.{YieldsList-from_slice_split}
use Rattle.mk_words.specs.Numbers.{IsNumber}
use Rattle.mk_words.proofs.Commands.{other-word}
use Rattle.mk_words.proofs.Decimals.{are-or-not}
use Rattle.mk_words.proofs.numbers.are_probes.Goals as goal

pub returns : goal.returns
returns c =
    let other : c.args.word.now ≢ codes "-" = λ e. other-word _ _ (sym c.eq.ensures ∙ c.if-eq.false) (e ∙ sym c.as_slice.ensures) in
    are-or-not c.args.word.now c.all.result other
    (cases_from_all _ _ _ IsNumber (λ w. IsNumber w → ⊥) c.all.ensures.ran
    (YieldsList-from_slice_split _ (λ b. b == 44) c.args.word.now c.split.ensures.rest c.split.ensures.done c.split.ensures.closure (λ x r q k. search (rules, tests)))
    (λ x q k. search (rules, tests)) (λ x q k. search (rules, tests)))
