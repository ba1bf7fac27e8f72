-- A word that is a number of turns is no number out of their range.
use Rattle.std.proofs.Common.{sym, ◌∙◌, arith}
use Rattle.std.proofs.lemmas.Fmt.{decimal_injective}
use Rattle.mk_words.proofs.command.turns_of.Goals as goal

pub returns-then-turns-eq0-clause-none : goal.returns-then-turns-eq0-clause-none
returns-then-turns-eq0-clause-none c = λ turns says.
    let same = decimal_injective c.in_ok-turns.turns turns (omega arith) (omega (arith, says.2)) (sym (c.in_ok-turns.ensures).found ∙ says.0) in
    omega (arith, same, c.then-turns-eq0.either, says.1, says.2)
