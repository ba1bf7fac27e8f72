-- A word that is an order is no number out of their range.
use Rattle.std.proofs.Common.{sym, ◌∙◌, arith}
use Rattle.std.proofs.lemmas.Fmt.{decimal_injective}
use Rattle.mk_words.proofs.command.order_of.Goals as goal

pub returns-then-order-eq0-clause-none : goal.returns-then-order-eq0-clause-none
returns-then-order-eq0-clause-none c = λ order says.
    let same = decimal_injective c.in_ok-order.order order (omega arith) (omega (arith, says.2)) (sym (c.in_ok-order.ensures).found ∙ says.0) in
    omega (arith, same, c.then-order-eq0.either, says.1, says.2)
