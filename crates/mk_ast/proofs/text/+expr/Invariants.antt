-- What is appended for the parts so far.
use Rattle.std.proofs.Common.{◌≡◌, ◌++◌, take, map, codes}
use Rattle.mk_ast.specs.Canonical.{joined, expr_text, summand_text, factor_text}
use Rattle.mk_ast.proofs.text.+expr.Given as goal

abbrev pub invariant-push_sum-loop-number : goal.invariant-push_sum-loop-number
invariant-push_sum-loop-number l =
    l.text ≡ l.initial.text ++ joined (codes " + ") (map (λ e. summand_text e (expr_text e)) (take l.number l.parts))

abbrev pub invariant-push_product-loop-number : goal.invariant-push_product-loop-number
invariant-push_product-loop-number l =
    l.text ≡ l.initial.text ++ joined (codes " * ") (map (λ e. factor_text e (expr_text e)) (take l.number l.parts))
