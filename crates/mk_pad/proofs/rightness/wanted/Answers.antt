-- Sums of polynomials are polynomials.
use Rattle.std.proofs.Common.{◌∙◌, sym, ap, take, drop, subst}
use Rattle.std.specs.List.{AllByRecursion}
use Rattle.mk_pad.specs.Polynomial.{IsTerm, IsPolynomial}
use Rattle.mk_pad.specs.Value.{sum_all}
use Rattle.mk_pad.proofs.Right.{sum_all-fits, all-take, all-drop}
use Rattle.mk_pad.proofs.rightness.wanted.Goals as goal

pub times-requires-clause-left : goal.times-requires-clause-left
times-requires-clause-left c =
    let field = c.args.ring.now.field in
    let n = c.args.ring.now.variables in
    subst (AllByRecursion (IsTerm field n)) (sym (c.as_slice.ensures.items ∙ c.in_ok-left-in-Mul.ensures ∙ ap sum_all c.split_at.ensures.front))
    (sum_all-fits field n (take c.args.each c.args.shares.now) (all-take (IsPolynomial field n) c.args.each c.args.shares.now c.requires.polynomials)).terms

pub times-requires-clause-right : goal.times-requires-clause-right
times-requires-clause-right c =
    let field = c.args.ring.now.field in
    let n = c.args.ring.now.variables in
    subst (AllByRecursion (IsTerm field n)) (sym (c.as_slice-in-Mul.ensures.items ∙ c.in_ok-right-in-Mul.ensures ∙ ap sum_all c.split_at.ensures.back))
    (sum_all-fits field n (drop c.args.each c.args.shares.now) (all-drop (IsPolynomial field n) c.args.each c.args.shares.now c.requires.polynomials)).terms
