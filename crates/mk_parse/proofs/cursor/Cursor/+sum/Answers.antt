use Rattle.std.proofs.Common.{sym, ◌∙◌, List, ◌∷◌, subst, codes}
use Rattle.mk_ast.specs.declared.tree.Expr.{Expr}
use Rattle.mk_ast.specs.declared.tree.Expr.TheVariants as expr
use Rattle.mk_parse.specs.Readers.{makes, every, past, says}
use Rattle.mk_parse.specs.Reading.{sum_inner, factor_by, product_by, sum_at}
use Rattle.mk_parse.proofs.Loops.{Going, passed, going_turn, going_end, going_stuck, several_stuck, several_one, several_later, several_more}
use Rattle.mk_parse.proofs.ExpressionPhrases.{multiplied_shorter, added_shorter, sum_is}
use Rattle.mk_parse.proofs.cursor.Cursor.+sum.Goals as goal

pub factors-returns-in_err-multiplied : goal.factors-returns-in_err-multiplied
factors-returns-in_err-multiplied t c =
    let reader = past (codes "*") (factor_by c.args.brackets (sum_inner c.args.brackets)) in
    let some = sym c.next_is.ensures ∙ c.loop-parts-test.true in
    passed _ c.from_residual-in_err-multiplied.result c.multiplied.new.self (reader c.loop-parts.self)
    (makes (λ (parts : List Expr). c.args.first ∷ parts) (every (says (codes "*")) reader) c.args.self.now) c.from_residual-in_err-multiplied.ensures.1
    (λ bad e. going_stuck (says (codes "*")) reader c.loop-parts.parts c.loop-parts.self bad _ c.loop-parts.invariant some e) c.in_err-multiplied.ensures

pub factors-loop-parts-smaller : goal.factors-loop-parts-smaller
factors-loop-parts-smaller t c =
    multiplied_shorter c.args.brackets c.loop-parts.self c.in_ok-multiplied.field-0 c.multiplied.new.self c.in_ok-multiplied.ensures

pub factors-loop-parts-preserved : goal.factors-loop-parts-preserved
factors-loop-parts-preserved t c =
    let reader = past (codes "*") (factor_by c.args.brackets (sum_inner c.args.brackets)) in
    let some = sym c.next_is.ensures ∙ c.loop-parts-test.true in
    let total = makes (λ (parts : List Expr). c.args.first ∷ parts) (every (says (codes "*")) reader) c.args.self.now in
    subst (λ (front : List Expr). Going (says (codes "*")) reader front c.multiplied.new.self total) (sym (c.in_ok-push-2.ensures).ok)
    (going_turn (says (codes "*")) reader c.loop-parts.parts c.loop-parts.self c.in_ok-multiplied.field-0 c.multiplied.new.self total c.loop-parts.invariant some c.in_ok-multiplied.ensures
    (multiplied_shorter c.args.brackets c.loop-parts.self c.in_ok-multiplied.field-0 c.multiplied.new.self c.in_ok-multiplied.ensures))

pub factors-returns : goal.factors-returns
factors-returns t c =
    let reader = past (codes "*") (factor_by c.args.brackets (sum_inner c.args.brackets)) in
    going_end (says (codes "*")) reader c.loop-parts.parts c.loop-parts.self _ c.loop-parts.invariant (sym c.next_is.ensures ∙ c.loop-parts-test.false)

pub products-returns-in_err-added : goal.products-returns-in_err-added
products-returns-in_err-added t c =
    let reader = past (codes "+") (product_by c.args.brackets (sum_inner c.args.brackets)) in
    let some = sym c.next_is.ensures ∙ c.loop-parts-test.true in
    passed _ c.from_residual-in_err-added.result c.added.new.self (reader c.loop-parts.self)
    (makes (λ (parts : List Expr). c.args.first ∷ parts) (every (says (codes "+")) reader) c.args.self.now) c.from_residual-in_err-added.ensures.1
    (λ bad e. going_stuck (says (codes "+")) reader c.loop-parts.parts c.loop-parts.self bad _ c.loop-parts.invariant some e) c.in_err-added.ensures

pub products-loop-parts-smaller : goal.products-loop-parts-smaller
products-loop-parts-smaller t c =
    added_shorter c.args.brackets c.loop-parts.self c.in_ok-added.field-0 c.added.new.self c.in_ok-added.ensures

pub products-loop-parts-preserved : goal.products-loop-parts-preserved
products-loop-parts-preserved t c =
    let reader = past (codes "+") (product_by c.args.brackets (sum_inner c.args.brackets)) in
    let some = sym c.next_is.ensures ∙ c.loop-parts-test.true in
    let total = makes (λ (parts : List Expr). c.args.first ∷ parts) (every (says (codes "+")) reader) c.args.self.now in
    subst (λ (front : List Expr). Going (says (codes "+")) reader front c.added.new.self total) (sym (c.in_ok-push-2.ensures).ok)
    (going_turn (says (codes "+")) reader c.loop-parts.parts c.loop-parts.self c.in_ok-added.field-0 c.added.new.self total c.loop-parts.invariant some c.in_ok-added.ensures
    (added_shorter c.args.brackets c.loop-parts.self c.in_ok-added.field-0 c.added.new.self c.in_ok-added.ensures))

pub products-returns : goal.products-returns
products-returns t c =
    let reader = past (codes "+") (product_by c.args.brackets (sum_inner c.args.brackets)) in
    going_end (says (codes "+")) reader c.loop-parts.parts c.loop-parts.self _ c.loop-parts.invariant (sym c.next_is.ensures ∙ c.loop-parts-test.false)

pub product-returns-in_err-first : goal.product-returns-in_err-first
product-returns-in_err-first t c =
    let reader = factor_by c.args.brackets (sum_inner c.args.brackets) in
    passed _ c.from_residual.result c.factor.new.self (reader c.args.self.now) (product_by c.args.brackets (sum_inner c.args.brackets) c.args.self.now) c.from_residual.ensures.1
    (λ bad e. several_stuck expr.Product (codes "*") reader c.args.self.now bad e) c.in_err-first.ensures

pub product-returns-then-not-next_is : goal.product-returns-then-not-next_is
product-returns-then-not-next_is t c =
    several_one expr.Product (codes "*") (factor_by c.args.brackets (sum_inner c.args.brackets)) c.args.self.now c.in_ok-first.first c.factor.new.self c.in_ok-first.ensures (sym c.next_is.ensures ∙ c.if-not-next_is.true)

pub product-returns-in_err-parts : goal.product-returns-in_err-parts
product-returns-in_err-parts t c =
    let reader = factor_by c.args.brackets (sum_inner c.args.brackets) in
    passed _ c.from_residual-in_err-parts.result c.factors.new.self
    (makes (λ (parts : List Expr). c.in_ok-first.first ∷ parts) (every (says (codes "*")) (past (codes "*") reader)) c.factor.new.self)
    (product_by c.args.brackets (sum_inner c.args.brackets) c.args.self.now) c.from_residual-in_err-parts.ensures.1
    (λ bad e. several_later expr.Product (codes "*") reader c.args.self.now c.in_ok-first.first c.factor.new.self bad c.in_ok-first.ensures e)
    c.in_err-parts.ensures

pub product-returns : goal.product-returns
product-returns t c =
    several_more expr.Product (codes "*") (factor_by c.args.brackets (sum_inner c.args.brackets)) c.args.self.now c.in_ok-first.first c.factor.new.self c.in_ok-parts.parts c.factors.new.self
    c.in_ok-first.ensures (sym c.next_is.ensures ∙ c.if-not-next_is.false) c.in_ok-parts.ensures

pub sum-returns-in_err-first : goal.sum-returns-in_err-first
sum-returns-in_err-first t c =
    let reader = product_by c.args.brackets (sum_inner c.args.brackets) in
    passed _ c.from_residual.result c.product.new.self (reader c.args.self.now) (sum_at c.args.brackets c.args.self.now) c.from_residual.ensures.1
    (λ bad e. sum_is c.args.brackets c.args.self.now ∙ several_stuck expr.Sum (codes "+") reader c.args.self.now bad e) c.in_err-first.ensures

pub sum-returns-then-not-next_is : goal.sum-returns-then-not-next_is
sum-returns-then-not-next_is t c =
    sum_is c.args.brackets c.args.self.now ∙ several_one expr.Sum (codes "+") (product_by c.args.brackets (sum_inner c.args.brackets)) c.args.self.now c.in_ok-first.first c.product.new.self c.in_ok-first.ensures (sym c.next_is.ensures ∙ c.if-not-next_is.true)

pub sum-returns-in_err-parts : goal.sum-returns-in_err-parts
sum-returns-in_err-parts t c =
    let reader = product_by c.args.brackets (sum_inner c.args.brackets) in
    passed _ c.from_residual-in_err-parts.result c.products.new.self
    (makes (λ (parts : List Expr). c.in_ok-first.first ∷ parts) (every (says (codes "+")) (past (codes "+") reader)) c.product.new.self)
    (sum_at c.args.brackets c.args.self.now) c.from_residual-in_err-parts.ensures.1
    (λ bad e. sum_is c.args.brackets c.args.self.now ∙ several_later expr.Sum (codes "+") reader c.args.self.now c.in_ok-first.first c.product.new.self bad c.in_ok-first.ensures e)
    c.in_err-parts.ensures

pub sum-returns : goal.sum-returns
sum-returns t c =
    sum_is c.args.brackets c.args.self.now ∙ several_more expr.Sum (codes "+") (product_by c.args.brackets (sum_inner c.args.brackets)) c.args.self.now c.in_ok-first.first c.product.new.self c.in_ok-parts.parts c.products.new.self
    c.in_ok-first.ensures (sym c.next_is.ensures ∙ c.if-not-next_is.false) c.in_ok-parts.ensures
