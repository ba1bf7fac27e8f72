use Rattle.std.proofs.Common.{sym, ◌∙◌, List, ◌∷◌, subst, codes}
use Rattle.mk_ast.specs.declared.tree.Index.{Index}
use Rattle.mk_ast.specs.declared.tree.Index.TheVariants as index
use Rattle.mk_ast.specs.declared.tree.Link.{Link}
use Rattle.mk_parse.specs.Readers.{makes, every, past, says}
use Rattle.mk_parse.specs.Reading.{index_inner, index_link_by, begins_link, index_product_by, index_sum_at}
use Rattle.mk_parse.proofs.Loops.{Going, passed, going_turn, going_end, going_stuck, several_stuck, several_one, several_later, several_more}
use Rattle.mk_parse.proofs.IndexPhrases.{link_shorter, added_shorter, index_sum_is}
use Rattle.mk_parse.proofs.cursor.Cursor.+index.Goals as goal

pub index_links-returns-in_err-index_link : goal.index_links-returns-in_err-index_link
index_links-returns-in_err-index_link t c =
    let reader = index_link_by (index_inner c.args.brackets) in
    let some = sym c.next_is_link.ensures ∙ c.loop-links-test.true in
    passed _ c.from_residual.result c.index_link.new.self (reader c.loop-links.self) (every begins_link reader c.args.self.now) c.from_residual.ensures.1
    (λ bad e. going_stuck begins_link reader c.loop-links.links c.loop-links.self bad _ c.loop-links.invariant some e) c.in_err-index_link.ensures

pub index_links-loop-links-smaller : goal.index_links-loop-links-smaller
index_links-loop-links-smaller t c =
    link_shorter c.args.brackets c.loop-links.self c.in_ok-index_link.field-0 c.index_link.new.self c.in_ok-index_link.ensures

pub index_links-loop-links-preserved : goal.index_links-loop-links-preserved
index_links-loop-links-preserved t c =
    let reader = index_link_by (index_inner c.args.brackets) in
    let some = sym c.next_is_link.ensures ∙ c.loop-links-test.true in
    let total = every begins_link reader c.args.self.now in
    subst (λ (front : List Link). Going begins_link reader front c.index_link.new.self total) (sym (c.in_ok-push.ensures).ok)
    (going_turn begins_link reader c.loop-links.links c.loop-links.self c.in_ok-index_link.field-0 c.index_link.new.self total c.loop-links.invariant some c.in_ok-index_link.ensures
    (link_shorter c.args.brackets c.loop-links.self c.in_ok-index_link.field-0 c.index_link.new.self c.in_ok-index_link.ensures))

pub index_links-returns : goal.index_links-returns
index_links-returns t c =
    let reader = index_link_by (index_inner c.args.brackets) in
    going_end begins_link reader c.loop-links.links c.loop-links.self _ c.loop-links.invariant (sym c.next_is_link.ensures ∙ c.loop-links-test.false)

pub index_parts-returns-in_err-index_added : goal.index_parts-returns-in_err-index_added
index_parts-returns-in_err-index_added t c =
    let reader = past (codes "+") (index_product_by (index_inner c.args.brackets)) in
    let some = sym c.next_is.ensures ∙ c.loop-parts-test.true in
    passed _ c.from_residual-in_err-index_added.result c.index_added.new.self (reader c.loop-parts.self)
    (makes (λ (parts : List Index). c.args.first ∷ parts) (every (says (codes "+")) reader) c.args.self.now) c.from_residual-in_err-index_added.ensures.1
    (λ bad e. going_stuck (says (codes "+")) reader c.loop-parts.parts c.loop-parts.self bad _ c.loop-parts.invariant some e) c.in_err-index_added.ensures

pub index_parts-loop-parts-smaller : goal.index_parts-loop-parts-smaller
index_parts-loop-parts-smaller t c =
    added_shorter c.args.brackets c.loop-parts.self c.in_ok-index_added.field-0 c.index_added.new.self c.in_ok-index_added.ensures

pub index_parts-loop-parts-preserved : goal.index_parts-loop-parts-preserved
index_parts-loop-parts-preserved t c =
    let reader = past (codes "+") (index_product_by (index_inner c.args.brackets)) in
    let some = sym c.next_is.ensures ∙ c.loop-parts-test.true in
    let total = makes (λ (parts : List Index). c.args.first ∷ parts) (every (says (codes "+")) reader) c.args.self.now in
    subst (λ (front : List Index). Going (says (codes "+")) reader front c.index_added.new.self total) (sym (c.in_ok-push-2.ensures).ok)
    (going_turn (says (codes "+")) reader c.loop-parts.parts c.loop-parts.self c.in_ok-index_added.field-0 c.index_added.new.self total c.loop-parts.invariant some c.in_ok-index_added.ensures
    (added_shorter c.args.brackets c.loop-parts.self c.in_ok-index_added.field-0 c.index_added.new.self c.in_ok-index_added.ensures))

pub index_parts-returns : goal.index_parts-returns
index_parts-returns t c =
    let reader = past (codes "+") (index_product_by (index_inner c.args.brackets)) in
    going_end (says (codes "+")) reader c.loop-parts.parts c.loop-parts.self _ c.loop-parts.invariant (sym c.next_is.ensures ∙ c.loop-parts-test.false)

pub index_sum-returns-in_err-first : goal.index_sum-returns-in_err-first
index_sum-returns-in_err-first t c =
    let reader = index_product_by (index_inner c.args.brackets) in
    passed _ c.from_residual.result c.index_product.new.self (reader c.args.self.now) (index_sum_at c.args.brackets c.args.self.now) c.from_residual.ensures.1
    (λ bad e. index_sum_is c.args.brackets c.args.self.now ∙ several_stuck index.Sum (codes "+") reader c.args.self.now bad e) c.in_err-first.ensures

pub index_sum-returns-then-not-next_is : goal.index_sum-returns-then-not-next_is
index_sum-returns-then-not-next_is t c =
    index_sum_is c.args.brackets c.args.self.now
    ∙ several_one index.Sum (codes "+") (index_product_by (index_inner c.args.brackets)) c.args.self.now c.in_ok-first.first c.index_product.new.self c.in_ok-first.ensures (sym c.next_is.ensures ∙ c.if-not-next_is.true)

pub index_sum-returns-in_err-parts : goal.index_sum-returns-in_err-parts
index_sum-returns-in_err-parts t c =
    let reader = index_product_by (index_inner c.args.brackets) in
    passed _ c.from_residual-in_err-parts.result c.index_parts.new.self
    (makes (λ (parts : List Index). c.in_ok-first.first ∷ parts) (every (says (codes "+")) (past (codes "+") reader)) c.index_product.new.self)
    (index_sum_at c.args.brackets c.args.self.now) c.from_residual-in_err-parts.ensures.1
    (λ bad e. index_sum_is c.args.brackets c.args.self.now ∙ several_later index.Sum (codes "+") reader c.args.self.now c.in_ok-first.first c.index_product.new.self bad c.in_ok-first.ensures e)
    c.in_err-parts.ensures

pub index_sum-returns : goal.index_sum-returns
index_sum-returns t c =
    index_sum_is c.args.brackets c.args.self.now
    ∙ several_more index.Sum (codes "+") (index_product_by (index_inner c.args.brackets)) c.args.self.now c.in_ok-first.first c.index_product.new.self c.in_ok-parts.parts c.index_parts.new.self
    c.in_ok-first.ensures (sym c.next_is.ensures ∙ c.if-not-next_is.false) c.in_ok-parts.ensures
