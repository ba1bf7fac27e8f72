use Rattle.std.proofs.Common.{sym, ◌∙◌, List, subst, codes}
use Rattle.mk_ast.specs.declared.tree.Stmt.{Stmt}
use Rattle.mk_parse.specs.Answers.{Answers}
use Rattle.mk_parse.specs.Readers.{Reading, every, says}
use Rattle.mk_parse.specs.Reading.{begins_statement, statement_at, loop_at, assignment_at}
use Rattle.mk_parse.proofs.Loops.{Going, passed, going_turn, going_end, going_stuck, chosen_first, chosen_second}
use Rattle.mk_parse.proofs.StatementPhrases.{statement_shorter, statement_by}
use Rattle.mk_parse.proofs.cursor.Cursor.+statement.Goals as goal

pub statement-returns-then-next_is : goal.statement-returns-then-next_is
statement-returns-then-next_is t c =
    subst (λ (r : Reading Stmt). Answers c.loop_statement.result c.loop_statement.new.self r)
    (sym (statement_by c.args.brackets c.args.self.now ∙ chosen_first (says (codes "for")) (loop_at c.args.brackets) (assignment_at c.args.brackets) c.args.self.now c.next_is.result c.next_is.ensures c.if-next_is.true))
    c.loop_statement.ensures

pub statement-returns : goal.statement-returns
statement-returns t c =
    subst (λ (r : Reading Stmt). Answers c.assignment.result c.assignment.new.self r)
    (sym (statement_by c.args.brackets c.args.self.now ∙ chosen_second (says (codes "for")) (loop_at c.args.brackets) (assignment_at c.args.brackets) c.args.self.now c.next_is.result c.next_is.ensures c.if-next_is.false))
    c.assignment.ensures

pub statements-returns-in_err-statement : goal.statements-returns-in_err-statement
statements-returns-in_err-statement t c =
    let reader = statement_at c.args.brackets in
    let some = sym c.next_is_statement.ensures ∙ c.loop-list-test.true in
    passed _ c.from_residual.result c.statement.new.self (reader c.loop-list.self) (every begins_statement (statement_at c.args.brackets) c.args.self.now) c.from_residual.ensures.1
    (λ bad e. going_stuck begins_statement reader c.loop-list.list c.loop-list.self bad _ c.loop-list.invariant some e) c.in_err-statement.ensures

pub statements-loop-list-smaller : goal.statements-loop-list-smaller
statements-loop-list-smaller t c =
    statement_shorter c.args.brackets c.loop-list.self c.in_ok-statement.field-0 c.statement.new.self c.in_ok-statement.ensures

pub statements-loop-list-preserved : goal.statements-loop-list-preserved
statements-loop-list-preserved t c =
    let reader = statement_at c.args.brackets in
    let some = sym c.next_is_statement.ensures ∙ c.loop-list-test.true in
    let total = every begins_statement (statement_at c.args.brackets) c.args.self.now in
    subst (λ (front : List Stmt). Going begins_statement reader front c.statement.new.self total) (sym (c.in_ok-push.ensures).ok)
    (going_turn begins_statement reader c.loop-list.list c.loop-list.self c.in_ok-statement.field-0 c.statement.new.self total c.loop-list.invariant some c.in_ok-statement.ensures
    (statement_shorter c.args.brackets c.loop-list.self c.in_ok-statement.field-0 c.statement.new.self c.in_ok-statement.ensures))

pub statements-returns : goal.statements-returns
statements-returns t c =
    going_end begins_statement (statement_at c.args.brackets) c.loop-list.list c.loop-list.self _ c.loop-list.invariant (sym c.next_is_statement.ensures ∙ c.loop-list-test.false)
