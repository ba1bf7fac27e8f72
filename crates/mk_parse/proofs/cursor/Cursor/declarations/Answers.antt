use Rattle.std.proofs.Common.{sym, ◌∙◌, List, subst}
use Rattle.mk_ast.specs.declared.tree.Decl.{Decl}
use Rattle.mk_parse.specs.Readers.{every}
use Rattle.mk_parse.specs.Reading.{begins_declaration, declaration_by}
use Rattle.mk_parse.proofs.Loops.{Going, passed, going_turn, going_end, going_stuck}
use Rattle.mk_parse.proofs.StatementPhrases.{declaration_shorter}
use Rattle.mk_parse.proofs.cursor.Cursor.declarations.Goals as goal

pub returns-in_err-declaration : goal.returns-in_err-declaration
returns-in_err-declaration c =
    let reader = declaration_by in
    let some = sym c.next_is_declaration.ensures ∙ c.loop-list-test.true in
    passed _ c.from_residual.result c.declaration.new.self (reader c.loop-list.self) (every begins_declaration declaration_by c.args.self.now) c.from_residual.ensures.1
    (λ bad e. going_stuck begins_declaration reader c.loop-list.list c.loop-list.self bad _ c.loop-list.invariant some e) c.in_err-declaration.ensures

pub loop-list-smaller : goal.loop-list-smaller
loop-list-smaller c =
    declaration_shorter c.loop-list.self c.in_ok-declaration.field-0 c.declaration.new.self c.in_ok-declaration.ensures

pub loop-list-preserved : goal.loop-list-preserved
loop-list-preserved c =
    let reader = declaration_by in
    let some = sym c.next_is_declaration.ensures ∙ c.loop-list-test.true in
    let total = every begins_declaration declaration_by c.args.self.now in
    subst (λ (front : List Decl). Going begins_declaration reader front c.declaration.new.self total) (sym (c.in_ok-push.ensures).ok)
    (going_turn begins_declaration reader c.loop-list.list c.loop-list.self c.in_ok-declaration.field-0 c.declaration.new.self total c.loop-list.invariant some c.in_ok-declaration.ensures
    (declaration_shorter c.loop-list.self c.in_ok-declaration.field-0 c.declaration.new.self c.in_ok-declaration.ensures))

pub returns : goal.returns
returns c =
    going_end begins_declaration (declaration_by) c.loop-list.list c.loop-list.self _ c.loop-list.invariant (sym c.next_is_declaration.ensures ∙ c.loop-list-test.false)
