use Rattle.std.proofs.Common.{List, map, Err, sym, ap, subst, ◌∙◌}
use Rattle.mk_base.specs.declared.Place.{Place}
use Rattle.mk_ast.specs.declared.tree.Program.{Program}
use Rattle.mk_ast.specs.Tokens.{Token as Spelled}
use Rattle.mk_ast.specs.Spells.{Spells, IsRefusedAt}
use Rattle.mk_parse.specs.declared.cursor.Stop.{Stop}
use Rattle.mk_parse.specs.Answers.{AnswersAll}
use Rattle.mk_parse.specs.Lexing.{seen}
use Rattle.mk_parse.specs.Readers.{finished}
use Rattle.mk_parse.specs.Reading.{program_by}
use Rattle.mk_parse.proofs.Few.{few_maps}
use Rattle.mk_parse.proofs.Refusals.{only_program, not_whole, refused_at}
use Rattle.mk_parse.proofs.program.parse.Goals as goal

pub returns-then-not-whole-clause-answer : goal.returns-then-not-whole-clause-answer
returns-then-not-whole-clause-answer c =
    let text = c.args.text.now in
    let tokens = c.new-cursor.ensures ∙ ap (map (seen text)) c.as_slice.ensures.items in
    not_whole text c.in_ok-tokens.field-0.tokens c.in_ok-tokens.field-0.end c.in_ok-tokens.field-0.whole c.in_ok-tokens.ensures c.in-Ok.program c.if-not-whole.true
    (ap (λ (ts : List Spelled). finished (program_by ts)) (sym tokens) ∙ c.in-Ok.ensures)

pub returns-in-Ok-clause-answer : goal.returns-in-Ok-clause-answer
returns-in-Ok-clause-answer c =
    let text = c.args.text.now in
    let tokens = c.new-cursor.ensures ∙ ap (map (seen text)) c.as_slice.ensures.items in
    only_program text c.in_ok-tokens.field-0.tokens c.in_ok-tokens.field-0.end c.in_ok-tokens.field-0.whole c.in_ok-tokens.ensures c.in-Ok.program c.if-not-whole.false
    (ap (λ (ts : List Spelled). finished (program_by ts)) (sym tokens) ∙ c.in-Ok.ensures)

pub returns-in-Err-Here-clause-answer : goal.returns-in-Err-Here-clause-answer
returns-in-Err-Here-clause-answer c =
    let text = c.args.text.now in
    let tokens = c.new-cursor.ensures ∙ ap (map (seen text)) c.as_slice.ensures.items in
    subst (λ (at : Place). IsRefusedAt text at × ((p : Program) → Spells p text → ⊥)) (sym c.place.ensures)
    (refused_at text c.in_ok-tokens.field-0.tokens c.in_ok-tokens.field-0.end c.in_ok-tokens.field-0.whole c.in_ok-tokens.ensures c.whole_program.new.self
    (ap (λ (ts : List Spelled). finished (program_by ts)) (sym tokens)
    ∙ subst (λ (s : Stop). AnswersAll {A = Program} (Err s) c.whole_program.new.self (finished (program_by c.new-cursor.result))) c.in-Err-Here.field-0-is c.in-Err-Here.ensures))

pub returns-in-Ok-clause-regular : goal.returns-in-Ok-clause-regular
returns-in-Ok-clause-regular c = c.spelled_law.ensures c.in-Ok.program c.args.text.now (returns-in-Ok-clause-answer c).spelled

pub returns-in-Ok-clause-few_maps : goal.returns-in-Ok-clause-few_maps
returns-in-Ok-clause-few_maps c = few_maps c.in-Ok.program c.args.text.now (returns-in-Ok-clause-answer c).spelled c.requires
