-- The text is the canonical one, which spells the program.
use Rattle.std.proofs.Common.{◌++◌, ap, ◌∙◌, map, flat_map}
use Rattle.std.proofs.lemmas.Result.{IfOk-weaker}
use Rattle.mk_ast.specs.Canonical.{ended, field_line, decl_line, laid, stmt_lines}
use Rattle.mk_ast.proofs.ProgramReading.{canonical_spells, canonical_appended}
use Rattle.mk_ast.proofs.text.to_text.Goals as goal

pub returns-clause-spelled : goal.returns-clause-spelled
returns-clause-spelled c =
    let p = c.args.p.now in
    let whole = canonical_appended p c.push_field.new.text c.push_decls.new.text c.push_stmts.new.text
    (c.in_ok-push_field.ensures ∙ ap (λ t. t ++ ended (field_line p.field)) c.new-text.ensures)
    (c.in_ok-push_decls.ensures ∙ ap (λ ds. c.push_field.new.text ++ laid 0 (map decl_line ds)) c.as_slice.ensures)
    (c.in_ok-push_stmts.ensures ∙ ap (λ ss. c.push_decls.new.text ++ laid 0 (flat_map stmt_lines ss)) c.as_slice-2.ensures) in
    IfOk-weaker c.finish.result _ _ (λ text is. canonical_spells p c.requires.regular text (is ∙ whole)) c.finish.ensures
