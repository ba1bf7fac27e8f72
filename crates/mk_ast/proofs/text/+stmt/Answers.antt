-- A loop: its body is regular with one more bracket open, and its lines come one after the other.
use Rattle.std.proofs.Common.{◌+◌, ◌-◌, ◌++◌, rules, sym, ap, ◌∙◌, subst, flat_map, codes}
use Rattle.std.proofs.lemmas.Result.{on_ok_weaker}
use Rattle.std.specs.List.{AllByRecursion}
use Rattle.mk_ast.specs.declared.tree.Stmt.TheViews.{the_lemmas}
use Rattle.mk_ast.specs.Grammar.{most_brackets}
use Rattle.mk_ast.specs.Canonical.{ended, indent, laid, head_line, stmt_lines}
use Rattle.mk_ast.specs.Regular.{IsRegularStmt}
use Rattle.mk_ast.proofs.Joined.{five_appended}
use Rattle.mk_ast.proofs.Layers.{laid-Loop}
use Rattle.mk_ast.proofs.RegularLayers.{regular_body}
use Rattle.mk_ast.proofs.text.+stmt.Goals as goal

pub push_stmt-push_stmts-requires : goal.push_stmt-push_stmts-requires
push_stmt-push_stmts-requires t c =
    let body = c.in-Loop in
    let inside = regular_body body.name body.at body.from body.to body.body most_brackets c.args.loops c.requires.within
    (subst (λ s. IsRegularStmt s (most_brackets - c.args.loops)) body.is c.requires.regular) in (
      search (rules, the_lemmas),
      (
        inside.0,
        subst (λ xs. AllByRecursion (λ s. IsRegularStmt s (most_brackets - (c.args.loops + 1))) xs) (sym c.as_slice-in-Loop.ensures) inside.1,
      ),
    )

pub push_stmt-returns-in_ok-indent-in-Loop : goal.push_stmt-returns-in_ok-indent-in-Loop
push_stmt-returns-in_ok-indent-in-Loop t c =
    let body = c.in-Loop in
    let lines = ap (laid c.args.loops) (ap stmt_lines body.is) ∙ laid-Loop c.args.loops body.name body.at body.from body.to body.body in
    on_ok_weaker c.words.result
    (λ last. five_appended c.args.text.now _ _ _ _ _ (indent c.args.loops) (ended (head_line body.name body.from body.to))
    (laid (c.args.loops + 1) (flat_map stmt_lines body.body)) (indent c.args.loops) (ended (codes "}"))
    (c.in_ok-indent.ensures) (c.in_ok-push_head-in-Loop.ensures ∙ ap (λ n. c.indent.new.self ++ ended (head_line n body.from body.to)) c.as_slice.ensures.items)
    (c.in_ok-push_stmts-in-Loop.ensures ∙ ap (λ b. c.push_head.new.text ++ laid (c.args.loops + 1) (flat_map stmt_lines b)) c.as_slice-in-Loop.ensures)
    (c.in_ok-indent-in-Loop.ensures) last ∙ ap (λ b. c.args.text.now ++ b) (sym lines))
    c.words.ensures
