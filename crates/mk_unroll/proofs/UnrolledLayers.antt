-- What the definition of unrolling gives of each kind of tree.
use Rattle.std.proofs.Common.{◌≡◌, ℕ, List, map, sym, ap, ◌∙◌}
use Rattle.std.specs.Prelude.{fold}
use Rattle.mk_base.specs.declared.Place.{Place}
use Rattle.mk_ast.specs.declared.tree.Decl.{Decl}
use Rattle.mk_ast.specs.declared.tree.Stmt.{Stmt}
use Rattle.mk_ast.specs.declared.tree.Stmt.TheVariants as stmt
use Rattle.mk_ast.specs.declared.tree.Stmt.TheOpen.{Stmt-F}
use Rattle.mk_ast.specs.declared.tree.Stmt.TheFolds.{fold-roll-Stmt}
use Rattle.mk_ast.specs.declared.tree.Stmt.TheViews as stmt_views
use Rattle.mk_ast.specs.declared.tree.Ref.{Ref}
use Rattle.mk_ast.specs.declared.tree.Expr.{Expr}
use Rattle.mk_ast.specs.declared.tree.Expr.TheVariants as expr
use Rattle.mk_ast.specs.declared.tree.Expr.TheOpen.{Expr-F}
use Rattle.mk_ast.specs.declared.tree.Expr.TheFolds.{fold-roll-Expr}
use Rattle.mk_ast.specs.declared.tree.Expr.TheViews as expr_views
use Rattle.mk_ssa.specs.declared.Operand.{Operand}
use Rattle.mk_ssa.specs.declared.Op.{Op}
use Rattle.mk_types.specs.Turns.{Turn, in_turn, turn_numbers}
use Rattle.mk_types.specs.Environment.{Environment}
use Rattle.mk_unroll.specs.Unrolled.{Given, Unrolling, expr_layer_given, expr_given, assignment_unrolled, stmt_layer_unrolled, stmt_unrolled}

-- what expressions give
module _ (decls : List Decl) (turns : List Turn) (env : Environment Operand) where
  -- the equation of a layer
  pub given-Lit : (value : ℕ) (at : Place) (values : List Op) →
      expr_given decls turns env (expr.Lit value at) values ≡ expr_layer_given decls turns env (Expr-F.Lit value at) values
  unfolding expr_given
  given-Lit value at values =
      ap (λ e. expr_given decls turns env e values) (sym (expr_views.rolls-Lit value at))
      ∙ ap (λ (f : List Op → Given). f values) (fold-roll-Expr (List Op → Given) (expr_layer_given decls turns env) (Expr-F.Lit value at))

  -- what is unrolled of a variable that is read
  pub given-Read : (from : Ref) (values : List Op) →
      expr_given decls turns env (expr.Read from) values ≡ expr_layer_given decls turns env (Expr-F.Read from) values
  unfolding expr_given
  given-Read from values =
      ap (λ e. expr_given decls turns env e values) (sym (expr_views.rolls-Read from))
      ∙ ap (λ (f : List Op → Given). f values) (fold-roll-Expr (List Op → Given) (expr_layer_given decls turns env) (Expr-F.Read from))

  -- what is unrolled of a square
  pub given-Sq : (arg : Expr) (values : List Op) →
      expr_given decls turns env (expr.Sq arg) values ≡ expr_layer_given decls turns env (Expr-F.Sq (expr_given decls turns env arg)) values
  unfolding expr_given
  given-Sq arg values =
      ap (λ e. expr_given decls turns env e values) (sym (expr_views.rolls-Sq arg))
      ∙ ap (λ (f : List Op → Given). f values) (fold-roll-Expr (List Op → Given) (expr_layer_given decls turns env) (Expr-F.Sq arg))

  -- what is unrolled of a map that is applied
  pub given-Apply : (name : List ℕ) (at : Place) (arg : Expr) (values : List Op) →
      expr_given decls turns env (expr.Apply name at arg) values
      ≡ expr_layer_given decls turns env (Expr-F.Apply name at (expr_given decls turns env arg)) values
  unfolding expr_given
  given-Apply name at arg values =
      ap (λ e. expr_given decls turns env e values) (sym (expr_views.rolls-Apply name at arg))
      ∙ ap (λ (f : List Op → Given). f values) (fold-roll-Expr (List Op → Given) (expr_layer_given decls turns env) (Expr-F.Apply name at arg))

  -- what is unrolled of a sum
  pub given-Sum : (parts : List Expr) (values : List Op) →
      expr_given decls turns env (expr.Sum parts) values
      ≡ expr_layer_given decls turns env (Expr-F.Sum (map (expr_given decls turns env) parts)) values
  unfolding expr_given
  given-Sum parts values =
      ap (λ e. expr_given decls turns env e values) (sym (expr_views.rolls-Sum parts))
      ∙ ap (λ (f : List Op → Given). f values) (fold-roll-Expr (List Op → Given) (expr_layer_given decls turns env) (Expr-F.Sum parts))

  -- what is unrolled of a product
  pub given-Product : (parts : List Expr) (values : List Op) →
      expr_given decls turns env (expr.Product parts) values
      ≡ expr_layer_given decls turns env (Expr-F.Product (map (expr_given decls turns env) parts)) values
  unfolding expr_given
  given-Product parts values =
      ap (λ e. expr_given decls turns env e values) (sym (expr_views.rolls-Product parts))
      ∙ ap (λ (f : List Op → Given). f values) (fold-roll-Expr (List Op → Given) (expr_layer_given decls turns env) (Expr-F.Product parts))

pub ruleset given_layers = (given-Lit, given-Read, given-Sq, given-Apply, given-Sum, given-Product)

-- what statements do
module _ (decls : List Decl) (turns : List Turn) (now : Unrolling) where
  -- what is unrolled of an assignment
  pub unrolled-Set : (target : Ref) (value : Expr) →
      stmt_unrolled decls (stmt.Set target value) turns now ≡ assignment_unrolled decls target value turns now
  unfolding stmt_unrolled
  unrolled-Set target value =
      ap (λ s. stmt_unrolled decls s turns now) (sym (stmt_views.rolls-Set target value))
      ∙ ap (λ (f : List Turn → Unrolling → Unrolling). f turns now)
      (fold-roll-Stmt (List Turn → Unrolling → Unrolling) (stmt_layer_unrolled decls) (Stmt-F.Set target value))

  -- what is unrolled of a loop
  pub unrolled-Loop : (name : List ℕ) (at : Place) (from to : ℕ) (body : List Stmt) →
      stmt_unrolled decls (stmt.Loop name at from to body) turns now
      ≡ fold (λ so_far number. fold (λ here part. part (in_turn turns name number) here) so_far (map (stmt_unrolled decls) body)) now (turn_numbers from to)
  unfolding stmt_unrolled
  unrolled-Loop name at from to body =
      ap (λ s. stmt_unrolled decls s turns now) (sym (stmt_views.rolls-Loop name at from to body))
      ∙ ap (λ (f : List Turn → Unrolling → Unrolling). f turns now)
      (fold-roll-Stmt (List Turn → Unrolling → Unrolling) (stmt_layer_unrolled decls) (Stmt-F.Loop name at from to body))

pub ruleset unrolled_layers = (unrolled-Set, unrolled-Loop)
