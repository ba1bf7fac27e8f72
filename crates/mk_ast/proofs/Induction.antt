-- Induction over trees, with what is claimed of the parts of a list for each of them.
use Rattle.std.proofs.Common.{ℕ, List, [], ◌∷◌, map, sym, subst}
use Rattle.std.specs.List.{AllByRecursion}
use Rattle.mk_base.specs.declared.Place.{Place}
use Rattle.mk_ast.specs.declared.tree.Stmt.{Stmt}
use Rattle.mk_ast.specs.declared.tree.Stmt.TheVariants as stmt
use Rattle.mk_ast.specs.declared.tree.Stmt.TheOpen.{Stmt-F}
use Rattle.mk_ast.specs.declared.tree.Stmt.TheFolds.{map-Stmt, ind-Stmt}
use Rattle.mk_ast.specs.declared.tree.Stmt.TheViews as stmt_views
use Rattle.mk_ast.specs.declared.tree.Ref.{Ref}
use Rattle.mk_ast.specs.declared.tree.Expr.{Expr}
use Rattle.mk_ast.specs.declared.tree.Expr.TheVariants as expr
use Rattle.mk_ast.specs.declared.tree.Expr.TheOpen.{Expr-F}
use Rattle.mk_ast.specs.declared.tree.Expr.TheFolds.{map-Expr, ind-Expr}
use Rattle.mk_ast.specs.declared.tree.Expr.TheViews as expr_views
use Rattle.mk_ast.specs.declared.tree.Index.{Index}
use Rattle.mk_ast.specs.declared.tree.Index.TheVariants as index
use Rattle.mk_ast.specs.declared.tree.Index.TheOpen.{Index-F, Link-F}
use Rattle.mk_ast.specs.declared.tree.Index.TheFolds.{map-Index, map-Link, ind-Index}
use Rattle.mk_ast.specs.declared.tree.Index.TheViews as index_views
use Rattle.mk_ast.specs.declared.tree.Link.{Link}
use Rattle.mk_ast.specs.declared.tree.Link.TheVariants as link

-- what is claimed beside each thing holds of each
beside : {A : Type 0} (P : A → Type 0) (ys : List ((x : A) × P x)) → AllByRecursion P (map (λ y. y.0) ys)
beside P [] = tt
beside P (y ∷ ys) = (y.1, beside P ys)

-- from two facts on each thing a third
pub all_both : {A : Type 0} (P Q R : A → Type 0) (xs : List A) → ((x : A) → P x → Q x → R x) → AllByRecursion P xs → AllByRecursion Q xs → AllByRecursion R xs
all_both P Q R [] f p q = tt
all_both P Q R (x ∷ xs) f p q = (f x p.0 q.0, all_both P Q R xs f p.1 q.1)

-- indexes and links
module _ (P : Index → Type 0) (Q : Link → Type 0)
    (num : (n : ℕ) → P (index.Num n)) (var : (name : List ℕ) (at : Place) → P (index.Var name at))
    (sum : (parts : List Index) → AllByRecursion P parts → P (index.Sum parts))
    (chain : (first : Index) (links : List Link) → P first → AllByRecursion Q links → P (index.Chain first links))
    (times : (by : Index) → P by → Q (link.Times by)) (rest : (n : ℕ) → Q (link.Mod n)) where
  -- an index is rolled up of parts of which the claims hold, and so holds its own
  index_case : (y : Index-F ((x : Index) × P x) ((l : Link) × Q l)) →
      P (index_views.roll-Index (map-Index ((x : Index) × P x) ((l : Link) × Q l) Index Link (λ e. e.0) (λ e. e.0) y))
  index_case (Index-F.Num n) = subst P (sym (index_views.rolls-Num n)) (num n)
  index_case (Index-F.Var name at) = subst P (sym (index_views.rolls-Var name at)) (var name at)
  index_case (Index-F.Sum ys) = subst P (sym (index_views.rolls-Sum _)) (sum (map (λ y. y.0) ys) (beside P ys))
  index_case (Index-F.Chain y ls) = subst P (sym (index_views.rolls-Chain _ _)) (chain y.0 (map (λ l. l.0) ls) y.1 (beside Q ls))

  -- and a link of an index
  link_case : (y : Link-F ((x : Index) × P x) ((l : Link) × Q l)) →
      Q (index_views.roll-Link (map-Link ((x : Index) × P x) ((l : Link) × Q l) Index Link (λ e. e.0) (λ e. e.0) y))
  link_case (Link-F.Times y) = subst Q (sym (index_views.rolls-Times _)) (times y.0 y.1)
  link_case (Link-F.Mod n) = subst Q (sym (index_views.rolls-Mod n)) (rest n)

  -- what holds of each index by its parts holds of all
  pub index_induction : (i : Index) → P i
  index_induction =
      ind-Index P Q (λ x y is. subst (λ d. P (index_views.roll-Index d)) is (index_case y)) (λ x y is. subst (λ d. Q (index_views.roll-Link d)) is (link_case y))

-- expressions
module _ (P : Expr → Type 0)
    (lit : (value : ℕ) (at : Place) → P (expr.Lit value at)) (read : (from : Ref) → P (expr.Read from))
    (sq : (arg : Expr) → P arg → P (expr.Sq arg)) (apply : (name : List ℕ) (at : Place) (arg : Expr) → P arg → P (expr.Apply name at arg))
    (sum : (parts : List Expr) → AllByRecursion P parts → P (expr.Sum parts))
    (product : (parts : List Expr) → AllByRecursion P parts → P (expr.Product parts)) where
  -- an expression that is rolled up of parts of which the claim holds
  expr_case : (y : Expr-F ((x : Expr) × P x)) → P (expr_views.roll-Expr (map-Expr ((x : Expr) × P x) Expr (λ e. e.0) y))
  expr_case (Expr-F.Lit value at) = subst P (sym (expr_views.rolls-Lit value at)) (lit value at)
  expr_case (Expr-F.Read from) = subst P (sym (expr_views.rolls-Read from)) (read from)
  expr_case (Expr-F.Sq y) = subst P (sym (expr_views.rolls-Sq _)) (sq y.0 y.1)
  expr_case (Expr-F.Apply name at y) = subst P (sym (expr_views.rolls-Apply name at _)) (apply name at y.0 y.1)
  expr_case (Expr-F.Sum ys) = subst P (sym (expr_views.rolls-Sum _)) (sum (map (λ y. y.0) ys) (beside P ys))
  expr_case (Expr-F.Product ys) = subst P (sym (expr_views.rolls-Product _)) (product (map (λ y. y.0) ys) (beside P ys))

  -- what holds of each expression by its parts holds of all
  pub expr_induction : (e : Expr) → P e
  expr_induction = ind-Expr P (λ x y is. subst (λ d. P (expr_views.roll-Expr d)) is (expr_case y))

-- statements
module _ (P : Stmt → Type 0)
    (set : (target : Ref) (value : Expr) → P (stmt.Set target value))
    (repeated : (name : List ℕ) (at : Place) (from to : ℕ) (body : List Stmt) → AllByRecursion P body → P (stmt.Loop name at from to body)) where
  -- a statement that is rolled up of a body of which the claim holds
  stmt_case : (y : Stmt-F ((x : Stmt) × P x)) → P (stmt_views.roll-Stmt (map-Stmt ((x : Stmt) × P x) Stmt (λ e. e.0) y))
  stmt_case (Stmt-F.Set target value) = subst P (sym (stmt_views.rolls-Set target value)) (set target value)
  stmt_case (Stmt-F.Loop name at from to ys) =
      subst P (sym (stmt_views.rolls-Loop name at from to _)) (repeated name at from to (map (λ y. y.0) ys) (beside P ys))

  -- what holds of each statement by its parts holds of all
  pub stmt_induction : (s : Stmt) → P s
  stmt_induction = ind-Stmt P (λ x y is. subst (λ d. P (stmt_views.roll-Stmt d)) is (stmt_case y))
