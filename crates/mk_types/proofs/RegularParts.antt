-- What is known of a regular expression and its parts, whatever number of brackets may still be opened.
use Rattle.std.proofs.Common.{ℕ, zero, suc, ◌≤◌, ◌<◌, Bool, true, false, ◌||◌, List, [], ◌∷◌, length, sym, subst}
use Rattle.std.specs.List.{AllByRecursion}
use Rattle.mk_base.specs.declared.Place.{Place}
use Rattle.mk_ast.specs.declared.tree.Stmt.{Stmt}
use Rattle.mk_ast.specs.declared.tree.Stmt.TheVariants as stmt
use Rattle.mk_ast.specs.declared.tree.Stmt.TheOpen.{Stmt-F}
use Rattle.mk_ast.specs.declared.tree.Stmt.TheViews as stmt_views
use Rattle.mk_ast.specs.declared.tree.Ref.{Ref}
use Rattle.mk_ast.specs.declared.tree.Expr.{Expr}
use Rattle.mk_ast.specs.declared.tree.Expr.TheVariants as expr
use Rattle.mk_ast.specs.declared.tree.Expr.TheOpen.{Expr-F}
use Rattle.mk_ast.specs.declared.tree.Expr.TheViews as expr_views
use Rattle.mk_ast.specs.Canonical.{is_sum, is_product}
use Rattle.mk_ast.specs.Regular.{Within, Wrapped, IsRegularExpr, IsRegularStmt}
use Rattle.mk_ast.proofs.RegularLayers.{regular_expr, regular_stmt}

-- a tree that is regular with some number of brackets
pub record SomewhereRegular (e : Expr) : Type 0 where
  pub brackets : ℕ
  pub regular : IsRegularExpr e brackets

-- a statement that is regular with some number of brackets
pub record SomewhereRegularStmt (s : Stmt) : Type 0 where
  pub brackets : ℕ
  pub regular : IsRegularStmt s brackets

-- within brackets
unbracketed : (e : Expr) (n : ℕ) → Within (IsRegularExpr e) n → SomewhereRegular e
unbracketed e zero w = absurd w
unbracketed e (suc n) w = record { brackets = n; regular = w }

-- within parentheses, where they are needed
unwrapped : (b : Bool) (e : Expr) (n : ℕ) → Wrapped b (IsRegularExpr e) n → SomewhereRegular e
unwrapped true e n w = unbracketed e n w
unwrapped false e n w = record { brackets = n; regular = w }

-- the parts of a list
all_unwrapped : (test : Expr → Bool) (n : ℕ) (parts : List Expr) →
    AllByRecursion (λ part. Wrapped (test part) (IsRegularExpr part) n) parts → AllByRecursion SomewhereRegular parts
all_unwrapped test n [] all = tt
all_unwrapped test n (e ∷ parts) all = (unwrapped (test e) e n all.0, all_unwrapped test n parts all.1)

-- an element is a byte
pub regular-Lit : (value : ℕ) (at : Place) → SomewhereRegular (expr.Lit value at) → value < 256
regular-Lit value at h =
    regular_expr (Expr-F.Lit value at) h.brackets (subst (λ e. IsRegularExpr e h.brackets) (sym (expr_views.rolls-Lit value at)) h.regular)

-- the argument of a square
pub regular-Sq : (arg : Expr) → SomewhereRegular (expr.Sq arg) → SomewhereRegular arg
regular-Sq arg h =
    unbracketed arg h.brackets
    (regular_expr (Expr-F.Sq arg) h.brackets (subst (λ e. IsRegularExpr e h.brackets) (sym (expr_views.rolls-Sq arg)) h.regular))

-- the argument of a map
pub regular-Apply : (name : List ℕ) (at : Place) (arg : Expr) → SomewhereRegular (expr.Apply name at arg) → SomewhereRegular arg
regular-Apply name at arg h =
    unbracketed arg h.brackets
    (regular_expr (Expr-F.Apply name at arg) h.brackets
    (subst (λ e. IsRegularExpr e h.brackets) (sym (expr_views.rolls-Apply name at arg)) h.regular)).1

-- the parts of a sum, of which there are at least two
pub regular-Sum : (parts : List Expr) → SomewhereRegular (expr.Sum parts) → (2 ≤ length parts) × AllByRecursion SomewhereRegular parts
regular-Sum parts h =
    let layer = regular_expr (Expr-F.Sum parts) h.brackets (subst (λ e. IsRegularExpr e h.brackets) (sym (expr_views.rolls-Sum parts)) h.regular) in
    (layer.0, all_unwrapped is_sum h.brackets parts layer.1)

-- the parts of a product, of which there are at least two
pub regular-Product : (parts : List Expr) → SomewhereRegular (expr.Product parts) → (2 ≤ length parts) × AllByRecursion SomewhereRegular parts
regular-Product parts h =
    let layer = regular_expr (Expr-F.Product parts) h.brackets (subst (λ e. IsRegularExpr e h.brackets) (sym (expr_views.rolls-Product parts)) h.regular) in
    (layer.0, all_unwrapped (λ part. is_sum part || is_product part) h.brackets parts layer.1)

-- the value of an assignment
pub regular-Set : (target : Ref) (value : Expr) → SomewhereRegularStmt (stmt.Set target value) → SomewhereRegular value
regular-Set target value h = record {
  brackets = h.brackets;
  regular =
      (regular_stmt (Stmt-F.Set target value) h.brackets
      (subst (λ s. IsRegularStmt s h.brackets) (sym (stmt_views.rolls-Set target value)) h.regular)).1;
}

-- statements that are regular with one number of brackets
pub all_somewhere : (n : ℕ) (body : List Stmt) → AllByRecursion (λ s. IsRegularStmt s n) body → AllByRecursion SomewhereRegularStmt body
all_somewhere n [] all = tt
all_somewhere n (s ∷ body) all = (record { brackets = n; regular = all.0 }, all_somewhere n body all.1)

-- the statements within a pair of brackets
within_body : (n : ℕ) (body : List Stmt) → Within (λ inside. AllByRecursion (λ s. IsRegularStmt s inside) body) n → AllByRecursion SomewhereRegularStmt body
within_body zero body w = absurd w
within_body (suc n) body w = all_somewhere n body w

-- the body of a loop
pub regular-Loop : (name : List ℕ) (at : Place) (from to : ℕ) (body : List Stmt) → SomewhereRegularStmt (stmt.Loop name at from to body) →
    AllByRecursion SomewhereRegularStmt body
regular-Loop name at from to body h =
    within_body h.brackets body
    (regular_stmt (Stmt-F.Loop name at from to body) h.brackets
    (subst (λ s. IsRegularStmt s h.brackets) (sym (stmt_views.rolls-Loop name at from to body)) h.regular)).3
