-- A regular tree has regular parts.
use Rattle.std.proofs.Common.{◌≡◌, ℕ, zero, suc, ◌≤◌, ◌-◌, ◌+◌, ◌||◌, List, [], ◌∷◌, length, map, refl, sym, ap, subst, arith}
use Rattle.std.specs.List.{AllByRecursion}
use Rattle.mk_base.specs.declared.Place.{Place}
use Rattle.mk_ast.specs.declared.tree.Stmt.{Stmt}
use Rattle.mk_ast.specs.declared.tree.Stmt.TheVariants as stmt
use Rattle.mk_ast.specs.declared.tree.Stmt.TheOpen.{Stmt-F}
use Rattle.mk_ast.specs.declared.tree.Stmt.TheFolds.{map-Stmt, rec-roll-Stmt}
use Rattle.mk_ast.specs.declared.tree.Stmt.TheViews as stmt_views
use Rattle.mk_ast.specs.declared.tree.Expr.{Expr}
use Rattle.mk_ast.specs.declared.tree.Expr.TheOpen.{Expr-F}
use Rattle.mk_ast.specs.declared.tree.Expr.TheFolds.{map-Expr, rec-roll-Expr}
use Rattle.mk_ast.specs.declared.tree.Expr.TheViews as expr_views
use Rattle.mk_ast.specs.declared.tree.Index.{Index}
use Rattle.mk_ast.specs.declared.tree.Index.TheOpen.{Index-F, Link-F}
use Rattle.mk_ast.specs.declared.tree.Index.TheFolds.{map-Index, map-Link, rec-roll-Index, rec-roll-Link, rec-Link}
use Rattle.mk_ast.specs.declared.tree.Index.TheViews as index_views
use Rattle.mk_ast.specs.declared.tree.Link.{Link}
use Rattle.mk_ast.specs.Tokens.{IsName}
use Rattle.mk_ast.specs.Canonical.{is_index_sum, is_sum, is_product}
use Rattle.mk_ast.specs.Regular.{IsInRange, Within, Wrapped, IsRegularFactor, IsRegularIndexLayer, IsRegularLinkLayer, IsRegularIndex, IsRegularExprLayer, IsRegularExpr, IsRegularStmtLayer, IsRegularStmt}

-- each of a list's elements through a function
all_map : {A B : Type 0} (Q : B → Type 0) (v : A → B) (xs : List A) → AllByRecursion (λ x. Q (v x)) xs ≡ AllByRecursion Q (map v xs)
all_map Q v [] = refl
all_map Q v (x ∷ xs) = λ i. Q (v x) × all_map Q v xs i

-- a list is as long through a function
length_map : {A B : Type 0} (v : A → B) (xs : List A) → length xs ≡ length (map v xs)
length_map v [] = refl
length_map v (x ∷ xs) = ap (λ n. suc n) (length_map v xs)

-- a layer is regular by its parts, wherever these stand
natural_stmt : (X : Type 0) (v : X → Stmt) (k : Stmt → ℕ → Type 0) (x : Stmt-F X) →
    IsRegularStmtLayer X (λ p. k (v p)) x ≡ IsRegularStmtLayer Stmt k (map-Stmt X Stmt v x)
natural_stmt X v k (Stmt-F.Set target value) = refl
natural_stmt X v k (Stmt-F.Loop name at from to body) =
    λ i brackets. IsName name × IsInRange from × IsInRange to × Within (λ inside. all_map (λ s. k s inside) v body i) brackets

-- a statement is regular where its layer is
stmt_layers : (d : Stmt-F Stmt) → IsRegularStmt (stmt_views.roll-Stmt d) ≡ IsRegularStmtLayer Stmt IsRegularStmt d
stmt_layers = rec-roll-Stmt (ℕ → Type 0) (λ X tree. IsRegularStmtLayer X) natural_stmt

-- a regular statement by its layer, and back
pub regular_stmt : (d : Stmt-F Stmt) (brackets : ℕ) → IsRegularStmt (stmt_views.roll-Stmt d) brackets → IsRegularStmtLayer Stmt IsRegularStmt d brackets
regular_stmt d brackets = subst (λ (R : ℕ → Type 0). R brackets) (stmt_layers d)

-- a statement whose layer is regular is regular
pub regular_stmt_made : (d : Stmt-F Stmt) (brackets : ℕ) → IsRegularStmtLayer Stmt IsRegularStmt d brackets → IsRegularStmt (stmt_views.roll-Stmt d) brackets
regular_stmt_made d brackets = subst (λ (R : ℕ → Type 0). R brackets) (sym (stmt_layers d))

-- the body of a regular loop, where one more bracket is open
pub regular_body : (name : List ℕ) (at : Place) (from to : ℕ) (body : List Stmt) (brackets loops : ℕ) → loops ≤ brackets →
    IsRegularStmt (stmt.Loop name at from to body) (brackets - loops) →
    (loops + 1 ≤ brackets) × AllByRecursion (λ s. IsRegularStmt s (brackets - (loops + 1))) body
regular_body name at from to body brackets loops within h =
    by (brackets - loops) refl (regular_stmt (Stmt-F.Loop name at from to body) (brackets - loops)
    (subst (λ s. IsRegularStmt s (brackets - loops)) (sym (stmt_views.rolls-Loop name at from to body)) h)).3
  where
    by : (left : ℕ) → left ≡ brackets - loops → Within (λ inside. AllByRecursion (λ s. IsRegularStmt s inside) body) left →
        (loops + 1 ≤ brackets) × AllByRecursion (λ s. IsRegularStmt s (brackets - (loops + 1))) body
    by zero e never = absurd never
    by (suc left) e all =
        let same : left ≡ brackets - (loops + 1) = omega arith in
        (omega arith, subst (λ n. AllByRecursion (λ s. IsRegularStmt s n) body) same all)

-- a layer of an expression is regular by its parts, wherever these stand
natural_expr : (X : Type 0) (v : X → Expr) (k : Expr → ℕ → Type 0) (x : Expr-F X) →
    IsRegularExprLayer X v (λ p. k (v p)) x ≡ IsRegularExprLayer Expr (λ y. y) k (map-Expr X Expr v x)
natural_expr X v k (Expr-F.Lit value at) = refl
natural_expr X v k (Expr-F.Read from) = refl
natural_expr X v k (Expr-F.Sq arg) = refl
natural_expr X v k (Expr-F.Apply name at arg) = refl
natural_expr X v k (Expr-F.Sum parts) =
    λ i brackets. (2 ≤ length_map v parts i) × all_map (λ e. Wrapped (is_sum e) (k e) brackets) v parts i
natural_expr X v k (Expr-F.Product parts) =
    λ i brackets. (2 ≤ length_map v parts i) × all_map (λ e. Wrapped (is_sum e || is_product e) (k e) brackets) v parts i

-- an expression is regular where its layer is
expr_layers : (d : Expr-F Expr) → IsRegularExpr (expr_views.roll-Expr d) ≡ IsRegularExprLayer Expr (λ y. y) IsRegularExpr d
expr_layers = rec-roll-Expr (ℕ → Type 0) IsRegularExprLayer natural_expr

-- a regular expression by its layer, and back
pub regular_expr : (d : Expr-F Expr) (brackets : ℕ) → IsRegularExpr (expr_views.roll-Expr d) brackets → IsRegularExprLayer Expr (λ y. y) IsRegularExpr d brackets
regular_expr d brackets = subst (λ (R : ℕ → Type 0). R brackets) (expr_layers d)

-- an expression whose layer is regular is regular
pub regular_expr_made : (d : Expr-F Expr) (brackets : ℕ) → IsRegularExprLayer Expr (λ y. y) IsRegularExpr d brackets → IsRegularExpr (expr_views.roll-Expr d) brackets
regular_expr_made d brackets = subst (λ (R : ℕ → Type 0). R brackets) (sym (expr_layers d))

module _ (X Y : Type 0) (v : X → Index) (w : Y → Link) (k : Index → ℕ → Type 0) (l : Link → ℕ → Type 0) where
  -- a layer of an index is regular by its parts, wherever these stand
  natural_index : (x : Index-F X Y) →
      IsRegularIndexLayer X Y v (λ p. k (v p)) (λ q. l (w q)) x ≡ IsRegularIndexLayer Index Link (λ y. y) k l (map-Index X Y Index Link v w x)
  natural_index (Index-F.Num n) = refl
  natural_index (Index-F.Var name at) = refl
  natural_index (Index-F.Sum parts) =
      λ i brackets. (2 ≤ length_map v parts i) × all_map (λ e. Wrapped (is_index_sum e) (k e) brackets) v parts i
  natural_index (Index-F.Chain first links) =
      λ i brackets. IsRegularFactor Index Link (λ y. y) k l brackets (v first) × (1 ≤ length_map w links i) × all_map (λ e. l e brackets) w links i

  -- a layer of a link is regular by its index, wherever this stands
  natural_link : (x : Link-F X Y) →
      IsRegularLinkLayer X Y v (λ p. k (v p)) (λ q. l (w q)) x ≡ IsRegularLinkLayer Index Link (λ y. y) k l (map-Link X Y Index Link v w x)
  natural_link (Link-F.Times by) = refl
  natural_link (Link-F.Mod n) = refl

-- a regular link
abbrev pub IsRegularLink : Link → ℕ → Type 0
IsRegularLink =
    rec-Link (ℕ → Type 0) (ℕ → Type 0)
    (λ X Y tree link R S. IsRegularIndexLayer X Y tree R S)
    (λ X Y tree link R S. IsRegularLinkLayer X Y tree R S)

-- an index is regular where its layer is
index_layers : (d : Index-F Index Link) → IsRegularIndex (index_views.roll-Index d) ≡ IsRegularIndexLayer Index Link (λ y. y) IsRegularIndex IsRegularLink d
index_layers =
    rec-roll-Index (ℕ → Type 0) (ℕ → Type 0)
    (λ X Y tree link R S. IsRegularIndexLayer X Y tree R S)
    (λ X Y tree link R S. IsRegularLinkLayer X Y tree R S)
    natural_index

-- a link is regular where its layer is
link_layers : (d : Link-F Index Link) → IsRegularLink (index_views.roll-Link d) ≡ IsRegularLinkLayer Index Link (λ y. y) IsRegularIndex IsRegularLink d
link_layers =
    rec-roll-Link (ℕ → Type 0) (ℕ → Type 0)
    (λ X Y tree link R S. IsRegularIndexLayer X Y tree R S)
    (λ X Y tree link R S. IsRegularLinkLayer X Y tree R S)
    natural_link

-- a regular index by its layer, and back
pub regular_index : (d : Index-F Index Link) (brackets : ℕ) → IsRegularIndex (index_views.roll-Index d) brackets →
    IsRegularIndexLayer Index Link (λ y. y) IsRegularIndex IsRegularLink d brackets
regular_index d brackets = subst (λ (R : ℕ → Type 0). R brackets) (index_layers d)

-- an index whose layer is regular is regular
pub regular_index_made : (d : Index-F Index Link) (brackets : ℕ) →
    IsRegularIndexLayer Index Link (λ y. y) IsRegularIndex IsRegularLink d brackets → IsRegularIndex (index_views.roll-Index d) brackets
regular_index_made d brackets = subst (λ (R : ℕ → Type 0). R brackets) (sym (index_layers d))

-- a regular link by its layer, and back
pub regular_link : (d : Link-F Index Link) (brackets : ℕ) → IsRegularLink (index_views.roll-Link d) brackets →
    IsRegularLinkLayer Index Link (λ y. y) IsRegularIndex IsRegularLink d brackets
regular_link d brackets = subst (λ (R : ℕ → Type 0). R brackets) (link_layers d)

-- a link whose layer is regular is regular
pub regular_link_made : (d : Link-F Index Link) (brackets : ℕ) →
    IsRegularLinkLayer Index Link (λ y. y) IsRegularIndex IsRegularLink d brackets → IsRegularLink (index_views.roll-Link d) brackets
regular_link_made d brackets = subst (λ (R : ℕ → Type 0). R brackets) (sym (link_layers d))
