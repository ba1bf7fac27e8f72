-- A program that tokens spell is regular.
use Rattle.std.proofs.Common.{◌≡◌, ◌≢◌, ℕ, zero, suc, ◌-◌, cond, refl, ◌<◌, ◌≤◌, Bool, true, false, ◌||◌, inl, inr, List, [], ◌∷◌, Option, Some, None, length, sym, ap, subst, codes, arith}
use Rattle.std.specs.List.{AllByRecursion}
use Rattle.std.specs.Prelude.{nat_lt}
use borrow.Author.Tests.{ltb-true}
use Rattle.mk_base.specs.declared.Place.{Place}
use Rattle.mk_ast.specs.declared.tree.Program.{Program}
use Rattle.mk_ast.specs.declared.tree.Decl.{Decl}
use Rattle.mk_ast.specs.declared.tree.What.TheVariants as what
use Rattle.mk_ast.specs.declared.tree.Class.{Class}
use Rattle.mk_ast.specs.declared.tree.Stmt.{Stmt}
use Rattle.mk_ast.specs.declared.tree.Stmt.TheOpen.{Stmt-F}
use Rattle.mk_ast.specs.declared.tree.Stmt.TheViews as stmt_views
use Rattle.mk_ast.specs.declared.tree.Ref.{Ref}
use Rattle.mk_ast.specs.declared.tree.Expr.{Expr}
use Rattle.mk_ast.specs.declared.tree.Expr.TheVariants as expr
use Rattle.mk_ast.specs.declared.tree.Expr.TheOpen.{Expr-F}
use Rattle.mk_ast.specs.declared.tree.Expr.TheViews as expr_views
use Rattle.mk_ast.specs.declared.tree.Index.{Index}
use Rattle.mk_base.specs.Digits.{hex_value}
use Rattle.mk_ast.specs.Tokens.{Token, IsName, IsElement}
use Rattle.mk_ast.specs.Phrases.{after, until, optional, several}
use Rattle.mk_ast.specs.Grammar.{size, bracketed, index_sum, reference, factor, product, sum_with, sum, assignment, statement, declaration, most_brackets}
use Rattle.mk_ast.specs.Spells.{Spells}
use Rattle.mk_ast.specs.Canonical.{is_sum, is_product}
use Rattle.mk_ast.specs.Regular.{Within, Wrapped, IsRegularIndex, IsRegularSubscript, IsRegularRef, IsRegularExprLayer, IsRegularExpr, IsRegularStmt, IsRegularWhat, IsRegularDecl, IsRegular}
use Rattle.mk_ast.proofs.ExprReading.{inner_expr}
use Rattle.mk_ast.proofs.Induction.{expr_induction}
use Rattle.mk_ast.proofs.RegularLayers.{regular_expr, regular_expr_made, regular_stmt_made}
use Rattle.mk_ast.proofs.SpelledIndex.{many_all, separated_all, all_more, Grows, within_more, wrapped_more, unwrapped, within_wrapped, less_wrapped, grow_all, index_grows, index_regular}

-- ---- references

-- the name of a name's token
name_is : (t : Token) (x : List ℕ × Place) → x ≡ (t.text, t.at) → IsName t.text → IsName x.0
name_is t x e is = subst IsName (sym (ap (λ y. y.0) e)) is

-- a regular reference is regular with one more bracket
subscript_grows : (o : Option Index) → Grows (IsRegularSubscript o)
subscript_grows None brackets h = tt
subscript_grows (Some i) brackets h = within_more (IsRegularIndex i) (index_grows i) brackets h

-- a regular reference is regular with one more bracket
ref_grows : (r : Ref) → Grows (IsRegularRef r)
ref_grows r brackets h = (h.0, subscript_grows r.index brackets h.1)

-- the brackets behind the name of an array that tokens spell are regular
subscript_regular : (brackets : ℕ) (tokens : List Token) (o : Option Index) →
    optional (bracketed (codes "[") (codes "]") index_sum brackets) tokens o → IsRegularSubscript o brackets
subscript_regular brackets tokens None spells = tt
subscript_regular zero tokens (Some i) spells = spells
subscript_regular (suc brackets) tokens (Some i) spells = index_regular brackets spells.4.0 i spells.4.4

-- a reference that tokens spell is regular
ref_regular : (brackets : ℕ) (tokens : List Token) (r : Ref) → reference brackets tokens r → IsRegularRef r brackets
ref_regular brackets tokens r x =
    subst (λ s. IsRegularRef s brackets) (sym x.2)
    (name_is x.1.3.0 x.0.0 x.1.3.2.1 x.1.3.2.0, subscript_regular brackets x.1.1 x.0.1 x.1.4)

-- ---- expressions

-- what a regular expression has, by its layer, and back
layer_of : (e : Expr) (d : Expr-F Expr) → expr_views.roll-Expr d ≡ e → (brackets : ℕ) → IsRegularExpr e brackets →
    IsRegularExprLayer Expr (λ y. y) IsRegularExpr d brackets
layer_of e d is brackets h = regular_expr d brackets (subst (λ x. IsRegularExpr x brackets) (sym is) h)

-- an expression whose layer is regular is regular
of_layer : (e : Expr) (d : Expr-F Expr) → expr_views.roll-Expr d ≡ e → (brackets : ℕ) →
    IsRegularExprLayer Expr (λ y. y) IsRegularExpr d brackets → IsRegularExpr e brackets
of_layer e d is brackets h = subst (λ x. IsRegularExpr x brackets) is (regular_expr_made d brackets h)

-- what is claimed of expressions
abbrev ExprGrows : Expr → Type 0
ExprGrows e = Grows (IsRegularExpr e)

-- a regular expression is regular with one more bracket
expr_grows : (e : Expr) → Grows (IsRegularExpr e)
expr_grows =
    expr_induction ExprGrows
    (λ v at brackets h. of_layer _ (Expr-F.Lit v at) (expr_views.rolls-Lit v at) (suc brackets) (layer_of _ (Expr-F.Lit v at) (expr_views.rolls-Lit v at) brackets h))
    (λ r brackets h. of_layer _ (Expr-F.Read r) (expr_views.rolls-Read r) (suc brackets)
    (ref_grows r brackets (layer_of _ (Expr-F.Read r) (expr_views.rolls-Read r) brackets h)))
    (λ arg more brackets h. of_layer _ (Expr-F.Sq arg) (expr_views.rolls-Sq arg) (suc brackets)
    (within_more (IsRegularExpr arg) more brackets (layer_of _ (Expr-F.Sq arg) (expr_views.rolls-Sq arg) brackets h)))
    (λ n at arg more brackets h.
    let layer = layer_of _ (Expr-F.Apply n at arg) (expr_views.rolls-Apply n at arg) brackets h in
    of_layer _ (Expr-F.Apply n at arg) (expr_views.rolls-Apply n at arg) (suc brackets) (layer.0, within_more (IsRegularExpr arg) more brackets layer.1))
    (λ parts all brackets h.
    let layer = layer_of _ (Expr-F.Sum parts) (expr_views.rolls-Sum parts) brackets h in
    of_layer _ (Expr-F.Sum parts) (expr_views.rolls-Sum parts) (suc brackets) (
      layer.0,
      grow_all (λ e. Wrapped (is_sum e) (IsRegularExpr e)) parts
          (all_more ExprGrows _ (λ e more. wrapped_more (is_sum e) (IsRegularExpr e) more) parts all) brackets layer.1,
    ))
    (λ parts all brackets h.
    let layer = layer_of _ (Expr-F.Product parts) (expr_views.rolls-Product parts) brackets h in
    of_layer _ (Expr-F.Product parts) (expr_views.rolls-Product parts) (suc brackets) (
      layer.0,
      grow_all (λ e. Wrapped (is_sum e || is_product e) (IsRegularExpr e)) parts
          (all_more ExprGrows _ (λ e more. wrapped_more (is_sum e || is_product e) (IsRegularExpr e) more) parts all) brackets layer.1,
    ))

-- the value of a digit is below 16
digit_is_small : (c v : ℕ) → hex_value c ≡ Some v → v < 16
digit_is_small c v = by (nat_lt c 48) (nat_lt c 58) (nat_lt c 65) (nat_lt c 71) (nat_lt c 97) (nat_lt c 103) refl refl refl refl refl refl
  where
    by : (b1 b2 b3 b4 b5 b6 : Bool) → nat_lt c 48 ≡ b1 → nat_lt c 58 ≡ b2 → nat_lt c 65 ≡ b3 → nat_lt c 71 ≡ b4 → nat_lt c 97 ≡ b5 → nat_lt c 103 ≡ b6 →
        cond b1 None (cond b2 (Some (c - 48)) (cond b3 None (cond b4 (Some (c - 55)) (cond b5 None (cond b6 (Some (c - 87)) None))))) ≡ Some v → v < 16
    by true b2 b3 b4 b5 b6 e1 e2 e3 e4 e5 e6 e = absurd cc
    by false true b3 b4 b5 b6 e1 e2 e3 e4 e5 e6 e = let is : c - 48 ≡ v = cc in omega (arith, ltb-true c 58 e2)
    by false false true b4 b5 b6 e1 e2 e3 e4 e5 e6 e = absurd cc
    by false false false true b5 b6 e1 e2 e3 e4 e5 e6 e = let is : c - 55 ≡ v = cc in omega (arith, ltb-true c 71 e4)
    by false false false false true b6 e1 e2 e3 e4 e5 e6 e = absurd cc
    by false false false false false true e1 e2 e3 e4 e5 e6 e = let is : c - 87 ≡ v = cc in omega (arith, ltb-true c 103 e6)
    by false false false false false false e1 e2 e3 e4 e5 e6 e = absurd cc

-- the value of an element is a byte
element_is_byte : (v : ℕ) (text : List ℕ) → IsElement v text → v < 256
element_is_byte v text x =
    let high = digit_is_small x.0 x.2 x.5 in
    let low = digit_is_small x.1 x.3 x.6 in
    omega (arith, x.7)

module _ (brackets : ℕ) (inner : (tokens : List Token) (e : Expr) → inner_expr brackets tokens e → Within (IsRegularExpr e) brackets) where
  -- an expression is regular as a factor
  abbrev FactorFits : Expr → Type 0
  FactorFits e = Wrapped (is_sum e || is_product e) (IsRegularExpr e) brackets

  -- and as a part of a sum
  abbrev ProductFits : Expr → Type 0
  ProductFits e = Wrapped (is_sum e) (IsRegularExpr e) brackets

  -- a factor that tokens spell is regular, in parentheses where these are needed
  factor_regular : (tokens : List Token) (e : Expr) → factor brackets (inner_expr brackets) tokens e → FactorFits e
  factor_regular tokens e (inl x) =
      subst FactorFits (sym x.2) (of_layer _ (Expr-F.Lit x.0.0 x.0.1) (expr_views.rolls-Lit x.0.0 x.0.1) brackets (element_is_byte x.0.0 x.1.0.text x.1.2.0))
  factor_regular tokens e (inr (inl x)) =
      subst FactorFits (sym x.2) (of_layer _ (Expr-F.Sq x.0) (expr_views.rolls-Sq x.0) brackets (inner x.1.1 x.0 x.1.4))
  factor_regular tokens e (inr (inr (inl x))) =
      subst FactorFits (sym x.2)
      (of_layer _ (Expr-F.Apply x.0.0.0 x.0.0.1 x.0.1) (expr_views.rolls-Apply x.0.0.0 x.0.0.1 x.0.1) brackets
      (name_is x.1.3.0 x.0.0 x.1.3.2.1 x.1.3.2.0, inner x.1.1 x.0.1 x.1.4))
  factor_regular tokens e (inr (inr (inr (inl x)))) =
      subst FactorFits (sym x.2) (of_layer _ (Expr-F.Read x.0) (expr_views.rolls-Read x.0) brackets (ref_regular brackets tokens x.0 x.1))
  factor_regular tokens e (inr (inr (inr (inr x)))) = within_wrapped (is_sum e || is_product e) (IsRegularExpr e) (expr_grows e) brackets (inner tokens e x)

  -- a product that tokens spell is regular, in parentheses where these are needed
  product_regular : (tokens : List Token) (e : Expr) → product brackets (inner_expr brackets) tokens e → ProductFits e
  product_regular tokens e x =
      subst ProductFits (sym x.2) (by x.0 (separated_all (codes "*") (factor brackets (inner_expr brackets)) FactorFits factor_regular x.0 tokens x.1))
    where
      by : (parts : List Expr) → AllByRecursion FactorFits parts × (1 ≤ length parts) → ProductFits (several expr.Product parts)
      by [] h = absurd (omega (arith, h.1))
      by (a ∷ []) h = less_wrapped (is_sum a) (is_product a) (IsRegularExpr a) (expr_grows a) brackets h.0.0
      by (a ∷ b ∷ parts) h = of_layer _ (Expr-F.Product (a ∷ b ∷ parts)) (expr_views.rolls-Product (a ∷ b ∷ parts)) brackets (omega arith, h.0)

  -- a sum that tokens spell is regular
  sum_regular : (tokens : List Token) (e : Expr) → sum_with brackets (inner_expr brackets) tokens e → IsRegularExpr e brackets
  sum_regular tokens e x =
      subst (λ a. IsRegularExpr a brackets) (sym x.2)
      (by x.0 (separated_all (codes "+") (product brackets (inner_expr brackets)) ProductFits product_regular x.0 tokens x.1))
    where
      by : (parts : List Expr) → AllByRecursion ProductFits parts × (1 ≤ length parts) → IsRegularExpr (several expr.Sum parts) brackets
      by [] h = absurd (omega (arith, h.1))
      by (a ∷ []) h = unwrapped (is_sum a) (IsRegularExpr a) (expr_grows a) brackets h.0.0
      by (a ∷ b ∷ parts) h = of_layer _ (Expr-F.Sum (a ∷ b ∷ parts)) (expr_views.rolls-Sum (a ∷ b ∷ parts)) brackets (omega arith, h.0)

-- an expression that tokens spell is regular
expr_regular : (brackets : ℕ) (tokens : List Token) (e : Expr) → sum brackets tokens e → IsRegularExpr e brackets
unfolding sum
expr_regular zero tokens e spells = sum_regular zero (λ ts a h. absurd h) tokens e spells
expr_regular (suc brackets) tokens e spells = sum_regular (suc brackets) (λ ts a h. expr_regular brackets h.4.0 a h.4.4) tokens e spells

-- ---- statements

-- an assignment that tokens spell is regular
set_regular : (brackets : ℕ) (tokens : List Token) (s : Stmt) → assignment brackets tokens s → IsRegularStmt s brackets
set_regular brackets tokens s x =
    subst (λ a. IsRegularStmt a brackets) (sym x.2)
    (subst (λ a. IsRegularStmt a brackets) (stmt_views.rolls-Set x.0.0 x.0.1)
    (regular_stmt_made (Stmt-F.Set x.0.0 x.0.1) brackets (ref_regular brackets x.1.0 x.0.0 x.1.3, expr_regular brackets x.1.4.4.0 x.0.1 x.1.4.4.4)))

-- a statement that tokens spell is regular
stmt_regular : (brackets : ℕ) (tokens : List Token) (s : Stmt) → statement brackets tokens s → IsRegularStmt s brackets
unfolding statement
stmt_regular zero tokens s spells = set_regular zero tokens s spells
stmt_regular (suc brackets) tokens s (inl x) = set_regular (suc brackets) tokens s x
stmt_regular (suc brackets) tokens s (inr x) =
    let head = x.1.3.4 in
    let names = head.3 in
    let range = head.4.4 in
    subst (λ a. IsRegularStmt a (suc brackets)) (sym x.2)
    (subst (λ a. IsRegularStmt a (suc brackets)) (stmt_views.rolls-Loop x.0.0.0.0 x.0.0.0.1 x.0.0.1.0 x.0.0.1.1 x.0.1)
    (regular_stmt_made (Stmt-F.Loop x.0.0.0.0 x.0.0.0.1 x.0.0.1.0 x.0.0.1.1 x.0.1) (suc brackets) (
      name_is names.0 x.0.0.0 names.2.1 names.2.0,
      range.3.2.1,
      range.4.4.2.1,
      many_all (statement brackets) (λ a. IsRegularStmt a brackets) (λ ts a h. stmt_regular brackets ts a h) x.0.1 x.1.4.4.0 x.1.4.4.4,
    )))

-- ---- programs

-- a declaration that tokens spell is regular
decl_regular : (tokens : List Token) (d : Decl) → declaration tokens d → IsRegularDecl d
decl_regular tokens d (inl x) =
    let parts = x.1.4 in
    let images = separated_all (codes ",") _ (λ v. v < 256) (λ ts v h. subst (λ n. n < 256) (sym h.2) (element_is_byte h.0.0 h.1.0.text h.1.2.0)) x.0.1 parts.4.4.0 parts.4.4.4 in
    subst IsRegularDecl (sym x.2) (name_is parts.3.0 x.0.0 parts.3.2.1 parts.3.2.0, (images.1, images.0))
decl_regular tokens d (inr x) =
    let parts = x.1.4.4 in
    subst IsRegularDecl (sym x.2) (name_is parts.3.0 x.0.1.0 parts.3.2.1 parts.3.2.0, by x.0.0 x.0.1.1 parts.1 parts.4)
  where
    by : (c : Class) (o : Option ℕ) (ts : List Token) → optional (after (codes "[") (until (codes "]") size)) ts o → IsRegularWhat (what.Var c o)
    by c None ts h = tt
    by c (Some n) ts h = ((let some : n ≢ 0 = h.4.4.2.1 in omega arith), h.4.4.2.0.1)

-- a program that a text spells is regular
pub spelled_is_regular : (p : Program) (text : List ℕ) → Spells p text → IsRegular p
spelled_is_regular p text spells =
    let x = spells.2 in
    subst IsRegular (sym x.2) (record {
      decls = many_all declaration IsRegularDecl decl_regular x.0.1.0 x.1.4.0 x.1.4.3;
      body = many_all (statement most_brackets) (λ s. IsRegularStmt s most_brackets) (λ ts s h. stmt_regular most_brackets ts s h) x.0.1.1 x.1.4.1 x.1.4.4;
    })
