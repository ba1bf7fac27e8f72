-- The tree of the generator's text is regular.
use Rattle.std.proofs.Common.{ℕ, zero, suc, IsTrue, ap, ◌≤◌, ◌||◌, List, [], ◌∷◌, length, refl, subst, codes, Contains, arith, lit<, lit≤}
use Rattle.std.specs.List.{AllByRecursion}
use Rattle.mk_base.specs.declared.Place.{Place}
use Rattle.mk_ast.specs.declared.tree.Stmt.{Stmt}
use Rattle.mk_ast.specs.declared.tree.Stmt.TheVariants as stmt
use Rattle.mk_ast.specs.declared.tree.Stmt.TheOpen.{Stmt-F}
use Rattle.mk_ast.specs.declared.tree.Stmt.TheViews as stmt_views
use Rattle.mk_ast.specs.declared.tree.Ref.{Ref}
use Rattle.mk_ast.specs.declared.tree.Expr.{Expr}
use Rattle.mk_ast.specs.declared.tree.Expr.TheVariants as expr
use Rattle.mk_ast.specs.declared.tree.Expr.TheOpen.{Expr-F}
use Rattle.mk_ast.specs.declared.tree.Expr.TheViews as expr_views
use Rattle.mk_ast.specs.declared.tree.Index.{Index}
use Rattle.mk_ast.specs.declared.tree.Index.TheVariants as index
use Rattle.mk_ast.specs.declared.tree.Index.TheOpen.{Index-F, Link-F}
use Rattle.mk_ast.specs.declared.tree.Index.TheViews as index_views
use Rattle.mk_ast.specs.declared.tree.Link.{Link}
use Rattle.mk_ast.specs.declared.tree.Link.TheVariants as link
use Rattle.mk_ast.specs.Tokens.{IsName, begins_word, reserved}
use Rattle.mk_ast.specs.Places.{nowhere}
use Rattle.mk_ast.specs.Canonical.{is_index_sum, is_sum, is_product}
use Rattle.mk_ast.specs.Regular.{IsInRange, IsSize, Within, Wrapped, IsRegularFactor, IsRegularIndex, IsRegularRef, IsRegularExpr, IsRegularStmt, IsRegular}
use Rattle.mk_ast.proofs.RegularLayers.{IsRegularLink, regular_stmt_made, regular_expr_made, regular_index_made, regular_link_made}
use Rattle.mk_gen.proofs.Tree.{scalar, cell, turn, turn_index, scaled_index, next_turn, next_index, first_assignment, second_assignment, generated_loop, generated_tree}

-- What is regular by its parts.
module _ (brackets : ℕ) where
  -- the number of a turn
  regular_var : (name : List ℕ) (at : Place) → IsName name → IsRegularIndex (index.Var name at) brackets
  regular_var name at is = subst (λ i. IsRegularIndex i brackets) (index_views.rolls-Var name at) (regular_index_made (Index-F.Var name at) brackets is)

  -- a number
  regular_num : (n : ℕ) → IsInRange n → IsRegularIndex (index.Num n) brackets
  regular_num n is = subst (λ i. IsRegularIndex i brackets) (index_views.rolls-Num n) (regular_index_made (Index-F.Num n) brackets is)

  -- a remainder
  regular_mod : (n : ℕ) → IsSize n → IsRegularLink (link.Mod n) brackets
  regular_mod n is = subst (λ l. IsRegularLink l brackets) (index_views.rolls-Mod n) (regular_link_made (Link-F.Mod n) brackets is)

  -- a product of indexes
  regular_times : (by : Index) → IsRegularFactor Index Link (λ i. i) IsRegularIndex IsRegularLink brackets by → IsRegularLink (link.Times by) brackets
  regular_times by is = subst (λ l. IsRegularLink l brackets) (index_views.rolls-Times by) (regular_link_made (Link-F.Times by) brackets is)

  -- a sum of indexes
  regular_sum : (a b : Index) → Wrapped (is_index_sum a) (IsRegularIndex a) brackets → Wrapped (is_index_sum b) (IsRegularIndex b) brackets →
      IsRegularIndex (index.Sum (a ∷ b ∷ [])) brackets
  regular_sum a b first second =
      subst (λ i. IsRegularIndex i brackets) (index_views.rolls-Sum (a ∷ b ∷ []))
      (regular_index_made (Index-F.Sum (a ∷ b ∷ [])) brackets (lit≤ tt, (first, (second, tt))))

  -- a chain of one link
  regular_chain : (first : Index) (links : List Link) → IsRegularFactor Index Link (λ i. i) IsRegularIndex IsRegularLink brackets first → 1 ≤ length links →
      AllByRecursion (λ l. IsRegularLink l brackets) links → IsRegularIndex (index.Chain first links) brackets
  regular_chain first links is some all =
      subst (λ i. IsRegularIndex i brackets) (index_views.rolls-Chain first links) (regular_index_made (Index-F.Chain first links) brackets (is, some, all))

  -- what a reference gives
  regular_read : (from : Ref) → IsRegularRef from brackets → IsRegularExpr (expr.Read from) brackets
  regular_read from is = subst (λ e. IsRegularExpr e brackets) (expr_views.rolls-Read from) (regular_expr_made (Expr-F.Read from) brackets is)

  -- a square
  regular_sq : (arg : Expr) → Within (IsRegularExpr arg) brackets → IsRegularExpr (expr.Sq arg) brackets
  regular_sq arg is = subst (λ e. IsRegularExpr e brackets) (expr_views.rolls-Sq arg) (regular_expr_made (Expr-F.Sq arg) brackets is)

  -- an image
  regular_apply : (name : List ℕ) (at : Place) (arg : Expr) → IsName name → Within (IsRegularExpr arg) brackets → IsRegularExpr (expr.Apply name at arg) brackets
  regular_apply name at arg is within =
      subst (λ e. IsRegularExpr e brackets) (expr_views.rolls-Apply name at arg) (regular_expr_made (Expr-F.Apply name at arg) brackets (is, within))

  -- a sum
  regular_total : (a b : Expr) → Wrapped (is_sum a) (IsRegularExpr a) brackets → Wrapped (is_sum b) (IsRegularExpr b) brackets →
      IsRegularExpr (expr.Sum (a ∷ b ∷ [])) brackets
  regular_total a b first second =
      subst (λ e. IsRegularExpr e brackets) (expr_views.rolls-Sum (a ∷ b ∷ []))
      (regular_expr_made (Expr-F.Sum (a ∷ b ∷ [])) brackets (lit≤ tt, (first, (second, tt))))

  -- a product
  regular_product : (a b : Expr) → Wrapped (is_sum a || is_product a) (IsRegularExpr a) brackets → Wrapped (is_sum b || is_product b) (IsRegularExpr b) brackets →
      IsRegularExpr (expr.Product (a ∷ b ∷ [])) brackets
  regular_product a b first second =
      subst (λ e. IsRegularExpr e brackets) (expr_views.rolls-Product (a ∷ b ∷ []))
      (regular_expr_made (Expr-F.Product (a ∷ b ∷ [])) brackets (lit≤ tt, (first, (second, tt))))

  -- an assignment
  regular_set : (target : Ref) (value : Expr) → IsRegularRef target brackets → IsRegularExpr value brackets → IsRegularStmt (stmt.Set target value) brackets
  regular_set target value is given =
      subst (λ s. IsRegularStmt s brackets) (stmt_views.rolls-Set target value) (regular_stmt_made (Stmt-F.Set target value) brackets (is, given))

-- a loop
regular_loop : (brackets : ℕ) (name : List ℕ) (at : Place) (from to : ℕ) (body : List Stmt) → IsName name → IsInRange from → IsInRange to →
    AllByRecursion (λ s. IsRegularStmt s brackets) body → IsRegularStmt (stmt.Loop name at from to body) (suc brackets)
regular_loop brackets name at from to body is first last all =
    subst (λ s. IsRegularStmt s (suc brackets)) (stmt_views.rolls-Loop name at from to body)
    (regular_stmt_made (Stmt-F.Loop name at from to body) (suc brackets) (is, first, last, all))

-- The names are words of one letter, and the reserved words are longer.
reserved_longer : (words : List (List ℕ)) (letter : ℕ) → AllByRecursion (λ w. 2 ≤ length w) words → Contains words (letter ∷ []) → ⊥
reserved_longer [] letter all (k, within, is) = omega (arith, within)
reserved_longer (w ∷ words) letter all (zero, within, is) = omega (arith, all.0, ap (λ v. length v) is)
reserved_longer (w ∷ words) letter all (suc k, within, is) = reserved_longer words letter all.1 (k, omega (arith, within), is)

-- a letter is a name
letter_name : (letter : ℕ) → IsTrue (begins_word letter) → IsName (letter ∷ [])
letter_name letter begins = (
  (begins, tt, lit< tt),
  reserved_longer reserved letter (lit≤ tt, (lit≤ tt, (lit≤ tt, (lit≤ tt, (lit≤ tt, (lit≤ tt, (lit≤ tt, (lit≤ tt, (lit≤ tt, (lit≤ tt, (lit≤ tt, tt))))))))))),
)

-- the names of the generated text are names
is_name_a : IsName (codes "a")
is_name_a = letter_name 97 refl

-- the loop's
is_name_i : IsName (codes "i")
is_name_i = letter_name 105 refl

-- the map's
is_name_m : IsName (codes "m")
is_name_m = letter_name 109 refl

-- the secret's
is_name_x : IsName (codes "x")
is_name_x = letter_name 120 refl

-- the output's
is_name_y : IsName (codes "y")
is_name_y = letter_name 121 refl

-- a size
size_16 : IsSize 16
size_16 = (lit≤ tt, lit≤ tt)

-- The parts of the body, with some brackets left.
module _ (brackets : ℕ) where
  -- the loop's variable is a regular index
  turn_regular : IsRegularIndex turn brackets
  turn_regular = regular_var brackets (codes "i") nowhere is_name_i

  -- and the sum of it alone
  turn_index_regular : IsRegularIndex turn_index brackets
  turn_index_regular = regular_chain brackets turn (link.Mod 16 ∷ []) turn_regular (lit≤ tt) (regular_mod brackets 16 size_16, tt)

  -- and its double
  scaled_index_regular : IsRegularIndex scaled_index brackets
  scaled_index_regular =
      regular_chain brackets (index.Num 5) (link.Times turn ∷ link.Mod 16 ∷ []) (regular_num brackets 5 (lit≤ tt)) (lit≤ tt)
      (regular_times brackets turn turn_regular, (regular_mod brackets 16 size_16, tt))

  -- and the number behind it
  next_turn_regular : IsRegularIndex next_turn brackets
  next_turn_regular = regular_sum brackets turn (index.Num 1) turn_regular (regular_num brackets 1 (lit≤ tt))

  -- and the variable a
  a_regular : IsRegularRef (scalar (codes "a")) brackets
  a_regular = (is_name_a, tt)

-- a reference with a bracket
cell_regular : (brackets : ℕ) (name : List ℕ) (i : Index) → IsName name → IsRegularIndex i brackets → IsRegularRef (cell name i) (suc brackets)
cell_regular brackets name i is inner = (is, inner)

-- the first assignment
first_regular : (brackets : ℕ) → IsRegularStmt first_assignment (suc brackets)
first_regular brackets =
    regular_set (suc brackets) _ _ (a_regular (suc brackets))
    (regular_total (suc brackets) _ _
    (regular_read (suc brackets) _ (cell_regular brackets (codes "x") turn_index is_name_x (turn_index_regular brackets)))
    (regular_read (suc brackets) _ (cell_regular brackets (codes "y") scaled_index is_name_y (scaled_index_regular brackets))))

-- the second assignment
second_regular : (brackets : ℕ) → IsRegularStmt second_assignment (suc (suc (suc brackets)))
second_regular brackets =
    let here = suc (suc (suc brackets)) in
    regular_set here _ _ (cell_regular (suc (suc brackets)) (codes "y") turn_index is_name_y (turn_index_regular (suc (suc brackets))))
    (regular_total here _ _
    (regular_product here _ _
    (regular_read here _ (a_regular here))
    (regular_apply here (codes "m") nowhere _ is_name_m (regular_read (suc (suc brackets)) _ (a_regular (suc (suc brackets))))))
    (regular_sq here _ (regular_read (suc (suc brackets)) _
    (cell_regular (suc brackets) (codes "y") next_index is_name_y
    (regular_chain (suc brackets) next_turn (link.Mod 16 ∷ []) (next_turn_regular brackets) (lit≤ tt) (regular_mod (suc brackets) 16 size_16, tt))))))

-- the loop
loop_regular : (brackets n : ℕ) → n ≤ 65535 → IsRegularStmt (generated_loop n) (suc (suc (suc (suc brackets))))
loop_regular brackets n within =
    regular_loop (suc (suc (suc brackets))) (codes "i") nowhere 0 n (first_assignment ∷ second_assignment ∷ []) is_name_i (lit≤ tt) within
    (first_regular (suc (suc brackets)), (second_regular brackets, tt))

-- the program
pub generated_regular : (n : ℕ) → n ≤ 65535 → IsRegular (generated_tree n)
generated_regular n within = record {
  decls = (
    (is_name_m, (lit≤ tt, (lit< tt, (lit< tt, (lit< tt, (lit< tt, (lit< tt, (lit< tt, (lit< tt, (lit< tt, tt)))))))))),
    ((is_name_x, size_16), ((is_name_a, tt), ((is_name_y, size_16), tt))),
  );
  body = (loop_regular 60 n within, tt);
}
