-- The program of a table is regular.
use Rattle.std.proofs.Common.{◌≡◌, ℕ, zero, suc, IsTrue, ◌-◌, ◌≤◌, ◌<◌, Bool, true, false, ◌&&◌, ◌||◌, not, nat_lt, List, [], ◌∷◌, ◌++◌, length, map, Contains, refl, sym, ap, subst, ◌∙◌, codes, arith, lit≤, true≢false}
use Rattle.std.specs.Prelude.{bytes_eq}
use Rattle.std.specs.Fmt.{digits}
use Rattle.std.specs.List.{AllByRecursion}
use Rattle.std.proofs.lemmas.Bool.{and_parts, ltb-true}
use Rattle.std.proofs.lemmas.Slice.Eq.{bytes_eq-Decides}
use Rattle.mk_ast.specs.declared.tree.Class.TheVariants as class_
use Rattle.mk_ast.specs.declared.tree.Stmt.TheOpen.{Stmt-F}
use Rattle.mk_ast.specs.declared.tree.Stmt.TheViews as stmt_views
use Rattle.mk_ast.specs.declared.tree.Expr.{Expr}
use Rattle.mk_ast.specs.declared.tree.Expr.TheVariants as expr
use Rattle.mk_ast.specs.declared.tree.Expr.TheOpen.{Expr-F}
use Rattle.mk_ast.specs.declared.tree.Expr.TheViews as expr_views
use Rattle.mk_ast.specs.Tokens.{IsName, begins_word, goes_on, reserved}
use Rattle.mk_ast.specs.Canonical.{is_sum, is_product}
use Rattle.mk_ast.specs.Regular.{Within, Wrapped, IsRegularExpr, IsRegularStmt, IsRegularDecl, IsRegular}
use Rattle.mk_ast.proofs.RegularLayers.{regular_stmt_made, regular_expr_made}
use Rattle.mk_table.specs.Classes.{leader_of, doublings, leaders, further_leaders}
use Rattle.mk_table.specs.Source.{start, map_name, power_name, map_decl, scalar, source_decls, variable, read, set, squared, next_power, power_stmt, image_part, polynomial, source_body, source}
use Rattle.mk_table.proofs.Lists.{all_pass, all_mapped, all_both}

-- whether all bytes of a word may stand behind its first
abbrev all_go_on : List ℕ → Bool
all_go_on [] = true
all_go_on (b ∷ bs) = goes_on b && all_go_on bs

-- whether a text is none of these
abbrev is_none_of : List (List ℕ) → List ℕ → Bool
is_none_of [] text = true
is_none_of (w ∷ words) text = not (bytes_eq text w) && is_none_of words text

-- whether a text is a name
abbrev pub is_name : List ℕ → Bool
is_name [] = false
is_name (b ∷ bs) = begins_word b && (all_go_on bs && (nat_lt (length bs) 64 && is_none_of reserved (b ∷ bs)))

-- then its bytes are those of a word
go_on : (bs : List ℕ) → all_go_on bs ≡ true → AllByRecursion (λ c. IsTrue (goes_on c)) bs
go_on [] all = tt
go_on (b ∷ bs) all = let parts = and_parts (goes_on b) (all_go_on bs) all in (is_true (goes_on b) parts.0, go_on bs parts.1)
  where
    is_true : (b : Bool) → b ≡ true → IsTrue b
    is_true true e = refl
    is_true false e = absurd (true≢false (sym e))

-- a text that is none of these is not among them
is_not_among : (words : List (List ℕ)) (text : List ℕ) → is_none_of words text ≡ true → Contains words text → ⊥
is_not_among [] text none (k, within, is) = omega (arith, within)
is_not_among (w ∷ words) text none (zero, within, is) = true≢false (sym (and_parts (not (bytes_eq text w)) (is_none_of words text) none).0 ∙ ap not ((bytes_eq-Decides text w).1 (sym is)))
is_not_among (w ∷ words) text none (suc k, within, is) = is_not_among words text (and_parts (not (bytes_eq text w)) (is_none_of words text) none).1 (k, omega (arith, within), is)

-- what passes the test is a name
pub named : (text : List ℕ) → is_name text ≡ true → IsName text
named [] test = absurd (true≢false (sym test))
named (b ∷ bs) test =
    let first = and_parts (begins_word b) (all_go_on bs && (nat_lt (length bs) 64 && is_none_of reserved (b ∷ bs))) test in
    let second = and_parts (all_go_on bs) (nat_lt (length bs) 64 && is_none_of reserved (b ∷ bs)) first.1 in
    let third = and_parts (nat_lt (length bs) 64) (is_none_of reserved (b ∷ bs)) second.1 in
    ((is_true (begins_word b) first.0, go_on bs second.0, ltb-true (length bs) 64 third.0), is_not_among reserved (b ∷ bs) third.1)
  where
    is_true : (b : Bool) → b ≡ true → IsTrue b
    is_true true e = refl
    is_true false e = absurd (true≢false (sym e))

-- whether the names of a class are names
names_pass : ℕ → Bool
names_pass k = is_name (map_name k) && is_name (power_name k)

-- the names of the leaders are
leaders-named : all_pass names_pass leaders ≡ true
unfolding names_pass digits
leaders-named = refl

-- those of the first are
first_named : names_pass 1 ≡ true
unfolding names_pass digits
first_named = refl

-- those of the last are
last_named : names_pass 127 ≡ true
unfolding names_pass digits
last_named = refl

-- the name of a map
map_named : (k : ℕ) → names_pass k ≡ true → IsName (map_name k)
unfolding names_pass
map_named k test = named (map_name k) (and_parts (is_name (map_name k)) (is_name (power_name k)) test).0

-- the name of a power
power_named : (k : ℕ) → names_pass k ≡ true → IsName (power_name k)
unfolding names_pass
power_named k test = named (power_name k) (and_parts (is_name (map_name k)) (is_name (power_name k)) test).1

-- what is regular by its parts
module _ (brackets : ℕ) where
  -- an element
  regular_lit : (value : ℕ) → value < 256 → IsRegularExpr (expr.Lit value start) brackets
  regular_lit value small = subst (λ e. IsRegularExpr e brackets) (expr_views.rolls-Lit value start) (regular_expr_made (Expr-F.Lit value start) brackets small)

  -- a variable that is read
  regular_read : (name : List ℕ) → IsName name → IsRegularExpr (read name) brackets
  regular_read name is = subst (λ e. IsRegularExpr e brackets) (expr_views.rolls-Read (variable name)) (regular_expr_made (Expr-F.Read (variable name)) brackets (is, tt))

  -- a square
  regular_sq : (arg : Expr) → Within (IsRegularExpr arg) brackets → IsRegularExpr (expr.Sq arg) brackets
  regular_sq arg is = subst (λ e. IsRegularExpr e brackets) (expr_views.rolls-Sq arg) (regular_expr_made (Expr-F.Sq arg) brackets is)

  -- an image
  regular_apply : (name : List ℕ) (arg : Expr) → IsName name → Within (IsRegularExpr arg) brackets → IsRegularExpr (expr.Apply name start arg) brackets
  regular_apply name arg is within =
      subst (λ e. IsRegularExpr e brackets) (expr_views.rolls-Apply name start arg) (regular_expr_made (Expr-F.Apply name start arg) brackets (is, within))

  -- a sum
  regular_total : (parts : List Expr) → 2 ≤ length parts → AllByRecursion (λ e. Wrapped (is_sum e) (IsRegularExpr e) brackets) parts → IsRegularExpr (expr.Sum parts) brackets
  regular_total parts some all = subst (λ e. IsRegularExpr e brackets) (expr_views.rolls-Sum parts) (regular_expr_made (Expr-F.Sum parts) brackets (some, all))

  -- a product
  regular_product : (a b : Expr) → Wrapped (is_sum a || is_product a) (IsRegularExpr a) brackets → Wrapped (is_sum b || is_product b) (IsRegularExpr b) brackets →
      IsRegularExpr (expr.Product (a ∷ b ∷ [])) brackets
  regular_product a b first second =
      subst (λ e. IsRegularExpr e brackets) (expr_views.rolls-Product (a ∷ b ∷ []))
      (regular_expr_made (Expr-F.Product (a ∷ b ∷ [])) brackets (lit≤ tt, (first, (second, tt))))

  -- an assignment
  regular_set : (name : List ℕ) (value : Expr) → IsName name → IsRegularExpr value brackets → IsRegularStmt (set name value) brackets
  regular_set name value is given =
      subst (λ s. IsRegularStmt s brackets) (stmt_views.rolls-Set (variable name) value) (regular_stmt_made (Stmt-F.Set (variable name) value) brackets ((is, tt), given))

-- squares of a variable
regular_squared : (n brackets : ℕ) (name : List ℕ) → IsName name → n ≤ brackets → IsRegularExpr (squared n (read name)) brackets
regular_squared zero brackets name is within = regular_read brackets name is
regular_squared (suc n) zero name is within = absurd (omega (arith, within))
regular_squared (suc n) (suc brackets) name is within = regular_sq (suc brackets) (squared n (read name)) (regular_squared n brackets name is (omega (arith, within)))

-- which need no parentheses
bare_squared : (n brackets : ℕ) (name : List ℕ) → IsRegularExpr (squared n (read name)) brackets
    → Wrapped (is_sum (squared n (read name)) || is_product (squared n (read name))) (IsRegularExpr (squared n (read name))) brackets
bare_squared zero brackets name is = is
bare_squared (suc n) brackets name is = is

-- an assignment of a power
regular_next : (name : List ℕ) (root squarings : ℕ) → IsName name → IsName (power_name root) → squarings ≤ 64 → IsRegularStmt (next_power name root squarings) 64
regular_next name root squarings is of_root few =
    regular_set 64 name _ is
    (regular_product 64 _ _
    (bare_squared squarings 64 (power_name root) (regular_squared squarings 64 (power_name root) of_root few))
    (regular_read 64 (codes "x") (named (codes "x") refl)))

-- whether a power is made of one whose name is a name
power_pass : ℕ → Bool
power_pass k = names_pass k && (names_pass (leader_of (k - 1)) && nat_lt (doublings (k - 1)) 64)

-- all are
powers-pass : all_pass power_pass further_leaders ≡ true
unfolding names_pass power_pass digits
powers-pass = refl

-- so their assignments are regular
power_regular : (k : ℕ) → power_pass k ≡ true → IsRegularStmt (power_stmt k) 64
unfolding power_pass
power_regular k test =
    let first = and_parts (names_pass k) (names_pass (leader_of (k - 1)) && nat_lt (doublings (k - 1)) 64) test in
    let second = and_parts (names_pass (leader_of (k - 1))) (nat_lt (doublings (k - 1)) 64) first.1 in
    let few : doublings (k - 1) < 64 = ltb-true (doublings (k - 1)) 64 second.1 in
    regular_next (power_name k) (leader_of (k - 1)) (doublings (k - 1)) (power_named k first.0) (power_named (leader_of (k - 1)) second.0) (omega (arith, few))

-- an image
image_regular : (k : ℕ) → names_pass k ≡ true → IsRegularExpr (image_part k) 64
image_regular k test = regular_apply 64 (map_name k) (read (power_name k)) (map_named k test) (regular_read 63 (power_name k) (power_named k test))

-- the images of a map, and the first and the last coefficient
pub record AreBytes (images : ℕ → List ℕ) (last first : ℕ) : Type 0 where
  pub eight : (k : ℕ) → length (images k) ≡ 8
  pub bytes : (k : ℕ) → AllByRecursion (λ b. b < 256) (images k)
  pub last_byte : last < 256
  pub first_byte : first < 256

-- the declarations are regular
decls_regular : (images : ℕ → List ℕ) (last first : ℕ) → AreBytes images last first → AllByRecursion IsRegularDecl (source_decls images)
decls_regular images last first bytes =
    let maps : AllByRecursion IsRegularDecl (map (map_decl images) leaders) =
    all_mapped IsRegularDecl (map_decl images) names_pass (λ k test. (map_named k test, (omega (arith, bytes.eight k), bytes.bytes k))) leaders leaders-named in
    let powers : AllByRecursion IsRegularDecl (scalar class_.Secret (codes "x") ∷ map (λ k. scalar class_.LocalSecret (power_name k)) leaders) =
    ((named (codes "x") refl, tt), all_mapped IsRegularDecl (λ k. scalar class_.LocalSecret (power_name k)) names_pass (λ k test. (power_named k test, tt)) leaders leaders-named) in
    let behind : AllByRecursion IsRegularDecl (scalar class_.LocalSecret (codes "q") ∷ scalar class_.Output (codes "y") ∷ []) =
    ((named (codes "q") refl, tt), ((named (codes "y") refl, tt), tt)) in
    all_both IsRegularDecl (map (map_decl images) leaders ++ scalar class_.Secret (codes "x") ∷ map (λ k. scalar class_.LocalSecret (power_name k)) leaders) (scalar class_.LocalSecret (codes "q") ∷ scalar class_.Output (codes "y") ∷ [])
    (all_both IsRegularDecl (map (map_decl images) leaders) (scalar class_.Secret (codes "x") ∷ map (λ k. scalar class_.LocalSecret (power_name k)) leaders) maps powers) behind

-- the sum is regular
polynomial_regular : (last first : ℕ) → last < 256 → first < 256 → IsRegularExpr (polynomial last first) 64
polynomial_regular last first last_byte first_byte =
    let images : AllByRecursion (λ e. Wrapped (is_sum e) (IsRegularExpr e) 64) (map image_part leaders) =
    all_mapped (λ e. Wrapped (is_sum e) (IsRegularExpr e) 64) image_part names_pass image_regular leaders leaders-named in
    let behind : AllByRecursion (λ e. Wrapped (is_sum e) (IsRegularExpr e) 64) (expr.Product (expr.Lit last start ∷ read (codes "q") ∷ []) ∷ expr.Lit first start ∷ []) = (
      regular_product 64 (expr.Lit last start) (read (codes "q")) (regular_lit 64 last last_byte) (regular_read 64 (codes "q") (named (codes "q") refl)),
      (regular_lit 64 first first_byte, tt),
    ) in
    regular_total 64 _ (lit≤ tt) (all_both (λ e. Wrapped (is_sum e) (IsRegularExpr e) 64) (map image_part leaders) (expr.Product (expr.Lit last start ∷ read (codes "q") ∷ []) ∷ expr.Lit first start ∷ []) images behind)

-- the statements are regular
body_regular : (last first : ℕ) → last < 256 → first < 256 → AllByRecursion (λ s. IsRegularStmt s 64) (source_body last first)
body_regular last first last_byte first_byte =
    let powers : AllByRecursion (λ s. IsRegularStmt s 64) (set (power_name 1) (read (codes "x")) ∷ map power_stmt further_leaders) = (
      regular_set 64 (power_name 1) _ (power_named 1 first_named) (regular_read 64 (codes "x") (named (codes "x") refl)),
      all_mapped (λ s. IsRegularStmt s 64) power_stmt power_pass power_regular further_leaders powers-pass,
    ) in
    let behind : AllByRecursion (λ s. IsRegularStmt s 64) (next_power (codes "q") 127 1 ∷ set (codes "y") (polynomial last first) ∷ []) = (
      regular_next (codes "q") 127 1 (named (codes "q") refl) (power_named 127 last_named) (lit≤ tt),
      (regular_set 64 (codes "y") _ (named (codes "y") refl) (polynomial_regular last first last_byte first_byte), tt),
    ) in
    all_both (λ s. IsRegularStmt s 64) (set (power_name 1) (read (codes "x")) ∷ map power_stmt further_leaders) (next_power (codes "q") 127 1 ∷ set (codes "y") (polynomial last first) ∷ []) powers behind

-- the program is regular
pub source_regular : (images : ℕ → List ℕ) (last first : ℕ) → AreBytes images last first → IsRegular (source images last first)
source_regular images last first bytes = record {
  decls = decls_regular images last first bytes;
  body = body_regular last first bytes.last_byte bytes.first_byte;
}
