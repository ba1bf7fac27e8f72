-- What the definitions by layers give of each kind of tree.
use Rattle.std.proofs.Common.{◌≡◌, ℕ, List, [], ◌∷◌, ◌++◌, ◌+◌, map, flat_map, codes, decimal, refl, sym, ap, ◌∙◌, append_assoc}
use Rattle.mk_base.specs.declared.Place.{Place}
use Rattle.mk_ast.specs.declared.tree.Stmt.{Stmt}
use Rattle.mk_ast.specs.declared.tree.Stmt.TheVariants as stmt
use Rattle.mk_ast.specs.declared.tree.Stmt.TheOpen.{Stmt-F}
use Rattle.mk_ast.specs.declared.tree.Stmt.TheFolds.{fold-roll-Stmt}
use Rattle.mk_ast.specs.declared.tree.Stmt.TheViews as stmt_views
use Rattle.mk_ast.specs.declared.tree.Ref.{Ref}
use Rattle.mk_ast.specs.declared.tree.Expr.{Expr}
use Rattle.mk_ast.specs.declared.tree.Expr.TheVariants as expr
use Rattle.mk_ast.specs.declared.tree.Expr.TheOpen.{Expr-F}
use Rattle.mk_ast.specs.declared.tree.Expr.TheFolds.{para-roll-Expr, fold-roll-Expr}
use Rattle.mk_ast.specs.declared.tree.Expr.TheViews as expr_views
use Rattle.mk_ast.specs.declared.tree.Index.{Index}
use Rattle.mk_ast.specs.declared.tree.Index.TheVariants as index
use Rattle.mk_ast.specs.declared.tree.Index.TheOpen.{Index-F, Link-F}
use Rattle.mk_ast.specs.declared.tree.Index.TheFolds.{para-roll-Index, para-roll-Link, fold-Link, fold-roll-Index, fold-roll-Link}
use Rattle.mk_ast.specs.declared.tree.Index.TheViews as index_views
use Rattle.mk_ast.specs.declared.tree.Link.{Link}
use Rattle.mk_ast.specs.declared.tree.Link.TheVariants as link
use Rattle.mk_ast.specs.Canonical.{joined, index_layer_text, link_layer_text, index_text, link_text, index_summand_text, index_factor_text, element_text, parenthesized, reference_text, expr_layer_text, expr_text, summand_text, factor_text, ended, indent, laid, assignment_line, head_line, stmt_layer_lines, stmt_lines}
use Rattle.std.proofs.lemmas.List.{append-nil}
use Rattle.std.proofs.lemmas.List.Folds.{flat_map-map}
use Rattle.mk_ast.specs.Places.{nowhere, placeless_index_layer, placeless_link_layer, placeless_index, placeless_ref, placeless_expr_layer, placeless_expr, placeless_stmt_layer, placeless_stmt}
use Rattle.mk_ast.proofs.Joined.{map_map, laid_in, laid-append}

-- the texts of indexes
pub index_text-Num : (n : ℕ) → index_text (index.Num n) ≡ decimal n
index_text-Num n = ap index_text (sym (index_views.rolls-Num n)) ∙ para-roll-Index (List ℕ) (List ℕ) index_layer_text link_layer_text (Index-F.Num n)

-- a loop's turn is its name
pub index_text-Var : (name : List ℕ) (at : Place) → index_text (index.Var name at) ≡ name
index_text-Var name at = ap index_text (sym (index_views.rolls-Var name at)) ∙ para-roll-Index (List ℕ) (List ℕ) index_layer_text link_layer_text (Index-F.Var name at)

-- a sum has the texts of its parts with ` + ` between them
pub index_text-Sum : (parts : List Index) → index_text (index.Sum parts) ≡ joined (codes " + ") (map (λ i. index_summand_text i (index_text i)) parts)
index_text-Sum parts =
    ap index_text (sym (index_views.rolls-Sum parts)) ∙ para-roll-Index (List ℕ) (List ℕ) index_layer_text link_layer_text (Index-F.Sum parts)
    ∙ ap (joined (codes " + ")) (map_map _ _ parts)

-- a chain begins with its first factor, and then come its links
pub index_text-Chain : (first : Index) (links : List Link) →
    index_text (index.Chain first links) ≡ index_factor_text first (index_text first) ++ flat_map link_text links
index_text-Chain first links =
    ap index_text (sym (index_views.rolls-Chain first links)) ∙ para-roll-Index (List ℕ) (List ℕ) index_layer_text link_layer_text (Index-F.Chain first links)
    ∙ ap (λ t. index_factor_text first (index_text first) ++ t) (flat_map-map _ _ links)

-- a factor behind ` * `
pub link_text-Times : (by : Index) → link_text (link.Times by) ≡ codes " * " ++ index_factor_text by (index_text by)
link_text-Times by = ap link_text (sym (index_views.rolls-Times by)) ∙ para-roll-Link (List ℕ) (List ℕ) index_layer_text link_layer_text (Link-F.Times by)

-- a number behind ` % `
pub link_text-Mod : (n : ℕ) → link_text (link.Mod n) ≡ codes " % " ++ decimal n
link_text-Mod n = ap link_text (sym (index_views.rolls-Mod n)) ∙ para-roll-Link (List ℕ) (List ℕ) index_layer_text link_layer_text (Link-F.Mod n)

pub ruleset index_texts = (
  append_assoc,
  index_text-Num,
  index_text-Var,
  index_text-Sum,
  index_text-Chain,
  link_text-Times,
  link_text-Mod,
)

-- the texts of expressions
pub expr_text-Lit : (value : ℕ) (at : Place) → expr_text (expr.Lit value at) ≡ element_text value
expr_text-Lit value at = ap expr_text (sym (expr_views.rolls-Lit value at)) ∙ para-roll-Expr (List ℕ) expr_layer_text (Expr-F.Lit value at)

-- a reference has the text of the reference
pub expr_text-Read : (from : Ref) → expr_text (expr.Read from) ≡ reference_text from
expr_text-Read from = ap expr_text (sym (expr_views.rolls-Read from)) ∙ para-roll-Expr (List ℕ) expr_layer_text (Expr-F.Read from)

-- a square is `sq` and its argument in parentheses
pub expr_text-Sq : (arg : Expr) → expr_text (expr.Sq arg) ≡ codes "sq" ++ parenthesized (expr_text arg)
expr_text-Sq arg = ap expr_text (sym (expr_views.rolls-Sq arg)) ∙ para-roll-Expr (List ℕ) expr_layer_text (Expr-F.Sq arg)

-- a map's value is the map's name and the argument in parentheses
pub expr_text-Apply : (name : List ℕ) (at : Place) (arg : Expr) → expr_text (expr.Apply name at arg) ≡ name ++ parenthesized (expr_text arg)
expr_text-Apply name at arg =
    ap expr_text (sym (expr_views.rolls-Apply name at arg)) ∙ para-roll-Expr (List ℕ) expr_layer_text (Expr-F.Apply name at arg)

-- a sum has the texts of its parts with ` + ` between them
pub expr_text-Sum : (parts : List Expr) → expr_text (expr.Sum parts) ≡ joined (codes " + ") (map (λ e. summand_text e (expr_text e)) parts)
expr_text-Sum parts =
    ap expr_text (sym (expr_views.rolls-Sum parts)) ∙ para-roll-Expr (List ℕ) expr_layer_text (Expr-F.Sum parts)
    ∙ ap (joined (codes " + ")) (map_map _ _ parts)

-- a product has the texts of its parts with ` * ` between them
pub expr_text-Product : (parts : List Expr) → expr_text (expr.Product parts) ≡ joined (codes " * ") (map (λ e. factor_text e (expr_text e)) parts)
expr_text-Product parts =
    ap expr_text (sym (expr_views.rolls-Product parts)) ∙ para-roll-Expr (List ℕ) expr_layer_text (Expr-F.Product parts)
    ∙ ap (joined (codes " * ")) (map_map _ _ parts)

pub ruleset expr_texts = (
  append_assoc,
  expr_text-Lit,
  expr_text-Read,
  expr_text-Sq,
  expr_text-Apply,
  expr_text-Sum,
  expr_text-Product,
)

-- the lines of statements
pub stmt_lines-Set : (target : Ref) (value : Expr) → stmt_lines (stmt.Set target value) ≡ assignment_line target value ∷ []
stmt_lines-Set target value =
    ap stmt_lines (sym (stmt_views.rolls-Set target value)) ∙ fold-roll-Stmt (List (List ℕ)) stmt_layer_lines (Stmt-F.Set target value)

-- a loop has its first line, the lines of its body with two more spaces, and a closing line
pub stmt_lines-Loop : (name : List ℕ) (at : Place) (from to : ℕ) (body : List Stmt) → stmt_lines (stmt.Loop name at from to body)
    ≡ head_line name from to ∷ map (λ line. codes "  " ++ line) (flat_map stmt_lines body) ++ codes "}" ∷ []
stmt_lines-Loop name at from to body =
    ap stmt_lines (sym (stmt_views.rolls-Loop name at from to body))
    ∙ fold-roll-Stmt (List (List ℕ)) stmt_layer_lines (Stmt-F.Loop name at from to body)
    ∙ ap (λ lines. head_line name from to ∷ map (λ line. codes "  " ++ line) lines ++ codes "}" ∷ []) (flat_map-map _ _ body)

-- and their texts
pub laid-Set : (loops : ℕ) (target : Ref) (value : Expr) → laid loops (stmt_lines (stmt.Set target value)) ≡ indent loops ++ ended (assignment_line target value)
laid-Set loops target value = ap (laid loops) (stmt_lines-Set target value) ∙ append-nil _

-- a loop is laid as its first line, its body in one more loop, and its closing line
pub laid-Loop : (loops : ℕ) (name : List ℕ) (at : Place) (from to : ℕ) (body : List Stmt) →
    laid loops (stmt_lines (stmt.Loop name at from to body))
    ≡ indent loops ++ (ended (head_line name from to) ++ (laid (loops + 1) (flat_map stmt_lines body) ++ (indent loops ++ ended (codes "}"))))
laid-Loop loops name at from to body =
    ap (laid loops) (stmt_lines-Loop name at from to body)
    ∙ append_assoc (indent loops) (ended (head_line name from to)) _
    ∙ ap (λ t. indent loops ++ (ended (head_line name from to) ++ t))
    (laid-append loops (map (λ line. codes "  " ++ line) (flat_map stmt_lines body)) (codes "}" ∷ [])
    ∙ λ i. laid_in loops (flat_map stmt_lines body) i ++ append-nil (indent loops ++ ended (codes "}")) i)

pub ruleset stmt_texts = (append_assoc, laid-Set, laid-Loop)

-- a link apart from places
abbrev pub placeless_link : Link → Link
placeless_link = fold-Link Index Link placeless_index_layer placeless_link_layer

-- indexes apart from places
pub placeless_index-Num : (n : ℕ) → placeless_index (index.Num n) ≡ index.Num n
placeless_index-Num n =
    ap placeless_index (sym (index_views.rolls-Num n)) ∙ fold-roll-Index Index Link placeless_index_layer placeless_link_layer (Index-F.Num n)

-- of a loop's turn the name stays
pub placeless_index-Var : (name : List ℕ) (at : Place) → placeless_index (index.Var name at) ≡ index.Var name nowhere
placeless_index-Var name at =
    ap placeless_index (sym (index_views.rolls-Var name at))
    ∙ fold-roll-Index Index Link placeless_index_layer placeless_link_layer (Index-F.Var name at)

-- of a sum each part is taken apart from places
pub placeless_index-Sum : (parts : List Index) → placeless_index (index.Sum parts) ≡ index.Sum (map placeless_index parts)
placeless_index-Sum parts =
    ap placeless_index (sym (index_views.rolls-Sum parts)) ∙ fold-roll-Index Index Link placeless_index_layer placeless_link_layer (Index-F.Sum parts)

-- of a chain the first factor and each link
pub placeless_index-Chain : (first : Index) (links : List Link) →
    placeless_index (index.Chain first links) ≡ index.Chain (placeless_index first) (map placeless_link links)
placeless_index-Chain first links =
    ap placeless_index (sym (index_views.rolls-Chain first links))
    ∙ fold-roll-Index Index Link placeless_index_layer placeless_link_layer (Index-F.Chain first links)

-- of a link the factor
pub placeless_link-Times : (by : Index) → placeless_link (link.Times by) ≡ link.Times (placeless_index by)
placeless_link-Times by =
    ap placeless_link (sym (index_views.rolls-Times by)) ∙ fold-roll-Link Index Link placeless_index_layer placeless_link_layer (Link-F.Times by)

-- expressions apart from places
pub placeless_expr-Lit : (value : ℕ) (at : Place) → placeless_expr (expr.Lit value at) ≡ expr.Lit value nowhere
placeless_expr-Lit value at = ap placeless_expr (sym (expr_views.rolls-Lit value at)) ∙ fold-roll-Expr Expr placeless_expr_layer (Expr-F.Lit value at)

-- of a reference the name, and its index apart from places
pub placeless_expr-Read : (from : Ref) → placeless_expr (expr.Read from) ≡ expr.Read (placeless_ref from)
placeless_expr-Read from = ap placeless_expr (sym (expr_views.rolls-Read from)) ∙ fold-roll-Expr Expr placeless_expr_layer (Expr-F.Read from)

-- of a square the argument
pub placeless_expr-Sq : (arg : Expr) → placeless_expr (expr.Sq arg) ≡ expr.Sq (placeless_expr arg)
placeless_expr-Sq arg = ap placeless_expr (sym (expr_views.rolls-Sq arg)) ∙ fold-roll-Expr Expr placeless_expr_layer (Expr-F.Sq arg)

-- of a map's value the map's name, and the argument apart from places
pub placeless_expr-Apply : (name : List ℕ) (at : Place) (arg : Expr) →
    placeless_expr (expr.Apply name at arg) ≡ expr.Apply name nowhere (placeless_expr arg)
placeless_expr-Apply name at arg =
    ap placeless_expr (sym (expr_views.rolls-Apply name at arg)) ∙ fold-roll-Expr Expr placeless_expr_layer (Expr-F.Apply name at arg)

-- of a sum each part
pub placeless_expr-Sum : (parts : List Expr) → placeless_expr (expr.Sum parts) ≡ expr.Sum (map placeless_expr parts)
placeless_expr-Sum parts = ap placeless_expr (sym (expr_views.rolls-Sum parts)) ∙ fold-roll-Expr Expr placeless_expr_layer (Expr-F.Sum parts)

-- of a product each part
pub placeless_expr-Product : (parts : List Expr) → placeless_expr (expr.Product parts) ≡ expr.Product (map placeless_expr parts)
placeless_expr-Product parts =
    ap placeless_expr (sym (expr_views.rolls-Product parts)) ∙ fold-roll-Expr Expr placeless_expr_layer (Expr-F.Product parts)

-- statements apart from places
pub placeless_stmt-Set : (target : Ref) (value : Expr) → placeless_stmt (stmt.Set target value) ≡ stmt.Set (placeless_ref target) (placeless_expr value)
placeless_stmt-Set target value =
    ap placeless_stmt (sym (stmt_views.rolls-Set target value)) ∙ fold-roll-Stmt Stmt placeless_stmt_layer (Stmt-F.Set target value)

-- of a loop the name, the bounds, and each statement of the body apart from places
pub placeless_stmt-Loop : (name : List ℕ) (at : Place) (from to : ℕ) (body : List Stmt) →
    placeless_stmt (stmt.Loop name at from to body) ≡ stmt.Loop name nowhere from to (map placeless_stmt body)
placeless_stmt-Loop name at from to body =
    ap placeless_stmt (sym (stmt_views.rolls-Loop name at from to body))
    ∙ fold-roll-Stmt Stmt placeless_stmt_layer (Stmt-F.Loop name at from to body)
