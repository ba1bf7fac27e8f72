-- What the definitions by layers give of each kind of tree.
use Rattle.std.proofs.Common.{◌≡◌, ℕ, Bool, false, ◌||◌, List, [], ◌∷◌, ◌++◌, flat_map, sym, ap, ◌∙◌}
use Rattle.std.proofs.lemmas.List.Folds.{flat_map-map}
use Rattle.mk_base.specs.declared.Place.{Place}
use Rattle.mk_ast.specs.declared.tree.Stmt.{Stmt}
use Rattle.mk_ast.specs.declared.tree.Stmt.TheVariants as stmt
use Rattle.mk_ast.specs.declared.tree.Stmt.TheOpen.{Stmt-F}
use Rattle.mk_ast.specs.declared.tree.Stmt.TheFolds.{fold-roll-Stmt}
use Rattle.mk_ast.specs.declared.tree.Stmt.TheViews as stmt_views
use Rattle.mk_ast.specs.declared.tree.Ref.{Ref}
use Rattle.mk_ast.specs.declared.tree.Expr.{Expr}
use Rattle.mk_ast.specs.declared.tree.Expr.TheVariants as expr
use Rattle.mk_ast.specs.declared.tree.Expr.TheOpen.{Expr-F}
use Rattle.mk_ast.specs.declared.tree.Expr.TheFolds.{fold-roll-Expr}
use Rattle.mk_ast.specs.declared.tree.Expr.TheViews as expr_views
use Rattle.mk_ast.specs.declared.tree.Index.{Index}
use Rattle.mk_ast.specs.declared.tree.Index.TheVariants as index
use Rattle.mk_ast.specs.declared.tree.Index.TheOpen.{Index-F, Link-F}
use Rattle.mk_ast.specs.declared.tree.Index.TheFolds.{fold-roll-Index, fold-roll-Link}
use Rattle.mk_ast.specs.declared.tree.Index.TheViews as index_views
use Rattle.mk_ast.specs.declared.tree.Link.{Link}
use Rattle.mk_ast.specs.declared.tree.Link.TheVariants as link
use Rattle.mk_types.specs.declared.offence.Offence.{Offence}
use Rattle.std.specs.List.{list_any}
use Rattle.std.proofs.Math.Bool.{or-false}
use Rattle.mk_ast.specs.declared.tree.Decl.{Decl}
use Rattle.mk_types.proofs.Lists.{noted_append, list_any_flat_map}
use Rattle.mk_types.specs.Scope.{Scope, inside, layer_names, names, declared, is_variable, is_shared_class, is_shared}
use Rattle.mk_types.specs.declared.offence.OffenceKind.TheVariants as kind_
use Rattle.mk_types.specs.Offences.{when, is_no_bit, index_name_offences, index_layer_offences, link_layer_offences, index_offences, link_offences, reference_offences, map_name_offences, expr_layer_offences, expr_offences, assignment_offences, loop_name_offences, stmt_layer_offences, stmt_offences}

-- the names of expressions
pub names-Lit : (value : ℕ) (at : Place) → names (expr.Lit value at) ≡ []
unfolding names
names-Lit value at = ap names (sym (expr_views.rolls-Lit value at)) ∙ fold-roll-Expr (List (List ℕ)) layer_names (Expr-F.Lit value at)

-- a reference has the name of its variable
pub names-Read : (from : Ref) → names (expr.Read from) ≡ from.name ∷ []
unfolding names
names-Read from = ap names (sym (expr_views.rolls-Read from)) ∙ fold-roll-Expr (List (List ℕ)) layer_names (Expr-F.Read from)

-- a square has the names of its argument
pub names-Sq : (arg : Expr) → names (expr.Sq arg) ≡ names arg
unfolding names
names-Sq arg = ap names (sym (expr_views.rolls-Sq arg)) ∙ fold-roll-Expr (List (List ℕ)) layer_names (Expr-F.Sq arg)

-- a map's value has the map's name, and then those of the argument
pub names-Apply : (name : List ℕ) (at : Place) (arg : Expr) → names (expr.Apply name at arg) ≡ name ∷ names arg
unfolding names
names-Apply name at arg = ap names (sym (expr_views.rolls-Apply name at arg)) ∙ fold-roll-Expr (List (List ℕ)) layer_names (Expr-F.Apply name at arg)

-- a sum has those of its parts, in order
pub names-Sum : (parts : List Expr) → names (expr.Sum parts) ≡ flat_map names parts
unfolding names
names-Sum parts =
    ap names (sym (expr_views.rolls-Sum parts)) ∙ fold-roll-Expr (List (List ℕ)) layer_names (Expr-F.Sum parts) ∙ flat_map-map _ _ parts

-- a product has those of its parts, in order
pub names-Product : (parts : List Expr) → names (expr.Product parts) ≡ flat_map names parts
unfolding names
names-Product parts =
    ap names (sym (expr_views.rolls-Product parts)) ∙ fold-roll-Expr (List (List ℕ)) layer_names (Expr-F.Product parts) ∙ flat_map-map _ _ parts

pub ruleset name_layers = (names-Lit, names-Read, names-Sq, names-Apply, names-Sum, names-Product)

-- which expressions are shared
module _ (decls : List Decl) where
  -- whether a name is declared with a shared class
  abbrev shared_name : List ℕ → Bool
  shared_name name = is_variable is_shared_class (declared decls name)

  -- whether a shared name occurs in an element
  pub shared-Lit : (value : ℕ) (at : Place) → is_shared decls (expr.Lit value at) ≡ false
  unfolding is_shared
  shared-Lit value at = ap (list_any shared_name) (names-Lit value at)

  -- whether a shared name occurs in a variable that is read
  pub shared-Read : (from : Ref) → is_shared decls (expr.Read from) ≡ is_variable is_shared_class (declared decls from.name)
  unfolding is_shared
  shared-Read from = ap (list_any shared_name) (names-Read from) ∙ or-false _

  -- whether a shared name occurs in a square
  pub shared-Sq : (arg : Expr) → is_shared decls (expr.Sq arg) ≡ is_shared decls arg
  unfolding is_shared
  shared-Sq arg = ap (list_any shared_name) (names-Sq arg)

  -- whether a shared name occurs in a map that is applied
  pub shared-Apply : (name : List ℕ) (at : Place) (arg : Expr) →
      is_shared decls (expr.Apply name at arg) ≡ (is_variable is_shared_class (declared decls name) || is_shared decls arg)
  unfolding is_shared
  shared-Apply name at arg = ap (list_any shared_name) (names-Apply name at arg)

  -- whether a shared name occurs in a sum
  pub shared-Sum : (parts : List Expr) → is_shared decls (expr.Sum parts) ≡ list_any (is_shared decls) parts
  unfolding is_shared
  shared-Sum parts = ap (list_any shared_name) (names-Sum parts) ∙ list_any_flat_map shared_name names parts

  -- whether a shared name occurs in a product
  pub shared-Product : (parts : List Expr) → is_shared decls (expr.Product parts) ≡ list_any (is_shared decls) parts
  unfolding is_shared
  shared-Product parts = ap (list_any shared_name) (names-Product parts) ∙ list_any_flat_map shared_name names parts

pub ruleset shared_layers = (shared-Lit, shared-Read, shared-Sq, shared-Apply, shared-Sum, shared-Product)

module _ (s : Scope) where
  -- the offences of indexes
  pub index-Num : (n : ℕ) → index_offences s (index.Num n) ≡ []
  unfolding index_offences link_offences
  index-Num n =
      ap (index_offences s) (sym (index_views.rolls-Num n))
      ∙ fold-roll-Index (List Offence) (List Offence) (index_layer_offences s) (link_layer_offences s) (Index-F.Num n)

  -- the offences of a loop's name
  pub index-Var : (name : List ℕ) (at : Place) → index_offences s (index.Var name at) ≡ index_name_offences s name at
  unfolding index_offences link_offences
  index-Var name at =
      ap (index_offences s) (sym (index_views.rolls-Var name at))
      ∙ fold-roll-Index (List Offence) (List Offence) (index_layer_offences s) (link_layer_offences s) (Index-F.Var name at)

  -- the offences of a sum
  pub index-Sum : (parts : List Index) → index_offences s (index.Sum parts) ≡ flat_map (index_offences s) parts
  unfolding index_offences link_offences
  index-Sum parts =
      ap (index_offences s) (sym (index_views.rolls-Sum parts))
      ∙ fold-roll-Index (List Offence) (List Offence) (index_layer_offences s) (link_layer_offences s) (Index-F.Sum parts)
      ∙ flat_map-map _ _ parts

  -- the offences of a chain of factors
  pub index-Chain : (first : Index) (links : List Link) →
      index_offences s (index.Chain first links) ≡ index_offences s first ++ flat_map (link_offences s) links
  unfolding index_offences link_offences
  index-Chain first links =
      ap (index_offences s) (sym (index_views.rolls-Chain first links))
      ∙ fold-roll-Index (List Offence) (List Offence) (index_layer_offences s) (link_layer_offences s) (Index-F.Chain first links)
      ∙ ap (λ t. index_offences s first ++ t) (flat_map-map _ _ links)

  -- the offences of a factor
  pub link-Times : (by : Index) → link_offences s (link.Times by) ≡ index_offences s by
  unfolding index_offences link_offences
  link-Times by =
      ap (link_offences s) (sym (index_views.rolls-Times by))
      ∙ fold-roll-Link (List Offence) (List Offence) (index_layer_offences s) (link_layer_offences s) (Link-F.Times by)

  -- the offences of a remainder
  pub link-Mod : (n : ℕ) → link_offences s (link.Mod n) ≡ []
  unfolding index_offences link_offences
  link-Mod n =
      ap (link_offences s) (sym (index_views.rolls-Mod n))
      ∙ fold-roll-Link (List Offence) (List Offence) (index_layer_offences s) (link_layer_offences s) (Link-F.Mod n)

  -- the offences of expressions
  pub expr-Lit : (value : ℕ) (at : Place) → expr_offences s (expr.Lit value at) ≡ when (is_no_bit s.field value) at kind_.Kind
  unfolding expr_offences
  expr-Lit value at =
      ap (expr_offences s) (sym (expr_views.rolls-Lit value at)) ∙ fold-roll-Expr (List Offence) (expr_layer_offences s) (Expr-F.Lit value at)

  -- the offences of a variable that is read
  pub expr-Read : (from : Ref) → expr_offences s (expr.Read from) ≡ reference_offences s from
  unfolding expr_offences
  expr-Read from = ap (expr_offences s) (sym (expr_views.rolls-Read from)) ∙ fold-roll-Expr (List Offence) (expr_layer_offences s) (Expr-F.Read from)

  -- the offences of a square
  pub expr-Sq : (arg : Expr) → expr_offences s (expr.Sq arg) ≡ expr_offences s arg
  unfolding expr_offences
  expr-Sq arg = ap (expr_offences s) (sym (expr_views.rolls-Sq arg)) ∙ fold-roll-Expr (List Offence) (expr_layer_offences s) (Expr-F.Sq arg)

  -- the offences of a map that is applied
  pub expr-Apply : (name : List ℕ) (at : Place) (arg : Expr) →
      expr_offences s (expr.Apply name at arg) ≡ map_name_offences s name at ++ expr_offences s arg
  unfolding expr_offences
  expr-Apply name at arg =
      ap (expr_offences s) (sym (expr_views.rolls-Apply name at arg)) ∙ fold-roll-Expr (List Offence) (expr_layer_offences s) (Expr-F.Apply name at arg)

  -- the offences of a sum
  pub expr-Sum : (parts : List Expr) → expr_offences s (expr.Sum parts) ≡ flat_map (expr_offences s) parts
  unfolding expr_offences
  expr-Sum parts =
      ap (expr_offences s) (sym (expr_views.rolls-Sum parts)) ∙ fold-roll-Expr (List Offence) (expr_layer_offences s) (Expr-F.Sum parts)
      ∙ flat_map-map _ _ parts

  -- the offences of a product
  pub expr-Product : (parts : List Expr) → expr_offences s (expr.Product parts) ≡ flat_map (expr_offences s) parts
  unfolding expr_offences
  expr-Product parts =
      ap (expr_offences s) (sym (expr_views.rolls-Product parts)) ∙ fold-roll-Expr (List Offence) (expr_layer_offences s) (Expr-F.Product parts)
      ∙ flat_map-map _ _ parts

pub ruleset index_layers = (noted_append, index-Num, index-Var, index-Sum, index-Chain, link-Times, link-Mod)

pub ruleset expr_layers = (noted_append, expr-Lit, expr-Read, expr-Sq, expr-Apply, expr-Sum, expr-Product)

-- the offences of statements
pub stmt-Set : (target : Ref) (value : Expr) (s : Scope) → stmt_offences (stmt.Set target value) s ≡ assignment_offences s target value
unfolding stmt_offences
stmt-Set target value s =
    ap (λ t. stmt_offences t s) (sym (stmt_views.rolls-Set target value))
    ∙ ap (λ (f : Scope → List Offence). f s) (fold-roll-Stmt (Scope → List Offence) stmt_layer_offences (Stmt-F.Set target value))

-- a loop has the offences of its name, and then those of its body within the loop
pub stmt-Loop : (name : List ℕ) (at : Place) (from to : ℕ) (body : List Stmt) (s : Scope) →
    stmt_offences (stmt.Loop name at from to body) s ≡ loop_name_offences s name at ++ flat_map (λ t. stmt_offences t (inside s name)) body
unfolding stmt_offences
stmt-Loop name at from to body s =
    ap (λ t. stmt_offences t s) (sym (stmt_views.rolls-Loop name at from to body))
    ∙ ap (λ (f : Scope → List Offence). f s) (fold-roll-Stmt (Scope → List Offence) stmt_layer_offences (Stmt-F.Loop name at from to body))
    ∙ ap (λ t. loop_name_offences s name at ++ t) (flat_map-map _ _ body)

pub ruleset stmt_layers = (noted_append, stmt-Set, stmt-Loop)
