-- What the definitions of execution give of each kind of tree.
use Rattle.std.proofs.Common.{◌≡◌, ℕ, List, [], ◌∷◌, ◌++◌, Some, map, flat_map, sym, ap, ◌∙◌, refl}
use Rattle.std.specs.Prelude.{fold, bit_xor}
use Rattle.mk_base.specs.declared.Place.{Place}
use Rattle.mk_field.specs.declared.field.FieldId.{FieldId}
use Rattle.mk_field.specs.Field.{product, square, image}
use Rattle.mk_ast.specs.declared.tree.Decl.{Decl}
use Rattle.mk_ast.specs.declared.tree.Stmt.{Stmt}
use Rattle.mk_ast.specs.declared.tree.Stmt.TheVariants as stmt
use Rattle.mk_ast.specs.declared.tree.Stmt.TheOpen.{Stmt-F}
use Rattle.mk_ast.specs.declared.tree.Stmt.TheFolds.{fold-roll-Stmt}
use Rattle.mk_ast.specs.declared.tree.Stmt.TheViews as stmt_views
use Rattle.mk_ast.specs.declared.tree.Ref.{Ref}
use Rattle.mk_ast.specs.declared.tree.Expr.{Expr}
use Rattle.mk_ast.specs.declared.tree.Expr.TheVariants as expr
use Rattle.mk_ast.specs.declared.tree.Expr.TheOpen.{Expr-F}
use Rattle.mk_ast.specs.declared.tree.Expr.TheFolds.{fold-roll-Expr}
use Rattle.mk_ast.specs.declared.tree.Expr.TheViews as expr_views
use Rattle.mk_ast.specs.declared.tree.Index.{Index}
use Rattle.mk_ast.specs.declared.tree.Index.TheVariants as index
use Rattle.mk_ast.specs.declared.tree.Index.TheOpen.{Index-F, Link-F}
use Rattle.mk_ast.specs.declared.tree.Index.TheFolds.{fold-roll-Index, fold-roll-Link}
use Rattle.mk_ast.specs.declared.tree.Index.TheViews as index_views
use Rattle.mk_ast.specs.declared.tree.Link.{Link}
use Rattle.mk_ast.specs.declared.tree.Link.TheVariants as link
use Rattle.mk_types.specs.Turns.{Turn, turn_number, in_turn, turn_numbers}
use Rattle.mk_types.specs.Elements.{number_of}
use Rattle.mk_types.specs.Units.{WorkUnit, Step, Operation, Evaluated, behind, sum_of_parts, index_layer, link_layer, evaluated, linked, element_number, reference_units, parts_units, expr_layer_units, expr_units, turn_units, stmt_layer_units, stmt_units}
use Rattle.mk_types.specs.Environment.{Environment, element, stored}
use Rattle.mk_types.specs.Meaning.{map_of, combined, expr_layer_value, expr_value, stmt_layer_meaning, stmt_meaning}

-- indexes
module _ (at : Place) (turns : List Turn) where
  -- the value and the units of a number
  pub evaluated-Num : (n : ℕ) → evaluated at turns (index.Num n) ≡ record { value = n; units = [] }
  unfolding evaluated linked
  evaluated-Num n =
      ap (evaluated at turns) (sym (index_views.rolls-Num n))
      ∙ fold-roll-Index Evaluated (ℕ → Evaluated) (index_layer at turns) (link_layer at) (Index-F.Num n)

  -- the value and the units of a loop's name
  pub evaluated-Var : (name : List ℕ) (name_at : Place) → evaluated at turns (index.Var name name_at) ≡ record { value = turn_number turns name; units = [] }
  unfolding evaluated linked
  evaluated-Var name name_at =
      ap (evaluated at turns) (sym (index_views.rolls-Var name name_at))
      ∙ fold-roll-Index Evaluated (ℕ → Evaluated) (index_layer at turns) (link_layer at) (Index-F.Var name name_at)

  -- the value and the units of a sum
  pub evaluated-Sum : (parts : List Index) → evaluated at turns (index.Sum parts) ≡ sum_of_parts at (map (evaluated at turns) parts)
  unfolding evaluated linked
  evaluated-Sum parts =
      ap (evaluated at turns) (sym (index_views.rolls-Sum parts))
      ∙ fold-roll-Index Evaluated (ℕ → Evaluated) (index_layer at turns) (link_layer at) (Index-F.Sum parts)

  -- the value and the units of a chain of factors
  pub evaluated-Chain : (first : Index) (links : List Link) →
      evaluated at turns (index.Chain first links) ≡ fold behind (evaluated at turns first) (map (linked at turns) links)
  unfolding evaluated linked
  evaluated-Chain first links =
      ap (evaluated at turns) (sym (index_views.rolls-Chain first links))
      ∙ fold-roll-Index Evaluated (ℕ → Evaluated) (index_layer at turns) (link_layer at) (Index-F.Chain first links)

  -- what is made of an index by a factor
  pub linked-Times : (by : Index) (so_far : ℕ) →
      linked at turns (link.Times by) so_far ≡ link_layer at (Link-F.Times (evaluated at turns by)) so_far
  unfolding evaluated linked
  linked-Times by so_far =
      ap (λ l. linked at turns l so_far) (sym (index_views.rolls-Times by))
      ∙ ap (λ (f : ℕ → Evaluated). f so_far) (fold-roll-Link Evaluated (ℕ → Evaluated) (index_layer at turns) (link_layer at) (Link-F.Times by))

  -- what is made of an index by a remainder
  pub linked-Mod : (n so_far : ℕ) → linked at turns (link.Mod n) so_far ≡ link_layer at (Link-F.Mod n) so_far
  unfolding evaluated linked
  linked-Mod n so_far =
      ap (λ l. linked at turns l so_far) (sym (index_views.rolls-Mod n))
      ∙ ap (λ (f : ℕ → Evaluated). f so_far) (fold-roll-Link Evaluated (ℕ → Evaluated) (index_layer at turns) (link_layer at) (Link-F.Mod n))

-- which element a reference with an index is to
pub number-Some : (turns : List Turn) (name : List ℕ) (at : Place) (i : Index) →
    element_number turns (record { name = name; at = at; index = Some i }) ≡ (evaluated at turns i).value
number-Some turns name at i = refl

pub ruleset evaluated_layers = (evaluated-Num, evaluated-Var, evaluated-Sum, evaluated-Chain, linked-Times, linked-Mod, number-Some)

-- the units of expressions
module _ (decls : List Decl) (turns : List Turn) where
  -- the units of an element
  pub units-Lit : (value : ℕ) (at : Place) → expr_units decls turns (expr.Lit value at) ≡ []
  unfolding expr_units
  units-Lit value at =
      ap (expr_units decls turns) (sym (expr_views.rolls-Lit value at)) ∙ fold-roll-Expr (List WorkUnit) (expr_layer_units decls turns) (Expr-F.Lit value at)

  -- the units of a variable that is read
  pub units-Read : (from : Ref) → expr_units decls turns (expr.Read from) ≡ reference_units decls turns from
  unfolding expr_units
  units-Read from =
      ap (expr_units decls turns) (sym (expr_views.rolls-Read from)) ∙ fold-roll-Expr (List WorkUnit) (expr_layer_units decls turns) (Expr-F.Read from)

  -- the units of a square
  pub units-Sq : (arg : Expr) → expr_units decls turns (expr.Sq arg) ≡ expr_units decls turns arg ++ Operation ∷ []
  unfolding expr_units
  units-Sq arg =
      ap (expr_units decls turns) (sym (expr_views.rolls-Sq arg)) ∙ fold-roll-Expr (List WorkUnit) (expr_layer_units decls turns) (Expr-F.Sq arg)

  -- the units of a map that is applied
  pub units-Apply : (name : List ℕ) (at : Place) (arg : Expr) → expr_units decls turns (expr.Apply name at arg) ≡ expr_units decls turns arg ++ Operation ∷ []
  unfolding expr_units
  units-Apply name at arg =
      ap (expr_units decls turns) (sym (expr_views.rolls-Apply name at arg))
      ∙ fold-roll-Expr (List WorkUnit) (expr_layer_units decls turns) (Expr-F.Apply name at arg)

  -- the units of a sum
  pub units-Sum : (parts : List Expr) → expr_units decls turns (expr.Sum parts) ≡ parts_units (map (expr_units decls turns) parts)
  unfolding expr_units
  units-Sum parts =
      ap (expr_units decls turns) (sym (expr_views.rolls-Sum parts)) ∙ fold-roll-Expr (List WorkUnit) (expr_layer_units decls turns) (Expr-F.Sum parts)

  -- the units of a product
  pub units-Product : (parts : List Expr) → expr_units decls turns (expr.Product parts) ≡ parts_units (map (expr_units decls turns) parts)
  unfolding expr_units
  units-Product parts =
      ap (expr_units decls turns) (sym (expr_views.rolls-Product parts)) ∙ fold-roll-Expr (List WorkUnit) (expr_layer_units decls turns) (Expr-F.Product parts)

pub ruleset expr_units_layers = (units-Lit, units-Read, units-Sq, units-Apply, units-Sum, units-Product)

-- the units of statements
module _ (decls : List Decl) where
  -- the units of an assignment
  pub units-Set : (target : Ref) (value : Expr) (turns : List Turn) →
      stmt_units decls (stmt.Set target value) turns ≡ Step ∷ expr_units decls turns value ++ reference_units decls turns target
  unfolding stmt_units
  units-Set target value turns =
      ap (λ s. stmt_units decls s turns) (sym (stmt_views.rolls-Set target value))
      ∙ ap (λ (f : List Turn → List WorkUnit). f turns) (fold-roll-Stmt (List Turn → List WorkUnit) (stmt_layer_units decls) (Stmt-F.Set target value))

  -- the units of a loop
  pub units-Loop : (name : List ℕ) (at : Place) (from to : ℕ) (body : List Stmt) (turns : List Turn) →
      stmt_units decls (stmt.Loop name at from to body) turns
      ≡ Step ∷ flat_map (λ number. turn_units (map (stmt_units decls) body) (in_turn turns name number)) (turn_numbers from to)
  unfolding stmt_units
  units-Loop name at from to body turns =
      ap (λ s. stmt_units decls s turns) (sym (stmt_views.rolls-Loop name at from to body))
      ∙ ap (λ (f : List Turn → List WorkUnit). f turns)
      (fold-roll-Stmt (List Turn → List WorkUnit) (stmt_layer_units decls) (Stmt-F.Loop name at from to body))

pub ruleset stmt_units_layers = (units-Set, units-Loop)

-- the values of expressions
module _ (field : FieldId) (decls : List Decl) (turns : List Turn) (env : Environment ℕ) where
  -- the value of an element
  pub value-Lit : (value : ℕ) (at : Place) → expr_value field decls turns env (expr.Lit value at) ≡ value
  unfolding expr_value
  value-Lit value at =
      ap (expr_value field decls turns env) (sym (expr_views.rolls-Lit value at)) ∙ fold-roll-Expr ℕ (expr_layer_value field decls turns env) (Expr-F.Lit value at)

  -- the value of a variable that is read
  pub value-Read : (from : Ref) →
      expr_value field decls turns env (expr.Read from) ≡ element env (number_of decls from.name) (element_number turns from) 0
  unfolding expr_value
  value-Read from =
      ap (expr_value field decls turns env) (sym (expr_views.rolls-Read from)) ∙ fold-roll-Expr ℕ (expr_layer_value field decls turns env) (Expr-F.Read from)

  -- the value of a square
  pub value-Sq : (arg : Expr) → expr_value field decls turns env (expr.Sq arg) ≡ square field (expr_value field decls turns env arg)
  unfolding expr_value
  value-Sq arg =
      ap (expr_value field decls turns env) (sym (expr_views.rolls-Sq arg)) ∙ fold-roll-Expr ℕ (expr_layer_value field decls turns env) (Expr-F.Sq arg)

  -- the value of a map that is applied
  pub value-Apply : (name : List ℕ) (at : Place) (arg : Expr) →
      expr_value field decls turns env (expr.Apply name at arg) ≡ image (map_of decls name) (expr_value field decls turns env arg)
  unfolding expr_value
  value-Apply name at arg =
      ap (expr_value field decls turns env) (sym (expr_views.rolls-Apply name at arg))
      ∙ fold-roll-Expr ℕ (expr_layer_value field decls turns env) (Expr-F.Apply name at arg)

  -- the value of a sum
  pub value-Sum : (parts : List Expr) →
      expr_value field decls turns env (expr.Sum parts) ≡ combined bit_xor (map (expr_value field decls turns env) parts)
  unfolding expr_value
  value-Sum parts =
      ap (expr_value field decls turns env) (sym (expr_views.rolls-Sum parts)) ∙ fold-roll-Expr ℕ (expr_layer_value field decls turns env) (Expr-F.Sum parts)

  -- the value of a product
  pub value-Product : (parts : List Expr) →
      expr_value field decls turns env (expr.Product parts) ≡ combined (product field) (map (expr_value field decls turns env) parts)
  unfolding expr_value
  value-Product parts =
      ap (expr_value field decls turns env) (sym (expr_views.rolls-Product parts))
      ∙ fold-roll-Expr ℕ (expr_layer_value field decls turns env) (Expr-F.Product parts)

pub ruleset value_layers = (value-Lit, value-Read, value-Sq, value-Apply, value-Sum, value-Product)

-- what statements do
module _ (field : FieldId) (decls : List Decl) (turns : List Turn) (env : Environment ℕ) where
  -- the meaning of an assignment
  pub meaning-Set : (target : Ref) (value : Expr) → stmt_meaning field decls (stmt.Set target value) turns env
      ≡ stored env (number_of decls target.name) (element_number turns target) (expr_value field decls turns env value)
  unfolding stmt_meaning
  meaning-Set target value =
      ap (λ s. stmt_meaning field decls s turns env) (sym (stmt_views.rolls-Set target value))
      ∙ ap (λ (f : List Turn → Environment ℕ → Environment ℕ). f turns env)
      (fold-roll-Stmt (List Turn → Environment ℕ → Environment ℕ) (stmt_layer_meaning field decls) (Stmt-F.Set target value))

  -- the meaning of a loop
  pub meaning-Loop : (name : List ℕ) (at : Place) (from to : ℕ) (body : List Stmt) →
      stmt_meaning field decls (stmt.Loop name at from to body) turns env
      ≡ fold (λ now number. fold (λ here part. part (in_turn turns name number) here) now (map (stmt_meaning field decls) body)) env (turn_numbers from to)
  unfolding stmt_meaning
  meaning-Loop name at from to body =
      ap (λ s. stmt_meaning field decls s turns env) (sym (stmt_views.rolls-Loop name at from to body))
      ∙ ap (λ (f : List Turn → Environment ℕ → Environment ℕ). f turns env)
      (fold-roll-Stmt (List Turn → Environment ℕ → Environment ℕ) (stmt_layer_meaning field decls) (Stmt-F.Loop name at from to body))

pub ruleset meaning_layers = (meaning-Set, meaning-Loop)
