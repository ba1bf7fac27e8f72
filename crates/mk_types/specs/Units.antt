-- The units of work of a source, in the order of its execution: statements, turns of loops, operators of
-- indexes and operators on elements, and the places where an index goes wrong. Indexes are made of numbers
-- and turns alone, so that no unit depends on an input. The language is this project's own;
-- docs/LANGUAGE.md has its execution in words.
use Rattle.std.specs.Prelude.{ℕ, ◌+◌, ◌*◌, ◌%◌, Bool, true, false, not, nat_lt, List, [], ◌∷◌, ◌++◌, Option, Some, None, fold, flat_map}
use Rattle.mk_types.specs.declared.TheConstants.{GREATEST_INDEX}
use Rattle.mk_base.specs.declared.Place.{Place}
use Rattle.mk_ast.specs.declared.tree.Program.{Program}
use Rattle.mk_ast.specs.declared.tree.Decl.{Decl}
use Rattle.mk_ast.specs.declared.tree.Stmt.{Stmt}
use Rattle.mk_ast.specs.declared.tree.Stmt.TheOpen.{Stmt-F}
use Rattle.mk_ast.specs.declared.tree.Stmt.TheFolds.{fold-Stmt}
use Rattle.mk_ast.specs.declared.tree.Ref.{Ref}
use Rattle.mk_ast.specs.declared.tree.Expr.{Expr}
use Rattle.mk_ast.specs.declared.tree.Expr.TheOpen.{Expr-F}
use Rattle.mk_ast.specs.declared.tree.Expr.TheFolds.{fold-Expr}
use Rattle.mk_ast.specs.declared.tree.Index.{Index}
use Rattle.mk_ast.specs.declared.tree.Index.TheOpen.{Index-F, Link-F}
use Rattle.mk_ast.specs.declared.tree.Index.TheFolds.{fold-Index, fold-Link}
use Rattle.mk_ast.specs.declared.tree.Link.{Link}
use Rattle.mk_types.specs.Turns.{Turn, turn_number, in_turn, turn_numbers}
use Rattle.mk_types.specs.Elements.{array_size}

-- a unit of work: a statement, a turn or an operator of an index is a step, an operator on elements an
-- operation; and a fault is at the name of the array whose index goes wrong
pub data WorkUnit : Type 0 where
  Step : WorkUnit
  Operation : WorkUnit
  Fault : Place → WorkUnit

-- a fault, where there is one
abbrev pub fault_if : Bool → Place → List WorkUnit
fault_if true at = Fault at ∷ []
fault_if false at = []

-- what an index is, a whole number, and the units of finding it
pub record Evaluated : Type 0 where
  pub value : ℕ
  pub units : List WorkUnit

-- an operator of an index: behind the units of its operand it is a step, and a fault where it gives more
-- than 65,535
abbrev pub operator : Place → ℕ → List WorkUnit → Evaluated
operator at value units = record { value = value; units = units ++ Step ∷ fault_if (nat_lt GREATEST_INDEX value) at }

-- what stands so far, and behind it one more operator on it
abbrev pub behind : Evaluated → (ℕ → Evaluated) → Evaluated
behind so_far next = record { value = (next so_far.value).value; units = so_far.units ++ (next so_far.value).units }

-- the sum of what stands so far and one more part
abbrev pub plus_part : Place → Evaluated → ℕ → Evaluated
plus_part at part so_far = operator at (so_far + part.value) part.units

-- the sum of these, from the left
abbrev pub sum_of_parts : Place → List Evaluated → Evaluated
sum_of_parts at [] = record { value = 0; units = [] }
sum_of_parts at (first ∷ parts) = fold (λ so_far part. behind so_far (plus_part at part)) first parts

-- one layer of an index
abbrev pub index_layer : Place → List Turn → Index-F Evaluated (ℕ → Evaluated) → Evaluated
index_layer at turns (Index-F.Num n) = record { value = n; units = [] }
index_layer at turns (Index-F.Var name name_at) = record { value = turn_number turns name; units = [] }
index_layer at turns (Index-F.Sum parts) = sum_of_parts at parts
index_layer at turns (Index-F.Chain first links) = fold behind first links

-- one layer of a link: the product or the remainder of what stands so far
abbrev pub link_layer : Place → Link-F Evaluated (ℕ → Evaluated) → ℕ → Evaluated
link_layer at (Link-F.Times by) so_far = operator at (so_far * by.value) by.units
link_layer at (Link-F.Mod n) so_far = operator at (so_far % n) []

-- an index of the array whose name is at this place, in these turns
unfoldable pub evaluated : Place → List Turn → Index → Evaluated
evaluated at turns = fold-Index Evaluated (ℕ → Evaluated) (index_layer at turns) (link_layer at)

-- a link of such an index
unfoldable pub linked : Place → List Turn → Link → ℕ → Evaluated
linked at turns = fold-Link Evaluated (ℕ → Evaluated) (index_layer at turns) (link_layer at)

-- which element of its variable a reference is to
abbrev pub element_number : List Turn → Ref → ℕ
element_number turns r = of_index r.index
  where
    of_index : Option Index → ℕ
    of_index None = 0
    of_index (Some i) = (evaluated r.at turns i).value

-- the units of a reference: those of its index, and a fault where this is not below the size of the array
abbrev pub reference_units : List Decl → List Turn → Ref → List WorkUnit
reference_units decls turns r = of_index r.index
  where
    of_index : Option Index → List WorkUnit
    of_index None = []
    of_index (Some i) = (evaluated r.at turns i).units ++ fault_if (not (nat_lt (evaluated r.at turns i).value (array_size decls r.name))) r.at

-- the units of the parts of a sum or a product: those of the first, then those of each further part and the
-- operation
abbrev pub parts_units : List (List WorkUnit) → List WorkUnit
parts_units [] = []
parts_units (first ∷ parts) = first ++ flat_map (λ part. part ++ Operation ∷ []) parts

-- one layer of an expression
abbrev pub expr_layer_units : List Decl → List Turn → Expr-F (List WorkUnit) → List WorkUnit
expr_layer_units decls turns (Expr-F.Lit value at) = []
expr_layer_units decls turns (Expr-F.Read from) = reference_units decls turns from
expr_layer_units decls turns (Expr-F.Sq arg) = arg ++ Operation ∷ []
expr_layer_units decls turns (Expr-F.Apply name at arg) = arg ++ Operation ∷ []
expr_layer_units decls turns (Expr-F.Sum parts) = parts_units parts
expr_layer_units decls turns (Expr-F.Product parts) = parts_units parts

-- the units of an expression
unfoldable pub expr_units : List Decl → List Turn → Expr → List WorkUnit
expr_units decls turns = fold-Expr (List WorkUnit) (expr_layer_units decls turns)

-- the units of a turn, with those of the statements in it by the turns around
abbrev pub turn_units : List (List Turn → List WorkUnit) → List Turn → List WorkUnit
turn_units body turns = Step ∷ flat_map (λ part. part turns) body

-- one layer of a statement, with the units of the statements in it by the turns around: an assignment finds
-- its value and then the index of its target
abbrev pub stmt_layer_units : List Decl → Stmt-F (List Turn → List WorkUnit) → List Turn → List WorkUnit
stmt_layer_units decls (Stmt-F.Set target value) turns = Step ∷ expr_units decls turns value ++ reference_units decls turns target
stmt_layer_units decls (Stmt-F.Loop name at from to body) turns =
    Step ∷ flat_map (λ number. turn_units body (in_turn turns name number)) (turn_numbers from to)

-- the units of a statement, by the turns around
unfoldable pub stmt_units : List Decl → Stmt → List Turn → List WorkUnit
stmt_units decls = fold-Stmt (List Turn → List WorkUnit) (stmt_layer_units decls)

-- these units up to the first fault
abbrev pub up_to_fault : List WorkUnit → List WorkUnit
up_to_fault [] = []
up_to_fault (Step ∷ us) = Step ∷ up_to_fault us
up_to_fault (Operation ∷ us) = Operation ∷ up_to_fault us
up_to_fault (Fault at ∷ us) = Fault at ∷ []

-- the units of a program
abbrev pub units : Program → List WorkUnit
units p = up_to_fault (flat_map (λ s. stmt_units p.decls s []) p.body)
