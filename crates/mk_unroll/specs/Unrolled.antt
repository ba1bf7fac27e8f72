-- The values that a source is unrolled to: execution with an operand in place of each element. Value 0 is
-- the constant 00 and value 1 its lift. An operator on elements appends one value, an element literal one
-- constant, and a public value is lifted where it is assigned to a shared variable; nothing else appends.
-- The rules are this project's own; docs/LANGUAGE.md has them in words.
use Rattle.std.specs.Prelude.{ℕ, Bool, true, false, not, if◌then◌else◌, ◌&&◌, List, [], ◌∷◌, ◌++◌, length, map, fold, slice_index_or}
use Rattle.std.specs.List.{range_with_len}
use Rattle.mk_ast.specs.declared.tree.Program.{Program}
use Rattle.mk_ast.specs.declared.tree.Decl.{Decl}
use Rattle.mk_ast.specs.declared.tree.Stmt.{Stmt}
use Rattle.mk_ast.specs.declared.tree.Stmt.TheOpen.{Stmt-F}
use Rattle.mk_ast.specs.declared.tree.Stmt.TheFolds.{fold-Stmt}
use Rattle.mk_ast.specs.declared.tree.Ref.{Ref}
use Rattle.mk_ast.specs.declared.tree.Expr.{Expr}
use Rattle.mk_ast.specs.declared.tree.Expr.TheOpen.{Expr-F}
use Rattle.mk_ast.specs.declared.tree.Expr.TheFolds.{fold-Expr}
use Rattle.mk_ssa.specs.declared.Operand.{Operand}
use Rattle.mk_ssa.specs.declared.Operand.TheVariants.{Secret, Public, Block}
use Rattle.mk_ssa.specs.declared.Op.{Op}
use Rattle.mk_ssa.specs.declared.Op.TheVariants.{Const, PubAdd, PubMul, PubSq, PubMap, Lift, Add, AddPub, Scale, Sq, Map, Mul}
use Rattle.mk_ssa.specs.Kinds.{is_public}
use Rattle.mk_ssa.specs.Values.{Values}
use Rattle.mk_types.specs.Scope.{declared, is_variable, is_shared_class}
use Rattle.mk_types.specs.Turns.{Turn, in_turn, turn_numbers}
use Rattle.mk_types.specs.Elements.{secrets_of, publics_of, number_of, maps_of, map_number}
use Rattle.mk_types.specs.Units.{element_number}
use Rattle.mk_types.specs.Environment.{Environment, element, stored, beginnings, output_elements}

-- whether an operand over these values is shared
abbrev pub is_shared_operand : List Op → Operand → Bool
is_shared_operand values (Secret k) = true
is_shared_operand values (Public k) = false
is_shared_operand values (Block k) = not (is_public (slice_index_or values k (Const 0)))

-- the sum of two operands, by whether each is shared: of a shared and a public one the shared stands left
abbrev pub sum_op : Bool → Bool → Operand → Operand → Op
sum_op true true x y = Add x y
sum_op true false x y = AddPub x y
sum_op false true x y = AddPub y x
sum_op false false x y = PubAdd x y

-- the product of two operands, by the same rule
abbrev pub product_op : Bool → Bool → Operand → Operand → Op
product_op true true x y = Mul x y
product_op true false x y = Scale x y
product_op false true x y = Scale y x
product_op false false x y = PubMul x y

-- the square of an operand, by whether it is shared
abbrev pub square_op : Bool → Operand → Op
square_op true x = Sq x
square_op false x = PubSq x

-- the image of an operand, by whether it is shared
abbrev pub map_op : Bool → ℕ → Operand → Op
map_op true m x = Map m x
map_op false m x = PubMap m x

-- the operand that an expression gives, and the values with those that it appended
pub record Given : Type 0 where
  pub operand : Operand
  pub values : List Op

-- one more value
abbrev pub appended : List Op → Op → Given
appended values op = record { operand = Block (length values); values = values ++ op ∷ [] }

-- one more value, of one operand
abbrev pub applied : (Bool → Operand → Op) → Given → Given
applied op x = appended x.values (op (is_shared_operand x.values x.operand) x.operand)

-- one more value, of what stood before and of what was given last
abbrev pub joined : (Bool → Bool → Operand → Operand → Op) → Operand → Given → Given
joined op x y = appended y.values (op (is_shared_operand y.values x) (is_shared_operand y.values y.operand) x y.operand)

-- the parts one after the other, from the left
abbrev pub joined_parts : (Bool → Bool → Operand → Operand → Op) → List (List Op → Given) → List Op → Given
joined_parts op [] values = record { operand = Block 0; values = values }
joined_parts op (first ∷ parts) values = fold (λ so_far part. joined op so_far.operand (part so_far.values)) (first values) parts

-- the values so far, and the operands that the variables hold
pub record Unrolling : Type 0 where
  pub values : List Op
  pub env : Environment Operand

-- where the variable is shared, a public operand is lifted
abbrev pub lifted_if : Bool → Given → Given
lifted_if is_shared x =
    if is_shared && not (is_shared_operand x.values x.operand) then appended x.values (Lift x.operand) else x

-- Expressions and statements of a program with these declarations.
module _ (decls : List Decl) where
  -- one layer of an expression
  abbrev pub expr_layer_given : List Turn → Environment Operand → Expr-F (List Op → Given) → List Op → Given
  expr_layer_given turns env (Expr-F.Lit value at) values = appended values (Const value)
  expr_layer_given turns env (Expr-F.Read from) values =
      record { operand = element env (number_of decls from.name) (element_number turns from) (Block 0); values = values }
  expr_layer_given turns env (Expr-F.Sq arg) values = applied square_op (arg values)
  expr_layer_given turns env (Expr-F.Apply name at arg) values = applied (λ shared x. map_op shared (map_number decls name) x) (arg values)
  expr_layer_given turns env (Expr-F.Sum parts) values = joined_parts sum_op parts values
  expr_layer_given turns env (Expr-F.Product parts) values = joined_parts product_op parts values

  -- what an expression gives behind these values, in these turns
  unfoldable pub expr_given : List Turn → Environment Operand → Expr → List Op → Given
  expr_given turns env = fold-Expr (List Op → Given) (expr_layer_given turns env)

  -- the value of an assignment, as its target takes it
  abbrev pub assigned : List Turn → Ref → Expr → Unrolling → Given
  assigned turns target value now =
      lifted_if (is_variable is_shared_class (declared decls target.name)) (expr_given turns now.env value now.values)

  -- an assignment
  abbrev pub assignment_unrolled : Ref → Expr → List Turn → Unrolling → Unrolling
  assignment_unrolled target value turns now = record {
    values = (assigned turns target value now).values;
    env = stored now.env (number_of decls target.name) (element_number turns target) (assigned turns target value now).operand;
  }

  -- one layer of a statement, with what the statements in it do
  abbrev pub stmt_layer_unrolled : Stmt-F (List Turn → Unrolling → Unrolling) → List Turn → Unrolling → Unrolling
  stmt_layer_unrolled (Stmt-F.Set target value) turns now = assignment_unrolled target value turns now
  stmt_layer_unrolled (Stmt-F.Loop name at from to body) turns now =
      fold (λ so_far number. fold (λ here part. part (in_turn turns name number) here) so_far body) now (turn_numbers from to)

  -- what a statement makes of the values and the variables
  unfoldable pub stmt_unrolled : Stmt → List Turn → Unrolling → Unrolling
  stmt_unrolled = fold-Stmt (List Turn → Unrolling → Unrolling) stmt_layer_unrolled

-- before the first statement
abbrev pub first_unrolling : Program → Unrolling
first_unrolling p = record {
  values = Const 0 ∷ Lift (Block 0) ∷ [];
  env = beginnings (λ before n. map Secret (range_with_len before n)) (λ before n. map Public (range_with_len before n)) (Block 1) (Block 0) [] p.decls;
}

-- behind the last statement
abbrev pub last_unrolling : Program → Unrolling
last_unrolling p = fold (λ now s. stmt_unrolled p.decls s [] now) (first_unrolling p) p.body

-- the operands of the outputs of a program, in order of declaration
abbrev pub unrolled_outs : Program → List Operand
unrolled_outs p = output_elements p.decls (last_unrolling p).env

-- the values that a program is unrolled to, over its secrets, its public inputs and its maps
abbrev pub unrolled : Program → Values
unrolled p = record {
  field = p.field;
  secrets = secrets_of p;
  publics = publics_of p;
  maps = maps_of p.decls;
  values = (last_unrolling p).values;
  outs = unrolled_outs p;
}
