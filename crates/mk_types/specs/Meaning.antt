-- The meaning of a source: the elements of its outputs, by its inputs. An assignment changes one element; a
-- loop is the composition of its body over its turns; an expression is the sums, products, squares and
-- images of its parts. There is none where execution stops before its end. The language is this project's
-- own; docs/LANGUAGE.md has its execution in words.
use Rattle.std.specs.Prelude.{ℕ, List, [], ◌∷◌, Option, Some, None, fold, take, drop, bit_xor}
use Rattle.mk_field.specs.declared.field.FieldId.{FieldId}
use Rattle.mk_field.specs.declared.map.AddMap.{AddMap}
use Rattle.mk_field.specs.Field.{product, square, image}
use Rattle.mk_ast.specs.declared.tree.Program.{Program}
use Rattle.mk_ast.specs.declared.tree.Decl.{Decl}
use Rattle.mk_ast.specs.declared.tree.What.{What}
use Rattle.mk_ast.specs.declared.tree.What.TheVariants as what
use Rattle.mk_ast.specs.declared.tree.Stmt.{Stmt}
use Rattle.mk_ast.specs.declared.tree.Stmt.TheOpen.{Stmt-F}
use Rattle.mk_ast.specs.declared.tree.Stmt.TheFolds.{fold-Stmt}
use Rattle.mk_ast.specs.declared.tree.Expr.{Expr}
use Rattle.mk_ast.specs.declared.tree.Expr.TheOpen.{Expr-F}
use Rattle.mk_ast.specs.declared.tree.Expr.TheFolds.{fold-Expr}
use Rattle.mk_types.specs.Scope.{declared}
use Rattle.mk_types.specs.Turns.{Turn, in_turn, turn_numbers}
use Rattle.mk_types.specs.Elements.{number_of}
use Rattle.mk_types.specs.Units.{element_number, units}
use Rattle.mk_types.specs.Stops.{Event, stop}
use Rattle.mk_types.specs.Environment.{Environment, element, stored, beginnings, output_elements}

-- the map of a name
abbrev pub map_of : List Decl → List ℕ → AddMap
map_of decls name = of_what (declared decls name)
  where
    of_what : Option What → AddMap
    of_what None = record { images = [] }
    of_what (Some (what.Map images)) = record { images = images }
    of_what (Some (what.Var class size)) = record { images = [] }

-- these values by an operation, from the left
abbrev pub combined : (ℕ → ℕ → ℕ) → List ℕ → ℕ
combined operation [] = 0
combined operation (first ∷ parts) = fold operation first parts

-- Expressions and statements of a program with this field and these declarations.
module _ (field : FieldId) (decls : List Decl) where
  -- one layer of an expression
  abbrev pub expr_layer_value : List Turn → Environment ℕ → Expr-F ℕ → ℕ
  expr_layer_value turns env (Expr-F.Lit value at) = value
  expr_layer_value turns env (Expr-F.Read from) = element env (number_of decls from.name) (element_number turns from) 0
  expr_layer_value turns env (Expr-F.Sq arg) = square field arg
  expr_layer_value turns env (Expr-F.Apply name at arg) = image (map_of decls name) arg
  expr_layer_value turns env (Expr-F.Sum parts) = combined bit_xor parts
  expr_layer_value turns env (Expr-F.Product parts) = combined (product field) parts

  -- the value of an expression, in these turns and with these values of the variables
  unfoldable pub expr_value : List Turn → Environment ℕ → Expr → ℕ
  expr_value turns env = fold-Expr ℕ (expr_layer_value turns env)

  -- one layer of a statement, with what the statements in it do
  abbrev pub stmt_layer_meaning : Stmt-F (List Turn → Environment ℕ → Environment ℕ) → List Turn → Environment ℕ → Environment ℕ
  stmt_layer_meaning (Stmt-F.Set target value) turns env =
      stored env (number_of decls target.name) (element_number turns target) (expr_value turns env value)
  stmt_layer_meaning (Stmt-F.Loop name at from to body) turns env =
      fold (λ now number. fold (λ here part. part (in_turn turns name number) here) now body) env (turn_numbers from to)

  -- what a statement makes of the values of the variables
  unfoldable pub stmt_meaning : Stmt → List Turn → Environment ℕ → Environment ℕ
  stmt_meaning = fold-Stmt (List Turn → Environment ℕ → Environment ℕ) stmt_layer_meaning

-- the variables before the first statement: the inputs have their elements, all others are zero
abbrev pub first_values : Program → List ℕ → List ℕ → Environment ℕ
first_values p publics secrets = beginnings (λ before n. take n (drop before secrets)) (λ before n. take n (drop before publics)) 0 0 [] p.decls

-- the variables behind the last statement
abbrev pub last_values : Program → List ℕ → List ℕ → Environment ℕ
last_values p publics secrets = fold (λ env s. stmt_meaning p.field p.decls s [] env) (first_values p publics secrets) p.body

-- the elements of the outputs, in order of declaration
abbrev pub outputs : Program → List ℕ → List ℕ → List ℕ
outputs p publics secrets = output_elements p.decls (last_values p publics secrets)

-- the outputs, where execution comes to its end
abbrev pub result : Program → List ℕ → List ℕ → Option (List ℕ)
result p publics secrets = where_ended (stop (units p))
  where
    where_ended : Option Event → Option (List ℕ)
    where_ended None = Some (outputs p publics secrets)
    where_ended (Some e) = None
