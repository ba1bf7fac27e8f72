-- What the names in a statement stand for: the declarations of the program, and the loops around it.
-- The rules are this project's own; docs/LANGUAGE.md has them in words.
use Rattle.std.specs.Prelude.{ℕ, Bool, true, false, ◌&&◌, not, List, [], ◌∷◌, ◌++◌, find, flat_map, bytes_eq, Option, Some, None, is_none}
use Rattle.std.specs.List.{list_any}
use Rattle.std.specs.Option.{option_map}
use Rattle.mk_field.specs.declared.field.FieldId.{FieldId}
use Rattle.mk_ast.specs.declared.tree.Decl.{Decl}
use Rattle.mk_ast.specs.declared.tree.What.{What}
use Rattle.mk_ast.specs.declared.tree.What.TheVariants as what
use Rattle.mk_ast.specs.declared.tree.Class.{Class}
use Rattle.mk_ast.specs.declared.tree.Class.TheVariants as class_
use Rattle.mk_ast.specs.declared.tree.Expr.{Expr}
use Rattle.mk_ast.specs.declared.tree.Expr.TheOpen.{Expr-F}
use Rattle.mk_ast.specs.declared.tree.Expr.TheFolds.{fold-Expr}

-- what a statement stands in: the field, the declarations, and the names of the loops around it
pub record Scope : Type 0 where
  pub field : FieldId
  pub decls : List Decl
  pub loops : List (List ℕ)

-- within one more loop, of this name
abbrev pub inside : Scope → List ℕ → Scope
inside s name = record { field = s.field; decls = s.decls; loops = s.loops ++ name ∷ [] }

-- what a name is declared to be: what the first declaration of this name says
abbrev pub declared : List Decl → List ℕ → Option What
declared decls name = option_map (λ d. d.what) (find (λ d. bytes_eq name d.name) decls)

-- whether it is the name of a loop around
abbrev pub is_loop : Scope → List ℕ → Bool
is_loop s name = list_any (λ loop. bytes_eq loop name) s.loops

-- whether a name is neither declared nor that of a loop around
abbrev pub is_unknown : Scope → List ℕ → Bool
is_unknown s name = is_none (declared s.decls name) && not (is_loop s name)

-- the classes whose values are shared
abbrev pub is_shared_class : Class → Bool
is_shared_class class_.Secret = true
is_shared_class class_.Public = false
is_shared_class class_.Output = true
is_shared_class class_.LocalSecret = true
is_shared_class class_.LocalPublic = false

-- the classes of inputs
abbrev pub is_input_class : Class → Bool
is_input_class class_.Secret = true
is_input_class class_.Public = true
is_input_class class_.Output = false
is_input_class class_.LocalSecret = false
is_input_class class_.LocalPublic = false

-- the class of public variables that are no inputs
abbrev pub is_local_public_class : Class → Bool
is_local_public_class class_.Secret = false
is_local_public_class class_.Public = false
is_local_public_class class_.Output = false
is_local_public_class class_.LocalSecret = false
is_local_public_class class_.LocalPublic = true

-- whether it is declared to be a variable of such a class
abbrev pub is_variable : (Class → Bool) → Option What → Bool
is_variable test None = false
is_variable test (Some (what.Map images)) = false
is_variable test (Some (what.Var class size)) = test class

-- the names that one layer of an expression has outside of index brackets, by those of its parts
abbrev pub layer_names : Expr-F (List (List ℕ)) → List (List ℕ)
layer_names (Expr-F.Lit value at) = []
layer_names (Expr-F.Read from) = from.name ∷ []
layer_names (Expr-F.Sq arg) = arg
layer_names (Expr-F.Apply name at arg) = name ∷ arg
layer_names (Expr-F.Sum parts) = flat_map (λ part. part) parts
layer_names (Expr-F.Product parts) = flat_map (λ part. part) parts

-- the names that an expression has outside of index brackets
unfoldable pub names : Expr → List (List ℕ)
names = fold-Expr (List (List ℕ)) layer_names

-- whether an expression is shared: one of these names is declared with a shared class
unfoldable pub is_shared : List Decl → Expr → Bool
is_shared decls e = list_any (λ name. is_variable is_shared_class (declared decls name)) (names e)
