-- What the variables hold while a source is executed: for each declaration, in order, the elements of its
-- variable, and nothing for a map. What stands for an element is any thing: its value where the source has a
-- meaning, an operand where it is unrolled.
use Rattle.std.specs.Prelude.{ℕ, if◌then◌else◌, List, [], ◌∷◌, ◌++◌, Some, replicate, flat_map, zip, slice_index_or, slice_set}
use Rattle.mk_ast.specs.declared.tree.Decl.{Decl}
use Rattle.mk_ast.specs.declared.tree.What.{What}
use Rattle.mk_ast.specs.declared.tree.What.TheVariants as what
use Rattle.mk_ast.specs.declared.tree.Class.TheVariants as class_
use Rattle.mk_types.specs.Scope.{is_variable}
use Rattle.mk_types.specs.Elements.{is_secret_class, is_public_class, is_output_class, size_of, elements_among}

-- what the variables hold
abbrev pub Environment : Type 0 → Type 0
Environment A = List (List A)

-- element i of variable n, or else d
abbrev pub element : {A : Type 0} → Environment A → ℕ → ℕ → A → A
element env n i d = slice_index_or (slice_index_or env n []) i d

-- with element i of variable n changed to x
abbrev pub stored : {A : Type 0} → Environment A → ℕ → ℕ → A → Environment A
stored env n i x = slice_set env n (slice_set (slice_index_or env n []) i x)

-- Before the first statement. Secrets and public inputs are given by how many of their class are declared
-- before, and how many the variable has; all other elements of one kind are the same.
module _ {A : Type 0} (secrets publics : ℕ → ℕ → List A) (shared public : A) where
  -- a variable behind these declarations
  abbrev pub beginning : List Decl → What → List A
  beginning earlier (what.Map images) = []
  beginning earlier (what.Var class_.Secret size) = secrets (elements_among is_secret_class earlier) (size_of size)
  beginning earlier (what.Var class_.Public size) = publics (elements_among is_public_class earlier) (size_of size)
  beginning earlier (what.Var class_.Output size) = replicate (size_of size) shared
  beginning earlier (what.Var class_.LocalSecret size) = replicate (size_of size) shared
  beginning earlier (what.Var class_.LocalPublic size) = replicate (size_of size) public

  -- the variables of declarations behind these ones
  abbrev pub beginnings : List Decl → List Decl → Environment A
  beginnings earlier [] = []
  beginnings earlier (d ∷ ds) = beginning earlier d.what ∷ beginnings (earlier ++ d ∷ []) ds

-- the elements of the outputs, in order of declaration
abbrev pub output_elements : {A : Type 0} → List Decl → Environment A → List A
output_elements {A} decls env = flat_map of_variable (zip_with decls env)
  where
    of_variable : Decl × List A → List A
    of_variable (d, elements) = if is_variable is_output_class (Some d.what) then elements else []

    zip_with : List Decl → Environment A → List (Decl × List A)
    zip_with ds vs = zip ds vs
