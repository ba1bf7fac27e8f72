-- The elements that a program declares, and how many of each class. A scalar has one.
use Rattle.std.specs.Prelude.{ℕ, Bool, true, false, if◌then◌else◌, List, Option, Some, None, length, take, sum_by, filter_map, bytes_eq, unwrap_or, option_map}
use Rattle.std.specs.List.{position_or_len}
use Rattle.mk_field.specs.declared.map.AddMap.{AddMap}
use Rattle.mk_ast.specs.declared.tree.Program.{Program}
use Rattle.mk_ast.specs.declared.tree.Decl.{Decl}
use Rattle.mk_ast.specs.declared.tree.What.{What}
use Rattle.mk_ast.specs.declared.tree.What.TheVariants as what
use Rattle.mk_ast.specs.declared.tree.Class.{Class}
use Rattle.mk_ast.specs.declared.tree.Class.TheVariants as class_
use Rattle.mk_types.specs.Scope.{declared}

-- the class of secrets
abbrev pub is_secret_class : Class → Bool
is_secret_class class_.Secret = true
is_secret_class class_.Public = false
is_secret_class class_.Output = false
is_secret_class class_.LocalSecret = false
is_secret_class class_.LocalPublic = false

-- the class of public inputs
abbrev pub is_public_class : Class → Bool
is_public_class class_.Secret = false
is_public_class class_.Public = true
is_public_class class_.Output = false
is_public_class class_.LocalSecret = false
is_public_class class_.LocalPublic = false

-- the class of outputs
abbrev pub is_output_class : Class → Bool
is_output_class class_.Secret = false
is_output_class class_.Public = false
is_output_class class_.Output = true
is_output_class class_.LocalSecret = false
is_output_class class_.LocalPublic = false

-- how many elements a variable has
abbrev pub size_of : Option ℕ → ℕ
size_of None = 1
size_of (Some n) = n

-- how many elements of such a class a declaration makes
abbrev pub elements_in : (Class → Bool) → What → ℕ
elements_in test (what.Map images) = 0
elements_in test (what.Var class size) = if test class then size_of size else 0

-- how many elements of such a class these declarations make
abbrev pub elements_among : (Class → Bool) → List Decl → ℕ
elements_among test decls = sum_by (λ d. elements_in test d.what) decls

-- how many elements a program declares
abbrev pub elements_of : Program → ℕ
elements_of p = elements_among (λ class. true) p.decls

-- how many secrets
abbrev pub secrets_of : Program → ℕ
secrets_of p = elements_among is_secret_class p.decls

-- how many public inputs
abbrev pub publics_of : Program → ℕ
publics_of p = elements_among is_public_class p.decls

-- how many outputs
abbrev pub outputs_of : Program → ℕ
outputs_of p = elements_among is_output_class p.decls

-- the number of the declaration of a name: of several the first
abbrev pub number_of : List Decl → List ℕ → ℕ
number_of decls name = position_or_len (λ d. bytes_eq name d.name) decls

-- the size of the array of a name
abbrev pub array_size : List Decl → List ℕ → ℕ
array_size decls name = unwrap_or (option_map (elements_in (λ class. true)) (declared decls name)) 0

-- the map that a declaration makes, if it does
abbrev pub map_in : What → Option AddMap
map_in (what.Map images) = Some (record { images = images })
map_in (what.Var class size) = None

-- the maps in order of declaration
abbrev pub maps_of : List Decl → List AddMap
maps_of decls = filter_map (λ d. map_in d.what) decls

-- the number of the map of a name, which is how many maps are declared before
abbrev pub map_number : List Decl → List ℕ → ℕ
map_number decls name = length (maps_of (take (number_of decls name) decls))
