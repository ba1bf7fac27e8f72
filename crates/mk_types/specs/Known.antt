-- What a table of names knows, by references to their bytes.
use Rattle.std.specs.Prelude.{◌≡◌, Bool, ℕ, List, Option, Some, None, length, nat_lt, if◌then◌else◌, bytes_eq}
use Rattle.std.specs.Borrow.{Bor}
use Rattle.indexmap.specs.IndexMap.{IndexMap, get}
use Rattle.mk_ast.specs.declared.tree.Decl.{Decl}
use Rattle.mk_types.specs.declared.names.Entry.{Entry}
use Rattle.mk_types.specs.Elements.{number_of, maps_of, map_number}

-- whether two references are to the same bytes
abbrev pub is_same : Bor (List ℕ) → Bor (List ℕ) → Bool
is_same a b = bytes_eq a.now b.now

-- the entry of a declaration behind these
abbrev pub next_entry : List Decl → Entry
next_entry decls = record { number = length decls; map = length (maps_of decls) }

-- the entry of the first of these declarations of a name, if there is one
abbrev pub first_entry : List Decl → List ℕ → Option Entry
first_entry decls name = if nat_lt (number_of decls name) (length decls) then Some (record { number = number_of decls name; map = map_number decls name }) else None

-- the table has the entry of each name
abbrev pub Knows : {S : Type 0} → IndexMap (Bor (List ℕ)) Entry S → List Decl → Type 0
Knows table decls = (name : Bor (List ℕ)) → get is_same table name ≡ first_entry decls name.now
