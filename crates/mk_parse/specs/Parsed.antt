-- What `parse` answers.
use Rattle.std.specs.Prelude.{◌≡◌, ℕ, ◌≤◌, ◌==◌, Bool, List, [], ◌∷◌, length, count_by, refl}
use Rattle.mk_ast.specs.declared.tree.Program.{Program}
use Rattle.mk_ast.specs.declared.tree.Decl.{Decl}
use Rattle.mk_ast.specs.declared.tree.What.{What}
use Rattle.mk_ast.specs.declared.tree.What.TheVariants as what
use Rattle.mk_ast.specs.declared.refusal.SourceRefusal.{SourceRefusal}
use Rattle.mk_ast.specs.declared.refusal.SourceRefusal.TheVariants.{Syntax, Memory}
use Rattle.mk_ast.specs.Spells.{Spells, IsRefusedAt}
use Rattle.mk_parse.specs.declared.TheConstants.{MOST_WHOLE_MAPS}

-- the text spells this program, and no other
pub record IsOnlyProgram (text : List ℕ) (p : Program) : Type 0 where
  pub spelled : Spells p text
  pub alone : (q : Program) → Spells q text → q ≡ p

-- Why a text has no program: it spells none, and that is the first place where none can go on; or
-- memory was wanted. No other refusal comes.
abbrev pub IsParseRefusal : List ℕ → SourceRefusal → Type 0
IsParseRefusal text (Syntax at) = IsRefusedAt text at × ((p : Program) → Spells p text → ⊥)
IsParseRefusal text Memory = Unit {0}
IsParseRefusal text _ = ⊥

-- the images of the maps that are declared, map by map
abbrev pub images_with : What → List (List ℕ) → List (List ℕ)
images_with (what.Map images) others = images ∷ others
images_with (what.Var class size) others = others

-- the images of all maps, in order
abbrev pub maps_of : List Decl → List (List ℕ)
maps_of [] = []
maps_of (d ∷ ds) = images_with d.what (maps_of ds)

-- whether a map has eight images
abbrev pub has_eight : List ℕ → Bool
has_eight images = length images == 8

-- of a map of seven images and one of eight, one has eight
pub count-7-8 : count_by has_eight ((0 ∷ 1 ∷ 2 ∷ 3 ∷ 4 ∷ 5 ∷ 6 ∷ []) ∷ (0 ∷ 1 ∷ 2 ∷ 3 ∷ 4 ∷ 5 ∷ 6 ∷ 7 ∷ []) ∷ []) ≡ 1
count-7-8 = refl

-- at most 32,768 of the maps have eight images, whatever the others have
abbrev pub FewMaps : Program → Type 0
FewMaps p = count_by has_eight (maps_of p.decls) ≤ MOST_WHOLE_MAPS
