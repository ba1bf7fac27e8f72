-- Which texts are sources, and why others are not.
use Rattle.std.specs.Prelude.{ℕ, List}
use Rattle.mk_base.specs.declared.Place.{Place}
use Rattle.mk_ast.specs.declared.tree.Program.{Program as Tree}
use Rattle.mk_ast.specs.Spells.{Spells}
use Rattle.mk_parse.specs.Parsed.{IsOnlyProgram}
use Rattle.mk_types.specs.declared.offence.OffenceKind.{OffenceKind}
use Rattle.mk_types.specs.First.{IsFirst}
use Rattle.mk_types.specs.Offences.{offences, IsWellTyped}

-- the text spells this tree and no other, and it is well typed
pub record IsSourceOf (text : List ℕ) (tree : Tree) : Type 0 where
  pub spelled : IsOnlyProgram text tree
  pub typed : IsWellTyped tree

-- the text spells no tree
abbrev pub IsNoSource : List ℕ → Type 0
IsNoSource text = (tree : Tree) → Spells tree text → ⊥

-- the text spells a tree whose first offence against the typing is of this kind, at this place
abbrev pub HasFirstOffence : List ℕ → OffenceKind → Place → Type 0
HasFirstOffence text kind at = (tree : Tree) × Spells tree text × IsFirst (offences tree) (record { at = at; kind = kind })
