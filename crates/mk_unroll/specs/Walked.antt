-- Indexes from a number on, as they are found part by part.
use Rattle.std.specs.Prelude.{ℕ, List, [], fold}
use Rattle.mk_base.specs.declared.Place.{Place}
use Rattle.mk_ast.specs.declared.tree.Index.{Index}
use Rattle.mk_ast.specs.declared.tree.Link.{Link}
use Rattle.mk_types.specs.Turns.{Turn}
use Rattle.mk_types.specs.Units.{Evaluated, behind, plus_part, evaluated, linked}

-- a number, found without units
abbrev pub given : ℕ → Evaluated
given value = record { value = value; units = [] }

-- what stands so far, and one step for each of these
abbrev pub walked : {A : Type 0} → (A → ℕ → Evaluated) → Evaluated → List A → Evaluated
walked next = fold (λ so_far x. behind so_far (next x))

-- a number plus these parts, from the left
abbrev pub added_parts : Place → List Turn → ℕ → List Index → Evaluated
added_parts at turns first parts = walked (λ part. plus_part at (evaluated at turns part)) (given first) parts

-- a number behind these links, from the left
abbrev pub linked_parts : Place → List Turn → ℕ → List Link → Evaluated
linked_parts at turns first links = walked (linked at turns) (given first) links
