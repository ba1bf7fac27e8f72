-- Statements and turns one after the other: what they do, and their units.
use Rattle.std.specs.Prelude.{ℕ, List, ◌∷◌, fold, flat_map}
use Rattle.mk_ast.specs.declared.tree.Decl.{Decl}
use Rattle.mk_ast.specs.declared.tree.Stmt.{Stmt}
use Rattle.mk_types.specs.Turns.{Turn, in_turn}
use Rattle.mk_types.specs.Units.{WorkUnit, Step, stmt_units}
use Rattle.mk_unroll.specs.Unrolled.{Unrolling, stmt_unrolled}

-- what these statements do
abbrev pub body_unrolled : List Decl → List Turn → Unrolling → List Stmt → Unrolling
body_unrolled decls turns = fold (λ now s. stmt_unrolled decls s turns now)

-- their units
abbrev pub body_units : List Decl → List Turn → List Stmt → List WorkUnit
body_units decls turns body = flat_map (λ s. stmt_units decls s turns) body

-- what these turns of a loop do
abbrev pub turns_unrolled : List Decl → List Turn → List ℕ → List Stmt → Unrolling → List ℕ → Unrolling
turns_unrolled decls turns name body = fold (λ now number. body_unrolled decls (in_turn turns name number) now body)

-- their units
abbrev pub turns_units : List Decl → List Turn → List ℕ → List Stmt → List ℕ → List WorkUnit
turns_units decls turns name body numbers = flat_map (λ number. Step ∷ body_units decls (in_turn turns name number) body) numbers
