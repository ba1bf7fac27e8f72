-- The text of the generator, and what holds of the program that it spells.
use Rattle.std.specs.Prelude.{◌≡◌, ℕ, ◌*◌, List, [], ◌∷◌, ◌++◌, flat_map, codes, decimal}
use Rattle.mk_ast.specs.declared.tree.Program.{Program}
use Rattle.mk_ast.specs.Canonical.{ended}
use Rattle.mk_ast.specs.Spells.{Spells}
use Rattle.mk_types.specs.Offences.{IsWellTyped}
use Rattle.mk_types.specs.Units.{units}
use Rattle.mk_types.specs.Stops.{operations}
use Rattle.mk_unroll.specs.Causes.{HasFewElements, Ends}

-- the lines in front of the loop
abbrev pub declaration_lines : List (List ℕ)
declaration_lines =
    codes "field gf256;"
    ∷ codes "map m = 0x1f, 0x3e, 0x7c, 0xf8, 0xf1, 0xe3, 0xc7, 0x8f;"
    ∷ codes "secret x[16];"
    ∷ codes "local secret a;"
    ∷ codes "output y[16];"
    ∷ []

-- the loop of n turns
abbrev pub loop_lines : ℕ → List (List ℕ)
loop_lines n =
    (codes "for i in 0.." ++ decimal n ++ codes " {")
    ∷ codes "  a = x[i % 16] + y[5 * i % 16];"
    ∷ codes "  y[i % 16] = a * m(a) + sq(y[(i + 1) % 16]);"
    ∷ codes "}"
    ∷ []

-- the text with a loop of n turns
abbrev pub generated : ℕ → List ℕ
generated n = flat_map ended (declaration_lines ++ loop_lines n)

-- the text spells this program, which can be compiled: it is well typed, declares few elements, and its
-- execution comes to its end, with five operators in each turn
pub record IsGenerated (n : ℕ) (p : Program) : Type 0 where
  pub spelled : Spells p (generated n)
  pub well_typed : IsWellTyped p
  pub few_elements : HasFewElements p
  pub ends : Ends p
  pub operations : operations (units p) ≡ 5 * n
