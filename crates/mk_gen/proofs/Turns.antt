-- The typing and the units of the tree of the generator's text.
use Rattle.std.proofs.Common.{◌≡◌, ℕ, zero, suc, ◌+◌, ◌*◌, ◌%◌, ◌-◌, ◌≤◌, ltb, true, false, List, [], ◌∷◌, ◌++◌, map, flat_map, refl, ap, ◌∙◌, codes, arith}
use Rattle.std.specs.List.{range_with_len}
use Rattle.std.proofs.lemmas.Bool.{lt-ltb, le-ltb}
use Rattle.mk_ast.specs.Places.{nowhere}
use Rattle.mk_types.specs.Offences.{offences}
use Rattle.mk_types.specs.Turns.{in_turn}
use Rattle.mk_types.specs.Units.{WorkUnit, Step, Operation, stmt_units, turn_units}
use Rattle.mk_types.proofs.Layers.{stmt_layers, expr_layers, index_layers}
use Rattle.mk_types.proofs.ExecutionLayers.{evaluated_layers, expr_units_layers, units-Set, units-Loop}
use Rattle.mk_gen.proofs.Tree.{generated_decls, first_assignment, second_assignment, generated_loop, generated_tree}

-- it is well typed
pub tree_well_typed : (n : ℕ) → offences (generated_tree n) ≡ []
tree_well_typed n = simp (stmt_layers, expr_layers, index_layers) refl

-- a turn
abbrev pub turn_work : List WorkUnit
turn_work =
    Step
    ∷ Step ∷ Step ∷ Step ∷ Step ∷ Operation
    ∷ Step ∷ Operation ∷ Operation ∷ Step ∷ Step ∷ Operation ∷ Operation ∷ Step
    ∷ []

-- what is no fault in a turn
record IsSmallTurn (number : ℕ) : Type 0 where
  own_low : ltb 65535 (number % 16) ≡ false
  own_inside : ltb (number % 16) 16 ≡ true
  product_low : ltb 65535 (5 * number) ≡ false
  scaled_low : ltb 65535 (5 * number % 16) ≡ false
  scaled_inside : ltb (5 * number % 16) 16 ≡ true
  sum_low : ltb 65535 (number + 1) ≡ false
  next_low : ltb 65535 ((number + 1) % 16) ≡ false
  next_inside : ltb ((number + 1) % 16) 16 ≡ true

-- each turn of the generated loop is such a one
small_turn : (number : ℕ) → number ≤ 3275 → IsSmallTurn number
small_turn number within = record {
  own_low = le-ltb 65535 (number % 16) (omega arith);
  own_inside = lt-ltb (number % 16) 16 (omega arith);
  product_low = le-ltb 65535 (5 * number) (omega arith);
  scaled_low = le-ltb 65535 (5 * number % 16) (omega arith);
  scaled_inside = lt-ltb (5 * number % 16) 16 (omega arith);
  sum_low = le-ltb 65535 (number + 1) (omega arith);
  next_low = le-ltb 65535 ((number + 1) % 16) (omega arith);
  next_inside = lt-ltb ((number + 1) % 16) 16 (omega arith);
}

-- the units of a turn by its number
turn_of : (number : ℕ) → number ≤ 3275 →
    turn_units (map (stmt_units generated_decls) (first_assignment ∷ second_assignment ∷ [])) (in_turn [] (codes "i") number) ≡ turn_work
turn_of number within =
    let small = small_turn number within in
    simp (evaluated_layers, expr_units_layers, units-Set, small.own_low, small.own_inside, small.product_low, small.scaled_low, small.scaled_inside, small.sum_low, small.next_low, small.next_inside) refl

-- the units of so many turns
abbrev pub turns_work : ℕ → List WorkUnit
turns_work zero = []
turns_work (suc turns) = turn_work ++ turns_work turns

-- the units of the turns from one on
turns_from : (first turns : ℕ) → first + turns ≤ 3276 →
    flat_map (λ number. turn_units (map (stmt_units generated_decls) (first_assignment ∷ second_assignment ∷ [])) (in_turn [] (codes "i") number)) (range_with_len first turns)
    ≡ turns_work turns
turns_from first zero within = refl
turns_from first (suc turns) within =
    λ i. turn_of first (omega (arith, within)) i ++ turns_from (first + 1) turns (omega (arith, within)) i

-- the units of the loop
pub loop_units : (n : ℕ) → n ≤ 3276 → stmt_units generated_decls (generated_loop n) [] ≡ Step ∷ turns_work n
loop_units n within =
    units-Loop generated_decls (codes "i") nowhere 0 n (first_assignment ∷ second_assignment ∷ []) []
    ∙ ap (λ us. Step ∷ us) (turns_from 0 (n - 0) (omega (arith, within)) ∙ ap turns_work (omega arith))
