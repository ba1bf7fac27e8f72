-- How much the turns of the generator's text are.
use Rattle.std.proofs.Common.{◌≡◌, ℕ, zero, suc, ◌+◌, ◌*◌, ◌≤◌, List, [], ◌∷◌, refl, ap, ◌∙◌, arith}
use Rattle.std.specs.List.{AllByRecursion}
use Rattle.std.proofs.lemmas.List.{append-nil}
use Rattle.mk_types.specs.Elements.{elements_of}
use Rattle.mk_types.specs.Units.{WorkUnit, Step, up_to_fault, units}
use Rattle.mk_types.specs.Stops.{work, operations}
use Rattle.mk_unroll.proofs.IndexUnits.{operations-append, work-append}
use Rattle.mk_gen.proofs.Tree.{generated_tree}
use Rattle.mk_gen.proofs.Turns.{turn_work, turns_work, loop_units}
use Rattle.mk_types.proofs.Faults.{IsNoFault}
use Rattle.mk_gen.proofs.Faultless.{faultless_whole}

-- they have no fault
turns_faultless : (turns : ℕ) → AllByRecursion IsNoFault (turns_work turns)
turns_faultless zero = tt
turns_faultless (suc turns) = (tt, (tt, (tt, (tt, (tt, (tt, (tt, (tt, (tt, (tt, (tt, (tt, (tt, (tt, turns_faultless turns))))))))))))))

-- each is 14 units of work
turns_are_work : (turns : ℕ) → work (turns_work turns) ≡ 14 * turns
turns_are_work zero = refl
turns_are_work (suc turns) =
    let one : work turn_work ≡ 14 = refl in
    omega (arith, work-append turn_work (turns_work turns), one, turns_are_work turns)

-- of which 5 are operations
turns_are_operations : (turns : ℕ) → operations (turns_work turns) ≡ 5 * turns
turns_are_operations zero = refl
turns_are_operations (suc turns) =
    let one : operations turn_work ≡ 5 = refl in
    omega (arith, operations-append turn_work (turns_work turns), one, turns_are_operations turns)

-- the units of the program
abbrev pub tree_work : ℕ → List WorkUnit
tree_work n = Step ∷ turns_work n

-- the generated program has these units
pub tree_units : (n : ℕ) → n ≤ 3276 → units (generated_tree n) ≡ tree_work n
tree_units n within =
    ap up_to_fault (append-nil _ ∙ loop_units n within) ∙ faultless_whole (tree_work n) (tt, turns_faultless n)

-- none of them is a fault
pub tree_faultless : (n : ℕ) → AllByRecursion IsNoFault (tree_work n)
tree_faultless n = (tt, turns_faultless n)

-- they are 14 for a turn, and one for the loop
pub tree_is_work : (n : ℕ) → work (tree_work n) ≡ 14 * n + 1
tree_is_work n =
    let one : work (Step ∷ []) ≡ 1 = refl in
    omega (arith, work-append (Step ∷ []) (turns_work n), one, turns_are_work n)

-- of them five in a turn are operations
pub tree_operations : (n : ℕ) → operations (tree_work n) ≡ 5 * n
tree_operations n =
    let none : operations (Step ∷ []) ≡ 0 = refl in
    omega (arith, operations-append (Step ∷ []) (turns_work n), none, turns_are_operations n)

-- the elements that the program declares
pub tree_elements : (n : ℕ) → elements_of (generated_tree n) ≡ 33
tree_elements n = refl
