-- The generator's text spells a program that can be compiled.
use Rattle.std.proofs.Common.{◌≡◌, ℕ, ◌*◌, ◌≤◌, List, [], ◌∷◌, None, refl, sym, ap, ◌∙◌, arith}
use Rattle.std.specs.List.{AllByRecursion}
use Rattle.mk_ast.specs.declared.tree.Program.{Program}
use Rattle.mk_ast.specs.Places.{AreAlike}
use Rattle.mk_ast.proofs.ProgramReading.{canonical_spells}
use Rattle.mk_types.specs.declared.offence.Offence.{Offence}
use Rattle.mk_types.specs.Offences.{offences, IsWellTyped}
use Rattle.mk_types.specs.Elements.{elements_of}
use Rattle.mk_types.specs.Units.{WorkUnit, Step, Operation, Fault, units}
use Rattle.mk_types.specs.Stops.{operations, stop}
use Rattle.mk_gen.specs.Generated.{generated, IsGenerated}
use Rattle.mk_gen.proofs.Tree.{generated_tree, generated_canonical}
use Rattle.mk_gen.proofs.Regularity.{generated_regular}
use Rattle.mk_gen.proofs.Turns.{tree_well_typed}
use Rattle.mk_types.proofs.Faults.{IsNoFault}
use Rattle.mk_gen.proofs.Faultless.{faultless_ends}
use Rattle.mk_gen.proofs.Counted.{tree_work, tree_units, tree_faultless, tree_is_work, tree_operations, tree_elements}
use Rattle.mk_gen.proofs.AlikeUnits.{placeless_units, units_alike, elements_alike}
use Rattle.mk_gen.proofs.AlikeOffences.{placeless_offences, offences_alike}

-- no offences, where there are none without places
pub none_alike : (xs : List Offence) → placeless_offences xs ≡ [] → xs ≡ []
none_alike [] same = refl
none_alike (x ∷ xs) same = absurd cc

-- units without a fault have no places
pub faultless_placeless : (us : List WorkUnit) → AllByRecursion IsNoFault us → placeless_units us ≡ us
faultless_placeless [] all = refl
faultless_placeless (Step ∷ us) all = ap (λ vs. Step ∷ vs) (faultless_placeless us all.1)
faultless_placeless (Operation ∷ us) all = ap (λ vs. Operation ∷ vs) (faultless_placeless us all.1)
faultless_placeless (Fault at ∷ us) all = absurd all.0

-- so units that are these without their places are these
pub faultless_same : (us vs : List WorkUnit) → AllByRecursion IsNoFault vs → placeless_units us ≡ vs → us ≡ vs
faultless_same [] [] all same = refl
faultless_same [] (v ∷ vs) all same = absurd cc
faultless_same (u ∷ us) [] all same = absurd cc
faultless_same (Step ∷ us) (Step ∷ vs) all same = ap (λ ws. Step ∷ ws) (faultless_same us vs all.1 cc)
faultless_same (Operation ∷ us) (Operation ∷ vs) all same = ap (λ ws. Operation ∷ ws) (faultless_same us vs all.1 cc)
faultless_same (Step ∷ us) (Operation ∷ vs) all same = absurd cc
faultless_same (Operation ∷ us) (Step ∷ vs) all same = absurd cc
faultless_same (Fault at ∷ us) (Step ∷ vs) all same = absurd cc
faultless_same (Fault at ∷ us) (Operation ∷ vs) all same = absurd cc
faultless_same us (Fault at ∷ vs) all same = absurd all.0

-- A program that is like the tree.
module _ (n : ℕ) (within : n ≤ 3276) (p : Program) (like : AreAlike p (generated_tree n)) where
  -- so is one that differs in places alone
  like_well_typed : IsWellTyped p
  like_well_typed =
      none_alike (offences p)
      (sym (offences_alike p) ∙ ap offences like ∙ offences_alike (generated_tree n) ∙ ap placeless_offences (tree_well_typed n))

  -- it has as many units of work
  like_units : units p ≡ tree_work n
  like_units =
      faultless_same (units p) (tree_work n) (tree_faultless n)
      (sym (units_alike p) ∙ ap units like ∙ units_alike (generated_tree n) ∙ ap placeless_units (tree_units n within)
      ∙ faultless_placeless (tree_work n) (tree_faultless n))

  -- as many elements
  like_elements : elements_of p ≡ 33
  like_elements = sym (elements_alike p) ∙ ap elements_of like ∙ elements_alike (generated_tree n) ∙ tree_elements n

  -- it ends within the bounds
  like_ends : stop (units p) ≡ None
  like_ends =
      ap stop like_units
      ∙ faultless_ends (tree_work n) (tree_faultless n) (omega (arith, within, tree_is_work n)) (omega (arith, within, tree_operations n))

  -- and does as many operations
  like_operations : operations (units p) ≡ 5 * n
  like_operations = ap operations like_units ∙ tree_operations n

-- the program that the text spells
pub generated_program : (n : ℕ) → n ≤ 3276 → (p : Program) × IsGenerated n p
generated_program n within =
    let read = canonical_spells (generated_tree n) (generated_regular n (omega (arith, within))) (generated n) (generated_canonical n) in (
      read.0,
      record {
        spelled = read.1;
        well_typed = like_well_typed n within read.0 read.2;
        few_elements = omega (arith, like_elements n within read.0 read.2);
        ends = like_ends n within read.0 read.2;
        operations = like_operations n within read.0 read.2;
      },
    )
