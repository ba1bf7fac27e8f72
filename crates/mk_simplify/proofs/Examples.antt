-- The sum of two secrets, twice, and what it is simplified to.
use Rattle.std.proofs.Common.{◌≡◌, ◌<◌, [], ◌∷◌, inl, inr, refl, arith}
use Rattle.mk_field.specs.declared.field.FieldId.TheVariants.{Gf2}
use Rattle.mk_ssa.specs.declared.Operand.TheVariants.{Secret, Block}
use Rattle.mk_ssa.specs.declared.Op.TheVariants.{Add}
use Rattle.mk_ssa.specs.Operators.{Operator}
use Rattle.mk_ssa.specs.Values.{Values}
use Rattle.mk_ssa.specs.Denoted.{in_order}
use Rattle.mk_simplify.specs.Trees.{Tree, trees, parts}
use Rattle.mk_simplify.specs.Simplified.{needed, AreKept, IsSimplified}
use Rattle.mk_simplify.proofs.Kept.{slice_get-contains}

-- the sum twice, each an output
abbrev pub twice : Values
twice = record { field = Gf2; secrets = 2; publics = 0; maps = []; values = Add (Secret 0) (Secret 1) ∷ Add (Secret 0) (Secret 1) ∷ []; outs = Block 0 ∷ Block 1 ∷ [] }

-- the sum once, for both outputs
abbrev pub once : Values
once = record { field = Gf2; secrets = 2; publics = 0; maps = []; values = Add (Secret 0) (Secret 1) ∷ []; outs = Block 0 ∷ Block 0 ∷ [] }

-- the tree of the sum
abbrev pub sum : Tree
sum = Tree.Binary Operator.Add (Tree.Input (Secret 0)) (Tree.Input (Secret 1))

-- the tree of both values
pub trees-twice : trees twice.values ≡ sum ∷ sum ∷ []
unfolding in_order
trees-twice = refl

-- a tree is made of itself and of the inputs
pub parts-sum : parts sum ≡ sum ∷ Tree.Input (Secret 0) ∷ Tree.Input (Secret 1) ∷ []
unfolding parts
parts-sum = refl

-- the one is the other simplified
pub once-simplified : IsSimplified twice once
unfolding in_order parts AreKept
once-simplified = record {
  field = refl;
  secrets = refl;
  publics = refl;
  maps = refl;
  kept =
      inl (
        (λ there. let few : there.0 < 0 = there.1 in absurd (omega (arith, few)), slice_get-contains (needed twice) 0 sum refl),
        [],
        refl,
        inr (λ is. is.0 (slice_get-contains (sum ∷ []) 0 sum refl), refl),
      );
  outs = refl;
}
