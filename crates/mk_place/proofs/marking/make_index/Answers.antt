-- Operands are there; the words have room for all products.
use Rattle.std.proofs.Common.{◌≡◌, ℕ, List, sym, subst, arith, ◌∙◌}
use Rattle.std.proofs.lemmas.Option.{slice_get_within}
use Rattle.mk_ssa.specs.declared.Op.{Op}
use Rattle.mk_ssa.specs.Values.{Values, IsValues}
use Rattle.mk_rules.specs.Uses.{AreThere, input_shape}
use Rattle.mk_place.specs.Uses.{shape_of_values}
use Rattle.mk_place.proofs.Wiring.{operands-before}
use Rattle.mk_place.proofs.marking.make_index.Goals as goal

-- each operand comes before its value
all-there : (s : Values) → IsValues s → AreThere (shape_of_values s) s.values
all-there s is i k v op there at =
    omega (arith, (operands-before s is i op there).below k v at, slice_get_within s.values i op there)

-- whatever names the numbers of inputs and the values have
named-there : (s : Values) → IsValues s → (secrets publics : ℕ) (ops : List Op) → secrets ≡ s.secrets → publics ≡ s.publics → ops ≡ s.values
    → AreThere (input_shape secrets publics) ops
named-there s is secrets publics ops one two same =
    subst (λ (n : ℕ). AreThere (input_shape n publics) ops) (sym one)
    (subst (λ (n : ℕ). AreThere (input_shape s.secrets n) ops) (sym two) (subst (AreThere (input_shape s.secrets s.publics)) (sym same) (all-there s is)))

pub uses_of-requires-clause-there : goal.uses_of-requires-clause-there
uses_of-requires-clause-there c =
    named-there c.args.s.now c.values.ensures.fits c.secrets.result c.publics.result c.as_slice-ops.result.now c.secrets.ensures c.publics.ensures
    (c.as_slice-ops.ensures.items ∙ c.values.ensures.values)
