-- Operands are there.
use Rattle.std.proofs.Common.{◌≡◌, ℕ, List, sym, subst}
use Rattle.mk_ssa.specs.declared.Op.{Op}
use Rattle.mk_rules.specs.Shape.{Shape, shape_of}
use Rattle.mk_rules.specs.Wired.{Wired}
use Rattle.mk_rules.specs.Uses.{AreThere, input_shape}
use Rattle.mk_report.proofs.Turning.{all-there}
use Rattle.mk_report.proofs.reached.make_index.Goals as goal

-- whatever names the numbers of inputs have
named-there : (shape : Shape) (blocks : List Op) → Wired shape blocks → (secrets publics : ℕ) → secrets ≡ shape.secrets → publics ≡ shape.publics
    → AreThere (input_shape secrets publics) blocks
named-there shape blocks wired secrets publics one two =
    subst (λ (n : ℕ). AreThere (input_shape n publics) blocks) (sym one)
    (subst (λ (n : ℕ). AreThere (input_shape shape.secrets n) blocks) (sym two) (all-there shape blocks wired))

pub uses_of-requires-clause-there : goal.uses_of-requires-clause-there
uses_of-requires-clause-there c =
    named-there (shape_of c.args.code.now) c.args.blocks.now c.requires.wired c.secrets.result c.publics.result c.secrets.ensures c.publics.ensures
