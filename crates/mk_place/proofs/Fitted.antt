-- An operator over renamed operands, of which the shared ones are then replaced.
use Rattle.std.proofs.Common.{◌≡◌, List, [], ◌∷◌, ◌++◌, length, take, refl, sym, ◌∙◌, ap₂}
use Rattle.mk_ssa.specs.declared.Op.{Op}
use Rattle.mk_ssa.specs.declared.Op.TheVariants.{Const}
use Rattle.mk_ssa.specs.declared.Operand.{Operand}
use Rattle.mk_ssa.specs.Kinds.{shared_operands, public_operands}
use Rattle.mk_ssa.specs.Operators.{operator, operands, with_operands as over, with_operands_by}
use Rattle.mk_simplify.proofs.Operators.{operator-with, same-op}
use Rattle.mk_place.specs.Laying.{pick}
use Rattle.mk_place.proofs.Differing.{operator-laid}

-- its operands: as many of these two as it has shared ones, and the public ones renamed
fitted-operands : (first second : Operand) (f : Operand → Operand) (op : Op)
    → take (length (shared_operands (over f op))) (first ∷ second ∷ []) ++ public_operands (over f op) ≡ operands (with_operands_by (pick first second) f op)
fitted-operands first second f (Const value) = refl
fitted-operands first second f _ = refl

-- so it is the operator over these
pub fitted-is : (first second : Operand) (f : Operand → Operand) (op fitted : Op)
    → operator fitted ≡ operator (over f op)
    → shared_operands fitted ≡ take (length (shared_operands (over f op))) (first ∷ second ∷ [])
    → public_operands fitted ≡ public_operands (over f op)
    → fitted ≡ with_operands_by (pick first second) f op
fitted-is first second f op fitted same shared public =
    same-op fitted (with_operands_by (pick first second) f op) (same ∙ operator-with f op ∙ sym (operator-laid (pick first second) f op))
    (ap₂ (λ (xs ys : List Operand). xs ++ ys) shared public ∙ fitted-operands first second f op)
