-- Parts joined one after the other.
use Rattle.std.specs.Prelude.{Bool, List, fold}
use Rattle.mk_ssa.specs.declared.Operand.{Operand}
use Rattle.mk_ssa.specs.declared.Op.{Op}
use Rattle.mk_unroll.specs.Unrolled.{Given, joined}

-- what was given, joined with each of these parts
abbrev pub joined_on : {A : Type 0} → (Bool → Bool → Operand → Operand → Op) → (A → List Op → Given) → Given → List A → Given
joined_on op part_of = fold (λ so_far part. joined op so_far.operand (part_of part so_far.values))
