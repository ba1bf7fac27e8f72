-- The outputs so far are read.
use Rattle.std.proofs.Common.{◌≡◌, ◌<◌, ℕ, All, map, take}
use Rattle.mk_field.specs.Field.{size}
use Rattle.mk_ssa.specs.Denoted.{operand_value}
use Rattle.mk_ssa.proofs.evaluation.Evaluation.outs.Given as goal

abbrev pub invariant-loop-out : goal.invariant-loop-out
invariant-loop-out l =
    (l.values ≡ map (operand_value l.self.publics l.self.secrets l.self.before) (take l.out-index l.out-items)) × All (λ (a : ℕ). a < size l.self.ssa.field) l.values
