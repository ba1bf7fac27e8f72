-- The operands so far.
use Rattle.std.proofs.Common.{◌≡◌, map}
use Rattle.std.specs.List.{range_with_len}
use Rattle.mk_unroll.specs.Beginning.{first_operand}
use Rattle.mk_unroll.proofs.beginning.first_operands.Given as goal

abbrev pub invariant-loop-k : goal.invariant-loop-k
invariant-loop-k l = l.operands.items ≡ map (first_operand l.class l.inputs.secrets l.inputs.publics) (range_with_len 0 l.k)
