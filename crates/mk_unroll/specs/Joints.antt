-- The operators that join two operands.
use Rattle.std.specs.Prelude.{Bool}
use Rattle.mk_ssa.specs.declared.Operand.{Operand}
use Rattle.mk_ssa.specs.declared.Op.{Op}
use Rattle.mk_unroll.specs.declared.operators.Joint.{Joint}
use Rattle.mk_unroll.specs.declared.operators.Joint.TheVariants as joint_
use Rattle.mk_unroll.specs.Unrolled.{sum_op, product_op}

-- a sum or a product, by whether each operand is shared
abbrev pub joint_op : Joint → Bool → Bool → Operand → Operand → Op
joint_op joint_.Sum = sum_op
joint_op joint_.Product = product_op
