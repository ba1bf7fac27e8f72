-- What the parts so far give, and what is counted of them.
use Rattle.std.proofs.Common.{◌≡◌, ◌++◌, ◌∷◌, [], take, flat_map}
use Rattle.mk_types.specs.Units.{Operation, expr_units}
use Rattle.mk_unroll.specs.Counted.{counted}
use Rattle.mk_unroll.specs.Joints.{joint_op}
use Rattle.mk_unroll.specs.Joining.{joined_on}
use Rattle.mk_unroll.specs.Kept.{Gives}
use Rattle.mk_unroll.specs.Unrolled.{expr_given}
use Rattle.mk_unroll.proofs.expressions.+expr.Given as goal

abbrev pub invariant-join_parts-loop-part : goal.invariant-join_parts-loop-part
invariant-join_parts-loop-part l = record {
  given : Gives l.initial.values
      (joined_on (joint_op l.joint) (expr_given l.frame.names l.frame.turns l.frame.variables) (record { operand = l.initial.so_far; values = l.initial.values.values })
      (take l.part-index l.rest)) l.values l.so_far;
  meter : l.meter ≡ counted l.initial.meter (flat_map (λ part. expr_units l.frame.names l.frame.turns part ++ Operation ∷ []) (take l.part-index l.rest));
}
