-- The outputs so far.
use Rattle.std.proofs.Common.{◌≡◌, take}
use Rattle.mk_types.specs.Environment.{output_elements}
use Rattle.mk_unroll.proofs.outputs.outputs.Given as goal

abbrev pub invariant-loop-number : goal.invariant-loop-number
invariant-loop-number l = l.outs ≡ output_elements (take l.number l.decls) (take l.number l.variables)
