-- What a certificate claims of a code.
use Rattle.std.specs.Prelude.{List}
use Rattle.mk_ssa.specs.declared.Op.{Op}
use Rattle.mk_ssa.specs.declared.Operand.{Operand}

-- the blocks that the code is made of, in order, and the value that each output shares
pub record Claimed : Type 0 where
  pub blocks : List Op
  pub claims : List Operand
