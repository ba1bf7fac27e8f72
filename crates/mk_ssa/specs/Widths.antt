-- Operands and operators whose numbers have 32 bits.
use Rattle.std.specs.Prelude.{◌<◌, ◌^◌}
use Rattle.mk_ssa.specs.declared.Operand.{Operand}
use Rattle.mk_ssa.specs.declared.Operand.TheVariants.{Secret, Public, Block}
use Rattle.mk_ssa.specs.declared.Op.{Op}
use Rattle.mk_ssa.specs.declared.Op.TheVariants.{Const, PubAdd, PubMul, PubSq, PubMap, Lift, Add, AddPub, Scale, Sq, Map, Mul, Refresh}

-- the number of an operand has 32 bits, whatever it stands for
abbrev pub OperandFits : Operand → Type 0
OperandFits (Secret number) = number < 2 ^ 32
OperandFits (Public number) = number < 2 ^ 32
OperandFits (Block number) = number < 2 ^ 32

-- the number of each operand has 32 bits, that of a map too, and a constant is a byte
abbrev pub OpFits : Op → Type 0
OpFits (Const value) = value < 256
OpFits (PubAdd left right) = OperandFits left × OperandFits right
OpFits (PubMul left right) = OperandFits left × OperandFits right
OpFits (PubSq arg) = OperandFits arg
OpFits (PubMap map arg) = (map < 2 ^ 32) × OperandFits arg
OpFits (Lift arg) = OperandFits arg
OpFits (Add left right) = OperandFits left × OperandFits right
OpFits (AddPub left right) = OperandFits left × OperandFits right
OpFits (Scale left right) = OperandFits left × OperandFits right
OpFits (Sq arg) = OperandFits arg
OpFits (Map map arg) = (map < 2 ^ 32) × OperandFits arg
OpFits (Mul left right) = OperandFits left × OperandFits right
OpFits (Refresh arg) = OperandFits arg
