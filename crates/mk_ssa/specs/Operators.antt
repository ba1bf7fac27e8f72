-- Operators apart from their operands.
use Rattle.std.specs.Prelude.{ℕ, List, ◌++◌, codes}
use Rattle.mk_ssa.specs.declared.Operand.{Operand}
use Rattle.mk_ssa.specs.declared.Op.{Op}
use Rattle.mk_ssa.specs.declared.Op.TheVariants as op
use Rattle.mk_ssa.specs.Kinds.{shared_operands, public_operands}

-- the operators without operands: a constant has its element, and an image the number of its map
pub data Operator : Type 0 where
  Const : ℕ → Operator
  PubAdd : Operator
  PubMul : Operator
  PubSq : Operator
  PubMap : ℕ → Operator
  Lift : Operator
  Add : Operator
  AddPub : Operator
  Scale : Operator
  Sq : Operator
  Map : ℕ → Operator
  Mul : Operator
  Refresh : Operator

-- the operator of a value
abbrev pub operator : Op → Operator
operator (op.Const value) = Operator.Const value
operator (op.PubAdd left right) = Operator.PubAdd
operator (op.PubMul left right) = Operator.PubMul
operator (op.PubSq arg) = Operator.PubSq
operator (op.PubMap map arg) = Operator.PubMap map
operator (op.Lift arg) = Operator.Lift
operator (op.Add left right) = Operator.Add
operator (op.AddPub left right) = Operator.AddPub
operator (op.Scale left right) = Operator.Scale
operator (op.Sq arg) = Operator.Sq
operator (op.Map map arg) = Operator.Map map
operator (op.Mul left right) = Operator.Mul
operator (op.Refresh arg) = Operator.Refresh

-- the operands of a value, in order: where some are shared and some public, the shared ones stand first
abbrev pub operands : Op → List Operand
operands x = shared_operands x ++ public_operands x

-- an operator with other operands: shared ones by place, public ones, and the argument of a refresh
abbrev pub with_operands_by : (ℕ → Operand → Operand) → (Operand → Operand) → Op → Op
with_operands_by shared public (op.Const value) = op.Const value
with_operands_by shared public (op.PubAdd left right) = op.PubAdd (public left) (public right)
with_operands_by shared public (op.PubMul left right) = op.PubMul (public left) (public right)
with_operands_by shared public (op.PubSq arg) = op.PubSq (public arg)
with_operands_by shared public (op.PubMap map arg) = op.PubMap map (public arg)
with_operands_by shared public (op.Lift arg) = op.Lift (public arg)
with_operands_by shared public (op.Add left right) = op.Add (shared 0 left) (shared 1 right)
with_operands_by shared public (op.AddPub left right) = op.AddPub (shared 0 left) (public right)
with_operands_by shared public (op.Scale left right) = op.Scale (shared 0 left) (public right)
with_operands_by shared public (op.Sq arg) = op.Sq (shared 0 arg)
with_operands_by shared public (op.Map map arg) = op.Map map (shared 0 arg)
with_operands_by shared public (op.Mul left right) = op.Mul (shared 0 left) (shared 1 right)
with_operands_by shared public (op.Refresh arg) = op.Refresh (shared 0 arg)

-- an operator over other operands
abbrev pub with_operands : (Operand → Operand) → Op → Op
with_operands f op = with_operands_by (λ k v. f v) f op

-- the word that stands for an operator in texts
abbrev pub operator_word : Op → List ℕ
operator_word (op.Const value) = codes "const"
operator_word (op.PubAdd left right) = codes "padd"
operator_word (op.PubMul left right) = codes "pmul"
operator_word (op.PubSq arg) = codes "psq"
operator_word (op.PubMap map arg) = codes "pmap"
operator_word (op.Lift arg) = codes "lift"
operator_word (op.Add left right) = codes "add"
operator_word (op.AddPub left right) = codes "addp"
operator_word (op.Scale left right) = codes "scale"
operator_word (op.Sq arg) = codes "sq"
operator_word (op.Map map arg) = codes "map"
operator_word (op.Mul left right) = codes "mul"
operator_word (op.Refresh arg) = codes "refresh"
