-- Values as trees: the tree of a value is its operator over the trees of its operands, down to the inputs.
use Rattle.std.specs.Prelude.{List, [], ◌∷◌, ◌++◌, map, slice_index_or}
use Rattle.mk_ssa.specs.declared.Operand.{Operand}
use Rattle.mk_ssa.specs.declared.Operand.TheVariants.{Secret, Public, Block}
use Rattle.mk_ssa.specs.declared.Op.{Op}
use Rattle.mk_ssa.specs.Operators.{Operator, operator, operands}
use Rattle.mk_ssa.specs.Denoted.{in_order}

-- an input, or an operator over none, one or two trees
pub data Tree : Type 0 where
  Input : Operand → Tree
  Leaf : Operator → Tree
  Unary : Operator → Tree → Tree
  Binary : Operator → Tree → Tree → Tree

-- an operator over these trees; none has more than two operands
abbrev pub over : Operator → List Tree → Tree
over o [] = Leaf o
over o (a ∷ []) = Unary o a
over o (a ∷ b ∷ more) = Binary o a b

-- the tree of a value, `of` giving those of its operands
abbrev pub tree_by : (Operand → Tree) → Op → Tree
tree_by of x = over (operator x) (map of (operands x))

-- the tree of an operand, `before` being those of the values so far
abbrev pub operand_tree : List Tree → Operand → Tree
operand_tree before (Secret k) = Input (Secret k)
operand_tree before (Public k) = Input (Public k)
operand_tree before (Block k) = slice_index_or before k (Input (Block k))

-- the tree of a value behind these
abbrev pub next_tree : List Tree → Op → Tree
next_tree before x = tree_by (operand_tree before) x

-- the trees of the values, in order
abbrev pub trees : List Op → List Tree
trees ops = in_order next_tree [] ops

-- the tree of an operand of which these are the values
abbrev pub tree_of : List Op → Operand → Tree
tree_of ops v = operand_tree (trees ops) v

-- a tree and all that it is made of
unfoldable pub parts : Tree → List Tree
parts (Input v) = Input v ∷ []
parts (Leaf o) = Leaf o ∷ []
parts (Unary o a) = Unary o a ∷ parts a
parts (Binary o a b) = Binary o a b ∷ parts a ++ parts b
