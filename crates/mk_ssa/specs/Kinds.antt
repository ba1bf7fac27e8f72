-- The kinds of operators: what is public and what is shared, and among the shared what is linear and
-- what is strong.
use Rattle.std.specs.Prelude.{Bool, true, false, List, [], ◌∷◌}
use Rattle.mk_ssa.specs.declared.Operand.{Operand}
use Rattle.mk_ssa.specs.declared.Op.{Op}
use Rattle.mk_ssa.specs.declared.Op.TheVariants.{Const, PubAdd, PubMul, PubSq, PubMap, Lift, Add, AddPub, Scale, Sq, Map, Mul, Refresh}

-- how a block treats its shared operands: a linear one takes them share by share, and behind a strong
-- one as few shares are seen as are probed; a public block has none
pub data Kind : Type 0 where
  Public : Kind
  Linear : Kind
  Strong : Kind

-- the kind of an operator
abbrev pub kind : Op → Kind
kind (Const value) = Public
kind (PubAdd left right) = Public
kind (PubMul left right) = Public
kind (PubSq arg) = Public
kind (PubMap map arg) = Public
kind (Lift arg) = Linear
kind (Add left right) = Linear
kind (AddPub left right) = Linear
kind (Scale left right) = Linear
kind (Sq arg) = Linear
kind (Map map arg) = Linear
kind (Mul left right) = Strong
kind (Refresh arg) = Strong

-- whether the value of an operator is public
abbrev pub is_public : Op → Bool
is_public (Const value) = true
is_public (PubAdd left right) = true
is_public (PubMul left right) = true
is_public (PubSq arg) = true
is_public (PubMap map arg) = true
is_public (Lift arg) = false
is_public (Add left right) = false
is_public (AddPub left right) = false
is_public (Scale left right) = false
is_public (Sq arg) = false
is_public (Map map arg) = false
is_public (Mul left right) = false
is_public (Refresh arg) = false

-- the operands that are to be shared, by place
abbrev pub shared_operands : Op → List Operand
shared_operands (Const value) = []
shared_operands (PubAdd left right) = []
shared_operands (PubMul left right) = []
shared_operands (PubSq arg) = []
shared_operands (PubMap map arg) = []
shared_operands (Lift arg) = []
shared_operands (Add left right) = left ∷ right ∷ []
shared_operands (AddPub left right) = left ∷ []
shared_operands (Scale left right) = left ∷ []
shared_operands (Sq arg) = arg ∷ []
shared_operands (Map map arg) = arg ∷ []
shared_operands (Mul left right) = left ∷ right ∷ []
shared_operands (Refresh arg) = arg ∷ []

-- the operands that are to be public, by place
abbrev pub public_operands : Op → List Operand
public_operands (Const value) = []
public_operands (PubAdd left right) = left ∷ right ∷ []
public_operands (PubMul left right) = left ∷ right ∷ []
public_operands (PubSq arg) = arg ∷ []
public_operands (PubMap map arg) = arg ∷ []
public_operands (Lift arg) = arg ∷ []
public_operands (Add left right) = []
public_operands (AddPub left right) = right ∷ []
public_operands (Scale left right) = right ∷ []
public_operands (Sq arg) = []
public_operands (Map map arg) = []
public_operands (Mul left right) = []
public_operands (Refresh arg) = []
