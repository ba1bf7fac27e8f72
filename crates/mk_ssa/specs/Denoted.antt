-- What values stand for: an element for each, by the sums, products, squares and images of the field. A
-- lifted or refreshed value stays the same.
use Rattle.std.specs.Prelude.{ℕ, List, [], ◌∷◌, ◌++◌, map, bit_xor, slice_index}
use Rattle.mk_field.specs.declared.field.FieldId.{FieldId}
use Rattle.mk_field.specs.declared.map.AddMap.{AddMap}
use Rattle.mk_field.specs.Field.{product, square, image_by}
use Rattle.mk_ssa.specs.declared.Operand.{Operand}
use Rattle.mk_ssa.specs.declared.Operand.TheVariants.{Secret, Public, Block}
use Rattle.mk_ssa.specs.declared.Op.{Op}
use Rattle.mk_ssa.specs.declared.Op.TheVariants.{Const, PubAdd, PubMul, PubSq, PubMap, Lift, Add, AddPub, Scale, Sq, Map, Mul, Refresh}
use Rattle.mk_ssa.specs.Values.{Values}

-- what an operand stands for, `before` being what the values so far stand for
abbrev pub operand_value : List ℕ → List ℕ → List ℕ → Operand → ℕ
operand_value publics secrets before (Secret k) = slice_index secrets k
operand_value publics secrets before (Public k) = slice_index publics k
operand_value publics secrets before (Block k) = slice_index before k

-- what an operator stands for, `of` giving what its operands stand for
abbrev pub value_by : FieldId → List AddMap → (Operand → ℕ) → Op → ℕ
value_by field maps of (Const value) = value
value_by field maps of (PubAdd left right) = bit_xor (of left) (of right)
value_by field maps of (PubMul left right) = product field (of left) (of right)
value_by field maps of (PubSq arg) = square field (of arg)
value_by field maps of (PubMap map arg) = image_by maps map (of arg)
value_by field maps of (Lift arg) = of arg
value_by field maps of (Add left right) = bit_xor (of left) (of right)
value_by field maps of (AddPub left right) = bit_xor (of left) (of right)
value_by field maps of (Scale left right) = product field (of left) (of right)
value_by field maps of (Sq arg) = square field (of arg)
value_by field maps of (Map map arg) = image_by maps map (of arg)
value_by field maps of (Mul left right) = product field (of left) (of right)
value_by field maps of (Refresh arg) = of arg

-- what an operator stands for behind values that stand for `before`
abbrev pub value_of : FieldId → List AddMap → List ℕ → List ℕ → List ℕ → Op → ℕ
value_of field maps publics secrets before op = value_by field maps (operand_value publics secrets before) op

-- something for each value in order, made from what there is for those before it
unfoldable pub in_order : {X : Type 0} → (List X → Op → X) → List X → List Op → List X
in_order next before [] = before
in_order next before (op ∷ ops) = in_order next (before ++ next before op ∷ []) ops

-- what the values stand for, in order
abbrev pub values_of : FieldId → List AddMap → List ℕ → List ℕ → List Op → List ℕ
values_of field maps publics secrets ops = in_order (value_of field maps publics secrets) [] ops

-- what the outputs stand for, over these public inputs and secrets
abbrev pub denoted : Values → List ℕ → List ℕ → List ℕ
denoted s publics secrets = map (operand_value publics secrets (values_of s.field s.maps publics secrets s.values)) s.outs
