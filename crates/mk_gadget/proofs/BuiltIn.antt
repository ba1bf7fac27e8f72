-- The templates of strong operators are strong.
use Rattle.std.proofs.Common.{◌≡◌, ℕ, List, length}
use Rattle.mk_field.specs.declared.field.FieldId.{FieldId}
use Rattle.mk_field.specs.declared.map.AddMap.{AddMap}
use Rattle.mk_ssa.specs.declared.Op.{Op}
use Rattle.mk_ssa.specs.declared.Op.TheVariants.{Const, PubAdd, PubMul, PubSq, PubMap, Lift, Add, AddPub, Scale, Sq, Map, Mul, Refresh}
use Rattle.mk_ssa.specs.Kinds.{Strong, kind, shared_operands, public_operands}
use Rattle.mk_gadget.specs.Template.{built_in}
use Rattle.mk_gadget.specs.Steady.{IsStrong}
use Rattle.mk_gadget.proofs.RefreshStrong.{refresh-strong}
use Rattle.mk_gadget.proofs.ProductStrong.{product-strong}

-- the product and the refresh are the only strong operators
pub built_in-strong : (field : FieldId) (maps : List AddMap) (n : ℕ) (op : Op) → kind op ≡ Strong
    → IsStrong field maps n (length (shared_operands op)) (length (public_operands op)) (built_in n op)
built_in-strong field maps n (Const value) strong = absurd cc
built_in-strong field maps n (PubAdd left right) strong = absurd cc
built_in-strong field maps n (PubMul left right) strong = absurd cc
built_in-strong field maps n (PubSq arg) strong = absurd cc
built_in-strong field maps n (PubMap map arg) strong = absurd cc
built_in-strong field maps n (Lift arg) strong = absurd cc
built_in-strong field maps n (Add left right) strong = absurd cc
built_in-strong field maps n (AddPub left right) strong = absurd cc
built_in-strong field maps n (Scale left right) strong = absurd cc
built_in-strong field maps n (Sq arg) strong = absurd cc
built_in-strong field maps n (Map map arg) strong = absurd cc
built_in-strong field maps n (Mul left right) strong = product-strong field maps n
built_in-strong field maps n (Refresh arg) strong = refresh-strong field maps n
