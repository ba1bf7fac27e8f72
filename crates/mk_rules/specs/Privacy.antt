-- What acceptance means: the code is private, whatever gadgets stand for the product and the refresh, if
-- those that are used are strong.
use Rattle.std.specs.Prelude.{◌≡◌, ℕ, ◌+◌, ◌*◌, List, length, Contains}
use Rattle.mk_field.specs.declared.field.FieldId.{FieldId}
use Rattle.mk_field.specs.declared.map.AddMap.{AddMap}
use Rattle.mk_code.specs.Listing.{Listing, AllFit, HasElementImages}
use Rattle.mk_code.specs.Counting.{AllBelow}
use Rattle.mk_code.specs.Private.{Private}
use Rattle.mk_ssa.specs.declared.Op.{Op}
use Rattle.mk_ssa.specs.declared.Op.TheVariants.{Mul, Refresh}
use Rattle.mk_ssa.specs.declared.Operand.{Operand}
use Rattle.mk_gadget.specs.Gadget.{Gadget}
use Rattle.mk_gadget.specs.Steady.{IsStrong}
use Rattle.mk_rules.specs.Shape.{Shape, shape_of}
use Rattle.mk_rules.specs.Claimed.{Claimed}
use Rattle.mk_rules.specs.Accepts.{Accepts}

-- a gadget that may stand for a strong operator, with n shares and m shared operands: it is strong, its
-- instructions fit behind the operands' shares, and its out bank has n positions, each of them there
pub record IsTemplate (field : FieldId) (maps : List AddMap) (n m : ℕ) (gadget : Gadget) : Type 0 where
  pub strong : IsStrong field maps n m 0 gadget
  pub fit : AllFit field (length maps) (n * m) gadget.instrs
  pub count : length gadget.outs ≡ n
  pub within : AllBelow (n * m + length gadget.instrs) gadget.outs

-- the gadgets of the product and of the refresh are such, if the blocks use them
pub record HaveTemplates (shape : Shape) (product refresh : Gadget) (blocks : List Op) : Type 0 where
  pub of_product : (left right : Operand) → Contains blocks (Mul left right)
      → IsTemplate shape.field shape.maps (shape.order + 1) 2 product
  pub of_refresh : (arg : Operand) → Contains blocks (Refresh arg)
      → IsTemplate shape.field shape.maps (shape.order + 1) 1 refresh

-- what the rule accepts is private
abbrev pub AcceptedIsPrivate : Listing → Gadget → Gadget → Claimed → Type 0
AcceptedIsPrivate code product refresh cert =
    HasElementImages code → HaveTemplates (shape_of code) product refresh cert.blocks → Accepts code product refresh cert → Private code
