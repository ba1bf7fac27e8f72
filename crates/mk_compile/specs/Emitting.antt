-- The code that a certificate stands for: for the contracts inside the crate, none of the public ones cites it.
use Rattle.std.specs.Prelude.{ℕ, ◌+◌, List, [], length, sum_by, slice_index_or}
use Rattle.std.specs.List.{flat_map}
use Rattle.mk_field.specs.declared.field.FieldId.{FieldId}
use Rattle.mk_field.specs.declared.map.AddMap.{AddMap}
use Rattle.mk_code.specs.declared.instr.Instr.{Instr}
use Rattle.mk_code.specs.Draft.{Draft}
use Rattle.mk_code.specs.Listing.{Listing}
use Rattle.mk_ssa.specs.declared.Op.{Op}
use Rattle.mk_ssa.specs.declared.Operand.{Operand}
use Rattle.mk_gadget.specs.Product.{product_gadget}
use Rattle.mk_gadget.specs.Refresh.{refresh_gadget}
use Rattle.mk_gadget.specs.Template.{built_in}
use Rattle.mk_rules.specs.Shape.{Shape}
use Rattle.mk_rules.specs.Claimed.{Claimed}
use Rattle.mk_rules.specs.Tiles.{laid, input_banks, first_position, value_number}
use Rattle.mk_compile.specs.RightValues.{built_banks}

-- the shape with these parts
abbrev pub shape_from : FieldId → ℕ → ℕ → ℕ → List AddMap → Shape
shape_from field order secrets publics maps = record { field = field; order = order; secrets = secrets; publics = publics; maps = maps }

-- that of a code in the making
abbrev pub draft_shape : FieldId → Draft → Shape
draft_shape field d = shape_from field d.order d.secrets d.publics d.maps

-- the instructions of blocks over a shape: their templates, one after the other
abbrev pub instrs_of : Shape → List Op → List Instr
instrs_of shape blocks =
    laid shape (product_gadget (shape.order + 1)) (refresh_gadget (shape.order + 1)) (input_banks shape) (first_position shape) blocks

-- the positions of the shares of these values, value by value
abbrev pub outs_of : Shape → List Op → List Operand → List ℕ
outs_of shape blocks claims = flat_map (λ v. slice_index_or (built_banks shape blocks) (value_number shape v) []) claims

-- the code of this shape with these instructions and outs
abbrev pub filled : Shape → List Instr → List ℕ → Listing
filled shape instrs outs = record {
  field = shape.field;
  order = shape.order;
  secrets = shape.secrets;
  publics = shape.publics;
  maps = shape.maps;
  instrs = instrs;
  outs = outs;
}

-- the code of this shape that the certificate stands for: the templates of its blocks, and as outs the banks
-- of its claims
abbrev pub code_of : Shape → Claimed → Listing
code_of shape cert = filled shape (instrs_of shape cert.blocks) (outs_of shape cert.blocks cert.claims)

-- how many instructions blocks have with n shares
abbrev pub blocks_len : ℕ → List Op → ℕ
blocks_len n blocks = sum_by (λ op. length (built_in n op).instrs) blocks
