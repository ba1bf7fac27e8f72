-- A user's gadget, and what form it has.
use Rattle.std.specs.Prelude.{◌≡◌, ℕ, ◌+◌, ◌*◌, ◌≤◌, ◌<◌, List, length, nat_eq}
use Rattle.std.specs.List.{AllByRecursion, IsDistinct}
use Rattle.mk_field.specs.declared.field.FieldId.{FieldId}
use Rattle.mk_code.specs.declared.instr.Instr.{Instr}
use Rattle.mk_code.specs.Listing.{AllFit}
use Rattle.mk_pad.specs.declared.kind.GadgetKind.{GadgetKind}
use Rattle.mk_pad.specs.declared.kind.GadgetKind.TheVariants.{Mul, Refresh}
use Rattle.mk_pad.specs.declared.TheConstants.{TOP_GADGET_ORDER, MOST_GADGET_INSTRS}

-- a gadget: what it stands for, its field, its order, its instructions, and the positions of its outs
pub record GadgetForm : Type 0 where
  pub kind : GadgetKind
  pub field : FieldId
  pub order : ℕ
  pub instrs : List Instr
  pub outs : List ℕ

-- how many shared operands there are
abbrev pub operands : GadgetKind → ℕ
operands Mul = 2
operands Refresh = 1

-- how many positions stand before the first instruction: those of the operands' shares, operand by operand
abbrev pub share_count : GadgetForm → ℕ
share_count g = operands g.kind * (g.order + 1)

-- how many positions there are
abbrev pub position_count : GadgetForm → ℕ
position_count g = share_count g + length g.instrs

-- outs of a gadget of this order whose instructions have the positions from `first` up to `end`: different such
-- positions, one for each share
pub record AreOuts (order first end : ℕ) (outs : List ℕ) : Type 0 where
  pub count : length outs ≡ order + 1
  pub within : AllByRecursion (λ p. (first ≤ p) × (p < end)) outs
  pub different : IsDistinct nat_eq outs

-- the instructions read earlier positions and elements of the field, and none is an additive map
pub record IsGadget (g : GadgetForm) : Type 0 where
  pub order : (1 ≤ g.order) × (g.order ≤ TOP_GADGET_ORDER)
  pub few : length g.instrs ≤ MOST_GADGET_INSTRS
  pub fit : AllFit g.field 0 (share_count g) g.instrs
  pub outs : AreOuts g.order (share_count g) (position_count g) g.outs
