-- The gadgets that templates are made of.
use Rattle.std.specs.Prelude.{ℕ}
use Rattle.mk_ssa.specs.declared.Op.{Op}
use Rattle.mk_gadget.specs.Gadget.{Gadget}
use Rattle.mk_gadget.specs.Product.{product_gadget}
use Rattle.mk_gadget.specs.Refresh.{refresh_gadget}
use Rattle.mk_gadget.specs.Template.{template}

-- a number of shares, and gadgets that stand for the product and for the refresh
pub record Gadgets : Type 0 where
  pub shares : ℕ
  pub product : Gadget
  pub refresh : Gadget

-- the template of an operator by them
abbrev pub template_of : Gadgets → Op → Gadget
template_of gadgets op = template gadgets.shares gadgets.product gadgets.refresh op

-- the product and the refresh that emitters append, with n shares
abbrev pub built_in_gadgets : ℕ → Gadgets
built_in_gadgets n = record { shares = n; product = product_gadget n; refresh = refresh_gadget n }
