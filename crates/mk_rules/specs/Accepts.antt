-- The checker's rule: which certificates a code meets.
use Rattle.std.specs.Prelude.{◌≡◌, ℕ, ◌+◌, List, [], All, slice_index_or}
use Rattle.std.specs.List.{flat_map}
use Rattle.mk_code.specs.Listing.{Listing}
use Rattle.mk_ssa.specs.declared.Op.{Op}
use Rattle.mk_ssa.specs.declared.Operand.{Operand}
use Rattle.mk_rules.specs.Shape.{shape_of}
use Rattle.mk_rules.specs.Claimed.{Claimed}
use Rattle.mk_gadget.specs.Gadget.{Gadget}
use Rattle.mk_gadget.specs.Product.{product_gadget}
use Rattle.mk_gadget.specs.Refresh.{refresh_gadget}
use Rattle.mk_rules.specs.Tiles.{Tiles, banks_of, value_number}
use Rattle.mk_rules.specs.Wired.{Wired, IsSharedThere}
use Rattle.mk_rules.specs.Reaches.{Undoubled, links}

-- the outs are the claims' banks, those of the values being given; and each claim is a shared value that is there
pub record AreOutputs (code : Listing) (banks : List (List ℕ)) (blocks : List Op) (claims : List Operand) : Type 0 where
  pub there : All (IsSharedThere (shape_of code) blocks) claims
  pub outs : code.outs ≡ flat_map (λ v. slice_index_or banks (value_number (shape_of code) v) []) claims

-- so they are with the banks of a code that is made of the blocks
abbrev pub Outputs : Listing → Gadget → Gadget → List Op → List Operand → Type 0
Outputs code product refresh blocks claims = AreOutputs code (banks_of (shape_of code) product refresh blocks) blocks claims

-- the rule, with the gadgets of the product and of the refresh: operands are there and of their kind,
-- the instructions are the templates, the outs are the claimed values, and no value is doubled
pub record Accepts (code : Listing) (product refresh : Gadget) (cert : Claimed) : Type 0 where
  pub wired : Wired (shape_of code) cert.blocks
  pub tiles : Tiles code product refresh cert.blocks
  pub outputs : Outputs code product refresh cert.blocks cert.claims
  pub undoubled : Undoubled (code.secrets + code.publics) (links (shape_of code) cert.blocks)

-- the rule, with the product and the refresh that emitters append
abbrev pub IsAccepted : Listing → Claimed → Type 0
IsAccepted code cert = Accepts code (product_gadget (code.order + 1)) (refresh_gadget (code.order + 1)) cert
