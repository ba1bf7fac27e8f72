-- Why the checker refuses a code with its certificate.
use Rattle.std.specs.Prelude.{◌+◌}
use Rattle.mk_code.specs.Listing.{Listing}
use Rattle.mk_gadget.specs.Gadget.{Gadget}
use Rattle.mk_gadget.specs.Product.{product_gadget}
use Rattle.mk_gadget.specs.Refresh.{refresh_gadget}
use Rattle.mk_rules.specs.Shape.{shape_of}
use Rattle.mk_rules.specs.Claimed.{Claimed}
use Rattle.mk_rules.specs.Accepts.{Outputs}
use Rattle.mk_rules.specs.Tiles.{Tiles, banks_of}
use Rattle.mk_rules.specs.Wired.{Wired}
use Rattle.mk_rules.specs.Faults.{FirstUnwired, FirstOffTile, FirstWrongOutput, FirstDoubled}
use Rattle.mk_check.specs.declared.refusal.CheckRefusal.{CheckRefusal}
use Rattle.mk_check.specs.declared.refusal.CheckRefusal.TheVariants.{Operand, Tile, Output, Doubled, Memory}

-- the cause of a refusal, with the gadgets of the product and of the refresh: the first part of the rule that
-- fails, of operands, tiles, outputs and doubled values in this order, with the first place where it does
abbrev pub Refuses : Listing → Gadget → Gadget → Claimed → CheckRefusal → Type 0
Refuses code product refresh cert (Operand k) = FirstUnwired (shape_of code) cert.blocks k
Refuses code product refresh cert (Tile k) =
    Wired (shape_of code) cert.blocks × FirstOffTile code product refresh cert.blocks k
Refuses code product refresh cert (Output k) =
    Wired (shape_of code) cert.blocks
    × Tiles code product refresh cert.blocks
    × FirstWrongOutput code (banks_of (shape_of code) product refresh cert.blocks) cert.blocks cert.claims k
Refuses code product refresh cert (Doubled value block) =
    Wired (shape_of code) cert.blocks
    × Tiles code product refresh cert.blocks
    × Outputs code product refresh cert.blocks cert.claims
    × FirstDoubled (shape_of code) cert.blocks value block
Refuses code product refresh cert Memory = ⊥

-- the cause, with the product and the refresh that emitters append
abbrev pub IsRefused : Listing → Claimed → CheckRefusal → Type 0
IsRefused code cert e = Refuses code (product_gadget (code.order + 1)) (refresh_gadget (code.order + 1)) cert e
