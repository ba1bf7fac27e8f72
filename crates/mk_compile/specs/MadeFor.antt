-- That a code is made for a program, by a certificate.
use Rattle.std.specs.Prelude.{◌≡◌, ℕ, ◌+◌, List, length, map}
use Rattle.mk_code.specs.Listing.{Listing, HasElementImages}
use Rattle.mk_ast.specs.declared.tree.Program.{Program}
use Rattle.mk_ssa.specs.Denoted.{denoted}
use Rattle.mk_unroll.specs.Unrolled.{unrolled}
use Rattle.mk_gadget.specs.Product.{product_gadget}
use Rattle.mk_gadget.specs.Refresh.{refresh_gadget}
use Rattle.mk_rules.specs.Shape.{shape_of}
use Rattle.mk_rules.specs.Claimed.{Claimed}
use Rattle.mk_rules.specs.Tiles.{Tiles}
use Rattle.mk_rules.specs.Wired.{Wired}
use Rattle.mk_rules.specs.Accepts.{Outputs}
use Rattle.mk_compile.specs.RightValues.{stands_for}
use Rattle.mk_types.specs.Elements.{secrets_of, publics_of, outputs_of}

-- The code has the program's field and numbers of inputs and this order, and it is made of the blocks and
-- claims of a certificate, by the templates that are emitted; as many values are claimed as the program has
-- outputs, and they stand for what the program is unrolled to.
pub record IsMadeFor (p : Program) (order : ℕ) (code : Listing) (cert : Claimed) : Type 0 where
  pub field : code.field ≡ p.field
  pub same_order : code.order ≡ order
  pub secrets : code.secrets ≡ secrets_of p
  pub publics : code.publics ≡ publics_of p
  pub images : HasElementImages code
  pub wired : Wired (shape_of code) cert.blocks
  pub tiles : Tiles code (product_gadget (code.order + 1)) (refresh_gadget (code.order + 1)) cert.blocks
  pub outputs : Outputs code (product_gadget (code.order + 1)) (refresh_gadget (code.order + 1)) cert.blocks cert.claims
  pub count : length cert.claims ≡ outputs_of p
  pub meaning : (publics secrets : List ℕ)
      → map (stands_for (shape_of code) cert.blocks publics secrets) cert.claims ≡ denoted (unrolled p) publics secrets
