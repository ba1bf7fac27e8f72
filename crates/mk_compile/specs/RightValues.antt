-- Code that is made of blocks computes on shares what the blocks stand for.
use Rattle.std.specs.Prelude.{◌≡◌, ℕ, ◌+◌, ◌*◌, ◌⊎◌, List, [], length, map, slice_index_or}
use Rattle.mk_field.specs.Field.{size}
use Rattle.mk_field.specs.Sharing.{decoded}
use Rattle.mk_code.specs.Listing.{Listing, HasElementImages}
use Rattle.mk_code.specs.Trace.{trace, randoms}
use Rattle.mk_code.specs.Counting.{Elements}
use Rattle.mk_code.specs.Private.{observation}
use Rattle.mk_ssa.specs.declared.Op.{Op}
use Rattle.mk_ssa.specs.declared.Operand.{Operand}
use Rattle.mk_ssa.specs.Denoted.{operand_value, values_of}
use Rattle.mk_gadget.specs.Emitted.{shared_at}
use Rattle.mk_gadget.specs.Product.{product_gadget}
use Rattle.mk_gadget.specs.Refresh.{refresh_gadget}
use Rattle.mk_rules.specs.Shape.{Shape, shape_of}
use Rattle.mk_rules.specs.Claimed.{Claimed}
use Rattle.mk_rules.specs.Tiles.{Tiles, banks_of, value_number}
use Rattle.mk_rules.specs.Wired.{IsSharedThere, IsPublicThere, Wired}
use Rattle.mk_rules.specs.Accepts.{Outputs}

-- the banks of the inputs and of these blocks, by value number
abbrev pub built_banks : Shape → List Op → List (List ℕ)
built_banks shape blocks = banks_of shape (product_gadget (shape.order + 1)) (refresh_gadget (shape.order + 1)) blocks

-- what an operand stands for over these publics and secrets, among the values of the blocks
abbrev pub stands_for : Shape → List Op → List ℕ → List ℕ → Operand → ℕ
stands_for shape blocks publics secrets v = operand_value publics secrets (values_of shape.field shape.maps publics secrets blocks) v

-- for all publics, all shares of the secrets, whether or not they come from an encoding, and all tapes the
-- entries at the positions of each value have what it stands for as sum, each secret being the sum of its shares
abbrev pub ComputesValues : Listing → List Op → Type 0
ComputesValues code blocks =
    (publics shares tape : List ℕ)
    → Elements (size code.field) code.publics publics
    → Elements (size code.field) (code.secrets * (code.order + 1)) shares
    → Elements (size code.field) (randoms code.instrs) tape
    → (v : Operand) → IsSharedThere (shape_of code) blocks v ⊎ IsPublicThere (shape_of code) blocks v
    → shared_at (slice_index_or (built_banks (shape_of code) blocks) (value_number (shape_of code) v) []) (trace code publics shares tape)
    ≡ stands_for (shape_of code) blocks publics (decoded (code.order + 1) code.secrets shares) v

-- and so the shares of the outputs have what the claims stand for as sums
abbrev pub ComputesClaims : Listing → Claimed → Type 0
ComputesClaims code cert =
    (publics shares tape : List ℕ)
    → Elements (size code.field) code.publics publics
    → Elements (size code.field) (code.secrets * (code.order + 1)) shares
    → Elements (size code.field) (randoms code.instrs) tape
    → decoded (code.order + 1) (length cert.claims) (observation code.outs (trace code publics shares tape))
    ≡ map (stands_for (shape_of code) cert.blocks publics (decoded (code.order + 1) code.secrets shares)) cert.claims

-- where a code is made of wired blocks by the templates that are emitted, its values are right; and where its
-- outputs are the claims, these are
abbrev pub RightValues : Listing → Claimed → Type 0
RightValues code cert =
    HasElementImages code → Wired (shape_of code) cert.blocks
    → Tiles code (product_gadget (code.order + 1)) (refresh_gadget (code.order + 1)) cert.blocks
    → ComputesValues code cert.blocks
    × (Outputs code (product_gadget (code.order + 1)) (refresh_gadget (code.order + 1)) cert.blocks cert.claims → ComputesClaims code cert)
