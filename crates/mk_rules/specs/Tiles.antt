-- A code is made of its blocks: their templates, one after the other.
use Rattle.std.specs.Prelude.{◌≡◌, ℕ, ◌+◌, ◌*◌, List, [], ◌∷◌, ◌++◌, length, map, slice_index_or}
use Rattle.std.specs.List.{flat_map, range_with_len}
use Rattle.mk_code.specs.declared.instr.Instr.{Instr}
use Rattle.mk_code.specs.Listing.{Listing, inputs_len}
use Rattle.mk_ssa.specs.declared.Operand.{Operand}
use Rattle.mk_ssa.specs.declared.Operand.TheVariants.{Secret, Public, Block}
use Rattle.mk_ssa.specs.declared.Op.{Op}
use Rattle.mk_ssa.specs.Kinds.{shared_operands, public_operands}
use Rattle.mk_gadget.specs.Gadget.{Gadget, placed, placed_outs}
use Rattle.mk_gadget.specs.Template.{template}
use Rattle.mk_rules.specs.Shape.{Shape, shape_of}

-- the number of a value behind so many secrets and publics: first the secrets, then the publics, then the blocks
abbrev pub number_behind : ℕ → ℕ → Operand → ℕ
number_behind secrets publics (Secret k) = k
number_behind secrets publics (Public k) = secrets + k
number_behind secrets publics (Block k) = secrets + publics + k

-- its number over a shape
abbrev pub value_number : Shape → Operand → ℕ
value_number shape v = number_behind shape.secrets shape.publics v

-- the banks of the secrets and of the publics, by value number: the positions of their shares
abbrev pub input_banks : Shape → List (List ℕ)
input_banks shape =
    let n = shape.order + 1 in
    map (λ k. range_with_len (k * n) n) (range_with_len 0 shape.secrets)
    ++ map (λ k. (shape.secrets * n + k) ∷ []) (range_with_len 0 shape.publics)

-- the positions that an operator reads, among banks by value number
abbrev pub reads : Shape → List (List ℕ) → Op → List ℕ
reads shape banks op =
    flat_map (λ v. slice_index_or banks (value_number shape v) []) (shared_operands op ++ public_operands op)

-- the instructions of the blocks from the position `base` on, behind values with these banks
unfoldable pub laid : Shape → Gadget → Gadget → List (List ℕ) → ℕ → List Op → List Instr
laid shape product refresh banks base [] = []
laid shape product refresh banks base (op ∷ ops) =
    let gadget = template (shape.order + 1) product refresh op in
    let at = reads shape banks op in
    placed at base gadget
    ++ laid shape product refresh (banks ++ placed_outs at base gadget ∷ []) (base + length gadget.instrs) ops

-- the banks of all values, those of the blocks behind the banks that there are
unfoldable pub laid_banks : Shape → Gadget → Gadget → List (List ℕ) → ℕ → List Op → List (List ℕ)
laid_banks shape product refresh banks base [] = banks
laid_banks shape product refresh banks base (op ∷ ops) =
    let gadget = template (shape.order + 1) product refresh op in
    let at = reads shape banks op in
    laid_banks shape product refresh (banks ++ placed_outs at base gadget ∷ []) (base + length gadget.instrs) ops

-- the position of the first instruction
abbrev pub first_position : Shape → ℕ
first_position shape = inputs_len shape.order shape.secrets shape.publics

-- the code's instructions are the templates of the blocks, one after the other
abbrev pub Tiles : Listing → Gadget → Gadget → List Op → Type 0
Tiles code product refresh blocks =
    code.instrs ≡ laid (shape_of code) product refresh (input_banks (shape_of code)) (first_position (shape_of code)) blocks

-- the banks of all values of a code that is made of these blocks
abbrev pub banks_of : Shape → Gadget → Gadget → List Op → List (List ℕ)
banks_of shape product refresh blocks = laid_banks shape product refresh (input_banks shape) (first_position shape) blocks
