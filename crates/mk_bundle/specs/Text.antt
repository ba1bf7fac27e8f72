-- The bundle texts of code and its certificate: version 1 of code over positions, version 2 of code over registers.
use Rattle.std.specs.Prelude.{ℕ, ◌+◌, ◌/◌, List, ◌++◌, length, flat_map, codes, decimal}
use Rattle.mk_field.specs.declared.field.FieldId.{FieldId}
use Rattle.mk_code.specs.Listing.{Listing}
use Rattle.mk_regs.specs.declared.instr.RegInstr.{RegInstr}
use Rattle.mk_regs.specs.Form.{RegListing, target, operation}
use Rattle.mk_rules.specs.Claimed.{Claimed}
use Rattle.mk_lines.specs.Words.{line}
use Rattle.mk_lines.specs.CertLines.{op_line, claim_line}
use Rattle.mk_lines.specs.CodeLines.{field_line, map_line, instr_line, into_line, out_lines}

-- ---- what both versions share

-- a number with its name
abbrev pub number_line : List ℕ → ℕ → List ℕ
number_line name number = line (name ++ codes " " ++ decimal number)

-- the first lines: the form's version, the field, the order and the numbers of inputs
abbrev pub first_lines : List ℕ → FieldId → ℕ → ℕ → ℕ → List ℕ
first_lines version field order secrets publics =
    line version
    ++ field_line field
    ++ number_line (codes "order") order
    ++ number_line (codes "secrets") secrets
    ++ number_line (codes "publics") publics

-- the lines of the outputs, each of which has one of these numbers for each share of a value
abbrev pub outputs_with : ℕ → List ℕ → List ℕ
outputs_with order outs = out_lines (order + 1) (length outs / (order + 1)) outs

-- the lines before that of the code: those up to the blocks, the blocks and the claims
abbrev pub claimed_text : List ℕ → Claimed → List ℕ
claimed_text front cert = front ++ flat_map op_line cert.blocks ++ flat_map claim_line cert.claims

-- a text: the lines up to the blocks, what is claimed, and then the lines of the instructions and of the outputs
abbrev pub text_with : List ℕ → Claimed → List ℕ → List ℕ → List ℕ
text_with front cert instrs outs = claimed_text front cert ++ line (codes "code") ++ instrs ++ outs ++ line (codes "end")

-- ---- code over positions

-- the first lines
abbrev pub head_lines : Listing → List ℕ
head_lines code = first_lines (codes "mask 1") code.field code.order code.secrets code.publics

-- the lines of the outputs, each of which has as many positions as a value has shares
abbrev pub outputs_text : Listing → List ℕ
outputs_text code = outputs_with code.order code.outs

-- the lines before that of the code: the head, the maps, the blocks and the claims
abbrev pub upper_text : Listing → Claimed → List ℕ
upper_text code cert = claimed_text (head_lines code ++ flat_map map_line code.maps) cert

-- the lines before the last one
abbrev pub lower_text : Listing → Claimed → List ℕ
lower_text code cert = upper_text code cert ++ line (codes "code") ++ flat_map instr_line code.instrs ++ outputs_text code

-- the text: what is computed and claimed, and then how
abbrev pub text : Listing → Claimed → List ℕ
text code cert = text_with (head_lines code ++ flat_map map_line code.maps) cert (flat_map instr_line code.instrs) (outputs_text code)

-- ---- code over registers

-- the line of an instruction: the register that it writes stands behind its word
abbrev pub register_line : RegInstr → List ℕ
register_line i = into_line (target i) (operation i)

-- the lines up to the blocks: the first lines, the maps and the number of registers
abbrev pub register_front : RegListing → List ℕ
register_front r =
    first_lines (codes "mask 2") r.field r.order r.secrets r.publics
    ++ flat_map map_line r.maps
    ++ number_line (codes "registers") r.registers

-- the text: that of code over positions, with registers in the lines of the instructions and of the outputs
abbrev pub register_text : RegListing → Claimed → List ℕ
register_text r cert = text_with (register_front r) cert (flat_map register_line r.instrs) (outputs_with r.order r.outs)
