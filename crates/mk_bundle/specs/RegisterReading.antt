-- Reading a bundle text of version 2 line by line, up to the register code and the certificate that it is the text of.
use Rattle.std.specs.Prelude.{ℕ, ◌+◌, ◌*◌, ◌^◌, Bool, true, ◌&&◌, List, [], ◌∷◌, ◌++◌, length, Option, Some, None, nat_lt, bytes_eq, codes, if◌then◌else◌}
use Rattle.mk_base.specs.declared.TheConstants.{TOP_ORDER}
use Rattle.mk_field.specs.declared.field.FieldId.{FieldId}
use Rattle.mk_field.specs.Field.{size}
use Rattle.mk_code.specs.declared.instr.Instr.{Instr}
use Rattle.mk_code.specs.declared.instr.Instr.TheVariants.{Rnd, Const, Copy, Add, Mul, Sq, Map}
use Rattle.mk_code.specs.Listing.{inputs_len}
use Rattle.mk_code.specs.declared.TheConstants.{MOST_INPUTS, MOST_INSTRS}
use Rattle.mk_regs.specs.declared.TheConstants.{MOST_REGISTERS}
use Rattle.mk_regs.specs.declared.instr.RegInstr.{RegInstr}
use Rattle.mk_regs.specs.Form.{into_register}
use Rattle.mk_bundle.specs.declared.draft.Stage.{Stage}
use Rattle.mk_bundle.specs.declared.draft.Stage.TheVariants.{Version, Field, Order, Secrets, Publics, Upper, Lower, Ended}
use Rattle.mk_lines.specs.Parsing.{◌>>=◌, after, into_of, behind, positions_of}
use Rattle.mk_bundle.specs.Reading.{State, start, headed, field_read, order_read, secrets_read, publics_read, map_read, block_read, claim_read, code_read}

-- what was read so far: what both versions have, the number of registers where it came, and the instructions and the
-- registers of the outputs. The code of what both have gets no instruction and no output
pub record RegisterState : Type 0 where
  pub shared : State
  pub registers : Option ℕ
  pub instrs : List RegInstr
  pub outs : List ℕ

-- where reading starts
abbrev pub register_start : RegisterState
register_start = record { shared = start; registers = None; instrs = []; outs = [] }

-- what both versions have was read one line further
abbrev pub share : RegisterState → Option State → Option RegisterState
share st read = read >>= λ shared. Some (record st { shared = shared })

-- the line of the form's version
unfoldable pub register_version_line : RegisterState → List ℕ → Option RegisterState
register_version_line st line = if bytes_eq line (codes "mask 2") then Some (record st { shared = record st.shared { stage = Field } }) else None

-- the line of the number of registers, of which there is one for each share and public input
unfoldable pub registers_read : RegisterState → List ℕ → Option RegisterState
registers_read st line = do
  n ← headed (codes "registers ") MOST_REGISTERS line
  if nat_lt n (inputs_len st.shared.code.order st.shared.code.secrets st.shared.code.publics) then None else Some (record st { registers = Some n })

-- a line between the head and the code: maps and the number of registers, and behind that number blocks, claims and the
-- code's beginning
unfoldable pub register_upper_read : Option ℕ → RegisterState → List ℕ → Option RegisterState
register_upper_read None st line = behind (after (codes "map ") line) (λ words. share st (map_read st.shared words)) (registers_read st line)
register_upper_read (Some n) st line =
    behind (after (codes "block ") line) (λ words. share st (block_read st.shared words)) (
    behind (after (codes "claim ") line) (λ words. share st (claim_read st.shared words)) (share st (code_read st.shared line)))

-- what the instruction names beside registers is there: its constant is an element, and its map is one of so many
unfoldable pub has_parts : FieldId → ℕ → Instr → Bool
has_parts field maps Rnd = true
has_parts field maps (Const value) = nat_lt value (size field)
has_parts field maps (Copy from) = true
has_parts field maps (Add left right) = true
has_parts field maps (Mul left right) = true
has_parts field maps (Sq from) = true
has_parts field maps (Map map from) = nat_lt map maps

-- an instruction may stand here: before outputs
unfoldable pub may_register_instr : RegisterState → Instr → Bool
may_register_instr st i = nat_lt (length st.outs) 1 && nat_lt (length st.instrs) MOST_INSTRS && has_parts st.shared.code.field (length st.shared.code.maps) i

-- one instruction more
unfoldable pub register_instr_read : RegisterState → List ℕ → Option RegisterState
register_instr_read st line = do
  i ← into_of line
  if may_register_instr st i.1 then Some (record st { instrs = st.instrs ++ into_register i.0 i.1 ∷ [] }) else None

-- the registers of one output more, by what stands behind `out`
unfoldable pub register_out_read : RegisterState → List ℕ → Option RegisterState
register_out_read st words =
    if nat_lt (length st.outs) (MOST_INPUTS * (st.shared.code.order + 1))
    then (positions_of (st.shared.code.order + 1) (2 ^ 32) words >>= λ registers. Some (record st { outs = st.outs ++ registers }))
    else None

-- a line of the code: an output, the end or an instruction
unfoldable pub register_lower_read : RegisterState → List ℕ → Option RegisterState
register_lower_read st line =
    behind (after (codes "out") line) (register_out_read st) (
    if bytes_eq line (codes "end") then Some (record st { shared = record st.shared { stage = Ended } }) else register_instr_read st line)

-- one line more, in which the order may be any
unfoldable pub register_read_at : Stage → RegisterState → List ℕ → Option RegisterState
register_read_at Version st line = register_version_line st line
register_read_at Field st line = share st (field_read st.shared line)
register_read_at Order st line = share st (order_read TOP_ORDER st.shared line)
register_read_at Secrets st line = share st (secrets_read st.shared line)
register_read_at Publics st line = share st (publics_read st.shared line)
register_read_at Upper st line = register_upper_read st.registers st line
register_read_at Lower st line = register_lower_read st line
register_read_at Ended st line = None

-- one line more, by the stage
abbrev pub register_line_read : RegisterState → List ℕ → Option RegisterState
register_line_read st line = register_read_at st.shared.stage st line
