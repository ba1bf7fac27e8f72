-- Reading a bundle text of version 1 line by line, up to the pair that it is the text of. Both versions have the lines of
-- the field, the order, the numbers of secrets and publics, the maps, the blocks, the claims and the code's beginning.
use Rattle.std.specs.Prelude.{ℕ, ◌+◌, ◌*◌, Bool, true, ◌&&◌, List, [], ◌∷◌, ◌++◌, length, Option, Some, None, nat_lt, bytes_eq, codes, if◌then◌else◌}
use Rattle.mk_field.specs.declared.field.FieldId.{FieldId}
use Rattle.mk_field.specs.declared.field.FieldId.TheVariants.{Gf2}
use Rattle.mk_field.specs.Field.{size, has_maps}
use Rattle.mk_code.specs.declared.instr.Instr.{Instr}
use Rattle.mk_code.specs.declared.instr.Instr.TheVariants.{Rnd, Const, Copy, Add, Mul, Sq, Map}
use Rattle.mk_code.specs.Listing.{Listing, trace_len}
use Rattle.mk_code.specs.declared.TheConstants.{MOST_INPUTS, MOST_MAPS, MOST_INSTRS}
use Rattle.mk_rules.specs.declared.TheConstants.{MOST_BLOCKS, MOST_CLAIMS}
use Rattle.mk_rules.specs.Claimed.{Claimed}
use Rattle.mk_bundle.specs.declared.TheConstants.{TEXT_TOP_ORDER}
use Rattle.mk_bundle.specs.declared.draft.Stage.{Stage}
use Rattle.mk_bundle.specs.declared.draft.Stage.TheVariants.{Version, Field, Order, Secrets, Publics, Upper, Lower, Ended}
use Rattle.mk_lines.specs.Parsing.{◌>>=◌, after, field_of, number_of, map_of, operand_of, op_of, instr_of, behind, positions_of}

-- what was read so far: where the next line stands, and the pair that the text has if only the lines
-- that must come do come
pub record State : Type 0 where
  pub stage : Stage
  pub code : Listing
  pub cert : Claimed

-- where reading starts: at the first line, and every list is empty
abbrev pub start : State
start = record {
  stage = Version;
  code = record { field = Gf2; order = 1; secrets = 0; publics = 0; maps = []; instrs = []; outs = [] };
  cert = record { blocks = []; claims = [] };
}

-- the line of the form's version
unfoldable pub version_line : State → List ℕ → Option State
version_line st line = if bytes_eq line (codes "mask 1") then Some (record st { stage = Field }) else None

-- the line of the field
unfoldable pub field_read : State → List ℕ → Option State
field_read st line = do
  field ← field_of line
  Some (record st { stage = Order; code = record st.code { field = field } })

-- the number in a line that begins so, at most `most`
unfoldable pub headed : List ℕ → ℕ → List ℕ → Option ℕ
headed name most line = do
  rest ← after name line
  n ← number_of rest
  if nat_lt most n then None else Some n

-- the line of the order, which is 1 to `most`
unfoldable pub order_read : ℕ → State → List ℕ → Option State
order_read most st line = do
  n ← headed (codes "order ") most line
  if nat_lt n 1 then None else Some (record st { stage = Secrets; code = record st.code { order = n } })

-- the line of the number of secrets
unfoldable pub secrets_read : State → List ℕ → Option State
secrets_read st line = do
  n ← headed (codes "secrets ") MOST_INPUTS line
  Some (record st { stage = Publics; code = record st.code { secrets = n } })

-- the line of the number of publics
unfoldable pub publics_read : State → List ℕ → Option State
publics_read st line = do
  n ← headed (codes "publics ") MOST_INPUTS line
  Some (record st { stage = Upper; code = record st.code { publics = n } })

-- a map may stand here: before blocks and claims
unfoldable pub may_map : State → Bool
may_map st = has_maps st.code.field && nat_lt (length st.cert.blocks) 1 && nat_lt (length st.cert.claims) 1 && nat_lt (length st.code.maps) MOST_MAPS

-- one map more, by what stands behind `map `
unfoldable pub map_read : State → List ℕ → Option State
map_read st words = do
  map ← map_of words
  if may_map st then Some (record st { code = record st.code { maps = st.code.maps ++ map ∷ [] } }) else None

-- a block may stand here: before claims
unfoldable pub may_block : State → Bool
may_block st = nat_lt (length st.cert.claims) 1 && nat_lt (length st.cert.blocks) MOST_BLOCKS

-- one block more, by what stands behind `block `
unfoldable pub block_read : State → List ℕ → Option State
block_read st words = do
  op ← op_of words
  if may_block st then Some (record st { cert = record st.cert { blocks = st.cert.blocks ++ op ∷ [] } }) else None

-- one claim more, by what stands behind `claim `
unfoldable pub claim_read : State → List ℕ → Option State
claim_read st words = do
  value ← operand_of words
  if nat_lt (length st.cert.claims) MOST_CLAIMS then Some (record st { cert = record st.cert { claims = st.cert.claims ++ value ∷ [] } }) else None

-- the line that ends the certificate: the code follows
unfoldable pub code_read : State → List ℕ → Option State
code_read st line = if bytes_eq line (codes "code") then Some (record st { stage = Lower }) else None

-- a line between the head and the code: a map, a block, a claim or the code's beginning
unfoldable pub upper_read : State → List ℕ → Option State
upper_read st line =
    behind (after (codes "map ") line) (map_read st) (
    behind (after (codes "block ") line) (block_read st) (
    behind (after (codes "claim ") line) (claim_read st) (code_read st line)))

-- the instruction fits behind `len` entries
unfoldable pub fits_at : FieldId → ℕ → ℕ → Instr → Bool
fits_at field maps len Rnd = true
fits_at field maps len (Const value) = nat_lt value (size field)
fits_at field maps len (Copy from) = nat_lt from len
fits_at field maps len (Add left right) = nat_lt left len && nat_lt right len
fits_at field maps len (Mul left right) = nat_lt left len && nat_lt right len
fits_at field maps len (Sq from) = nat_lt from len
fits_at field maps len (Map map from) = nat_lt map maps && nat_lt from len

-- an instruction may stand here: before outputs
unfoldable pub may_instr : State → Instr → Bool
may_instr st i = nat_lt (length st.code.outs) 1 && nat_lt (length st.code.instrs) MOST_INSTRS && fits_at st.code.field (length st.code.maps) (trace_len st.code) i

-- one instruction more
unfoldable pub instr_read : State → List ℕ → Option State
instr_read st line = do
  i ← instr_of line
  if may_instr st i then Some (record st { code = record st.code { instrs = st.code.instrs ++ i ∷ [] } }) else None

-- the positions of one output more, by what stands behind `out`
unfoldable pub out_read : State → List ℕ → Option State
out_read st words =
    if nat_lt (length st.code.outs) (MOST_INPUTS * (st.code.order + 1))
    then (positions_of (st.code.order + 1) (trace_len st.code) words >>= λ positions. Some (record st { code = record st.code { outs = st.code.outs ++ positions } }))
    else None

-- a line of the code: an output, the end or an instruction
unfoldable pub lower_read : State → List ℕ → Option State
lower_read st line =
    behind (after (codes "out") line) (out_read st) (
    if bytes_eq line (codes "end") then Some (record st { stage = Ended }) else instr_read st line)

-- one line more, in which the order is one of version 1
unfoldable pub read_at : Stage → State → List ℕ → Option State
read_at Version st line = version_line st line
read_at Field st line = field_read st line
read_at Order st line = order_read TEXT_TOP_ORDER st line
read_at Secrets st line = secrets_read st line
read_at Publics st line = publics_read st line
read_at Upper st line = upper_read st line
read_at Lower st line = lower_read st line
read_at Ended st line = None

-- one line more, by the stage
abbrev pub line_read : State → List ℕ → Option State
line_read st line = read_at st.stage st line

-- these lines more
unfoldable pub lines_read : State → List (List ℕ) → Option State
lines_read st [] = Some st
lines_read st (line ∷ lines) = line_read st line >>= λ next. lines_read next lines
