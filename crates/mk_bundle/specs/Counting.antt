-- Reading a bundle text of version 1 line by line, of which counts and events are kept: for the contracts inside the crate.
-- The lines that both versions have are counted so in version 2 too.
use Rattle.std.specs.Prelude.{◌≡◌, ℕ, ◌+◌, ◌*◌, ◌≤◌, Bool, ◌&&◌, List, [], ◌∷◌, ◌++◌, length, Option, Some, None, Result, Ok, Err, nat_lt, bytes_eq, codes, if◌then◌else◌}
use Rattle.mk_base.specs.declared.TheConstants.{TOP_ORDER}
use Rattle.mk_field.specs.declared.field.FieldId.{FieldId}
use Rattle.mk_field.specs.declared.map.AddMap.{AddMap}
use Rattle.mk_field.specs.Field.{has_maps}
use Rattle.mk_code.specs.declared.instr.Instr.{Instr}
use Rattle.mk_code.specs.Listing.{inputs_len}
use Rattle.mk_code.specs.declared.TheConstants.{MOST_INPUTS, MOST_MAPS, MOST_INSTRS}
use Rattle.mk_rules.specs.declared.TheConstants.{MOST_BLOCKS, MOST_CLAIMS}
use Rattle.mk_bundle.specs.declared.TheConstants.{TEXT_TOP_ORDER}
use Rattle.mk_bundle.specs.declared.draft.Draft.{Draft}
use Rattle.mk_bundle.specs.declared.draft.Stage.{Stage}
use Rattle.mk_bundle.specs.declared.draft.Stage.TheVariants.{Version, Field, Order, Secrets, Publics, Upper, Lower, Ended}
use Rattle.mk_lines.specs.declared.refusal.LineRefusal.{LineRefusal}
use Rattle.mk_lines.specs.declared.refusal.LineRefusal.TheVariants as refusals
use Rattle.mk_bundle.specs.declared.event.Event.{Event}
use Rattle.mk_bundle.specs.declared.event.Event.TheVariants as event
use Rattle.mk_lines.specs.Parsing.{◌>>=◌, after, field_of, map_of, operand_of, op_of, instr_of, behind, positions_of}
use Rattle.mk_bundle.specs.Reading.{State, headed, fits_at}

-- what is kept of what was read: where the next line stands, the head, the maps of which no event told yet, and
-- how many maps, blocks, claims, instructions and positions of outputs there were
pub record Seen : Type 0 where
  pub stage : Stage
  pub field : FieldId
  pub order : ℕ
  pub secrets : ℕ
  pub publics : ℕ
  pub untold : List AddMap
  pub maps : ℕ
  pub blocks : ℕ
  pub claims : ℕ
  pub instrs : ℕ
  pub outs : ℕ

-- what a draft keeps
abbrev pub seen_of : Draft → Seen
seen_of d = record {
  stage = d.stage;
  field = d.field;
  order = d.order;
  secrets = d.secrets;
  publics = d.publics;
  untold = d.untold;
  maps = d.maps;
  blocks = d.blocks;
  claims = d.claims;
  instrs = d.instrs;
  outs = d.outs;
}

-- what is kept of what was read, where no event told of these maps
abbrev pub summary : State → List AddMap → Seen
summary st untold = record {
  stage = st.stage;
  field = st.code.field;
  order = st.code.order;
  secrets = st.code.secrets;
  publics = st.code.publics;
  untold = untold;
  maps = length st.code.maps;
  blocks = length st.cert.blocks;
  claims = length st.cert.claims;
  instrs = length st.code.instrs;
  outs = length st.code.outs;
}

-- the bounds that a count of entries needs, in either version
pub record HasBounds (seen : Seen) : Type 0 where
  pub order : seen.order ≤ TOP_ORDER
  pub secrets : seen.secrets ≤ MOST_INPUTS
  pub publics : seen.publics ≤ MOST_INPUTS
  pub instrs : seen.instrs ≤ MOST_INSTRS

-- what a line leaves, and its event, if it has one of its own
abbrev pub Counted : Type 0
Counted = Option (Seen × Option Event)

-- what a function that reads a line returned and left is what reading gives, unless memory ran out
abbrev pub Steps : {A : Type 0} → Result (Option Event) LineRefusal → A → Option (A × Option Event) → Type 0
Steps (Ok told) new read = read ≡ Some (new, told)
Steps (Err refusals.Form) new read = read ≡ None
Steps (Err refusals.Memory) new read = Unit {0}

-- the line of the form's version
unfoldable pub version_counted : Seen → List ℕ → Counted
version_counted seen line = if bytes_eq line (codes "mask 1") then Some (record seen { stage = Field }, None) else None

-- the line of the field
unfoldable pub field_counted : Seen → List ℕ → Counted
field_counted seen line = do
  field ← field_of line
  Some (record seen { stage = Order; field = field }, None)

-- the line of the order, which is 1 to `most`
unfoldable pub order_counted : ℕ → Seen → List ℕ → Counted
order_counted most seen line = do
  n ← headed (codes "order ") most line
  if nat_lt n 1 then None else Some (record seen { stage = Secrets; order = n }, None)

-- the line of the number of secrets
unfoldable pub secrets_counted : Seen → List ℕ → Counted
secrets_counted seen line = do
  n ← headed (codes "secrets ") MOST_INPUTS line
  Some (record seen { stage = Publics; secrets = n }, None)

-- the line of the number of publics
unfoldable pub publics_counted : Seen → List ℕ → Counted
publics_counted seen line = do
  n ← headed (codes "publics ") MOST_INPUTS line
  Some (record seen { stage = Upper; publics = n }, None)

-- a map may stand here: before blocks and claims
unfoldable pub map_counts : Seen → Bool
map_counts seen = has_maps seen.field && nat_lt seen.blocks 1 && nat_lt seen.claims 1 && nat_lt seen.maps MOST_MAPS

-- one map more, by what stands behind `map `
unfoldable pub map_counted : Seen → List ℕ → Counted
map_counted seen words = do
  map ← map_of words
  if map_counts seen then Some (record seen { untold = seen.untold ++ map ∷ []; maps = seen.maps + 1 }, None) else None

-- a block may stand here: before claims
unfoldable pub block_counts : Seen → Bool
block_counts seen = nat_lt seen.claims 1 && nat_lt seen.blocks MOST_BLOCKS

-- one block more, by what stands behind `block `
unfoldable pub block_counted : Seen → List ℕ → Counted
block_counted seen words = do
  op ← op_of words
  if block_counts seen then Some (record seen { blocks = seen.blocks + 1 }, Some (event.Block op)) else None

-- one claim more, by what stands behind `claim `
unfoldable pub claim_counted : Seen → List ℕ → Counted
claim_counted seen words = do
  value ← operand_of words
  if nat_lt seen.claims MOST_CLAIMS then Some (record seen { claims = seen.claims + 1 }, Some (event.Claim value)) else None

-- the line that ends the certificate: the code follows
unfoldable pub code_counted : Seen → List ℕ → Counted
code_counted seen line = if bytes_eq line (codes "code") then Some (record seen { stage = Lower }, Some event.Code) else None

-- a line of the certificate: a block, a claim or the code's beginning
unfoldable pub cert_counted : Seen → List ℕ → Counted
cert_counted seen line =
    behind (after (codes "block ") line) (block_counted seen) (
    behind (after (codes "claim ") line) (claim_counted seen) (code_counted seen line))

-- a line between the head and the code: a map, or one of the certificate
unfoldable pub upper_counted : Seen → List ℕ → Counted
upper_counted seen line = behind (after (codes "map ") line) (map_counted seen) (cert_counted seen line)

-- how many entries the trace has so far
abbrev pub entries : Seen → ℕ
entries seen = inputs_len seen.order seen.secrets seen.publics + seen.instrs

-- an instruction may stand here: before outputs
unfoldable pub instr_counts : Seen → Instr → Bool
instr_counts seen i = nat_lt seen.outs 1 && nat_lt seen.instrs MOST_INSTRS && fits_at seen.field seen.maps (entries seen) i

-- one instruction more
unfoldable pub instr_counted : Seen → List ℕ → Counted
instr_counted seen line = do
  i ← instr_of line
  if instr_counts seen i then Some (record seen { instrs = seen.instrs + 1 }, Some (event.Instr i)) else None

-- one output more, by what stands behind `out`
unfoldable pub out_counted : Seen → List ℕ → Counted
out_counted seen words =
    if nat_lt seen.outs (MOST_INPUTS * (seen.order + 1))
    then (positions_of (seen.order + 1) (entries seen) words >>= λ positions. Some (record seen { outs = seen.outs + (seen.order + 1) }, Some (event.Out positions)))
    else None

-- a line of the code: an output, the end or an instruction
unfoldable pub lower_counted : Seen → List ℕ → Counted
lower_counted seen line =
    behind (after (codes "out") line) (out_counted seen) (
    if bytes_eq line (codes "end") then Some (record seen { stage = Ended }, Some event.End) else instr_counted seen line)

-- one line more, in which the order is one of version 1
unfoldable pub counted_at : Stage → Seen → List ℕ → Counted
counted_at Version seen line = version_counted seen line
counted_at Field seen line = field_counted seen line
counted_at Order seen line = order_counted TEXT_TOP_ORDER seen line
counted_at Secrets seen line = secrets_counted seen line
counted_at Publics seen line = publics_counted seen line
counted_at Upper seen line = upper_counted seen line
counted_at Lower seen line = lower_counted seen line
counted_at Ended seen line = None

-- one line more, by the stage
abbrev pub line_counted : Seen → List ℕ → Counted
line_counted seen line = counted_at seen.stage seen line
