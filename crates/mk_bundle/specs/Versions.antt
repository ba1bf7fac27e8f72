-- Reading a bundle text of either version line by line: the first line tells which it is.
use Rattle.std.specs.Prelude.{ℕ, Bool, false, List, [], ◌∷◌, length, Option, Some, None, is_some, unwrap_or, option_map, bytes_eq, codes, if◌then◌else◌}
use Rattle.mk_field.specs.declared.map.AddMap.{AddMap}
use Rattle.mk_code.specs.Listing.{Listing, inputs_len}
use Rattle.mk_regs.specs.Form.{RegListing}
use Rattle.mk_regs.specs.Renaming.{renamed, refusal_of}
use Rattle.mk_rules.specs.Claimed.{Claimed}
use Rattle.mk_lines.specs.Parsing.{◌>>=◌}
use Rattle.mk_bundle.specs.declared.draft.Stage.{Stage}
use Rattle.mk_bundle.specs.declared.draft.Stage.TheVariants.{Version, Field}
use Rattle.mk_bundle.specs.declared.event.Event.{Event}
use Rattle.mk_bundle.specs.Events.{has_begun, events_at}
use Rattle.mk_bundle.specs.Reading.{State, start, line_read}
use Rattle.mk_bundle.specs.RegisterReading.{RegisterState, register_start, register_line_read}

-- what was read so far of a text: of version 1, or behind the first line of one of version 2
pub data Partial : Type 0 where
  Positions : State → Partial
  Registers : RegisterState → Partial

-- where reading starts
abbrev pub begin : Partial
begin = Positions start

-- behind the first line of version 2
abbrev pub register_opened : RegisterState
register_opened = record register_start { shared = record start { stage = Field } }

-- the line is the first one of version 2
abbrev pub opens_registers : Stage → List ℕ → Bool
opens_registers Version line = bytes_eq line (codes "mask 2")
opens_registers stage line = false

-- one line more
unfoldable pub partial_read : Partial → List ℕ → Option Partial
partial_read (Positions st) line =
    if opens_registers st.stage line then Some (Registers register_opened) else (line_read st line >>= λ next. Some (Positions next))
partial_read (Registers st) line = register_line_read st line >>= λ next. Some (Registers next)

-- the stage of what was read
abbrev pub stage_of : Partial → Stage
stage_of (Positions st) = st.stage
stage_of (Registers st) = st.shared.stage

-- the certificate of what was read
abbrev pub claimed_of : Partial → Claimed
claimed_of (Positions st) = st.cert
claimed_of (Registers st) = st.shared.cert

-- the register code of what was read; as long as their number didn't come, there are as many registers as shares and
-- publics
abbrev pub register_code : RegisterState → RegListing
register_code st = record {
  field = st.shared.code.field;
  order = st.shared.code.order;
  secrets = st.shared.code.secrets;
  publics = st.shared.code.publics;
  registers = unwrap_or st.registers (inputs_len st.shared.code.order st.shared.code.secrets st.shared.code.publics);
  maps = st.shared.code.maps;
  instrs = st.instrs;
  outs = st.outs;
}

-- the code over positions of what was read: none where it is register code that can't be renamed
abbrev pub positions_of_code : Partial → Option Listing
positions_of_code (Positions st) = Some st.code
positions_of_code (Registers st) = if is_some (refusal_of (register_code st)) then None else Some (renamed (register_code st))

-- the events of what was read, where its code is over positions or can be renamed
abbrev pub events_so_far : Partial → Option (List Event)
events_so_far p = option_map (λ code. events_at (stage_of p) code (claimed_of p)) (positions_of_code p)

-- the lines of the maps ended
abbrev pub has_begun_so_far : Partial → Bool
has_begun_so_far p = has_begun (stage_of p) (length (claimed_of p).blocks) (length (claimed_of p).claims)

-- the maps of what was read
abbrev pub maps_of : Partial → List AddMap
maps_of (Positions st) = st.code.maps
maps_of (Registers st) = st.shared.code.maps

-- the maps of which no event told yet
abbrev pub untold : Partial → List AddMap
untold p = if has_begun_so_far p then [] else maps_of p

-- these lines more
unfoldable pub partials_read : Partial → List (List ℕ) → Option Partial
partials_read p [] = Some p
partials_read p (line ∷ lines) = partial_read p line >>= λ next. partials_read next lines
