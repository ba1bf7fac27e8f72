-- Reading a bundle text of either version line by line, of which counts, events and what the registers hold are kept: for
-- the contracts inside the crate.
use Rattle.std.specs.Prelude.{ℕ, ◌+◌, ◌*◌, ◌^◌, ◌≤◌, Bool, ◌&&◌, List, map, length, Option, Some, None, is_some, nat_lt, bytes_eq, codes, if◌then◌else◌}
use Rattle.mk_base.specs.declared.TheConstants.{TOP_ORDER}
use Rattle.mk_field.specs.declared.map.AddMap.{AddMap}
use Rattle.mk_code.specs.declared.instr.Instr.{Instr}
use Rattle.mk_code.specs.Listing.{inputs_len}
use Rattle.mk_code.specs.declared.TheConstants.{MOST_INPUTS, MOST_INSTRS}
use Rattle.mk_regs.specs.declared.TheConstants.{MOST_REGISTERS}
use Rattle.mk_regs.specs.declared.instr.RegInstr.{RegInstr}
use Rattle.mk_regs.specs.declared.refusal.RegRefusal.{RegRefusal}
use Rattle.mk_regs.specs.Form.{RegListing, into_register, entries_len}
use Rattle.mk_regs.specs.Renaming.{held_on_entry, held_at_end, position_in, renamed_instr, instr_refusal, outs_refusal, refusal_of}
use Rattle.mk_regs.specs.Renamer.{Renaming, behind}
use Rattle.mk_lines.specs.Parsing.{◌>>=◌, after, into_of, positions_of}
use Rattle.mk_lines.specs.Parsing as lines
use Rattle.mk_bundle.specs.declared.draft.Stage.{Stage}
use Rattle.mk_bundle.specs.declared.draft.Stage.TheVariants.{Version, Field, Order, Secrets, Publics, Upper, Lower, Ended}
use Rattle.mk_bundle.specs.declared.notes.Form.{Form}
use Rattle.mk_bundle.specs.declared.notes.Form.TheVariants as form
use Rattle.mk_bundle.specs.declared.notes.Notes.{Notes}
use Rattle.mk_bundle.specs.declared.event.Event.{Event}
use Rattle.mk_bundle.specs.declared.event.Event.TheVariants as event
use Rattle.mk_bundle.specs.Reading.{headed}
use Rattle.mk_bundle.specs.RegisterReading.{RegisterState, has_parts}
use Rattle.mk_bundle.specs.Versions.{Partial, Positions, Registers, register_code}
use Rattle.mk_bundle.specs.Counting.{Seen, seen_of, summary, HasBounds, Counted, version_counted, order_counted, map_counted, cert_counted, counted_at}

-- what is kept of what was read: the counts, and the form of its instructions with what the registers hold
pub record Noted : Type 0 where
  pub seen : Seen
  pub form : Form

-- what notes have
abbrev pub noted_of : Notes → Noted
noted_of n = record { seen = seen_of n.draft; form = n.form }

-- the renaming of so many registers before the first instruction
abbrev pub on_entry : ℕ → ℕ → Renaming
on_entry entries registers = record { held = held_on_entry entries registers; entries = entries; accepted = 0 }

-- the renaming behind all instructions of register code
abbrev pub at_end : RegListing → Renaming
at_end r = record { held = held_at_end r; entries = entries_len r; accepted = length r.instrs }

-- the form behind what was refused, or what was renamed
abbrev pub form_unless : Option RegRefusal → Renaming → Form
form_unless (Some refusal) s = form.Refused refusal
form_unless None s = form.Renaming s

-- the form of register code, whose number of registers came or not
abbrev pub form_of : Option ℕ → RegListing → Form
form_of None r = form.Unnumbered
form_of (Some n) r = form_unless (refusal_of r) (at_end r)

-- the counts of register code
abbrev pub register_summary : RegisterState → List AddMap → Seen
register_summary st untold = record (summary st.shared untold) { instrs = length st.instrs; outs = length st.outs }

-- what is kept of what was read, where no event told of these maps
abbrev pub noted : Partial → List AddMap → Noted
noted (Positions st) untold = record { seen = summary st untold; form = form.Positions }
noted (Registers st) untold = record { seen = register_summary st untold; form = form_of st.registers (register_code st) }

-- how many instructions were renamed
abbrev pub renamed_in : Form → ℕ
renamed_in form.Positions = 0
renamed_in form.Unnumbered = 0
renamed_in (form.Renaming s) = s.accepted
renamed_in (form.Refused refusal) = 0

-- the bounds of the counts, and no more instructions were renamed than were counted
abbrev pub IsBounded : Noted → Type 0
IsBounded n = HasBounds n.seen × (renamed_in n.form ≤ n.seen.instrs)

-- why what was read can't be renamed, if so
abbrev pub refusal_in : Form → Option RegRefusal
refusal_in form.Positions = None
refusal_in form.Unnumbered = None
refusal_in (form.Renaming s) = None
refusal_in (form.Refused refusal) = Some refusal

-- what a line leaves, and its event, if it has one of its own
abbrev pub Noting : Type 0
Noting = Option (Noted × Option Event)

-- what the counts give, where the form stays
abbrev pub keep : Form → Counted → Noting
keep f None = None
keep f (Some x) = Some (record { seen = x.0; form = f }, x.1)

-- the first line, which tells the version
unfoldable pub first_noted : Seen → List ℕ → Noting
first_noted seen line =
    if bytes_eq line (codes "mask 2") then Some (record { seen = record seen { stage = Field }; form = form.Unnumbered }, None)
    else keep form.Positions (version_counted seen line)

-- the line of the number of registers, of which there is one for each share and public input
unfoldable pub registers_noted : Seen → List ℕ → Noting
registers_noted seen line = do
  n ← headed (codes "registers ") MOST_REGISTERS line
  if nat_lt n (inputs_len seen.order seen.secrets seen.publics) then None
      else Some (record { seen = seen; form = form.Renaming (on_entry (inputs_len seen.order seen.secrets seen.publics) n) }, None)

-- a line between the head and the number of registers: a map, or that number
unfoldable pub front_noted : Seen → List ℕ → Noting
front_noted seen line = lines.behind (after (codes "map ") line) (λ words. keep form.Unnumbered (map_counted seen words)) (registers_noted seen line)

-- a line between the head and the code
unfoldable pub upper_noted : Form → Seen → List ℕ → Noting
upper_noted form.Unnumbered seen line = front_noted seen line
upper_noted form.Positions seen line = keep form.Positions (cert_counted seen line)
upper_noted (form.Renaming s) seen line = keep (form.Renaming s) (cert_counted seen line)
upper_noted (form.Refused refusal) seen line = keep (form.Refused refusal) (cert_counted seen line)

-- the form behind an instruction over registers
abbrev pub form_behind : Form → RegInstr → Form
form_behind form.Positions i = form.Positions
form_behind form.Unnumbered i = form.Unnumbered
form_behind (form.Renaming s) i = form_unless (instr_refusal s.held s.accepted i) (behind s i)
form_behind (form.Refused refusal) i = form.Refused refusal

-- the event of an instruction over registers: the instruction over positions, where it can be carried out
abbrev pub instr_event : Form → RegInstr → Option Event
instr_event form.Positions i = None
instr_event form.Unnumbered i = None
instr_event (form.Renaming s) i = if is_some (instr_refusal s.held s.accepted i) then None else Some (event.Instr (renamed_instr s.held i))
instr_event (form.Refused refusal) i = None

-- the form behind an output of these registers
abbrev pub form_behind_out : Form → List ℕ → Form
form_behind_out form.Positions registers = form.Positions
form_behind_out form.Unnumbered registers = form.Unnumbered
form_behind_out (form.Renaming s) registers = form_unless (outs_refusal s.held s.accepted registers) s
form_behind_out (form.Refused refusal) registers = form.Refused refusal

-- the event of an output of these registers: their positions, where they hold entries
abbrev pub out_event : Form → List ℕ → Option Event
out_event form.Positions registers = None
out_event form.Unnumbered registers = None
out_event (form.Renaming s) registers =
    if is_some (outs_refusal s.held s.accepted registers) then None else Some (event.Out (map (position_in s.held) registers))
out_event (form.Refused refusal) registers = None

-- an instruction over registers may stand here: before outputs
unfoldable pub register_counts : Seen → Instr → Bool
register_counts seen i = nat_lt seen.outs 1 && nat_lt seen.instrs MOST_INSTRS && has_parts seen.field seen.maps i

-- one instruction over registers more
unfoldable pub register_instr_noted : Form → Seen → List ℕ → Noting
register_instr_noted f seen line = do
  x ← into_of line
  if register_counts seen x.1
      then Some (record { seen = record seen { instrs = seen.instrs + 1 }; form = form_behind f (into_register x.0 x.1) }, instr_event f (into_register x.0 x.1))
      else None

-- one output over registers more, by what stands behind `out`
unfoldable pub register_out_noted : Form → Seen → List ℕ → Noting
register_out_noted f seen words =
    if nat_lt seen.outs (MOST_INPUTS * (seen.order + 1))
    then (positions_of (seen.order + 1) (2 ^ 32) words
    >>= λ registers. Some (record { seen = record seen { outs = seen.outs + (seen.order + 1) }; form = form_behind_out f registers }, out_event f registers))
    else None

-- a line of code over registers: an output, the end or an instruction
unfoldable pub register_lower_noted : Form → Seen → List ℕ → Noting
register_lower_noted f seen line =
    lines.behind (after (codes "out") line) (register_out_noted f seen) (
    if bytes_eq line (codes "end") then Some (record { seen = record seen { stage = Ended }; form = f }, Some event.End) else register_instr_noted f seen line)

-- one line more of version 1, or the first line
unfoldable pub position_noted : Stage → Seen → List ℕ → Noting
position_noted Version seen line = first_noted seen line
position_noted Field seen line = keep form.Positions (counted_at Field seen line)
position_noted Order seen line = keep form.Positions (counted_at Order seen line)
position_noted Secrets seen line = keep form.Positions (counted_at Secrets seen line)
position_noted Publics seen line = keep form.Positions (counted_at Publics seen line)
position_noted Upper seen line = keep form.Positions (counted_at Upper seen line)
position_noted Lower seen line = keep form.Positions (counted_at Lower seen line)
position_noted Ended seen line = None

-- one line more of version 2, in which the order may be any
unfoldable pub register_noted : Stage → Form → Seen → List ℕ → Noting
register_noted Version f seen line = None
register_noted Field f seen line = keep f (counted_at Field seen line)
register_noted Order f seen line = keep f (order_counted TOP_ORDER seen line)
register_noted Secrets f seen line = keep f (counted_at Secrets seen line)
register_noted Publics f seen line = keep f (counted_at Publics seen line)
register_noted Upper f seen line = upper_noted f seen line
register_noted Lower f seen line = register_lower_noted f seen line
register_noted Ended f seen line = None

-- one line more, by the form
abbrev pub noted_by : Form → Seen → List ℕ → Noting
noted_by form.Positions seen line = position_noted seen.stage seen line
noted_by form.Unnumbered seen line = register_noted seen.stage form.Unnumbered seen line
noted_by (form.Renaming s) seen line = register_noted seen.stage (form.Renaming s) seen line
noted_by (form.Refused refusal) seen line = register_noted seen.stage (form.Refused refusal) seen line

-- one line more
abbrev pub line_noted : Noted → List ℕ → Noting
line_noted n line = noted_by n.form n.seen line
