-- The lines for which events stand: in a text of version 1 or 2, which is chosen once for all of them.
use Rattle.std.specs.Prelude.{◌≡◌, ℕ, ◌⊎◌, List, [], ◌∷◌, ◌++◌, None, map, flat_map, codes}
use Rattle.mk_code.specs.Listing.{Listing, inputs_len}
use Rattle.mk_regs.specs.declared.instr.RegInstr.{RegInstr}
use Rattle.mk_regs.specs.Form.{RegListing}
use Rattle.mk_regs.specs.Renaming.{position_in, renamed_instr, instr_refusal, outs_refusal}
use Rattle.mk_regs.specs.Renamer.{Renaming, behind}
use Rattle.mk_lines.specs.Words.{line}
use Rattle.mk_lines.specs.CertLines.{op_line, claim_line}
use Rattle.mk_lines.specs.CodeLines.{map_line, instr_line, out_line}
use Rattle.mk_bundle.specs.Text.{head_lines, register_line, register_front}
use Rattle.mk_bundle.specs.declared.event.Head.{Head}
use Rattle.mk_bundle.specs.declared.event.Event.{Event}
use Rattle.mk_bundle.specs.declared.event.Event.TheVariants as event
use Rattle.mk_bundle.specs.Noting.{on_entry}

-- ---- version 1

-- a code of this head, and nothing else
abbrev pub headed_by : Head → Listing
headed_by head = record { field = head.field; order = head.order; secrets = head.secrets; publics = head.publics; maps = head.maps; instrs = []; outs = [] }

-- the lines of an event in a text of version 1: of the head those up to the last map, of each other event one
abbrev pub event_text : Event → List ℕ
event_text (event.Head head) = head_lines (headed_by head) ++ flat_map map_line head.maps
event_text (event.Block op) = op_line op
event_text (event.Claim value) = claim_line value
event_text event.Code = line (codes "code")
event_text (event.Instr instr) = instr_line instr
event_text (event.Out positions) = out_line positions
event_text event.End = line (codes "end")

-- the bytes are the lines of these events in a text of version 1
abbrev pub StandOverPositions : List Event → List ℕ → Type 0
StandOverPositions events bytes = bytes ≡ flat_map event_text events

-- ---- version 2

-- code over so many registers of this head, and nothing else
abbrev pub over_registers : Head → ℕ → RegListing
over_registers head registers = record {
  field = head.field;
  order = head.order;
  secrets = head.secrets;
  publics = head.publics;
  registers = registers;
  maps = head.maps;
  instrs = [];
  outs = [];
}

-- where registers hold what this renaming says, the bytes are the lines of these events in a text of version 2. The line of
-- an instruction or an output names registers that are there, and hold something where they are read; the event has in
-- their place the positions that they hold. Behind an instruction the registers hold what it leaves. The other lines are
-- those of version 1
abbrev pub StandFrom : Renaming → List Event → List ℕ → Type 0
StandFrom s [] bytes = bytes ≡ []
StandFrom s (event.Head head ∷ events) bytes = ⊥
StandFrom s (event.Instr instr ∷ events) bytes =
    (i : RegInstr) × (rest : List ℕ)
    × (instr_refusal s.held s.accepted i ≡ None) × (instr ≡ renamed_instr s.held i) × (bytes ≡ register_line i ++ rest) × StandFrom (behind s i) events rest
StandFrom s (event.Out positions ∷ events) bytes =
    (registers : List ℕ) × (rest : List ℕ)
    × (outs_refusal s.held s.accepted registers ≡ None) × (positions ≡ map (position_in s.held) registers) × (bytes ≡ out_line registers ++ rest) × StandFrom s events rest
StandFrom s (e ∷ events) bytes = (rest : List ℕ) × (bytes ≡ event_text e ++ rest) × StandFrom s events rest

-- the bytes are the lines of these events in a text of version 2: those of the head and of a number of registers, and
-- then lines of which the other events are the renaming, from what so many registers hold on entry
pub record StandOverRegisters (events : List Event) (bytes : List ℕ) : Type 0 where
  pub head : Head
  pub registers : ℕ
  pub others : List Event
  pub rest : List ℕ
  pub first : events ≡ event.Head head ∷ others
  pub front : bytes ≡ register_front (over_registers head registers) ++ rest
  pub stand : StandFrom (on_entry (inputs_len head.order head.secrets head.publics) registers) others rest

-- ---- either version

-- the bytes are the lines for which these events stand: all in a text of version 1, or all in one of version 2
abbrev pub StandFor : List Event → List ℕ → Type 0
StandFor events bytes = StandOverPositions events bytes ⊎ StandOverRegisters events bytes
