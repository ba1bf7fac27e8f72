-- Reading a gadget text line by line: for the contracts inside the crate, none of the public ones cites it.
use Rattle.std.specs.Prelude.{◌≡◌, ℕ, ◌+◌, ◌≤◌, List, [], ◌∷◌, ◌++◌, length, Option, Some, None, Result, Ok, Err, bytes_eq, codes, if◌then◌else◌}
use Rattle.mk_field.specs.declared.field.FieldId.{FieldId}
use Rattle.mk_field.specs.declared.field.FieldId.TheVariants.{Gf2, Gf256}
use Rattle.mk_code.specs.declared.instr.Instr.{Instr}
use Rattle.mk_code.specs.Listing.{AllFit}
use Rattle.mk_pad.specs.declared.kind.GadgetKind.{GadgetKind}
use Rattle.mk_pad.specs.declared.kind.GadgetKind.TheVariants.{Mul, Refresh}
use Rattle.mk_pad.specs.declared.TheConstants.{TOP_GADGET_ORDER, MOST_GADGET_INSTRS}
use Rattle.mk_pad.specs.Form.{GadgetForm, AreOuts, share_count, position_count}
use Rattle.mk_lib.specs.declared.draft.Draft.{Draft}
use Rattle.mk_lib.specs.declared.draft.Stage.{Stage}
use Rattle.mk_lib.specs.declared.draft.Stage.TheVariants.{Kind, Field, Order, Instrs, End, Ended}
use Rattle.mk_lines.specs.declared.refusal.LineRefusal.{LineRefusal}
use Rattle.mk_lines.specs.declared.refusal.LineRefusal.TheVariants as refusals
use Rattle.mk_lines.specs.Parsing.{◌>>=◌, after, number_of, instr_of, behind, field_of, positions_of}

-- what was read so far: where the next line stands, and the gadget as far as it came
pub record State : Type 0 where
  pub stage : Stage
  pub gadget : GadgetForm

-- where reading starts: at the first line, and every list is empty
abbrev pub start : State
start = record { stage = Kind; gadget = record { kind = Mul; field = Gf2; order = 1; instrs = []; outs = [] } }

-- a draft, as what was read
abbrev pub state_of : Draft → State
state_of d = record { stage = d.stage; gadget = record { kind = d.kind; field = d.field; order = d.order; instrs = d.instrs; outs = d.outs } }

-- no instruction has come yet, before the stage of the instructions
abbrev pub HasInstrs : Stage → List Instr → Type 0
HasInstrs Kind instrs = instrs ≡ []
HasInstrs Field instrs = instrs ≡ []
HasInstrs Order instrs = instrs ≡ []
HasInstrs Instrs instrs = Unit {0}
HasInstrs End instrs = Unit {0}
HasInstrs Ended instrs = Unit {0}

-- the outs of a gadget have come, or none
abbrev pub HasOuts : Stage → GadgetForm → Type 0
HasOuts Kind g = g.outs ≡ []
HasOuts Field g = g.outs ≡ []
HasOuts Order g = g.outs ≡ []
HasOuts Instrs g = g.outs ≡ []
HasOuts End g = AreOuts g.order (share_count g) (position_count g) g.outs
HasOuts Ended g = AreOuts g.order (share_count g) (position_count g) g.outs

-- what was read has the form of a gadget as far as it came
pub record IsGood (st : State) : Type 0 where
  pub order : (1 ≤ st.gadget.order) × (st.gadget.order ≤ TOP_GADGET_ORDER)
  pub few : length st.gadget.instrs ≤ MOST_GADGET_INSTRS
  pub fit : AllFit st.gadget.field 0 (share_count st.gadget) st.gadget.instrs
  pub instrs : HasInstrs st.stage st.gadget.instrs
  pub outs : HasOuts st.stage st.gadget

-- what a step that changes the draft returned is what the line gives, where this is good, unless memory ran out
abbrev pub Reads : Result (Unit {0}) LineRefusal → Option State → State → Type 0
Reads (Ok done) given new = (given ≡ Some new) × IsGood new
Reads (Err refusals.Form) given new = (next : State) → given ≡ Some next → IsGood next → ⊥
Reads (Err refusals.Memory) given new = Unit {0}

-- what the first line says that the gadget stands for
unfoldable pub kind_of : List ℕ → Option GadgetKind
kind_of line =
    if bytes_eq line (codes "gadget mul") then Some Mul else (
    if bytes_eq line (codes "gadget refresh") then Some Refresh else None)

-- the number in the line of the order
unfoldable pub order_of : List ℕ → Option ℕ
order_of line = do
  rest ← after (codes "order ") line
  number_of rest

-- the line of what the gadget stands for
abbrev pub kind_next : State → List ℕ → Option State
kind_next st line = kind_of line >>= λ kind. Some (record { stage = Field; gadget = record st.gadget { kind = kind } })

-- the line of the field
abbrev pub field_next : State → List ℕ → Option State
field_next st line = field_of line >>= λ field. Some (record { stage = Order; gadget = record st.gadget { field = field } })

-- the line of the order
abbrev pub order_next : State → List ℕ → Option State
order_next st line = order_of line >>= λ order. Some (record { stage = Instrs; gadget = record st.gadget { order = order } })

-- one instruction more
abbrev pub with_instr : State → Instr → State
with_instr st instr = record st { gadget = record st.gadget { instrs = st.gadget.instrs ++ instr ∷ [] } }

-- the line of an instruction
abbrev pub instr_next : State → List ℕ → Option State
instr_next st line = instr_of line >>= λ instr. Some (with_instr st instr)

-- the outs, by what stands behind `out`
abbrev pub out_next : State → List ℕ → Option State
out_next st words = positions_of (st.gadget.order + 1) (position_count st.gadget) words >>= λ outs. Some (record { stage = End; gadget = record st.gadget { outs = outs } })

-- the line of the outs or of an instruction
abbrev pub lower_next : State → List ℕ → Option State
lower_next st line = behind (after (codes "out") line) (out_next st) (instr_next st line)

-- the last line
abbrev pub end_next : State → List ℕ → Option State
end_next st line = if bytes_eq line (codes "end") then Some (record st { stage = Ended }) else None

-- one line more, at this stage
abbrev pub next_at : Stage → State → List ℕ → Option State
next_at Kind st line = kind_next st line
next_at Field st line = field_next st line
next_at Order st line = order_next st line
next_at Instrs st line = lower_next st line
next_at End st line = end_next st line
next_at Ended st line = None
