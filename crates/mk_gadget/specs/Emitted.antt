-- What an emitter does: it appends a gadget, whose out bank shares the right value.
use Rattle.std.specs.Prelude.{◌≡◌, ℕ, List, ◌++◌, length}
use Rattle.mk_field.specs.declared.field.FieldId.{FieldId}
use Rattle.mk_field.specs.declared.map.AddMap.{AddMap}
use Rattle.mk_field.specs.Field.{size}
use Rattle.mk_field.specs.Sharing.{IsSharing, field_sum}
use Rattle.mk_code.specs.Counting.{AllBelow}
use Rattle.mk_code.specs.Draft.{Draft, draft_len}
use Rattle.mk_code.specs.Private.{observation}
use Rattle.mk_code.specs.Trace.{run}
use Rattle.mk_gadget.specs.Gadget.{Gadget, placed, placed_outs}

-- the gadget was placed behind the instructions, reading these positions; these are the positions of its out
-- bank; and all else is as before, but for the room that is reserved
pub record Emitted (old new : Draft) (reads : List ℕ) (gadget : Gadget) (bank : List ℕ) : Type 0 where
  pub code : new ≡ record old { instrs = old.instrs ++ placed reads (draft_len old) gadget; spare = new.spare }
  pub outs : bank ≡ placed_outs reads (draft_len old) gadget

-- the value whose shares stand at these positions
abbrev pub shared_at : List ℕ → List ℕ → ℕ
shared_at positions entries = field_sum (observation positions entries)

-- the gadget placed at `base`: behind any entries that many, elements of the field, and over any tape its
-- out bank is n shares of the value
abbrev pub Gives : FieldId → List AddMap → ℕ → ℕ → List ℕ → Gadget → (List ℕ → ℕ) → Type 0
Gives field maps n base reads gadget value =
    (tape entries : List ℕ) → length entries ≡ base → AllBelow (size field) entries
    → IsSharing n (value entries) (observation (placed_outs reads base gadget) (run field maps (placed reads base gadget) tape entries))
