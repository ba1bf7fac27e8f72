-- A code in the making.
use Rattle.std.specs.Prelude.{◌≡◌, ℕ, ◌+◌, ◌*◌, ◌≤◌, ◌<◌, List, length, All}
use Rattle.mk_base.specs.declared.TheConstants.{TOP_ORDER}
use Rattle.mk_field.specs.declared.field.FieldId.{FieldId}
use Rattle.mk_field.specs.declared.map.AddMap.{AddMap}
use Rattle.mk_code.specs.declared.instr.Instr.{Instr}
use Rattle.mk_code.specs.declared.TheConstants.{MOST_INPUTS, MOST_MAPS, MOST_INSTRS}
use Rattle.mk_code.specs.Listing.{Listing, inputs_len, AllFit}
use Rattle.mk_field.specs.Field.{HasMapsOnlyInBytes}

-- what a code in the making has so far, and the room that is reserved for more instructions
pub record Draft : Type 0 where
  pub order : ℕ
  pub secrets : ℕ
  pub publics : ℕ
  pub maps : List AddMap
  pub instrs : List Instr
  pub spare : ℕ

-- how many entries the trace has so far
abbrev pub draft_len : Draft → ℕ
draft_len d = inputs_len d.order d.secrets d.publics + length d.instrs

-- the code with these outs
abbrev pub finished : FieldId → Draft → List ℕ → Listing
finished field d outs = record { field = field; order = d.order; secrets = d.secrets; publics = d.publics; maps = d.maps; instrs = d.instrs; outs = outs }

-- a code in the making is whole with these outs: its order is in range, and they are in the trace
-- and as many for each output as there are shares
pub record IsWholeWith (d : Draft) (positions : List ℕ) : Type 0 where
  pub order : (1 ≤ d.order) × (d.order ≤ TOP_ORDER)
  pub outs : All (λ p. p < draft_len d) positions
  pub outputs : (outputs : ℕ) × (outputs ≤ MOST_INPUTS) × (length positions ≡ outputs * (d.order + 1))

-- what always holds of a code in the making
pub record IsDraft (field : FieldId) (d : Draft) : Type 0 where
  pub order : d.order < 256
  pub secrets : d.secrets ≤ MOST_INPUTS
  pub publics : d.publics ≤ MOST_INPUTS
  pub maps : length d.maps ≤ MOST_MAPS
  pub bytes : HasMapsOnlyInBytes field d.maps
  pub few : length d.instrs ≤ MOST_INSTRS
  pub fit : AllFit field (length d.maps) (inputs_len d.order d.secrets d.publics) d.instrs
