-- What a code consists of, and what fits together in it.
use Rattle.std.specs.Prelude.{◌≡◌, ℕ, ◌+◌, ◌*◌, ◌≤◌, ◌<◌, List, [], ◌∷◌, length, All}
use Rattle.mk_base.specs.declared.TheConstants.{TOP_ORDER}
use Rattle.mk_field.specs.declared.field.FieldId.{FieldId}
use Rattle.mk_field.specs.declared.map.AddMap.{AddMap}
use Rattle.mk_field.specs.Field.{size, HasMapsOnlyInBytes}
use Rattle.mk_code.specs.declared.instr.Instr.{Instr}
use Rattle.mk_code.specs.declared.instr.Instr.TheVariants.{Rnd, Const, Copy, Add, Mul, Sq, Map}
use Rattle.mk_code.specs.declared.TheConstants.{MOST_INPUTS, MOST_MAPS, MOST_INSTRS}

-- a code: its field, order, numbers of secrets and publics, maps, instructions, and the positions of its
-- outputs' shares, output by output
pub record Listing : Type 0 where
  pub field : FieldId
  pub order : ℕ
  pub secrets : ℕ
  pub publics : ℕ
  pub maps : List AddMap
  pub instrs : List Instr
  pub outs : List ℕ

-- how many entries of a trace stand before the first instruction: the shares and the publics
abbrev pub inputs_len : ℕ → ℕ → ℕ → ℕ
inputs_len order secrets publics = secrets * (order + 1) + publics

-- how many entries the trace has
abbrev pub trace_len : Listing → ℕ
trace_len code = inputs_len code.order code.secrets code.publics + length code.instrs

-- the instruction reads entries below `len`, maps below `maps` and elements of the field
abbrev pub FitsAt : FieldId → ℕ → ℕ → Instr → Type 0
FitsAt field maps len Rnd = Unit {0}
FitsAt field maps len (Const value) = value < size field
FitsAt field maps len (Copy from) = from < len
FitsAt field maps len (Add left right) = (left < len) × (right < len)
FitsAt field maps len (Mul left right) = (left < len) × (right < len)
FitsAt field maps len (Sq from) = from < len
FitsAt field maps len (Map map from) = (map < maps) × (from < len)

-- each instruction fits what stands before it
abbrev pub AllFit : FieldId → ℕ → ℕ → List Instr → Type 0
AllFit field maps len [] = Unit {0}
AllFit field maps len (i ∷ is) = FitsAt field maps len i × AllFit field maps (len + 1) is

-- a code that fits together, within the limits
pub record IsListing (code : Listing) : Type 0 where
  pub order : (1 ≤ code.order) × (code.order ≤ TOP_ORDER)
  pub secrets : code.secrets ≤ MOST_INPUTS
  pub publics : code.publics ≤ MOST_INPUTS
  pub maps : length code.maps ≤ MOST_MAPS
  pub bytes : HasMapsOnlyInBytes code.field code.maps
  pub few : length code.instrs ≤ MOST_INSTRS
  pub fit : AllFit code.field (length code.maps) (inputs_len code.order code.secrets code.publics) code.instrs
  pub outs : All (λ p. p < trace_len code) code.outs
  pub outputs : (outputs : ℕ) × (outputs ≤ MOST_INPUTS) × (length code.outs ≡ outputs * (code.order + 1))

-- the maps' images of the bits are elements of the field
abbrev pub AreElementMaps : FieldId → List AddMap → Type 0
AreElementMaps field maps = All (λ m. All (λ image. image < size field) m.images) maps

-- the same of a code's maps
abbrev pub HasElementImages : Listing → Type 0
HasElementImages code = AreElementMaps code.field code.maps
