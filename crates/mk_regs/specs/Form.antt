-- Register code, and what fits together in it.
use Rattle.std.specs.Prelude.{◌≡◌, ℕ, ◌+◌, ◌*◌, ◌≤◌, ◌<◌, List, [], ◌∷◌, length}
use Rattle.std.specs.List.{AllByRecursion}
use Rattle.mk_base.specs.declared.TheConstants.{TOP_ORDER}
use Rattle.mk_field.specs.declared.field.FieldId.{FieldId}
use Rattle.mk_field.specs.declared.map.AddMap.{AddMap}
use Rattle.mk_field.specs.Field.{size, HasMapsOnlyInBytes}
use Rattle.mk_code.specs.declared.instr.Instr.{Instr}
use Rattle.mk_code.specs.declared.instr.Instr.TheVariants as op
use Rattle.mk_code.specs.declared.TheConstants.{MOST_INPUTS, MOST_MAPS, MOST_INSTRS}
use Rattle.mk_code.specs.Listing.{inputs_len}
use Rattle.mk_regs.specs.declared.instr.RegInstr.{RegInstr}
use Rattle.mk_regs.specs.declared.instr.RegInstr.TheVariants.{Rnd, Const, Copy, Add, Mul, Sq, Map}
use Rattle.mk_regs.specs.declared.TheConstants.{MOST_REGISTERS}

-- the register that an instruction writes
abbrev pub target : RegInstr → ℕ
target (Rnd to) = to
target (Const to value) = to
target (Copy to from) = to
target (Add to left right) = to
target (Mul to left right) = to
target (Sq to from) = to
target (Map to map from) = to

-- what an instruction does: the same instruction with the registers that it reads as operands
abbrev pub operation : RegInstr → Instr
operation (Rnd to) = op.Rnd
operation (Const to value) = op.Const value
operation (Copy to from) = op.Copy from
operation (Add to left right) = op.Add left right
operation (Mul to left right) = op.Mul left right
operation (Sq to from) = op.Sq from
operation (Map to map from) = op.Map map from

-- the instruction that does this with registers and writes that one
abbrev pub into_register : ℕ → Instr → RegInstr
into_register to op.Rnd = Rnd to
into_register to (op.Const value) = Const to value
into_register to (op.Copy from) = Copy to from
into_register to (op.Add left right) = Add to left right
into_register to (op.Mul left right) = Mul to left right
into_register to (op.Sq from) = Sq to from
into_register to (op.Map map from) = Map to map from

-- the operands of an instruction, in order
abbrev pub operands : Instr → List ℕ
operands op.Rnd = []
operands (op.Const value) = []
operands (op.Copy from) = from ∷ []
operands (op.Add left right) = left ∷ right ∷ []
operands (op.Mul left right) = left ∷ right ∷ []
operands (op.Sq from) = from ∷ []
operands (op.Map map from) = from ∷ []

-- the instruction with each operand replaced
abbrev pub with_operands : (ℕ → ℕ) → Instr → Instr
with_operands f op.Rnd = op.Rnd
with_operands f (op.Const value) = op.Const value
with_operands f (op.Copy from) = op.Copy (f from)
with_operands f (op.Add left right) = op.Add (f left) (f right)
with_operands f (op.Mul left right) = op.Mul (f left) (f right)
with_operands f (op.Sq from) = op.Sq (f from)
with_operands f (op.Map map from) = op.Map map (f from)

-- register code: its field, order, numbers of secrets, publics and registers, maps, instructions, and the
-- registers of its outputs' shares, output by output
pub record RegListing : Type 0 where
  pub field : FieldId
  pub order : ℕ
  pub secrets : ℕ
  pub publics : ℕ
  pub registers : ℕ
  pub maps : List AddMap
  pub instrs : List RegInstr
  pub outs : List ℕ

-- how many entries of a trace stand before the first instruction: the shares and the publics
abbrev pub entries_len : RegListing → ℕ
entries_len r = inputs_len r.order r.secrets r.publics

-- how many entries the trace has
abbrev pub register_trace_len : RegListing → ℕ
register_trace_len r = entries_len r + length r.instrs

-- what the instruction names besides operands is there: the constant is an element, and the map is one of so many
abbrev pub HasParts : FieldId → ℕ → Instr → Type 0
HasParts field maps op.Rnd = Unit {0}
HasParts field maps (op.Const value) = value < size field
HasParts field maps (op.Copy from) = Unit {0}
HasParts field maps (op.Add left right) = Unit {0}
HasParts field maps (op.Mul left right) = Unit {0}
HasParts field maps (op.Sq from) = Unit {0}
HasParts field maps (op.Map map from) = map < maps

-- register code within the limits, with a register for each share and public. It may name registers that there
-- aren't, and read ones that hold nothing
pub record IsRegListing (r : RegListing) : Type 0 where
  pub order : (1 ≤ r.order) × (r.order ≤ TOP_ORDER)
  pub secrets : r.secrets ≤ MOST_INPUTS
  pub publics : r.publics ≤ MOST_INPUTS
  pub registers : (entries_len r ≤ r.registers) × (r.registers ≤ MOST_REGISTERS)
  pub maps : length r.maps ≤ MOST_MAPS
  pub bytes : HasMapsOnlyInBytes r.field r.maps
  pub few : length r.instrs ≤ MOST_INSTRS
  pub parts : AllByRecursion (λ i. HasParts r.field (length r.maps) (operation i)) r.instrs
  pub outputs : (outputs : ℕ) × (outputs ≤ MOST_INPUTS) × (length r.outs ≡ outputs * (r.order + 1))
