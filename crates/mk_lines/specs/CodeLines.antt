-- The lines of a code: one for its field, one for each additive map, one for each instruction and one for each output.
use Rattle.std.specs.Prelude.{ℕ, zero, suc, ◌^◌, ◌<◌, List, [], ◌++◌, take, drop, flat_map, codes, decimal}
use Rattle.mk_field.specs.declared.field.FieldId.{FieldId}
use Rattle.mk_field.specs.declared.field.FieldId.TheVariants.{Gf2, Gf256}
use Rattle.mk_field.specs.declared.map.AddMap.{AddMap}
use Rattle.mk_code.specs.declared.instr.Instr.{Instr}
use Rattle.mk_code.specs.declared.instr.Instr.TheVariants.{Rnd, Const, Copy, Add, Mul, Sq, Map}
use Rattle.mk_lines.specs.Words.{line}
use Rattle.mk_field.specs.Digits.{hex_byte}

-- the line of a field
abbrev pub field_line : FieldId → List ℕ
field_line Gf2 = line (codes "field gf2")
field_line Gf256 = line (codes "field gf256")

-- the line of a map: the images of the eight bits, that of bit 0 first
abbrev pub map_line : AddMap → List ℕ
map_line map = line (codes "map " ++ flat_map hex_byte map.images)

-- the line of an instruction
abbrev pub instr_line : Instr → List ℕ
instr_line Rnd = line (codes "rnd")
instr_line (Const value) = line (codes "const " ++ hex_byte value)
instr_line (Copy from) = line (codes "copy " ++ decimal from)
instr_line (Add left right) = line (codes "add " ++ decimal left ++ codes " " ++ decimal right)
instr_line (Mul left right) = line (codes "mul " ++ decimal left ++ codes " " ++ decimal right)
instr_line (Sq from) = line (codes "sq " ++ decimal from)
instr_line (Map map from) = line (codes "map " ++ decimal map ++ codes " " ++ decimal from)

-- the line of an instruction that writes a register: the register stands behind the word, before what the instruction reads
abbrev pub into_line : ℕ → Instr → List ℕ
into_line to Rnd = line (codes "rnd " ++ decimal to)
into_line to (Const value) = line (codes "const " ++ decimal to ++ codes " " ++ hex_byte value)
into_line to (Copy from) = line (codes "copy " ++ decimal to ++ codes " " ++ decimal from)
into_line to (Add left right) = line (codes "add " ++ decimal to ++ codes " " ++ decimal left ++ codes " " ++ decimal right)
into_line to (Mul left right) = line (codes "mul " ++ decimal to ++ codes " " ++ decimal left ++ codes " " ++ decimal right)
into_line to (Sq from) = line (codes "sq " ++ decimal to ++ codes " " ++ decimal from)
into_line to (Map map from) = line (codes "map " ++ decimal to ++ codes " " ++ decimal map ++ codes " " ++ decimal from)

-- the numbers of an instruction have 32 bits, and its element is a byte
abbrev pub InstrFits : Instr → Type 0
InstrFits Rnd = Unit {0}
InstrFits (Const value) = value < 256
InstrFits (Copy from) = from < 2 ^ 32
InstrFits (Add left right) = (left < 2 ^ 32) × (right < 2 ^ 32)
InstrFits (Mul left right) = (left < 2 ^ 32) × (right < 2 ^ 32)
InstrFits (Sq from) = from < 2 ^ 32
InstrFits (Map map from) = (map < 2 ^ 32) × (from < 2 ^ 32)

-- the numbers of an instruction that writes a register have 32 bits, and its element is a byte
abbrev pub IntoFits : ℕ → Instr → Type 0
IntoFits to i = (to < 2 ^ 32) × InstrFits i

-- a space and a position in the trace
abbrev pub position_word : ℕ → List ℕ
position_word position = codes " " ++ decimal position

-- the line of an output: the positions of its shares
abbrev pub out_line : List ℕ → List ℕ
out_line positions = line (codes "out" ++ flat_map position_word positions)

-- the lines of so many outputs, each of which has the next `shares` of the positions
unfoldable pub out_lines : ℕ → ℕ → List ℕ → List ℕ
out_lines shares zero positions = []
out_lines shares (suc outputs) positions = out_line (take shares positions) ++ out_lines shares outputs (drop shares positions)
