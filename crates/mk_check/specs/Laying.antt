-- The instructions and banks of blocks, by some gadgets.
use Rattle.std.specs.Prelude.{◌≡◌, ℕ, List, take}
use Rattle.mk_code.specs.declared.instr.Instr.{Instr}
use Rattle.mk_code.specs.Listing.{Listing}
use Rattle.mk_ssa.specs.declared.Op.{Op}
use Rattle.mk_rules.specs.Shape.{Shape, shape_of}
use Rattle.mk_rules.specs.Tiles.{laid, input_banks, first_position, banks_of}
use Rattle.mk_check.specs.Gadgets.{Gadgets}

-- the instructions of the blocks, one after the other
abbrev pub all_laid : Shape → Gadgets → List Op → List Instr
all_laid shape gadgets blocks = laid shape gadgets.product gadgets.refresh (input_banks shape) (first_position shape) blocks

-- the banks of the inputs and of the blocks
abbrev pub all_banks : Shape → Gadgets → List Op → List (List ℕ)
all_banks shape gadgets blocks = banks_of shape gadgets.product gadgets.refresh blocks

-- the code's instructions are those of the blocks, as far as this number of them
abbrev pub AgreesTo : Listing → Gadgets → List Op → ℕ → Type 0
AgreesTo code gadgets blocks position = take position code.instrs ≡ take position (all_laid (shape_of code) gadgets blocks)
