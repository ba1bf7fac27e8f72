-- A renaming of register code, instruction by instruction.
use Rattle.std.specs.Prelude.{ℕ, ◌+◌, ◌≤◌, List, Option, Some, None, length, nat_eq, if◌then◌else◌}
use Rattle.mk_code.specs.declared.TheConstants.{MOST_INSTRS}
use Rattle.mk_regs.specs.declared.instr.RegInstr.{RegInstr}
use Rattle.mk_regs.specs.declared.TheConstants.{MOST_REGISTERS}
use Rattle.mk_regs.specs.declared.renamer.TheConstants.{NOTHING}
use Rattle.mk_regs.specs.Renaming.{stepped}

-- what a register holds whose number in the table is this one
abbrev pub held_by : ℕ → Option ℕ
held_by number = if nat_eq number NOTHING then None else Some number

-- a renaming so far: what each register holds, how many entries there were on entry, and how many instructions were
-- renamed
pub record Renaming : Type 0 where
  pub held : List (Option ℕ)
  pub entries : ℕ
  pub accepted : ℕ

-- what always holds of a renaming
pub record IsRenaming (s : Renaming) : Type 0 where
  pub entries : s.entries ≤ length s.held
  pub registers : length s.held ≤ MOST_REGISTERS
  pub few : s.accepted ≤ MOST_INSTRS

-- one instruction further
abbrev pub behind : Renaming → RegInstr → Renaming
behind s i = record { held = stepped s.held (s.entries + s.accepted) i; entries = s.entries; accepted = s.accepted + 1 }
