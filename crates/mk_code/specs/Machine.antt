-- How a run of a code goes on, instruction by instruction.
use Rattle.std.specs.Prelude.{ℕ, ◌+◌, ◌≤◌, List, [], ◌∷◌, ◌++◌, length, drop, slice_index_or}
use Rattle.mk_field.specs.Field.{size}
use Rattle.mk_code.specs.declared.instr.Instr.{Instr}
use Rattle.mk_code.specs.declared.instr.Instr.TheVariants.{Rnd}
use Rattle.mk_code.specs.Listing.{Listing, inputs_len}
use Rattle.mk_code.specs.Trace.{entry, randoms, run}
use Rattle.mk_code.specs.Counting.{Elements}

-- a run of a code so far: how many instructions are carried out, and the entries of the trace
pub record Progress : Type 0 where
  pub code : Listing
  pub at : ℕ
  pub entries : List ℕ

-- what always holds of a run
pub record IsProgress (p : Progress) : Type 0 where
  pub within : p.at ≤ length p.code.instrs
  pub elements : Elements (size p.code.field) (inputs_len p.code.order p.code.secrets p.code.publics + p.at) p.entries

-- the instruction whose turn it is
abbrev pub next : Progress → Instr
next p = slice_index_or p.code.instrs p.at Rnd

-- one instruction further, the next element of the tape being `word`
abbrev pub stepped : Progress → ℕ → Progress
stepped p word = record { code = p.code; at = p.at + 1; entries = p.entries ++ entry p.code.field p.code.maps (next p) word p.entries ∷ [] }

-- how many elements of the tape the instructions that are left take
abbrev pub needed : Progress → ℕ
needed p = randoms (drop p.at p.code.instrs)

-- the whole trace, where this is what is left of the tape
abbrev pub outcome : Progress → List ℕ → List ℕ
outcome p tape = run p.code.field p.code.maps (drop p.at p.code.instrs) tape p.entries
