-- Which register code is allocated for code.
use Rattle.std.specs.Prelude.{◌≡◌, ℕ, ◌+◌, ◌<◌, Bool, true, false, not, List, [], ◌∷◌, Option, Some, None}
use Rattle.mk_code.specs.declared.instr.Instr.{Instr}
use Rattle.mk_code.specs.Listing.{Listing}
use Rattle.mk_regs.specs.declared.instr.RegInstr.{RegInstr}
use Rattle.mk_regs.specs.Form.{RegListing, target, entries_len}
use Rattle.mk_regs.specs.Renaming.{holding, held_on_entry, stepped, IsRenamed}
use Rattle.mk_regs.specs.Width.{is_read, width}

-- whether what a register holds isn't read by these instructions or outs
abbrev pub is_unread : Option ℕ → List Instr → List ℕ → Bool
is_unread None later outs = true
is_unread (Some p) later outs = not (is_read later outs p)

-- the register is free: it holds no entry that one of these instructions or an out reads
abbrev pub is_free : List (Option ℕ) → List Instr → List ℕ → ℕ → Bool
is_free held later outs r = is_unread (holding held r) later outs

-- the least free register
pub record IsLeastFree (held : List (Option ℕ)) (later : List Instr) (outs : List ℕ) (r : ℕ) : Type 0 where
  pub free : is_free held later outs r ≡ true
  pub least : (s : ℕ) → s < r → is_free held later outs s ≡ false

-- each result goes to the least register that is free for the instructions behind its own, which are those of the code
unfoldable pub GoLeast : List (Option ℕ) → ℕ → List ℕ → List RegInstr → List Instr → Type 0
GoLeast held position outs [] code = Unit {0}
GoLeast held position outs (i ∷ is) [] = ⊥
GoLeast held position outs (i ∷ is) (c ∷ later) =
    IsLeastFree held later outs (target i) × GoLeast (stepped held position i) (position + 1) outs is later

-- the register code that is allocated for the code: it is renamed to the code, has as many registers as the code is
-- wide, and each result goes to the least register that holds no entry which a later instruction or an out reads
pub record IsAllocated (code : Listing) (r : RegListing) : Type 0 where
  pub renamed : IsRenamed r code
  pub registers : r.registers ≡ width code
  pub least : GoLeast (held_on_entry (entries_len r) r.registers) (entries_len r) code.outs r.instrs code.instrs
