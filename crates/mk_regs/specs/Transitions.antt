-- Transitions: a write to a register shows the entry that stood there before, if any, and the new one.
use Rattle.std.specs.Prelude.{◌≡◌, ℕ, ◌+◌, ◌*◌, ◌≤◌, List, [], ◌∷◌, ◌++◌, length, slice_index_or, Option}
use Rattle.std.specs.Option.{option_to_list}
use Rattle.std.specs.List.{flat_map}
use Rattle.mk_field.specs.Field.{size}
use Rattle.mk_code.specs.Counting.{AllBelow, Elements}
use Rattle.mk_regs.specs.declared.instr.RegInstr.{RegInstr}
use Rattle.mk_regs.specs.Form.{RegListing, target, entries_len}
use Rattle.mk_regs.specs.Renaming.{holding, held_on_entry, stepped}
use Rattle.mk_regs.specs.Trace.{register_ways}

-- for each instruction, the positions that its write shows
unfoldable pub writes_from : List (Option ℕ) → ℕ → List RegInstr → List (List ℕ)
writes_from held position [] = []
writes_from held position (i ∷ is) =
    (option_to_list (holding held (target i)) ++ position ∷ []) ∷ writes_from (stepped held position i) (position + 1) is

-- the same of register code
abbrev pub shown_by_writes : RegListing → List (List ℕ)
shown_by_writes r = writes_from (held_on_entry (entries_len r) r.registers) (entries_len r) r.instrs

-- the positions that the writes of these instructions show
abbrev pub transitions : RegListing → List ℕ → List ℕ
transitions r writes = flat_map (λ k. slice_index_or (shown_by_writes r) k []) writes

-- for the same public inputs and any two lists of secrets, at most half as many writes as the order show each list of
-- values in equally many ways
abbrev pub IsPrivateAtWrites : RegListing → Type 0
IsPrivateAtWrites r =
    (publics first second writes seen : List ℕ)
    → Elements (size r.field) r.publics publics
    → Elements (size r.field) r.secrets first
    → Elements (size r.field) r.secrets second
    → 2 * length writes ≤ r.order → AllBelow (length r.instrs) writes
    → register_ways r publics first (transitions r writes) seen ≡ register_ways r publics second (transitions r writes) seen
