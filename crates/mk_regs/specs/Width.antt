-- How many entries of a trace are still wanted.
use Rattle.std.specs.Prelude.{ℕ, ◌+◌, ◌||◌, Bool, List, [], ◌∷◌, nat_eq, max, if◌then◌else◌}
use Rattle.std.specs.List.{list_any}
use Rattle.mk_code.specs.declared.instr.Instr.{Instr}
use Rattle.mk_code.specs.Listing.{Listing, inputs_len}
use Rattle.mk_code.specs.Counting.{sum_below}
use Rattle.mk_regs.specs.Form.{operands}

-- whether one of these positions is p
abbrev pub is_among : ℕ → List ℕ → Bool
is_among p positions = list_any (λ q. nat_eq q p) positions

-- whether the entry at p is read by one of these instructions or by an out
unfoldable pub is_read : List Instr → List ℕ → ℕ → Bool
is_read [] outs p = is_among p outs
is_read (i ∷ is) outs p = is_among p (operands i) || is_read is outs p

-- how many numbers below n pass a test
abbrev pub count_below : ℕ → (ℕ → Bool) → ℕ
count_below n test = sum_below n (λ p. if test p then 1 else 0)

-- the number of entries that are live behind an instruction with `position` entries before its own, where `later` are
-- the instructions behind it: those that a later instruction or an out reads, and its own in any case
abbrev pub live_count : ℕ → List Instr → List ℕ → ℕ
live_count position later outs = count_below (position + 1) (λ p. nat_eq p position || is_read later outs p)

-- the greatest of these numbers, for the instructions with `position` entries before them
unfoldable pub most_live : ℕ → List Instr → List ℕ → ℕ
most_live position [] outs = 0
most_live position (i ∷ is) outs = max (live_count position is outs) (most_live (position + 1) is outs)

-- the width of code: the greatest number of entries that are live behind an instruction, and at least the number of
-- shares and publics
abbrev pub width : Listing → ℕ
width code =
    let entries = inputs_len code.order code.secrets code.publics in
    max entries (most_live entries code.instrs code.outs)
