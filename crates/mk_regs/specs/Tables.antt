-- The tables that an allocation goes by: up to where each entry is read, and which registers are free.
use Rattle.std.specs.Prelude.{◌≡◌, ℕ, ◌+◌, ◌≤◌, ◌<◌, ◌⊎◌, Bool, List, [], ◌∷◌, length, drop, nat_eq, nat_lt, nat_le, ◌&&◌, if◌then◌else◌, slice_index, slice_set}
use Rattle.std.specs.List.{sum_by}
use Rattle.std.specs.declared.cmp.Reverse.{Reverse}
use Rattle.mk_code.specs.Listing.{Listing, trace_len}
use Rattle.mk_regs.specs.Width.{is_among, is_read}

-- where an entry isn't known to be read yet, its number becomes this one: one more than that of the instruction that
-- reads it, the outs being read behind the last
abbrev pub marked : ℕ → List ℕ → ℕ → List ℕ
marked reader last q = if nat_eq (slice_index last q) 0 then slice_set last q reader else last

-- the table has, for each entry, a number that is above that of each instruction that reads it, and not above the
-- last: so it tells whether the entry is read from instruction k on
pub record TellsReads (code : Listing) (last : List ℕ) : Type 0 where
  pub count : length last ≡ trace_len code
  pub reads : (p k : ℕ) → p < trace_len code → k ≤ length code.instrs
      → is_read (drop k code.instrs) code.outs p ≡ nat_lt k (slice_index last p)

-- 1 where a test holds, else 0
abbrev pub one_where : Bool → ℕ
one_where b = if b then 1 else 0

-- how often a register stands among free ones
abbrev pub times_free : List (Reverse ℕ) → ℕ → ℕ
times_free items r = sum_by (λ x. one_where (nat_eq x.0 r)) items

-- a register that was taken: the least of the free ones, or the next one where none is free
pub record IsTaken (before after : List (Reverse ℕ)) (next behind to : ℕ) : Type 0 where
  pub least : (s : ℕ) → s < to → times_free before s ≡ 0
  pub taken : ((r : ℕ) → times_free before r ≡ times_free after r + one_where (nat_eq to r)) × (behind ≡ next)
      ⊎ ((r : ℕ) → (times_free before r ≡ 0) × (times_free after r ≡ 0)) × (to ≡ next) × (behind ≡ next + 1)

-- how often a register comes free where these entries are read, and nothing from instruction `from` on reads them: once
-- for each entry that stands in it
abbrev pub freed : List ℕ → List ℕ → ℕ → ℕ → List ℕ → ℕ
freed register_of last from r [] = 0
freed register_of last from r (q ∷ qs) =
    (if is_among q qs then 0 else one_where (nat_le (slice_index last q) from && nat_eq (slice_index register_of q) r)) + freed register_of last from r qs
