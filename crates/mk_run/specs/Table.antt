-- The table of what an observer sees in two worlds.
use Rattle.std.specs.Prelude.{◌≡◌, ℕ, ◌+◌, ◌<◌, List, All, Contains, map}
use Rattle.std.specs.Cmp.Lexicographic.{slice_cmp}
use Rattle.std.specs.List.Sorted.{IsStrictlySortedBy}
use Rattle.std.specs.Ordering.{nat_cmp}
use Rattle.mk_run.specs.declared.table.Row.{Row}

-- the rows are for the tuples that come in one of two worlds at least, each in one row, in ascending order, element
-- by element; `first` and `second` tell in how many ways a tuple comes in each world
pub record IsTable (first second : List ℕ → ℕ) (rows : List Row) : Type 0 where
  pub ascending : IsStrictlySortedBy (slice_cmp nat_cmp) (map (λ r. r.seen) rows)
  pub numbers : All (λ r. (r.first ≡ first r.seen) × (r.second ≡ second r.seen)) rows
  pub seen : All (λ r. 0 < r.first + r.second) rows
  pub all : (tuple : List ℕ) → 0 < first tuple + second tuple → Contains (map (λ r. r.seen) rows) tuple

-- two worlds have one table
abbrev pub OneTable : Type 0
OneTable = (first second : List ℕ → ℕ) (rows others : List Row) → IsTable first second rows → IsTable first second others → rows ≡ others
