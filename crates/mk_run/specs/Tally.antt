-- Tallies: how many tapes show each tuple in two worlds.
use Rattle.std.specs.Prelude.{ℕ, ◌+◌, ◌<◌, List, Vec, Option, IfSome, unwrap_or}
use Rattle.std.specs.BTreeMap.{BTreeMap, get_by}
use Rattle.std.specs.Cmp.Lexicographic.{slice_cmp}
use Rattle.std.specs.Ordering.{nat_cmp}
use Rattle.mk_run.specs.declared.tally.Tally.{Tally}
use Rattle.mk_run.specs.declared.tally.World.{World}
use Rattle.mk_run.specs.declared.tally.World.TheVariants.{First, Second}

-- no tape in either world
abbrev pub none : Tally
none = record { first = 0; second = 0 }

-- n more tapes in a world
abbrev pub more : World → ℕ → Tally → Tally
more First n t = record { first = t.first + n; second = t.second }
more Second n t = record { first = t.first; second = t.second + n }

-- the number of tapes in a world
abbrev pub number : World → Tally → ℕ
number First t = t.first
number Second t = t.second

-- the tally that is kept for a tuple, if there is one
abbrev pub kept : {Z : Type 0} → BTreeMap (Vec ℕ Z) Tally → List ℕ → Option Tally
kept tallies tuple = get_by (λ key. slice_cmp nat_cmp tuple key.items) tallies

-- the tally of a tuple: none, where none is kept
abbrev pub tally_of : {Z : Type 0} → BTreeMap (Vec ℕ Z) Tally → List ℕ → Tally
tally_of tallies tuple = unwrap_or (kept tallies tuple) none

-- no tally is kept of a tuple that no tape shows
abbrev pub KeepsShown : {Z : Type 0} → BTreeMap (Vec ℕ Z) Tally → Type 0
KeepsShown tallies = (tuple : List ℕ) → IfSome (kept tallies tuple) (λ t. 0 < t.first + t.second)
