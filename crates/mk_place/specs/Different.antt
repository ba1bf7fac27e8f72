-- Blocks that differ.
use Rattle.std.specs.Prelude.{◌≡◌, ◌⊎◌, ℕ, List, Some, slice_get}
use Rattle.mk_ssa.specs.declared.Op.{Op}
use Rattle.mk_ssa.specs.declared.Op.TheVariants.{Refresh}

-- the block is a refresh
abbrev pub IsRefresh : Op → Type 0
IsRefresh (Refresh arg) = Unit {0}
IsRefresh _ = ⊥

-- no two blocks have equal operators and operands, but for refreshes
abbrev pub AllDifferButRefreshes : List Op → Type 0
AllDifferButRefreshes blocks = (i j : ℕ) (op : Op) → slice_get blocks i ≡ Some op → slice_get blocks j ≡ Some op → IsRefresh op ⊎ (i ≡ j)
