-- Why a program is not unrolled: each cause, where none before it holds.
use Rattle.std.specs.Prelude.{◌≡◌, ℕ, ◌+◌, ◌*◌, ◌≤◌, ◌<◌, Some, None}
use Rattle.mk_unroll.specs.declared.TheConstants.{MOST_ELEMENTS, MOST_SIZE}
use Rattle.mk_ast.specs.declared.tree.Program.{Program}
use Rattle.mk_ast.specs.declared.refusal.SourceRefusal.{SourceRefusal}
use Rattle.mk_ast.specs.declared.refusal.SourceRefusal.TheVariants as refusal_
use Rattle.mk_ast.specs.declared.refusal.Limit.TheVariants as limit_
use Rattle.mk_types.specs.Elements.{elements_of}
use Rattle.mk_types.specs.Units.{units}
use Rattle.mk_types.specs.Stops.{Event, operations, stop, event_refusal}

-- the operations times the square of the number of shares
abbrev pub size_at : Program → ℕ → ℕ
size_at p order = operations (units p) * ((order + 1) * (order + 1))

-- it declares at most 65,536 elements
abbrev pub HasFewElements : Program → Type 0
HasFewElements p = elements_of p ≤ MOST_ELEMENTS

-- execution comes to its end
abbrev pub Ends : Program → Type 0
Ends p = stop (units p) ≡ None

-- the size is at most 1,000,000
abbrev pub IsSmall : Program → ℕ → Type 0
IsSmall p order = size_at p order ≤ MOST_SIZE

-- the causes, in order
pub data Cause (p : Program) (order : ℕ) (e : SourceRefusal) : Type 0 where
  Elements : MOST_ELEMENTS < elements_of p → e ≡ refusal_.Large limit_.Elements → Cause p order e
  Stops : (event : Event) → HasFewElements p → stop (units p) ≡ Some event → e ≡ event_refusal event → Cause p order e
  Size : HasFewElements p → Ends p → MOST_SIZE < size_at p order → e ≡ refusal_.Large limit_.Size → Cause p order e
