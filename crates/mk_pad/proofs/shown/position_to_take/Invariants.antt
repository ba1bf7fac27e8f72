use Rattle.std.proofs.Common.{ℕ, ◌<◌, slice_index}
use Rattle.mk_pad.specs.Shown.{MayTake}
use Rattle.mk_pad.proofs.shown.position_to_take.Given as goal

abbrev pub invariant-loop-position : goal.invariant-loop-position
invariant-loop-position l = (i : ℕ) → i < l.position-index → MayTake l.gadget l.left (slice_index l.left i) → ⊥
