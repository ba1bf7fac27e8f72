-- The positions so far are those of the shares.
use Rattle.std.proofs.Common.{◌≡◌, ◌<◌, ℕ, [], Some, slice_get, slice_index, slice_index_or}
use Rattle.mk_check.specs.Laying.{all_banks}
use Rattle.mk_check.specs.Outlines.{outlined}
use Rattle.mk_check.proofs.outputs.is_bank.Given as goal

abbrev pub invariant-loop-k : goal.invariant-loop-k
invariant-loop-k l = (j : ℕ) → j < l.k
    → slice_get (slice_index_or (all_banks (outlined l.plan.outline) l.plan.templates l.plan.cert.blocks) l.number []) j ≡ Some (slice_index l.positions j)
