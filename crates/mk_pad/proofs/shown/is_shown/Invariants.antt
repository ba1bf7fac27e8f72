use Rattle.std.proofs.Common.{ℕ, ◌<◌, ◌≤◌}
use Rattle.mk_pad.specs.Shown.{shares_in, inner}
use Rattle.mk_pad.proofs.shown.is_shown.Given as goal

abbrev pub invariant-loop-operand : goal.invariant-loop-operand
invariant-loop-operand l = (k : ℕ) → k < l.operand → shares_in l.gadget l.rest.items k ≤ inner l.gadget l.set
