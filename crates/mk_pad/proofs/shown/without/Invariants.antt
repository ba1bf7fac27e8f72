use Rattle.std.proofs.Common.{◌≡◌, ◌≤◌, length, take}
use Rattle.mk_pad.specs.Shown.{without}
use Rattle.mk_pad.proofs.shown.without.Given as goal

abbrev pub invariant-loop-other : goal.invariant-loop-other
invariant-loop-other l = (l.others.items ≡ without l.position (take l.other-index l.left)) × (length l.others.items ≤ l.other-index)
