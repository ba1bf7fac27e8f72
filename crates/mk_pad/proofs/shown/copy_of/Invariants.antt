use Rattle.std.proofs.Common.{◌≡◌, take}
use Rattle.mk_pad.proofs.shown.copy_of.Given as goal

abbrev pub invariant-loop-position : goal.invariant-loop-position
invariant-loop-position l = l.copied.items ≡ take l.position-index l.set
