use Rattle.std.proofs.Common.{◌≡◌, take}
use Rattle.mk_pad.specs.Shown.{inner}
use Rattle.mk_pad.proofs.shown.count_inner.Given as goal

abbrev pub invariant-loop-position : goal.invariant-loop-position
invariant-loop-position l = l.count ≡ inner l.gadget (take l.position-index l.set)
