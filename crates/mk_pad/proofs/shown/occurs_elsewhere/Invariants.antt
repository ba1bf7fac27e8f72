use Rattle.std.proofs.Common.{◌≡◌, false, take}
use Rattle.std.specs.List.{list_any}
use Rattle.mk_pad.specs.Shown.{occurs, polynomial_of, without}
use Rattle.mk_pad.proofs.shown.occurs_elsewhere.Given as goal

abbrev pub invariant-loop-other : goal.invariant-loop-other
invariant-loop-other l = list_any (λ q. occurs l.variable (polynomial_of l.gadget q)) (without l.position (take l.other-index l.left)) ≡ false
