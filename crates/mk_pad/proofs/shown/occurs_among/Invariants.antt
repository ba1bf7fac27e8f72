use Rattle.std.proofs.Common.{◌≡◌, false, take}
use Rattle.std.specs.List.{list_any}
use Rattle.mk_pad.specs.Shown.{occurs, polynomial_of}
use Rattle.mk_pad.proofs.shown.occurs_among.Given as goal

abbrev pub invariant-loop-position : goal.invariant-loop-position
invariant-loop-position l = list_any (λ q. occurs l.variable (polynomial_of l.gadget q)) (take l.position-index l.left) ≡ false
