use Rattle.std.proofs.Common.{◌≡◌, true}
use Rattle.std.specs.List.{list_any, AllWithin}
use Rattle.mk_pad.specs.Shown.{occurs, polynomial_of, without}
use Rattle.mk_pad.proofs.shown.may_take.Given as goal

abbrev pub invariant-loop-random : goal.invariant-loop-random
invariant-loop-random l =
    AllWithin (λ random. list_any (λ q. occurs random (polynomial_of l.gadget q)) (without l.position l.left) ≡ true) l.added 0 l.random-index
