-- The maps so far.
use Rattle.std.proofs.Common.{◌≡◌, take}
use Rattle.mk_types.specs.Elements.{maps_of}
use Rattle.mk_unroll.proofs.beginning.maps_in_order.Given as goal

abbrev pub invariant-loop-decl : goal.invariant-loop-decl
invariant-loop-decl l = l.maps ≡ maps_of (take l.decl-index l.decls)
