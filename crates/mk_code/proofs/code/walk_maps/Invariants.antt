-- The maps so far are held as bytes.
use Rattle.std.proofs.Common.{take}
use Rattle.std.specs.List.{AllByRecursion}
use Rattle.mk_field.specs.Maps.{MapFits}
use Rattle.mk_code.proofs.code.walk_maps.Given as goal

abbrev pub invariant-loop-map : goal.invariant-loop-map
invariant-loop-map l = record {
  fits : AllByRecursion MapFits (take l.map-index l.maps);
}
