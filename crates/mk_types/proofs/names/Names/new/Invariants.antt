-- What the table knows of the declarations so far, and how many maps they make.
use Rattle.std.proofs.Common.{◌≡◌, length, take}
use Rattle.mk_types.specs.Elements.{maps_of}
use Rattle.mk_types.specs.Known.{Knows}
use Rattle.mk_types.proofs.names.Names.new.Given as goal

abbrev pub invariant-loop-number : goal.invariant-loop-number
invariant-loop-number l = record {
  maps : l.maps ≡ length (maps_of (take l.number l.decls));
  table : Knows l.table (take l.number l.decls);
}
