-- What stands behind a loop.
use Rattle.std.specs.Prelude.{◌-◌, length, take}
use Rattle.mk_types.specs.Scope.{Scope}

-- behind the innermost loop
abbrev pub outside : Scope → Scope
outside s = record { field = s.field; decls = s.decls; loops = take (length s.loops - 1) s.loops }
