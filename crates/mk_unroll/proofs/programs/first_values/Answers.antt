-- The maps are maps of bytes.
use Rattle.std.proofs.Common.{sym, subst}
use Rattle.mk_field.specs.Field.{HasMapsOnlyInBytes}
use Rattle.mk_unroll.proofs.Outset.{eight, only_bytes}
use Rattle.mk_unroll.proofs.programs.first_values.Goals as goal

pub maps_in_order-requires : goal.maps_in_order-requires
maps_in_order-requires c = eight c.args.field c.args.decls.now c.requires.typed

pub first_two-requires : goal.first_two-requires
first_two-requires c = subst (HasMapsOnlyInBytes c.args.field) (sym c.in_ok-maps.ensures) (only_bytes c.args.field c.args.decls.now c.requires.typed)
