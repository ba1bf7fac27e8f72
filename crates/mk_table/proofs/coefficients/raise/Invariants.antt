-- The power so far.
use Rattle.std.proofs.Common.{◌≡◌, ◌<◌}
use Rattle.mk_field.specs.declared.field.FieldId.TheVariants.{Gf256}
use Rattle.mk_field.specs.Field.{raised}
use Rattle.mk_table.proofs.coefficients.raise.Given as goal

abbrev pub invariant-loop : goal.invariant-loop
invariant-loop l = (l.power ≡ raised Gf256 l.a l.counter) × (l.power < 256)
