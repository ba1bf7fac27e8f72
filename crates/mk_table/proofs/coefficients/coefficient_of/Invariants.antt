-- The sum so far.
use Rattle.std.proofs.Common.{◌≡◌, ◌<◌, ◌-◌, slice_index}
use Rattle.mk_field.specs.declared.field.FieldId.TheVariants.{Gf256}
use Rattle.mk_field.specs.Field.{byte_product, raised}
use Rattle.mk_table.specs.Coefficients.{sum_from}
use Rattle.mk_table.proofs.coefficients.coefficient_of.Given as goal

abbrev pub invariant-loop-a : goal.invariant-loop-a
invariant-loop-a l = (l.sum ≡ sum_from 0 l.a (λ a. byte_product (slice_index l.table a) (raised Gf256 a (255 - l.k)))) × (l.sum < 256)
