-- The sum so far.
use Rattle.std.proofs.Common.{◌≡◌, ◌<◌, ◌^◌, slice_index}
use Rattle.mk_field.specs.declared.field.FieldId.TheVariants.{Gf256}
use Rattle.mk_field.specs.Field.{byte_product, raised}
use Rattle.mk_table.specs.Coefficients.{sum_from}
use Rattle.mk_table.specs.Classes.{doubled_exponent}
use Rattle.mk_table.proofs.images.class_image.Given as goal

abbrev pub invariant-loop-times : goal.invariant-loop-times
invariant-loop-times l = (l.sum ≡ sum_from 0 l.times (λ j. byte_product (slice_index l.coefficients (doubled_exponent l.k j)) (raised Gf256 l.a (2 ^ j)))) × (l.sum < 256)
