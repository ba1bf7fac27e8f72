-- One term more.
use Rattle.std.proofs.Common.{◌≡◌, ℕ, ◌+◌, sym, ◌∙◌, ap, ◌^◌, slice_index, bit_xor}
use Rattle.mk_table.specs.Coefficients.{sum_from}
use Rattle.mk_field.specs.declared.field.FieldId.TheVariants.{Gf256}
use Rattle.mk_field.specs.Field.{byte_product, raised}
use Rattle.mk_table.specs.Classes.{doubled_exponent}
use Rattle.mk_table.proofs.Steps.{sum_next}
use Rattle.mk_table.proofs.images.class_image.Goals as goal

pub loop-times-preserved : goal.loop-times-preserved
loop-times-preserved c =
    let sum : c.add-sum.result ≡ sum_from 0 (c.loop-times.times + 1) (λ j. byte_product (slice_index c.args.coefficients.now (doubled_exponent c.args.k j)) (raised Gf256 c.args.a (2 ^ j))) =
    c.add-sum.ensures
    ∙ (λ i. bit_xor (c.loop-times.invariant.0 i)
    ((c.mul.ensures
    ∙ ap (λ (e : ℕ). byte_product (slice_index c.args.coefficients.now e) c.raise.result) (c.from.ensures ∙ c.double.ensures)
    ∙ ap (byte_product (slice_index c.args.coefficients.now (doubled_exponent c.args.k c.loop-times.times))) (c.raise.ensures ∙ ap (raised Gf256 c.args.a) c.bit.ensures)) i))
    ∙ sym (sum_next c.loop-times.times (λ j. byte_product (slice_index c.args.coefficients.now (doubled_exponent c.args.k j)) (raised Gf256 c.args.a (2 ^ j)))) in
    (sum, c.add-sum.type_inv)
