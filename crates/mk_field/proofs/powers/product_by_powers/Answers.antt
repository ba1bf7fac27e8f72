-- A byte that is not 0 is a power of 03, and the exponents of a product add up.
use Rattle.std.proofs.Common.{◌∙◌, ap, sym}
use Rattle.mk_field.specs.Field.{byte_product}
use Rattle.mk_field.specs.Powers.{power}
use Rattle.mk_field.proofs.Bytes.{byte_product-zero_left, byte_product-zero_right}
use Rattle.mk_field.proofs.Exponents.{power-sum}
use Rattle.mk_field.proofs.powers.product_by_powers.Goals.{then-a-eq0-via-then-a-eq0, then-a-eq0-via-else-a-eq0+then-b-eq0}
use Rattle.mk_field.proofs.powers.product_by_powers.Goals as goal

pub returns-then-a-eq0 : goal.returns-then-a-eq0
returns-then-a-eq0 c = elim c.then-a-eq0.branch [
  | then-a-eq0-via-then-a-eq0 w ↦ sym (byte_product-zero_left c.args.b) ∙ ap (λ x. byte_product x c.args.b) (sym w.if-a-eq0.true)
  | then-a-eq0-via-else-a-eq0+then-b-eq0 w ↦ sym (byte_product-zero_right c.args.a) ∙ ap (byte_product c.args.a) (sym w.if-b-eq0.true)
]

pub returns : goal.returns
returns c =
    c.power_at.ensures ∙ power-sum c.exponent_of.result c.exponent_of-2.result
    ∙ ap (λ x. byte_product x (power c.exponent_of-2.result)) c.exponent_of.ensures.value ∙ ap (byte_product c.args.a) c.exponent_of-2.ensures.value
