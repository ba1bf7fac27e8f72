-- The laws hold in each of the two fields.
use Rattle.mk_field.proofs.Product.{product_laws-hold}
use Rattle.mk_field.proofs.laws.product_laws.Goals as goal

pub returns : goal.returns
returns c = product_laws-hold
