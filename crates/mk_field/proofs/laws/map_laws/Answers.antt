-- The laws hold for each map.
use Rattle.mk_field.proofs.Product.{map_laws-hold}
use Rattle.mk_field.proofs.laws.map_laws.Goals as goal

pub returns : goal.returns
returns c = map_laws-hold
