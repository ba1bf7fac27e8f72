use Rattle.mk_field.proofs.Tables.{powers-entry}
use Rattle.mk_field.proofs.powers.power_at.Goals as goal

pub returns : goal.returns
returns c = powers-entry c.args.exponent c.requires
