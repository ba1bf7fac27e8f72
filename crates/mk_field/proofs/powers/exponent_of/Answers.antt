use Rattle.std.proofs.Common.{◌≡◌, ◌∙◌, ap, arith, slice_index}
use Rattle.mk_field.specs.Powers.{power}
use Rattle.mk_field.specs.declared.powers.TheConstants.{EXPONENTS}
use Rattle.mk_field.proofs.Tables.{exponents-below, exponents-entry}
use Rattle.mk_field.proofs.powers.exponent_of.Goals as goal

-- what is read is the entry at the byte
entry : (c : goal.After-from-2) → c.from-2.result ≡ slice_index EXPONENTS c.args.a
entry c = c.from-2.ensures ∙ ap (slice_index EXPONENTS) c.from.ensures

pub returns-clause-small : goal.returns-clause-small
returns-clause-small c = rw (entry c) (exponents-below c.args.a c.requires (omega arith))

pub returns-clause-value : goal.returns-clause-value
returns-clause-value c = ap power (entry c) ∙ exponents-entry c.args.a c.requires (omega arith)
