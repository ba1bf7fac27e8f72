-- What is noted of no offence is nothing, and else the first.
use Rattle.std.proofs.Common.{refl, sym, ◌∙◌, inr}
use Rattle.mk_types.proofs.Least.{first_noted, none_noted}
use Rattle.mk_types.specs.Offences.{offences}
use Rattle.mk_types.proofs.typed.check_types.Goals as goal

pub invariant_of-result : goal.invariant_of-result
invariant_of-result c = (c.requires.regular, none_noted (offences c.args.p) (sym c.in_ok-first_offence.ensures ∙ c.in-None.is))

pub returns-in-None-clause-typed : goal.returns-in-None-clause-typed
returns-in-None-clause-typed c = (refl, none_noted (offences c.args.p) (sym c.in_ok-first_offence.ensures ∙ c.in-None.is))

pub returns-in-Some-clause-first : goal.returns-in-Some-clause-first
returns-in-Some-clause-first c =
    inr (
      c.in-Some.offence,
      first_noted (offences c.args.p) c.in-Some.offence (sym c.in_ok-first_offence.ensures ∙ c.in-Some.is),
      c.refusal.ensures,
    )
