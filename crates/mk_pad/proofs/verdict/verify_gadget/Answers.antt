-- The first set that isn't shown is the verdict, and where there is none the gadget is strong.
use Rattle.std.proofs.Common.{◌∙◌, sym, subst}
use Rattle.mk_pad.specs.Looking.{IsFirstNotShown}
use Rattle.mk_pad.proofs.Strengths.{strong-from_shown}
use Rattle.mk_pad.proofs.verdict.verify_gadget.Goals as goal

pub returns-in-Some-clause-verdict : goal.returns-in-Some-clause-verdict
returns-in-Some-clause-verdict c =
    subst (IsFirstNotShown c.args.gadget.now) (sym (c.in_ok-probes.ensures ∙ c.as_slice-in-Some.ensures.value)) c.in-Some.ensures

pub returns-clause-strong : goal.returns-clause-strong
returns-clause-strong c = λ is. strong-from_shown c.args.gadget.now c.law.ensures c.in_default.ensures
