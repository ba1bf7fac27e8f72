-- What is accepted is private.
use Rattle.std.proofs.Common.{OnOk, sym, subst, ◌∙◌}
use Rattle.mk_rules.specs.Accepts.{IsAccepted}
use Rattle.mk_rules.specs.Claimed.{Claimed}
use Rattle.mk_check.specs.Outlines.{IsOver}
use Rattle.mk_check.specs.declared.outline.Outline.{Outline}
use Rattle.mk_check.proofs.Verdicts.{ok-private}
use Rattle.mk_check.proofs.check.Goals as goal

pub returns-clause-private : goal.returns-clause-private
returns-clause-private c =
    let over : IsOver c.args.code.now c.give_outs.new.checker.outline =
    subst (λ (o : Outline). IsOver c.args.code.now o) (sym (c.give_outs.ensures.same.0 ∙ c.give_instrs.ensures.same.0)) c.in_ok-checker.ensures.over in
    ok-private c.args.code.now c.args.cert.now c.law.ensures.images c.finish.result
    (subst (λ (cert : Claimed). OnOk c.finish.result (IsAccepted c.args.code.now cert)) (c.give_outs.ensures.same.1 ∙ c.give_instrs.ensures.same.1 ∙ c.in_ok-checker.ensures.cert)
    (c.finish.ensures.accepted c.args.code.now over c.give_outs.ensures.given))
