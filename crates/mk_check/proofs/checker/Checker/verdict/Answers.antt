-- The first part of the rule that fails, or none does.
use Rattle.std.proofs.Common.{◌≡◌, ◌+◌, ℕ, List, Option, MatchOption, OnOk, IfErr, subst, ◌∙◌}
use Rattle.mk_code.specs.Listing.{Listing}
use Rattle.mk_ssa.specs.declared.Op.{Op}
use Rattle.mk_gadget.specs.Product.{product_gadget}
use Rattle.mk_gadget.specs.Refresh.{refresh_gadget}
use Rattle.mk_rules.specs.Faults.{FirstUnwired}
use Rattle.mk_rules.specs.Reaches.{Undoubled, links}
use Rattle.mk_rules.specs.Wired.{Wired}
use Rattle.mk_check.specs.Outlines.{IsOver, outlined, code_over}
use Rattle.mk_check.specs.Given.{Checking, Given, IsTiled, IsOff, HasOutputs, IsWrong}
use Rattle.mk_check.specs.Passing.{IsDoubling}
use Rattle.mk_check.specs.Verdict.{IsRefused}
use Rattle.mk_check.specs.declared.refusal.CheckRefusal.TheVariants as refusal
use Rattle.mk_check.proofs.Over.{refuses-over, ok-over, err-over}
use Rattle.mk_check.proofs.Verdicts.{undoubled-accepted, doubled-refused}
use Rattle.mk_check.proofs.checker.Checker.verdict.Goals as goal

pub returns-in-Some-clause-refused : goal.returns-in-Some-clause-refused
returns-in-Some-clause-refused c =
    subst (λ (s : Checking). (code : Listing) → IsOver code s.outline → Given s code.instrs code.outs → IsRefused code s.cert (refusal.Operand c.in-Some.block)) c.self.view_is
    (λ code over given.
    refuses-over code c.self.inside.plan.outline c.self.inside.plan.cert (refusal.Operand c.in-Some.block) over
    (subst (λ (o : Option ℕ). MatchOption o (Wired (outlined c.self.inside.plan.outline) c.self.inside.plan.cert.blocks)
    (λ k. FirstUnwired (outlined c.self.inside.plan.outline) c.self.inside.plan.cert.blocks k)) c.in-Some.is c.self.invariant.1))

pub returns-in-Some-first_off-clause-refused : goal.returns-in-Some-first_off-clause-refused
returns-in-Some-first_off-clause-refused c = λ code over given.
    let wired : Wired (outlined c.args.self.now.outline) c.args.self.now.cert.blocks =
    subst (λ (s : Checking). Wired (outlined s.outline) s.cert.blocks) c.self.view_is
    (subst (λ (o : Option ℕ). MatchOption o (Wired (outlined c.self.inside.plan.outline) c.self.inside.plan.cert.blocks)
    (λ k. FirstUnwired (outlined c.self.inside.plan.outline) c.self.inside.plan.cert.blocks k)) c.in_default.is c.self.invariant.1) in
    refuses-over code c.args.self.now.outline c.args.self.now.cert (refusal.Tile c.in-Some-first_off.instr) over (
      wired,
      subst (λ (o : Option ℕ). MatchOption o (IsTiled c.args.self.now code.instrs code.outs) (λ k. IsOff c.args.self.now code.instrs code.outs k)) c.in-Some-first_off.is
          (c.first_off.ensures code.instrs code.outs given wired),
    )

pub returns-in-Some-first_wrong-clause-refused : goal.returns-in-Some-first_wrong-clause-refused
returns-in-Some-first_wrong-clause-refused c = λ code over given.
    let wired : Wired (outlined c.args.self.now.outline) c.args.self.now.cert.blocks =
    subst (λ (s : Checking). Wired (outlined s.outline) s.cert.blocks) c.self.view_is
    (subst (λ (o : Option ℕ). MatchOption o (Wired (outlined c.self.inside.plan.outline) c.self.inside.plan.cert.blocks)
    (λ k. FirstUnwired (outlined c.self.inside.plan.outline) c.self.inside.plan.cert.blocks k)) c.in_default.is c.self.invariant.1) in
    refuses-over code c.args.self.now.outline c.args.self.now.cert (refusal.Output c.in-Some-first_wrong.index) over (
      wired,
      subst (λ (o : Option ℕ). MatchOption o (IsTiled c.args.self.now code.instrs code.outs) (λ k. IsOff c.args.self.now code.instrs code.outs k)) c.in_default-first_off.is
          (c.first_off.ensures code.instrs code.outs given wired),
      subst (λ (o : Option ℕ). MatchOption o (HasOutputs c.args.self.now code.instrs code.outs) (λ k. IsWrong c.args.self.now code.instrs code.outs k)) c.in-Some-first_wrong.is
          (c.first_wrong.ensures code.instrs code.outs given wired),
    )

pub returns-clause-accepted : goal.returns-clause-accepted
returns-clause-accepted c = λ code over given.
    let wired : Wired (outlined c.args.self.now.outline) c.args.self.now.cert.blocks =
    subst (λ (s : Checking). Wired (outlined s.outline) s.cert.blocks) c.self.view_is
    (subst (λ (o : Option ℕ). MatchOption o (Wired (outlined c.self.inside.plan.outline) c.self.inside.plan.cert.blocks)
    (λ k. FirstUnwired (outlined c.self.inside.plan.outline) c.self.inside.plan.cert.blocks k)) c.in_default.is c.self.invariant.1) in
    let same : c.as_slice.result.now ≡ c.self.inside.plan.cert.blocks = c.as_slice.ensures.items ∙ c.blocks-2.ensures in
    ok-over code c.args.self.now.outline c.args.self.now.cert c.undoubled.result over
    (undoubled-accepted (code_over c.args.self.now.outline code.instrs code.outs) (product_gadget (c.args.self.now.outline.order + 1)) (refresh_gadget (c.args.self.now.outline.order + 1)) c.args.self.now.cert wired
    (subst (λ (o : Option ℕ). MatchOption o (IsTiled c.args.self.now code.instrs code.outs) (λ k. IsOff c.args.self.now code.instrs code.outs k)) c.in_default-first_off.is
    (c.first_off.ensures code.instrs code.outs given wired))
    (subst (λ (o : Option ℕ). MatchOption o (HasOutputs c.args.self.now code.instrs code.outs) (λ k. IsWrong c.args.self.now code.instrs code.outs k)) c.in_default-first_wrong.is
    (c.first_wrong.ensures code.instrs code.outs given wired))
    c.undoubled.result
    (subst (λ (s : Checking). OnOk c.undoubled.result (Undoubled (s.outline.secrets + s.outline.publics) (links (outlined s.outline) s.cert.blocks))) c.self.view_is
    (subst (λ (ops : List Op). OnOk c.undoubled.result (Undoubled (c.self.inside.plan.outline.secrets + c.self.inside.plan.outline.publics) (links (outlined c.self.inside.plan.outline) ops))) same
    c.undoubled.ensures.ok)))

pub returns-clause-refused : goal.returns-clause-refused
returns-clause-refused c = λ code over given.
    let wired : Wired (outlined c.args.self.now.outline) c.args.self.now.cert.blocks =
    subst (λ (s : Checking). Wired (outlined s.outline) s.cert.blocks) c.self.view_is
    (subst (λ (o : Option ℕ). MatchOption o (Wired (outlined c.self.inside.plan.outline) c.self.inside.plan.cert.blocks)
    (λ k. FirstUnwired (outlined c.self.inside.plan.outline) c.self.inside.plan.cert.blocks k)) c.in_default.is c.self.invariant.1) in
    let same : c.as_slice.result.now ≡ c.self.inside.plan.cert.blocks = c.as_slice.ensures.items ∙ c.blocks-2.ensures in
    err-over code c.args.self.now.outline c.args.self.now.cert c.undoubled.result over
    (doubled-refused (code_over c.args.self.now.outline code.instrs code.outs) (product_gadget (c.args.self.now.outline.order + 1)) (refresh_gadget (c.args.self.now.outline.order + 1)) c.args.self.now.cert wired
    (subst (λ (o : Option ℕ). MatchOption o (IsTiled c.args.self.now code.instrs code.outs) (λ k. IsOff c.args.self.now code.instrs code.outs k)) c.in_default-first_off.is
    (c.first_off.ensures code.instrs code.outs given wired))
    (subst (λ (o : Option ℕ). MatchOption o (HasOutputs c.args.self.now code.instrs code.outs) (λ k. IsWrong c.args.self.now code.instrs code.outs k)) c.in_default-first_wrong.is
    (c.first_wrong.ensures code.instrs code.outs given wired))
    c.undoubled.result
    (subst (λ (s : Checking). IfErr c.undoubled.result (λ e. IsDoubling (outlined s.outline) s.cert.blocks e)) c.self.view_is
    (subst (λ (ops : List Op). IfErr c.undoubled.result (λ e. IsDoubling (outlined c.self.inside.plan.outline) ops e)) same c.undoubled.ensures.doubled)))
