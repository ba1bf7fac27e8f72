-- What is allocated is written with the certificate that was checked.
use Rattle.std.proofs.Common.{Result, IfErr, Some, sym, subst}
use Rattle.std.proofs.lemmas.Result.{err_from_is_err_and}
use Rattle.mk_rules.specs.Claimed.{Claimed}
use Rattle.mk_bundle.specs.Pairs.{IsRegisterPair}
use Rattle.mk_bundle.specs.Text.{register_text}
use Rattle.mk_words.specs.Words.{Regs}
use Rattle.mk_top.specs.declared.answer.RegisterBundle.{RegisterBundle}
use Rattle.mk_top.specs.declared.fault.Fault.{Fault}
use Rattle.mk_top.specs.Headline.{Allocates}
use Rattle.mk_top.specs.Running.{NotMade}
use Rattle.mk_top.proofs.Allocated.{allocated-pair, allocates-made}
use Rattle.mk_top.proofs.registers.registers_of.Goals as goal

pub returns-clause-allocates : goal.returns-clause-allocates
returns-clause-allocates c text is =
    let made = c.in_ok-over_registers.field-0 in
    subst (λ (cert : Claimed). Allocates (Some text) (register_text made.code cert)) (sym (c.in_ok-over_registers.ensures).cert)
    (allocates-made text c.args.bundle.code c.args.bundle.cert made.code is (c.in_ok-check_bundle.ensures).accepted (c.in_ok-check_bundle.ensures).private
    (c.in_ok-over_registers.ensures).listing (c.in_ok-over_registers.ensures).allocated)

pub returns-clause-pair : goal.returns-clause-pair
returns-clause-pair c text is =
    let made = c.in_ok-over_registers.field-0 in
    subst (IsRegisterPair made.code) (sym (c.in_ok-over_registers.ensures).cert)
    (allocated-pair text c.args.bundle.code c.args.bundle.cert made.code is (c.in_ok-over_registers.ensures).listing (c.in_ok-over_registers.ensures).allocated)

pub returns-in_err-check_bundle-clause-fault : goal.returns-in_err-check_bundle-clause-fault
returns-in_err-check_bundle-clause-fault c text is =
    let p = err_from_is_err_and c.from_residual.result c.from_residual.ensures.1 in
    subst (λ (r : Result RegisterBundle Fault). IfErr r (NotMade Regs text)) (sym p.1)
    (subst (NotMade Regs text) (sym p.2) ((c.in_err-check_bundle.ensures).fault text is))
