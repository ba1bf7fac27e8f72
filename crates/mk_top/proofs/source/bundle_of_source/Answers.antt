-- Why the program isn't compiled is why nothing is made of the source.
use Rattle.std.proofs.Common.{sym, subst, Result, IfErr}
use Rattle.std.proofs.lemmas.Result.{err_from_is_err_and}
use Rattle.mk_words.specs.Words.{Compile}
use Rattle.mk_top.specs.declared.answer.RegisterBundle.{RegisterBundle}
use Rattle.mk_top.specs.declared.fault.Fault.{Fault}
use Rattle.mk_top.specs.Running.{NotMade}
use Rattle.mk_top.proofs.Given.{compile_not_made}
use Rattle.mk_top.proofs.Allocated.{compiles-made, compiled-pair}
use Rattle.mk_top.proofs.source.bundle_of_source.Goals as goal

pub returns-in_err-bundle-clause-fault : goal.returns-in_err-bundle-clause-fault
returns-in_err-bundle-clause-fault c =
    let p = err_from_is_err_and c.from_residual-in_err-bundle.result c.from_residual-in_err-bundle.ensures.1 in
    subst (λ (r : Result RegisterBundle Fault). IfErr r (NotMade (Compile c.args.order) c.args.source.now)) (sym p.1)
    (subst (NotMade (Compile c.args.order) c.args.source.now) (sym p.2)
    (compile_not_made c.args.order c.args.source.now c.in_ok-typed.typed c.in_err-bundle.field-0.0 (c.in_ok-typed.ensures).typed (c.in_err-bundle.ensures).cause))

pub returns-clause-compiled : goal.returns-clause-compiled
returns-clause-compiled c =
    let b = c.in_ok-bundle.bundle in
    let made = c.in_ok-over_registers.field-0 in
    compiles-made c.args.order c.args.source.now c.in_ok-typed.typed b.code b.cert made.cert made.code
    (c.in_ok-typed.ensures).typed (c.in_ok-bundle.ensures).within (c.in_ok-bundle.ensures).correct (c.in_ok-bundle.ensures).maps (c.in_ok-bundle.ensures).private
    (c.in_ok-bundle.ensures).certified (c.in_ok-bundle.ensures).different (c.in_ok-bundle.ensures).accepted (c.in_ok-bundle.ensures).pair
    (c.in_ok-over_registers.ensures).listing (c.in_ok-over_registers.ensures).allocated (c.in_ok-over_registers.ensures).cert

pub returns-clause-pair : goal.returns-clause-pair
returns-clause-pair c =
    let b = c.in_ok-bundle.bundle in
    let made = c.in_ok-over_registers.field-0 in
    compiled-pair b.code b.cert made.cert made.code (c.in_ok-bundle.ensures).pair
    (c.in_ok-over_registers.ensures).listing (c.in_ok-over_registers.ensures).allocated (c.in_ok-over_registers.ensures).cert
