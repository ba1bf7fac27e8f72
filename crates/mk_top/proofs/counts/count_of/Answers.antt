-- Why the tapes are not counted is why nothing is made of the bundle.
use Rattle.std.proofs.Common.{List, ℕ, sym, subst, Result, IfErr}
use Rattle.std.proofs.lemmas.Result.{err_from_is_err_and}
use Rattle.mk_words.specs.Words.{Count}
use Rattle.mk_top.specs.declared.fault.Fault.{Fault}
use Rattle.mk_top.specs.Running.{NotMade}
use Rattle.mk_top.proofs.Counted.{count_not_made}
use Rattle.mk_top.proofs.counts.count_of.Goals as goal

pub returns-in_err-table-clause-fault : goal.returns-in_err-table-clause-fault
returns-in_err-table-clause-fault c text is =
    let p = err_from_is_err_and c.from_residual.result c.from_residual.ensures.1 in
    let counts = Count c.args.publics.now c.args.first.now c.args.second.now c.args.probes.now in
    subst (λ (r : Result (List ℕ) Fault). IfErr r (NotMade counts text)) (sym p.1)
    (subst (NotMade counts text) (sym p.2)
    (count_not_made c.args.publics.now c.args.first.now c.args.second.now c.args.probes.now text c.args.bundle.now.code c.args.bundle.now.cert
    c.in_err-table.field-0.0 is (c.in_err-table.ensures).refused))
