-- Why the run is refused is why nothing is made of the bundle.
use Rattle.std.proofs.Common.{List, ℕ, sym, subst, Result, IfErr}
use Rattle.std.proofs.lemmas.Result.{err_from_is_err_and}
use Rattle.mk_words.specs.Words.{Run}
use Rattle.mk_top.specs.Forms.{given_of}
use Rattle.mk_top.specs.declared.fault.Fault.{Fault}
use Rattle.mk_top.specs.Running.{NotMade}
use Rattle.mk_top.proofs.Given.{run_not_made, runs-made}
use Rattle.mk_top.proofs.runs.run_of.Goals as goal

pub returns-in_err-text_of_run-clause-fault : goal.returns-in_err-text_of_run-clause-fault
returns-in_err-text_of_run-clause-fault c text is =
    let p = err_from_is_err_and c.from_residual.result c.from_residual.ensures.1 in
    let run = Run c.args.publics.now c.args.secrets.now (given_of c.args.tape) in
    subst (λ (r : Result (List ℕ) Fault). IfErr r (NotMade run text)) (sym p.1)
    (subst (NotMade run text) (sym p.2)
    (run_not_made c.args.publics.now c.args.secrets.now (given_of c.args.tape) text c.args.bundle.now.code c.args.bundle.now.cert c.in_err-text_of_run.field-0.0
    is (c.in_err-text_of_run.ensures).refused))

pub returns-clause-runs : goal.returns-clause-runs
returns-clause-runs c text is =
    runs-made c.args.publics.now c.args.secrets.now (given_of c.args.tape) text c.in_ok-text_of_run.field-0 c.args.bundle.now.code c.args.bundle.now.cert
    is (c.in_ok-text_of_run.ensures).taken (c.in_ok-text_of_run.ensures).text
