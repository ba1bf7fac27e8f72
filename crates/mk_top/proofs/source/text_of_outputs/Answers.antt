-- Why the evaluation is refused is why nothing is made of the source.
use Rattle.std.proofs.Common.{List, ℕ, sym, subst, Result, IfErr}
use Rattle.std.proofs.lemmas.Result.{err_from_is_err_and}
use Rattle.mk_words.specs.Words.{Eval}
use Rattle.mk_top.specs.declared.fault.Fault.{Fault}
use Rattle.mk_top.specs.Running.{NotMade}
use Rattle.mk_top.proofs.Given.{eval_not_made}
use Rattle.mk_top.proofs.source.text_of_outputs.Goals as goal

pub returns-in_err-outputs-clause-fault : goal.returns-in_err-outputs-clause-fault
returns-in_err-outputs-clause-fault c =
    let p = err_from_is_err_and c.from_residual-in_err-outputs.result c.from_residual-in_err-outputs.ensures.1 in
    subst (λ (r : Result (List ℕ) Fault). IfErr r (NotMade (Eval c.args.publics.now c.args.secrets.now) c.args.source.now)) (sym p.1)
    (subst (NotMade (Eval c.args.publics.now c.args.secrets.now) c.args.source.now) (sym p.2)
    (eval_not_made c.args.publics.now c.args.secrets.now c.args.source.now c.in_ok-typed.typed c.in_err-outputs.field-0.0 (c.in_ok-typed.ensures).typed (c.in_err-outputs.ensures).refused))
