-- Where the verdict was found, no position counts too many terms.
use Rattle.std.proofs.lemmas.Result.{err_from_is_err_and}
use Rattle.mk_top.proofs.Judged.{right-refused}
use Rattle.mk_top.proofs.gadgets.judged_gadget.Goals as goal

pub returns-in_err-right-clause-fault : goal.returns-in_err-right-clause-fault
returns-in_err-right-clause-fault c = λ bytes is.
    let p = err_from_is_err_and c.from_residual-in_err-right.result c.from_residual-in_err-right.ensures.1 in
    rw (p.1, p.2) (right-refused c.args.gadget.now bytes c.in_err-right.field-0.0 c.in_ok-verdict.ensures.terms c.in_err-right.ensures.refused)
