-- Why the text was refused is why a command that reads a bundle has no text.
use Rattle.std.proofs.Common.{Result, Err, IfErr, sym, subst, ap}
use Rattle.std.proofs.lemmas.Result.{err_from_is_err_and}
use Rattle.mk_rules.specs.declared.cert.Bundle.{Bundle}
use Rattle.mk_top.specs.declared.fault.Fault.{Fault}
use Rattle.mk_top.specs.Seen.{seen}
use Rattle.mk_top.specs.Running.{NoBundle}
use Rattle.mk_top.proofs.Given.{no_bundle}
use Rattle.mk_top.proofs.reading.whole_bundle.Goals as goal

pub returns-in_err-collect_bundle-clause-fault : goal.returns-in_err-collect_bundle-clause-fault
returns-in_err-collect_bundle-clause-fault g c =
    let p = err_from_is_err_and c.from_residual.result c.from_residual.ensures.1 in
    let input = seen g.S.Source.left g.S.Source.faults c.args.src.now c.collect_bundle.new.src in
    subst (λ (r : Result Bundle Fault). IfErr r (NoBundle input)) (sym p.1)
    (subst (NoBundle input) (sym p.2)
    (no_bundle input c.in_err-collect_bundle.field-0.0 (λ is. (c.in_err-collect_bundle.ensures).fault (ap Err is)) (c.in_err-collect_bundle.ensures).collects))
