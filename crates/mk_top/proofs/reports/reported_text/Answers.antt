-- The bundle that was read is the one that was given.
use Rattle.std.proofs.Common.{ℕ, List, Result, IfErr, sym, subst}
use Rattle.std.proofs.lemmas.Result.{err_from_is_err_and}
use Rattle.mk_words.specs.Words.{Report}
use Rattle.mk_top.specs.declared.fault.Fault.{Fault}
use Rattle.mk_top.specs.Running.{NoText}
use Rattle.mk_top.specs.Seen.{seen}
use Rattle.mk_top.proofs.Given.{made-collected, no_text-collected}
use Rattle.mk_top.proofs.reports.reported_text.Goals as goal

pub returns-clause-made : goal.returns-clause-made
returns-clause-made g c =
    made-collected (Report) (seen g.S.Source.left g.S.Source.faults c.args.src.now c.whole_bundle.new.src) c.in_ok-bundle.bundle c.report_of.result tt
    c.in_ok-bundle.ensures.read c.report_of.ensures.reports

pub returns-clause-unmade : goal.returns-clause-unmade
returns-clause-unmade g c =
    no_text-collected (Report) (seen g.S.Source.left g.S.Source.faults c.args.src.now c.whole_bundle.new.src) c.in_ok-bundle.bundle c.report_of.result tt
    c.in_ok-bundle.ensures.read c.report_of.ensures.fault

pub returns-in_err-bundle-clause-unmade : goal.returns-in_err-bundle-clause-unmade
returns-in_err-bundle-clause-unmade g c =
    let p = err_from_is_err_and c.from_residual.result c.from_residual.ensures.1 in
    let input = seen g.S.Source.left g.S.Source.faults c.args.src.now c.whole_bundle.new.src in
    let command = Report in
    subst (λ (r : Result (List ℕ) Fault). IfErr r (NoText command input)) (sym p.1)
    (subst (NoText command input) (sym p.2) ((c.in_err-bundle.ensures).fault command tt))
