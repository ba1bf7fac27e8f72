-- Where memory is wanted for the elements, a run of what the words say has no text.
use Rattle.std.proofs.lemmas.Result.{err_from_is_err_and}
use Rattle.mk_top.proofs.Ends.{run-wanting}
use Rattle.mk_top.proofs.top.run_on_words.Goals as goal

pub returns-in_err-publics-clause-unmade : goal.returns-in_err-publics-clause-unmade
returns-in_err-publics-clause-unmade g c =
    let p = err_from_is_err_and c.from_residual.result c.from_residual.ensures.1 in
    run-wanting c.args.publics.now c.args.secrets.now c.args.tape _ c.from_residual.result _ c.requires.publics.0 c.requires.secrets.0 c.requires.tape p.1 p.2

pub returns-in_err-secrets-clause-unmade : goal.returns-in_err-secrets-clause-unmade
returns-in_err-secrets-clause-unmade g c =
    let p = err_from_is_err_and c.from_residual-in_err-secrets.result c.from_residual-in_err-secrets.ensures.1 in
    run-wanting c.args.publics.now c.args.secrets.now c.args.tape _ c.from_residual-in_err-secrets.result _ c.requires.publics.0 c.requires.secrets.0 c.requires.tape p.1 p.2

pub returns-in_err-elements-in-Elements-clause-unmade : goal.returns-in_err-elements-in-Elements-clause-unmade
returns-in_err-elements-in-Elements-clause-unmade g c =
    let p = err_from_is_err_and c.from_residual-in_err-elements-in-Elements.result c.from_residual-in_err-elements-in-Elements.ensures.1 in
    run-wanting c.args.publics.now c.args.secrets.now c.args.tape _ c.from_residual-in_err-elements-in-Elements.result _ c.requires.publics.0 c.requires.secrets.0 c.requires.tape p.1 p.2
