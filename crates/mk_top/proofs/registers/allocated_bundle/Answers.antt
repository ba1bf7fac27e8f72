-- The bundle that was read is the one that was given.
use Rattle.std.proofs.Common.{Result, IfErr, sym, subst}
use Rattle.std.proofs.lemmas.Result.{err_from_is_err_and}
use Rattle.mk_words.specs.Words.{Regs}
use Rattle.mk_top.specs.declared.answer.RegisterBundle.{RegisterBundle}
use Rattle.mk_top.specs.declared.fault.Fault.{Fault}
use Rattle.mk_top.specs.Running.{NoText}
use Rattle.mk_top.specs.Seen.{seen}
use Rattle.mk_top.proofs.Given.{registers-collected, no_text-collected}
use Rattle.mk_top.proofs.registers.allocated_bundle.Goals as goal

pub returns-clause-made : goal.returns-clause-made
returns-clause-made g c =
    registers-collected (seen g.S.Source.left g.S.Source.faults c.args.src.now c.whole_bundle.new.src) c.in_ok-bundle.bundle c.registers_of.result
    c.in_ok-bundle.ensures.read c.registers_of.ensures.allocates

pub returns-clause-pair : goal.returns-clause-pair
returns-clause-pair g c = c.registers_of.ensures.pair c.in_ok-bundle.ensures.read.came c.in_ok-bundle.ensures.read.text

pub returns-clause-unmade : goal.returns-clause-unmade
returns-clause-unmade g c =
    no_text-collected Regs (seen g.S.Source.left g.S.Source.faults c.args.src.now c.whole_bundle.new.src) c.in_ok-bundle.bundle c.registers_of.result tt
    c.in_ok-bundle.ensures.read c.registers_of.ensures.fault

pub returns-in_err-bundle-clause-unmade : goal.returns-in_err-bundle-clause-unmade
returns-in_err-bundle-clause-unmade g c =
    let p = err_from_is_err_and c.from_residual.result c.from_residual.ensures.1 in
    let input = seen g.S.Source.left g.S.Source.faults c.args.src.now c.whole_bundle.new.src in
    subst (λ (r : Result RegisterBundle Fault). IfErr r (NoText Regs input)) (sym p.1)
    (subst (NoText Regs input) (sym p.2) ((c.in_err-bundle.ensures).fault Regs tt))
