-- What is made is of the command that the words ask for.
use Rattle.std.proofs.Common.{refl, subst}
use Rattle.mk_words.specs.Words.{Compile, Check, Report, Gen, Trial, Table, Gadget, Regs}
use Rattle.mk_words.specs.Forms.{AsksSo}
use Rattle.mk_words.specs.declared.command.Form.TheVariants as form
use Rattle.mk_top.specs.declared.answer.Answer.TheVariants as answer
use Rattle.mk_top.specs.Seen.{seen}
use Rattle.mk_top.proofs.Ends.{made-asked, unmade-asked, made-unread, unmade-unread, made-evaluated, unmade-evaluated, made-run, unmade-run, made-counted, unmade-counted, asked-leaves, text-answered, bundle-answered, fault-answered}
use Rattle.mk_top.proofs.top.answer_asked.Goals as goal

pub returns-in-Some-Compile-clause-made : goal.returns-in-Some-Compile-clause-made
returns-in-Some-Compile-clause-made g c =
    bundle-answered c.args.words.now (Compile c.in-Some-Compile.order) (seen g.S.Source.left g.S.Source.faults c.args.src.now c.compiled_bundle.new.src) c.compiled_bundle.result c.bundle_answer.result
    c.bundle_answer.ensures (subst (AsksSo c.args.words.now) c.in-Some-Compile.field-0-is (c.in-Some-Compile.ensures).asked) c.compiled_bundle.ensures.made c.compiled_bundle.ensures.pair

pub returns-in-Some-Compile-clause-unmade : goal.returns-in-Some-Compile-clause-unmade
returns-in-Some-Compile-clause-unmade g c =
    fault-answered answer.Bundle _ c.compiled_bundle.result c.bundle_answer.result c.bundle_answer.ensures
    (unmade-asked c.args.words.now (Compile c.in-Some-Compile.order) (seen g.S.Source.left g.S.Source.faults c.args.src.now c.compiled_bundle.new.src) c.compiled_bundle.result
    (subst (AsksSo c.args.words.now) c.in-Some-Compile.field-0-is (c.in-Some-Compile.ensures).asked) c.compiled_bundle.ensures.unmade)

pub returns-in-Some-Compile-clause-leaves : goal.returns-in-Some-Compile-clause-leaves
returns-in-Some-Compile-clause-leaves g c =
    asked-leaves c.args.words.now (form.Compile c.in-Some-Compile.order) _
    (subst (AsksSo c.args.words.now) c.in-Some-Compile.field-0-is (c.in-Some-Compile.ensures).asked) tt

pub returns-in-Some-Check-clause-made : goal.returns-in-Some-Check-clause-made
returns-in-Some-Check-clause-made g c =
    text-answered c.args.words.now _ c.checked_text.result c.text_answer.result c.text_answer.ensures
    (made-asked c.args.words.now Check (seen g.S.Source.left g.S.Source.faults c.args.src.now c.checked_text.new.src) c.checked_text.result
    (subst (AsksSo c.args.words.now) c.in-Some-Check.field-0-is (c.in-Some-Check.ensures).asked) c.checked_text.ensures.made)

pub returns-in-Some-Check-clause-unmade : goal.returns-in-Some-Check-clause-unmade
returns-in-Some-Check-clause-unmade g c =
    fault-answered answer.Text _ c.checked_text.result c.text_answer.result c.text_answer.ensures
    (unmade-asked c.args.words.now Check (seen g.S.Source.left g.S.Source.faults c.args.src.now c.checked_text.new.src) c.checked_text.result
    (subst (AsksSo c.args.words.now) c.in-Some-Check.field-0-is (c.in-Some-Check.ensures).asked) c.checked_text.ensures.unmade)

pub returns-in-Some-Check-clause-leaves : goal.returns-in-Some-Check-clause-leaves
returns-in-Some-Check-clause-leaves g c =
    asked-leaves c.args.words.now form.Check _
    (subst (AsksSo c.args.words.now) c.in-Some-Check.field-0-is (c.in-Some-Check.ensures).asked) tt

pub returns-in-Some-Report-clause-made : goal.returns-in-Some-Report-clause-made
returns-in-Some-Report-clause-made g c =
    text-answered c.args.words.now _ c.reported_text.result c.text_answer-in-Some-Report.result c.text_answer-in-Some-Report.ensures
    (made-asked c.args.words.now Report (seen g.S.Source.left g.S.Source.faults c.args.src.now c.reported_text.new.src) c.reported_text.result
    (subst (AsksSo c.args.words.now) c.in-Some-Report.field-0-is (c.in-Some-Report.ensures).asked) c.reported_text.ensures.made)

pub returns-in-Some-Report-clause-unmade : goal.returns-in-Some-Report-clause-unmade
returns-in-Some-Report-clause-unmade g c =
    fault-answered answer.Text _ c.reported_text.result c.text_answer-in-Some-Report.result c.text_answer-in-Some-Report.ensures
    (unmade-asked c.args.words.now Report (seen g.S.Source.left g.S.Source.faults c.args.src.now c.reported_text.new.src) c.reported_text.result
    (subst (AsksSo c.args.words.now) c.in-Some-Report.field-0-is (c.in-Some-Report.ensures).asked) c.reported_text.ensures.unmade)

pub returns-in-Some-Report-clause-leaves : goal.returns-in-Some-Report-clause-leaves
returns-in-Some-Report-clause-leaves g c =
    asked-leaves c.args.words.now form.Report _
    (subst (AsksSo c.args.words.now) c.in-Some-Report.field-0-is (c.in-Some-Report.ensures).asked) tt

pub returns-in-Some-Gen-clause-made : goal.returns-in-Some-Gen-clause-made
returns-in-Some-Gen-clause-made g c =
    text-answered c.args.words.now _ c.generated_text.result c.text_answer-in-Some-Gen.result c.text_answer-in-Some-Gen.ensures
    (made-unread c.args.words.now (Gen c.in-Some-Gen.turns) (seen g.S.Source.left g.S.Source.faults c.args.src.now c.args.src.now) c.generated_text.result refl refl
    (subst (AsksSo c.args.words.now) c.in-Some-Gen.field-0-is (c.in-Some-Gen.ensures).asked) c.generated_text.ensures.generates)

pub returns-in-Some-Gen-clause-unmade : goal.returns-in-Some-Gen-clause-unmade
returns-in-Some-Gen-clause-unmade g c =
    fault-answered answer.Text _ c.generated_text.result c.text_answer-in-Some-Gen.result c.text_answer-in-Some-Gen.ensures
    (unmade-unread c.args.words.now (Gen c.in-Some-Gen.turns) (seen g.S.Source.left g.S.Source.faults c.args.src.now c.args.src.now) c.generated_text.result refl refl
    (subst (AsksSo c.args.words.now) c.in-Some-Gen.field-0-is (c.in-Some-Gen.ensures).asked) c.generated_text.ensures.fault)

pub returns-in-Some-Gen-clause-leaves : goal.returns-in-Some-Gen-clause-leaves
returns-in-Some-Gen-clause-leaves g c =
    asked-leaves c.args.words.now (form.Gen c.in-Some-Gen.turns) _
    (subst (AsksSo c.args.words.now) c.in-Some-Gen.field-0-is (c.in-Some-Gen.ensures).asked) refl

pub returns-in-Some-Trial-clause-made : goal.returns-in-Some-Trial-clause-made
returns-in-Some-Trial-clause-made g c =
    text-answered c.args.words.now _ c.tried_text.result c.text_answer-in-Some-Trial.result c.text_answer-in-Some-Trial.ensures
    (made-unread c.args.words.now (Trial c.in-Some-Trial.turns c.in-Some-Trial.order) (seen g.S.Source.left g.S.Source.faults c.args.src.now c.args.src.now) c.tried_text.result refl refl
    (subst (AsksSo c.args.words.now) c.in-Some-Trial.field-0-is (c.in-Some-Trial.ensures).asked) c.tried_text.ensures.tries)

pub returns-in-Some-Trial-clause-unmade : goal.returns-in-Some-Trial-clause-unmade
returns-in-Some-Trial-clause-unmade g c =
    fault-answered answer.Text _ c.tried_text.result c.text_answer-in-Some-Trial.result c.text_answer-in-Some-Trial.ensures
    (unmade-unread c.args.words.now (Trial c.in-Some-Trial.turns c.in-Some-Trial.order) (seen g.S.Source.left g.S.Source.faults c.args.src.now c.args.src.now) c.tried_text.result refl refl
    (subst (AsksSo c.args.words.now) c.in-Some-Trial.field-0-is (c.in-Some-Trial.ensures).asked) c.tried_text.ensures.fault)

pub returns-in-Some-Trial-clause-leaves : goal.returns-in-Some-Trial-clause-leaves
returns-in-Some-Trial-clause-leaves g c =
    asked-leaves c.args.words.now (form.Trial c.in-Some-Trial.turns c.in-Some-Trial.order) _
    (subst (AsksSo c.args.words.now) c.in-Some-Trial.field-0-is (c.in-Some-Trial.ensures).asked) refl

pub returns-in-Some-Eval-clause-made : goal.returns-in-Some-Eval-clause-made
returns-in-Some-Eval-clause-made g c =
    text-answered c.args.words.now _ c.evaluated_on_words.result c.text_answer-in-Some-Eval.result c.text_answer-in-Some-Eval.ensures
    (made-evaluated c.args.words.now c.in-Some-Eval.publics.now c.in-Some-Eval.secrets.now (seen g.S.Source.left g.S.Source.faults c.args.src.now c.evaluated_on_words.new.src) c.evaluated_on_words.result
    (subst (AsksSo c.args.words.now) c.in-Some-Eval.field-0-is (c.in-Some-Eval.ensures).asked).0 c.evaluated_on_words.ensures.made)

pub returns-in-Some-Eval-clause-unmade : goal.returns-in-Some-Eval-clause-unmade
returns-in-Some-Eval-clause-unmade g c =
    fault-answered answer.Text _ c.evaluated_on_words.result c.text_answer-in-Some-Eval.result c.text_answer-in-Some-Eval.ensures
    (unmade-evaluated c.args.words.now c.in-Some-Eval.publics.now c.in-Some-Eval.secrets.now (seen g.S.Source.left g.S.Source.faults c.args.src.now c.evaluated_on_words.new.src) c.evaluated_on_words.result
    (subst (AsksSo c.args.words.now) c.in-Some-Eval.field-0-is (c.in-Some-Eval.ensures).asked).0 c.evaluated_on_words.ensures.unmade)

pub returns-in-Some-Eval-clause-leaves : goal.returns-in-Some-Eval-clause-leaves
returns-in-Some-Eval-clause-leaves g c =
    asked-leaves c.args.words.now (form.Eval c.in-Some-Eval.publics c.in-Some-Eval.secrets) _
    (subst (AsksSo c.args.words.now) c.in-Some-Eval.field-0-is (c.in-Some-Eval.ensures).asked) tt

pub returns-in-Some-Run-clause-made : goal.returns-in-Some-Run-clause-made
returns-in-Some-Run-clause-made g c =
    text-answered c.args.words.now _ c.run_on_words.result c.text_answer-in-Some-Run.result c.text_answer-in-Some-Run.ensures
    (let asked = subst (AsksSo c.args.words.now) c.in-Some-Run.field-0-is (c.in-Some-Run.ensures).asked in
    made-run c.args.words.now asked.0 asked.1 c.in-Some-Run.publics.now c.in-Some-Run.secrets.now c.in-Some-Run.tape (seen g.S.Source.left g.S.Source.faults c.args.src.now c.run_on_words.new.src) c.run_on_words.result asked.2 asked.5 c.run_on_words.ensures.made)

pub returns-in-Some-Run-clause-unmade : goal.returns-in-Some-Run-clause-unmade
returns-in-Some-Run-clause-unmade g c =
    fault-answered answer.Text _ c.run_on_words.result c.text_answer-in-Some-Run.result c.text_answer-in-Some-Run.ensures
    (let asked = subst (AsksSo c.args.words.now) c.in-Some-Run.field-0-is (c.in-Some-Run.ensures).asked in
    unmade-run c.args.words.now asked.0 asked.1 c.in-Some-Run.publics.now c.in-Some-Run.secrets.now c.in-Some-Run.tape (seen g.S.Source.left g.S.Source.faults c.args.src.now c.run_on_words.new.src) c.run_on_words.result asked.2 asked.5 c.run_on_words.ensures.unmade)

pub returns-in-Some-Run-clause-leaves : goal.returns-in-Some-Run-clause-leaves
returns-in-Some-Run-clause-leaves g c =
    asked-leaves c.args.words.now (form.Run c.in-Some-Run.publics c.in-Some-Run.secrets c.in-Some-Run.tape) _
    (subst (AsksSo c.args.words.now) c.in-Some-Run.field-0-is (c.in-Some-Run.ensures).asked) tt

pub returns-in-Some-Count-clause-made : goal.returns-in-Some-Count-clause-made
returns-in-Some-Count-clause-made g c =
    text-answered c.args.words.now _ c.counted_on_words.result c.text_answer-in-Some-Count.result c.text_answer-in-Some-Count.ensures
    (made-counted c.args.words.now c.in-Some-Count.publics.now c.in-Some-Count.first.now c.in-Some-Count.second.now c.in-Some-Count.probes.now (seen g.S.Source.left g.S.Source.faults c.args.src.now c.counted_on_words.new.src) c.counted_on_words.result
    (subst (AsksSo c.args.words.now) c.in-Some-Count.field-0-is (c.in-Some-Count.ensures).asked).0 c.counted_on_words.ensures.made)

pub returns-in-Some-Count-clause-unmade : goal.returns-in-Some-Count-clause-unmade
returns-in-Some-Count-clause-unmade g c =
    fault-answered answer.Text _ c.counted_on_words.result c.text_answer-in-Some-Count.result c.text_answer-in-Some-Count.ensures
    (unmade-counted c.args.words.now c.in-Some-Count.publics.now c.in-Some-Count.first.now c.in-Some-Count.second.now c.in-Some-Count.probes.now (seen g.S.Source.left g.S.Source.faults c.args.src.now c.counted_on_words.new.src) c.counted_on_words.result
    (subst (AsksSo c.args.words.now) c.in-Some-Count.field-0-is (c.in-Some-Count.ensures).asked).0 c.counted_on_words.ensures.unmade)

pub returns-in-Some-Count-clause-leaves : goal.returns-in-Some-Count-clause-leaves
returns-in-Some-Count-clause-leaves g c =
    asked-leaves c.args.words.now (form.Count c.in-Some-Count.publics c.in-Some-Count.first c.in-Some-Count.second c.in-Some-Count.probes) _
    (subst (AsksSo c.args.words.now) c.in-Some-Count.field-0-is (c.in-Some-Count.ensures).asked) tt

pub returns-in-Some-Table-clause-made : goal.returns-in-Some-Table-clause-made
returns-in-Some-Table-clause-made g c =
    text-answered c.args.words.now _ c.tabulated_text.result c.text_answer-in-Some-Table.result c.text_answer-in-Some-Table.ensures
    (made-asked c.args.words.now Table (seen g.S.Source.left g.S.Source.faults c.args.src.now c.tabulated_text.new.src) c.tabulated_text.result
    (subst (AsksSo c.args.words.now) c.in-Some-Table.field-0-is (c.in-Some-Table.ensures).asked) c.tabulated_text.ensures.made)

pub returns-in-Some-Table-clause-unmade : goal.returns-in-Some-Table-clause-unmade
returns-in-Some-Table-clause-unmade g c =
    fault-answered answer.Text _ c.tabulated_text.result c.text_answer-in-Some-Table.result c.text_answer-in-Some-Table.ensures
    (unmade-asked c.args.words.now Table (seen g.S.Source.left g.S.Source.faults c.args.src.now c.tabulated_text.new.src) c.tabulated_text.result
    (subst (AsksSo c.args.words.now) c.in-Some-Table.field-0-is (c.in-Some-Table.ensures).asked) c.tabulated_text.ensures.unmade)

pub returns-in-Some-Table-clause-leaves : goal.returns-in-Some-Table-clause-leaves
returns-in-Some-Table-clause-leaves g c =
    asked-leaves c.args.words.now form.Table _
    (subst (AsksSo c.args.words.now) c.in-Some-Table.field-0-is (c.in-Some-Table.ensures).asked) tt

pub returns-in-Some-Gadget-clause-made : goal.returns-in-Some-Gadget-clause-made
returns-in-Some-Gadget-clause-made g c =
    text-answered c.args.words.now _ c.judged_text.result c.text_answer-in-Some-Gadget.result c.text_answer-in-Some-Gadget.ensures
    (made-asked c.args.words.now Gadget (seen g.S.Source.left g.S.Source.faults c.args.src.now c.judged_text.new.src) c.judged_text.result
    (subst (AsksSo c.args.words.now) c.in-Some-Gadget.field-0-is (c.in-Some-Gadget.ensures).asked) c.judged_text.ensures.made)

pub returns-in-Some-Gadget-clause-unmade : goal.returns-in-Some-Gadget-clause-unmade
returns-in-Some-Gadget-clause-unmade g c =
    fault-answered answer.Text _ c.judged_text.result c.text_answer-in-Some-Gadget.result c.text_answer-in-Some-Gadget.ensures
    (unmade-asked c.args.words.now Gadget (seen g.S.Source.left g.S.Source.faults c.args.src.now c.judged_text.new.src) c.judged_text.result
    (subst (AsksSo c.args.words.now) c.in-Some-Gadget.field-0-is (c.in-Some-Gadget.ensures).asked) c.judged_text.ensures.unmade)

pub returns-in-Some-Gadget-clause-leaves : goal.returns-in-Some-Gadget-clause-leaves
returns-in-Some-Gadget-clause-leaves g c =
    asked-leaves c.args.words.now form.Gadget _
    (subst (AsksSo c.args.words.now) c.in-Some-Gadget.field-0-is (c.in-Some-Gadget.ensures).asked) tt

pub returns-in-Some-Regs-clause-made : goal.returns-in-Some-Regs-clause-made
returns-in-Some-Regs-clause-made g c =
    bundle-answered c.args.words.now Regs (seen g.S.Source.left g.S.Source.faults c.args.src.now c.allocated_bundle.new.src) c.allocated_bundle.result c.bundle_answer-in-Some-Regs.result
    c.bundle_answer-in-Some-Regs.ensures (subst (AsksSo c.args.words.now) c.in-Some-Regs.field-0-is (c.in-Some-Regs.ensures).asked) c.allocated_bundle.ensures.made c.allocated_bundle.ensures.pair

pub returns-in-Some-Regs-clause-unmade : goal.returns-in-Some-Regs-clause-unmade
returns-in-Some-Regs-clause-unmade g c =
    fault-answered answer.Bundle _ c.allocated_bundle.result c.bundle_answer-in-Some-Regs.result c.bundle_answer-in-Some-Regs.ensures
    (unmade-asked c.args.words.now Regs (seen g.S.Source.left g.S.Source.faults c.args.src.now c.allocated_bundle.new.src) c.allocated_bundle.result
    (subst (AsksSo c.args.words.now) c.in-Some-Regs.field-0-is (c.in-Some-Regs.ensures).asked) c.allocated_bundle.ensures.unmade)

pub returns-in-Some-Regs-clause-leaves : goal.returns-in-Some-Regs-clause-leaves
returns-in-Some-Regs-clause-leaves g c =
    asked-leaves c.args.words.now form.Regs _
    (subst (AsksSo c.args.words.now) c.in-Some-Regs.field-0-is (c.in-Some-Regs.ensures).asked) tt
