-- One instruction more was given.
use Rattle.std.proofs.Common.{[], List, take, sym, subst, ◌∙◌}
use Rattle.std.proofs.lemmas.List.{take_more}
use Rattle.mk_code.specs.declared.instr.Instr.{Instr}
use Rattle.mk_code.specs.declared.instr.Instr.TheVariants.{Rnd}
use Rattle.mk_check.specs.Given.{Given}
use Rattle.mk_check.proofs.giving.give_instrs.Goals as goal

pub loop-instr-preserved : goal.loop-instr-preserved
loop-instr-preserved c = record {
  given =
      subst (λ (is : List Instr). Given c.instr.new.self is []) (sym (take_more c.args.instrs.now c.loop-instr.instr-index Rnd c.loop-instr-test.true))
      (c.instr.ensures.given (take c.loop-instr.instr-index c.args.instrs.now) [] c.loop-instr.invariant.given);
  outline = c.instr.ensures.same.0 ∙ c.loop-instr.invariant.outline;
  cert = c.instr.ensures.same.1 ∙ c.loop-instr.invariant.cert;
}
