-- One instruction more, the first refusal, and none at the end.
use Rattle.std.proofs.Common.{◌≡◌, ◌+◌, ◌++◌, [], ◌∷◌, ℕ, get_or, inr, sym, ◌∙◌, ap, arith}
use Rattle.std.proofs.lemmas.Result.{err_from_is_err_and}
use Rattle.mk_code.specs.declared.instr.Instr.{Instr}
use Rattle.mk_regs.specs.declared.instr.RegInstr.TheVariants.{Rnd}
use Rattle.mk_regs.specs.Renaming.{stepped, renamed_instr}
use Rattle.mk_regs.specs.Renamer.{Renaming}
use Rattle.mk_regs.proofs.Renames.{refusal-step, refusal-here, refusal-end, renamed-step, renamed-end, held-next, held-end}
use Rattle.mk_regs.proofs.rename.rename_instrs.Goals as goal

pub returns-in_err-over_positions-clause-refused : goal.returns-in_err-over_positions-clause-refused
returns-in_err-over_positions-clause-refused c =
    let p = err_from_is_err_and c.from_residual-in_err-over_positions.result c.from_residual-in_err-over_positions.ensures.1 in
    let told = c.in_err-over_positions.ensures.refused in
    rw (p.1, p.2) (inr (λ outs. c.loop-instr.invariant.refusal outs
    ∙ refusal-here c.args.renamer.now.entries c.loop-instr.renamer.accepted c.loop-instr.renamer.held c.args.instrs.now outs c.loop-instr.instr-index
    c.in_err-over_positions.field-0.0 c.loop-instr-test.true told))

pub loop-instr-preserved : goal.loop-instr-preserved
loop-instr-preserved c =
    let old = c.loop-instr.renamer in
    let e = c.args.renamer.now.entries in
    let is = c.args.instrs.now in
    let i = c.loop-instr.instr-index in
    let x = get_or is i (Rnd 0) in
    let b = c.in_ok-over_positions.ensures.behind in
    let h : c.step.new.self.held ≡ stepped old.held (e + old.accepted) x =
    ap (λ (s : Renaming). s.held) b ∙ ap (λ (n : ℕ). stepped old.held (n + old.accepted) x) c.loop-instr.invariant.entries in
    let one : c.step.new.self.accepted ≡ old.accepted + 1 = ap (λ (s : Renaming). s.accepted) b in
    let a : e + c.step.new.self.accepted ≡ e + old.accepted + 1 = omega (arith, one) in
    let d : c.push.new.self ≡ c.loop-instr.renamed ++ renamed_instr old.held x ∷ [] =
    c.in_ok-push.ensures.ok ∙ ap (λ (y : Instr). c.loop-instr.renamed ++ y ∷ []) c.in_ok-over_positions.ensures.renamed in
    record {
      entries = ap (λ (s : Renaming). s.entries) b ∙ c.loop-instr.invariant.entries;
      accepted = omega (arith, one, c.loop-instr.invariant.accepted);
      renamed = rw (h, a, d) (c.loop-instr.invariant.renamed ∙ renamed-step (e + old.accepted) old.held is i c.loop-instr.renamed c.loop-instr-test.true);
      held = rw (h, a) (c.loop-instr.invariant.held ∙ held-next (e + old.accepted) old.held is i c.loop-instr-test.true);
      refusal = λ outs. rw (h, one) (c.loop-instr.invariant.refusal outs
          ∙ refusal-step e old.accepted old.held is outs i c.loop-instr-test.true c.in_ok-over_positions.ensures.accepted);
    }

pub returns-clause-renamed : goal.returns-clause-renamed
returns-clause-renamed c =
    sym (c.loop-instr.invariant.renamed
    ∙ renamed-end (c.args.renamer.now.entries + c.loop-instr.renamer.accepted) c.loop-instr.renamer.held c.args.instrs.now c.loop-instr.instr-index c.loop-instr.renamed (omega arith))

pub returns-clause-held : goal.returns-clause-held
returns-clause-held c =
    sym (c.loop-instr.invariant.held
    ∙ held-end (c.args.renamer.now.entries + c.loop-instr.renamer.accepted) c.loop-instr.renamer.held c.args.instrs.now c.loop-instr.instr-index (omega arith))

pub returns-clause-accepted : goal.returns-clause-accepted
returns-clause-accepted c = λ outs. c.loop-instr.invariant.refusal outs
    ∙ refusal-end c.args.renamer.now.entries c.loop-instr.renamer.accepted c.loop-instr.renamer.held c.args.instrs.now outs c.loop-instr.instr-index (omega arith)
