-- One out more, the first refusal, and none at the end.
use Rattle.std.proofs.Common.{◌++◌, [], ◌∷◌, ℕ, List, map, take, inr, sym, ◌∙◌, ap, arith}
use Rattle.std.proofs.lemmas.List.{map_more}
use Rattle.std.proofs.lemmas.Result.{err_from_is_err_and}
use Rattle.mk_regs.specs.Renaming.{position_in}
use Rattle.mk_regs.proofs.Renames.{outs-step, outs-refused, outs-end}
use Rattle.mk_regs.proofs.rename.rename_outs.Goals as goal

pub loop-out-preserved : goal.loop-out-preserved
loop-out-preserved c =
    let held = c.args.renamer.now.held in
    let k = c.args.renamer.now.accepted in
    let outs = c.args.outs.now in
    let i = c.loop-out.out-index in (
      c.in_ok-push.ensures.ok ∙ ap (λ (ps : List ℕ). ps ++ c.in_ok-position.position ∷ []) c.loop-out.invariant.0
          ∙ ap (λ (p : ℕ). map (position_in held) (take i outs) ++ p ∷ []) c.in_ok-position.ensures.renamed
          ∙ sym (map_more (position_in held) outs i 0 c.loop-out-test.true),
      c.loop-out.invariant.1 ∙ outs-step held k outs i c.loop-out-test.true c.in_ok-position.ensures.accepted,
    )

pub returns-in_err-position-clause-refused : goal.returns-in_err-position-clause-refused
returns-in_err-position-clause-refused c =
    let held = c.args.renamer.now.held in
    let k = c.args.renamer.now.accepted in
    let outs = c.args.outs.now in
    let i = c.loop-out.out-index in
    let p = err_from_is_err_and c.from_residual-in_err-position.result c.from_residual-in_err-position.ensures.1 in
    let told = c.in_err-position.ensures.refused in
    rw (p.1, p.2) (inr (c.loop-out.invariant.1 ∙ outs-refused held k outs i c.in_err-position.field-0.0 c.loop-out-test.true told))

pub returns-clause-accepted : goal.returns-clause-accepted
returns-clause-accepted c =
    c.loop-out.invariant.1 ∙ outs-end c.args.renamer.now.held c.args.renamer.now.accepted c.args.outs.now c.loop-out.out-index (omega arith)
