-- The numbers are those of the code and its certificate.
use Rattle.std.proofs.Common.{◌≡◌, List, ℕ, IfOk, length, count_by, ap, subst, ◌∙◌}
use Rattle.mk_ssa.specs.declared.Op.{Op}
use Rattle.mk_top.specs.Headline.{is_refresh}
use Rattle.mk_top.proofs.Tried.{trial_line-of}
use Rattle.mk_top.proofs.trials.line_of_trial.Goals as goal

pub returns : goal.returns
returns c =
    subst (λ (line : List ℕ). IfOk c.bytes_of.result (λ bytes. bytes ≡ line))
    (trial_line-of c.args.code.now c.args.cert.now _ _ c.len-blocks.result c.refreshes-refreshes.result c.len-instrs.result c.randoms-randoms.result c.new-text.ensures.bytes c.in_ok-write.ensures.bytes
    (c.len-blocks.ensures.count ∙ ap (λ (blocks : List Op). length blocks) c.blocks-2.ensures)
    (c.refreshes-refreshes.ensures ∙ ap (λ (blocks : List Op). count_by is_refresh blocks) (c.as_slice.ensures.items ∙ c.blocks-3.ensures))
    (c.len-instrs.ensures.count ∙ ap length c.instrs.ensures)
    c.randoms-randoms.ensures)
    c.bytes_of.ensures
