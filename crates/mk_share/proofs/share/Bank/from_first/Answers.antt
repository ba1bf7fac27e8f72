-- One more position.
use Rattle.std.proofs.Common.{arith, ℕ, List, ◌+◌, [], ◌∷◌, ◌++◌, sym, ap, ◌∙◌}
use Rattle.std.proofs.lemmas.List.{take_more_set, length-set}
use Rattle.mk_share.proofs.Banks.{range-more}
use Rattle.mk_share.proofs.share.Bank.from_first.Goals as goal

pub loop-share-preserved : goal.loop-share-preserved
loop-share-preserved g c =
    let position : ℕ = c.args.first + c.loop-share.share in (
      take_more_set c.loop-share.regs c.loop-share.share position (omega (arith, c.loop-share-test.true, c.loop-share.invariant.1))
          ∙ ap (λ (ps : List ℕ). ps ++ position ∷ []) c.loop-share.invariant.0
          ∙ sym (range-more c.args.first c.loop-share.share),
      length-set c.loop-share.regs c.loop-share.share position ∙ c.loop-share.invariant.1,
    )
