-- One wired block more.
use Rattle.std.proofs.Common.{refl}
use Rattle.mk_check.specs.Outlines.{outlined}
use Rattle.mk_rules.proofs.Wired.{Wired-more}
use Rattle.mk_check.proofs.wired.first_unwired.Goals as goal

pub loop-k-preserved : goal.loop-k-preserved
loop-k-preserved c =
    Wired-more (outlined c.args.outline.now) c.args.blocks.now c.loop-k.k _ c.loop-k-test.true c.loop-k.invariant (c.if-not-is_wired.ensures.0 refl)
