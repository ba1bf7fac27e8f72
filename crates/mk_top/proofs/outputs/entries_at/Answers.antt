-- The positions are in the trace, and one entry more is seen.
use Rattle.std.proofs.Common.{ℕ, List, [], ◌∷◌, ◌++◌, length, slice_index, sym, ◌∙◌, ap}
use Rattle.mk_code.proofs.Steps.{AllBelow-at}
use Rattle.mk_top.proofs.Lines.{observation-more}
use Rattle.mk_top.proofs.outputs.entries_at.Goals as goal

pub bounds-entries-position : goal.bounds-entries-position
bounds-entries-position c = AllBelow-at (length c.args.entries.now) c.args.positions.now c.loop-position.position-index c.requires c.loop-position-test.true

pub loop-position-preserved : goal.loop-position-preserved
loop-position-preserved c =
    (c.in_ok-push.ensures).ok
    ∙ ap (λ (seen : List ℕ). seen ++ slice_index c.args.entries.now (slice_index c.args.positions.now c.loop-position.position-index) ∷ []) c.loop-position.invariant
    ∙ sym (observation-more c.args.positions.now c.args.entries.now c.loop-position.position-index c.loop-position-test.true)
