-- One variable more.
use Rattle.std.proofs.Common.{◌∙◌, ◌++◌, ◌∷◌, [], ap, sym, arith, List}
use Rattle.std.proofs.lemmas.List.FromFn.{map-range_with_len_more}
use Rattle.mk_pad.specs.declared.term.Term.{Term}
use Rattle.mk_pad.specs.Positions.{variable}
use Rattle.mk_pad.proofs.positions.share_polynomials.Goals as goal

pub loop-share-preserved : goal.loop-share-preserved
loop-share-preserved c =
    let n = c.args.ring.now.variables in
    c.in_ok-push.ensures.ok
    ∙ ap (λ (ps : List Term). c.loop-share.positions ++ ps ∷ []) c.in_ok-variable.ensures
    ∙ ap (λ (positions : List (List Term)). positions ++ variable n c.loop-share.share ∷ []) c.loop-share.invariant
    ∙ sym (map-range_with_len_more (variable n) 0 c.loop-share.share c.loop-share.share (omega arith))
