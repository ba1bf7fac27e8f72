-- One variable more.
use Rattle.std.proofs.Common.{◌∙◌, ◌++◌, ◌∷◌, [], ap, sym, arith, List, Bool}
use Rattle.std.proofs.lemmas.List.FromFn.{map-range_with_len_more}
use Rattle.mk_pad.specs.Shown.{occurs}
use Rattle.mk_pad.proofs.occurrences.occurring_in.Goals as goal

pub loop-variable-preserved : goal.loop-variable-preserved
loop-variable-preserved c =
    let v = c.loop-variable.variable in
    c.in_ok-push.ensures.ok
    ∙ ap (λ (b : Bool). c.loop-variable.occurring ++ b ∷ []) c.occurs.ensures
    ∙ ap (λ (bs : List Bool). bs ++ occurs v c.args.terms.now ∷ []) c.loop-variable.invariant
    ∙ sym (map-range_with_len_more (λ w. occurs w c.args.terms.now) 0 v v (omega arith))
