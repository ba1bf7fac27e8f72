-- One coefficient more.
use Rattle.std.proofs.Common.{sym, ◌∙◌, ◌++◌, [], ◌∷◌, arith}
use Rattle.std.proofs.lemmas.List.FromFn.{map-range_with_len_more}
use Rattle.mk_table.specs.Coefficients.{coefficient}
use Rattle.mk_table.proofs.coefficients.coefficients_of.Goals as goal

pub loop-k-preserved : goal.loop-k-preserved
loop-k-preserved c =
    c.in_ok-push.ensures.ok
    ∙ (λ i. c.loop-k.invariant i ++ c.coefficient_of.ensures i ∷ [])
    ∙ sym (map-range_with_len_more (coefficient c.args.table.now) 0 c.loop-k.k c.loop-k.k (omega arith))
