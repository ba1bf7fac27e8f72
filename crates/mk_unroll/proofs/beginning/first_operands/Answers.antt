-- One more element.
use Rattle.std.proofs.Common.{◌++◌, ◌∷◌, [], map, sym, ap, ◌∙◌, arith}
use Rattle.std.specs.List.{range_with_len}
use Rattle.std.proofs.lemmas.List.FromFn.{map-range_with_len_more}
use Rattle.mk_unroll.specs.Beginning.{first_operand}
use Rattle.mk_unroll.proofs.beginning.first_operands.Goals as goal

pub loop-k-preserved : goal.loop-k-preserved
loop-k-preserved c =
    let f = first_operand c.in-Var.class c.args.inputs.secrets c.args.inputs.publics in
    let k = c.loop-k.k in
    c.in_ok-push.ensures.items
    ∙ ap (λ xs. xs ++ c.first_operand.result ∷ []) c.loop-k.invariant
    ∙ ap (λ x. map f (range_with_len 0 k) ++ x ∷ []) c.first_operand.ensures
    ∙ sym (map-range_with_len_more f 0 k k (omega arith))
