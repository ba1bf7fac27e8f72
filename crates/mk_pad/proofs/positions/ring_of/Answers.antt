-- The variables are the shares and the random elements.
use Rattle.std.proofs.Common.{◌∙◌, arith}
use Rattle.mk_pad.proofs.Right.{variables-few, own-variables}
use Rattle.mk_pad.proofs.positions.ring_of.Goals as goal

pub overflow_add-result : goal.overflow_add-result
overflow_add-result c =
    let g = c.args.gadget.now in
    omega (
      arith,
      variables-few g c.law.ensures,
      own-variables g c.count_shares.result c.count_randoms.result c.as_slice.result.now c.count_shares.ensures
          (c.as_slice.ensures.items ∙ c.instrs.ensures) c.count_randoms.ensures,
    )

pub returns-clause-variables : goal.returns-clause-variables
returns-clause-variables c =
    own-variables c.args.gadget.now c.count_shares.result c.count_randoms.result c.as_slice.result.now c.count_shares.ensures
    (c.as_slice.ensures.items ∙ c.instrs.ensures) c.count_randoms.ensures
