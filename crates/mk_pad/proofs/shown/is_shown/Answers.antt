-- The shares of one operand after the other.
use Rattle.std.proofs.Common.{arith, refl, ◌∙◌, ap, ℕ, List}
use Rattle.std.proofs.lemmas.Bool.{false≢true}
use Rattle.mk_pad.specs.Form.{operands}
use Rattle.mk_pad.specs.Shown.{shares_in}
use Rattle.mk_pad.proofs.Taking.{not-shown, few-more}
use Rattle.mk_pad.proofs.shown.is_shown.Goals as goal

pub returns-then-count_shares_in-most : goal.returns-then-count_shares_in-most
returns-then-count_shares_in-most c = (
  λ no. absurd (false≢true no),
  λ shown. absurd (not-shown c.args.gadget.now c.args.set.now c.rest_of-rest.result.items c.loop-operand.operand c.count_shares_in.result c.count_inner-most.result
      c.rest_of-rest.ensures.rest (omega (arith, c.loop-operand-test.true, c.operands-operand-end.ensures, ap operands c.kind.ensures)) (c.count_shares_in.ensures ∙ ap (λ (r : List ℕ). shares_in c.args.gadget.now r c.loop-operand.operand) c.as_slice.ensures.value) c.count_inner-most.ensures
      c.if-count_shares_in-most.true shown),
)

pub loop-operand-preserved : goal.loop-operand-preserved
loop-operand-preserved c =
    few-more c.args.gadget.now c.args.set.now c.rest_of-rest.result.items c.loop-operand.operand c.count_shares_in.result c.count_inner-most.result c.loop-operand.invariant
    (c.count_shares_in.ensures ∙ ap (λ (r : List ℕ). shares_in c.args.gadget.now r c.loop-operand.operand) c.as_slice.ensures.value) c.count_inner-most.ensures (omega (arith, c.if-count_shares_in-most.false))

pub returns : goal.returns
returns c = (
  λ yes. (c.rest_of-rest.result.items, c.rest_of-rest.ensures.rest, λ k below. c.loop-operand.invariant k (omega (arith, below, c.loop-operand-test.false, c.operands-operand-end.ensures, ap operands c.kind.ensures))),
  λ shown. refl,
)
