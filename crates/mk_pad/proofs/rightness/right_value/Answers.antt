-- The test is whether the difference of the gadget's polynomials has no term.
use Rattle.std.proofs.Common.{◌∙◌, ap, length}
use Rattle.mk_pad.proofs.Right.{own-polynomial-list, polynomials-length, tests-empty, tests-polynomials, tests-right, tests-wrong}
use Rattle.mk_pad.proofs.rightness.right_value.Goals as goal

pub differences-requires-clause-count : goal.differences-requires-clause-count
differences-requires-clause-count c =
    ap length (c.as_slice.ensures.items ∙ c.in_ok-positions.ensures.polynomials) ∙ polynomials-length c.args.gadget.now

pub differences-requires-clause-polynomials : goal.differences-requires-clause-polynomials
differences-requires-clause-polynomials c =
    own-polynomial-list c.args.gadget.now c.ring_of-ring.result.field c.ring_of-ring.result.variables c.as_slice.result.now c.law.ensures c.ring_of-ring.ensures.field
    c.ring_of-ring.ensures.variables (c.as_slice.ensures.items ∙ c.in_ok-positions.ensures.polynomials)

pub returns-clause-polynomials : goal.returns-clause-polynomials
returns-clause-polynomials c =
    let g = c.args.gadget.now in
    tests-polynomials g c.is_empty.result c.law.ensures
    (tests-empty g c.as_slice.result.now c.in_ok-difference.difference c.is_empty.result (c.as_slice.ensures.items ∙ c.in_ok-positions.ensures.polynomials)
    c.in_ok-difference.ensures c.is_empty.ensures)

pub returns-clause-right : goal.returns-clause-right
returns-clause-right c =
    let g = c.args.gadget.now in
    tests-right g c.is_empty.result c.law.ensures
    (tests-empty g c.as_slice.result.now c.in_ok-difference.difference c.is_empty.result (c.as_slice.ensures.items ∙ c.in_ok-positions.ensures.polynomials)
    c.in_ok-difference.ensures c.is_empty.ensures)

pub returns-clause-wrong : goal.returns-clause-wrong
returns-clause-wrong c =
    let g = c.args.gadget.now in
    tests-wrong g c.is_empty.result c.law.ensures
    (tests-empty g c.as_slice.result.now c.in_ok-difference.difference c.is_empty.result (c.as_slice.ensures.items ∙ c.in_ok-positions.ensures.polynomials)
    c.in_ok-difference.ensures c.is_empty.ensures)
