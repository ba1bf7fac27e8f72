-- What is noted of the gadget's polynomials is noted of it.
use Rattle.std.proofs.Common.{◌∙◌}
use Rattle.mk_pad.proofs.Noting.{terms-long, notes-own}
use Rattle.mk_pad.proofs.verdict.note_positions.Goals as goal

pub find_occurrences-requires-clause-terms : goal.find_occurrences-requires-clause-terms
find_occurrences-requires-clause-terms c =
    terms-long c.args.gadget.now c.ring_of-ring.result.variables c.as_slice.result.now c.law.ensures c.ring_of-ring.ensures.variables
    (c.as_slice.ensures.items ∙ c.in_ok-positions.ensures.polynomials)

pub returns-clause-notes : goal.returns-clause-notes
returns-clause-notes c =
    notes-own c.args.gadget.now c.count_shares.result c.ring_of-ring.result.variables c.as_slice.result.now c.in_ok-rows.rows c.law.ensures c.count_shares.ensures
    c.ring_of-ring.ensures.variables (c.as_slice.ensures.items ∙ c.in_ok-positions.ensures.polynomials) c.in_ok-rows.ensures
