-- The parts are the encoding, and so elements and a sharing of the value.
use Rattle.std.proofs.Common.{arith}
use Rattle.std.proofs.lemmas.Grind.{common_steps}
use Rattle.mk_share.proofs.Encodings.{field_sum-element, elements-of, shares-of}
use Rattle.mk_share.proofs.share.encode.Goals as goal

pub add-requires-clause-right : goal.add-requires-clause-right
add-requires-clause-right g c = rw c.value_of.ensures (field_sum-element g.F.Field.ID c.args.tape.now c.requires.elements)

pub returns-clause-sharing : goal.returns-clause-sharing
returns-clause-sharing g c = shares-of g.row.N c.args.value _ c.args.tape.now (grind (arith, common_steps)) c.requires.count

pub returns-clause-elements : goal.returns-clause-elements
returns-clause-elements g c = elements-of g.F.Field.ID c.args.value _ c.args.tape.now (grind (arith, common_steps)) c.requires.value c.requires.elements
