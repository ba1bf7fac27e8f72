-- A sum of elements is an element.
use Rattle.mk_share.proofs.Encodings.{field_sum-element}
use Rattle.mk_share.proofs.share.decode.Goals as goal

pub returns-clause-element : goal.returns-clause-element
returns-clause-element g c = rw c.value_of.ensures (field_sum-element g.F.Field.ID c.args.sharing.now.parts c.requires.elements)
