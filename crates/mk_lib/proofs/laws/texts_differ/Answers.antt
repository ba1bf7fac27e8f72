-- The lines of both texts are read.
use Rattle.mk_lib.proofs.Naming.{differ}
use Rattle.mk_lib.proofs.laws.texts_differ.Goals as goal

pub returns : goal.returns
returns c = differ
