-- The lines of both texts are read.
use Rattle.mk_bundle.proofs.Naming.{differ}
use Rattle.mk_bundle.proofs.read.texts_differ.Goals as goal

pub returns : goal.returns
returns c = differ
