-- An encoding is a sharing of its value.
use Rattle.mk_share.proofs.Encodings.{encoding-shares}
use Rattle.mk_share.proofs.share.encoding_law.Goals as goal

pub returns : goal.returns
returns c = encoding-shares
