-- The law of encodings holds in both fields.
use Rattle.mk_code.proofs.Encodings.{EncodingLaw-holds, EncodingsLaw-holds}
use Rattle.mk_code.proofs.laws.encodings_law.Goals as goal

pub returns : goal.returns
returns c = record { one = EncodingLaw-holds; several = EncodingsLaw-holds }
