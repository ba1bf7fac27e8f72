-- What encoding and decoding are to one another.
use Rattle.std.specs.Prelude.{ℕ, ◌+◌, List, length}
use Rattle.mk_field.specs.Sharing.{IsSharing, encoding}

-- the encoding of a value by any elements is a sharing of it, one share longer than they are
abbrev pub EncodingLaw : Type 0
EncodingLaw = (value : ℕ) (elements : List ℕ) → IsSharing (length elements + 1) value (encoding value elements)
