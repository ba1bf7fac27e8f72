-- What a code is over, without its instructions and outputs: what certificates and their numbers are told of.
use Rattle.std.specs.Prelude.{ℕ, List}
use Rattle.mk_field.specs.declared.field.FieldId.{FieldId}
use Rattle.mk_field.specs.declared.map.AddMap.{AddMap}
use Rattle.mk_code.specs.Listing.{Listing}

-- a field, an order, the numbers of secrets and of publics, and maps
pub record Shape : Type 0 where
  pub field : FieldId
  pub order : ℕ
  pub secrets : ℕ
  pub publics : ℕ
  pub maps : List AddMap

-- the shape of a code
abbrev pub shape_of : Listing → Shape
shape_of code = record { field = code.field; order = code.order; secrets = code.secrets; publics = code.publics; maps = code.maps }
