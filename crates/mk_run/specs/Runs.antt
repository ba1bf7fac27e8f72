-- A code that is run again and again.
use Rattle.std.specs.Prelude.{ℕ, List}
use Rattle.mk_field.specs.Field.{size}
use Rattle.mk_code.specs.Counting.{Elements}
use Rattle.mk_code.specs.Listing.{Listing}

-- the code, its public inputs, and the trace of its last run
pub record Runs : Type 0 where
  pub code : Listing
  pub publics : List ℕ
  pub entries : List ℕ

-- these are public inputs of the code
abbrev pub ArePublicsOf : Listing → List ℕ → Type 0
ArePublicsOf code publics = Elements (size code.field) code.publics publics
