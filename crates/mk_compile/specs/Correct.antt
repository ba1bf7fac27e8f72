-- That a code computes on shares what a program computes on elements.
use Rattle.std.specs.Prelude.{◌≡◌, ℕ, ◌+◌, ◌*◌, List, length, Some}
use Rattle.mk_field.specs.Field.{size}
use Rattle.mk_field.specs.Sharing.{decoded}
use Rattle.mk_code.specs.Listing.{Listing}
use Rattle.mk_code.specs.Trace.{trace, randoms}
use Rattle.mk_code.specs.Counting.{Elements}
use Rattle.mk_code.specs.Private.{observation}
use Rattle.mk_ast.specs.declared.tree.Program.{Program}
use Rattle.mk_types.specs.Elements.{secrets_of, publics_of, outputs_of}
use Rattle.mk_types.specs.Meaning.{result}

-- The code has the program's field, numbers of secrets, publics and outputs, and this order; and for all
-- publics, all shares, whether or not they come from an encoding, and all tapes the shares of its outputs have
-- the program's result as sums, each secret being the sum of its shares.
pub record Correct (p : Program) (order : ℕ) (code : Listing) : Type 0 where
  pub field : code.field ≡ p.field
  pub same_order : code.order ≡ order
  pub secrets : code.secrets ≡ secrets_of p
  pub publics : code.publics ≡ publics_of p
  pub outputs : length code.outs ≡ outputs_of p * (order + 1)
  pub values : (publics shares tape : List ℕ)
      → Elements (size p.field) (publics_of p) publics
      → Elements (size p.field) (secrets_of p * (order + 1)) shares
      → Elements (size p.field) (randoms code.instrs) tape
      → result p publics (decoded (order + 1) (secrets_of p) shares)
      ≡ Some (decoded (order + 1) (outputs_of p) (observation code.outs (trace code publics shares tape)))
