-- That register code computes on shares what a program computes on elements.
use Rattle.std.specs.Prelude.{◌≡◌, ℕ, ◌+◌, ◌*◌, List, length, map, Some, None}
use Rattle.mk_field.specs.Field.{size}
use Rattle.mk_field.specs.Sharing.{decoded}
use Rattle.mk_code.specs.Listing.{Listing}
use Rattle.mk_code.specs.Counting.{Elements}
use Rattle.mk_code.specs.Private.{observation}
use Rattle.mk_regs.specs.Form.{RegListing, IsRegListing}
use Rattle.mk_regs.specs.Renaming.{position_in, held_at_end, refusal_of, IsRenamed}
use Rattle.mk_regs.specs.Trace.{register_trace, register_randoms}
use Rattle.mk_ast.specs.declared.tree.Program.{Program as Tree}
use Rattle.mk_types.specs.Elements.{secrets_of, publics_of, outputs_of}
use Rattle.mk_types.specs.Meaning.{result}
use Rattle.mk_compile.specs.Correct.{Correct}

-- the positions of the shares of the outputs: those of the entries that their registers hold behind the last instruction
abbrev pub out_positions : RegListing → List ℕ
out_positions r = map (position_in (held_at_end r)) r.outs

-- The register code has a trace, the program's field, numbers of secrets, publics and outputs, and this order; and for all
-- publics, all shares, whether or not they come from an encoding, and all tapes the shares of its outputs have
-- the program's result as sums, each secret being the sum of its shares.
pub record CorrectOverRegisters (p : Tree) (order : ℕ) (r : RegListing) : Type 0 where
  pub runs : refusal_of r ≡ None
  pub field : r.field ≡ p.field
  pub same_order : r.order ≡ order
  pub secrets : r.secrets ≡ secrets_of p
  pub publics : r.publics ≡ publics_of p
  pub outputs : length r.outs ≡ outputs_of p * (order + 1)
  pub values : (publics shares tape : List ℕ)
      → Elements (size p.field) (publics_of p) publics
      → Elements (size p.field) (secrets_of p * (order + 1)) shares
      → Elements (size p.field) (register_randoms r.instrs) tape
      → result p publics (decoded (order + 1) (secrets_of p) shares)
      ≡ Some (decoded (order + 1) (outputs_of p) (observation (out_positions r) (register_trace r publics shares tape)))

-- register code that is renamed to correct code is correct
abbrev pub CorrectnessLaw : Type 0
CorrectnessLaw = (p : Tree) (order : ℕ) (r : RegListing) (code : Listing)
    → IsRegListing r → IsRenamed r code → Correct p order code → CorrectOverRegisters p order r
