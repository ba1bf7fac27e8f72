-- The laws of register code.
use Rattle.std.specs.Prelude.{◌≡◌, ◌↔◌, ◌*◌, ◌+◌, ◌≤◌, List, ℕ, length}
use Rattle.mk_field.specs.Field.{size}
use Rattle.mk_code.specs.Listing.{Listing}
use Rattle.mk_code.specs.Trace.{trace}
use Rattle.mk_code.specs.Counting.{Elements}
use Rattle.mk_code.specs.Private.{ways, Private}
use Rattle.mk_regs.specs.Form.{RegListing, IsRegListing}
use Rattle.mk_regs.specs.Renaming.{IsRenamed}
use Rattle.mk_regs.specs.Trace.{register_trace, register_ways, IsPrivateOverRegisters}
use Rattle.mk_regs.specs.Width.{width}

-- register code and what it is renamed to have equal traces, so equally many ways, and are private together
pub record RenamingLaws (r : RegListing) (code : Listing) : Type 0 where
  pub traces : (publics shares tape : List ℕ) → length publics ≡ r.publics → length shares ≡ r.secrets * (r.order + 1)
      → register_trace r publics shares tape ≡ trace code publics shares tape
  pub ways : (publics secrets probes seen : List ℕ) → Elements (size r.field) r.publics publics → Elements (size r.field) r.secrets secrets
      → register_ways r publics secrets probes seen ≡ ways code publics secrets probes seen
  pub private : IsPrivateOverRegisters r ↔ Private code

-- register code that is renamed to code has at least as many registers as the code is wide
abbrev pub WidthLaw : Listing → Type 0
WidthLaw code = (r : RegListing) → IsRegListing r → IsRenamed r code → width code ≤ r.registers
