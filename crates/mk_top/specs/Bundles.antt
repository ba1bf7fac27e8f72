-- What an input gave where it was read as a bundle.
use Rattle.std.specs.Prelude.{◌≡◌, ℕ, List, Option, None, IfSome}
use Rattle.mk_code.specs.Listing.{Listing}
use Rattle.mk_regs.specs.Form.{RegListing}
use Rattle.mk_regs.specs.Renaming.{refusal_of}
use Rattle.mk_regs.specs.Trace.{IsPrivateOverRegisters}
use Rattle.mk_regs.specs.Transitions.{IsPrivateAtWrites}
use Rattle.mk_rules.specs.Claimed.{Claimed}
use Rattle.mk_bundle.specs.Pairs.{IsBundleOf, IsRegisterTextOf}

-- some bytes, which are those of the input where it tells them, are a text of this code and certificate, of either
-- version
abbrev pub GivesText : Option (List ℕ) → Listing → Claimed → Type 0
GivesText given code cert = (bytes : List ℕ) × IsBundleOf bytes code cert × IfSome given (λ told. told ≡ bytes)

-- register code is private: it has a trace, and is private over it and at its writes
abbrev pub IsPrivateInRegisters : RegListing → Type 0
IsPrivateInRegisters r = (refusal_of r ≡ None) × IsPrivateOverRegisters r × IsPrivateAtWrites r

-- where the bytes are the text of register code, whatever its certificate, this code is private
abbrev pub AreRegistersPrivate : List ℕ → Type 0
AreRegistersPrivate bytes = (r : RegListing) (cert : Claimed) → IsRegisterTextOf bytes r cert → IsPrivateInRegisters r
