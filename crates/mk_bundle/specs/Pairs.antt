-- Which pairs have a text, and which texts are those of a pair.
use Rattle.std.specs.Prelude.{◌≡◌, ℕ, ◌≤◌, ◌<◌, ◌^◌, ◌⊎◌, List, [], ◌++◌, length, Some}
use Rattle.std.specs.List.{AllByRecursion}
use Rattle.mk_field.specs.Maps.{MapFits}
use Rattle.mk_ssa.specs.Widths.{OperandFits, OpFits}
use Rattle.mk_code.specs.Listing.{Listing}
use Rattle.mk_regs.specs.declared.instr.RegInstr.{RegInstr}
use Rattle.mk_regs.specs.declared.refusal.RegRefusal.{RegRefusal}
use Rattle.mk_regs.specs.Form.{RegListing, IsRegListing, target, operation}
use Rattle.mk_regs.specs.Renaming.{refusal_of, IsRenamed}
use Rattle.mk_lines.specs.CodeLines.{IntoFits}
use Rattle.mk_rules.specs.declared.TheConstants.{MOST_BLOCKS, MOST_CLAIMS}
use Rattle.mk_rules.specs.Claimed.{Claimed}
use Rattle.mk_rules.specs.Pairs.{IsPair}
use Rattle.mk_bundle.specs.declared.TheConstants.{TEXT_TOP_ORDER}
use Rattle.mk_bundle.specs.Text.{text, register_text}

-- code over positions and its certificate have a text: they are a pair, of a masking order that version 1 has, which is
-- at most 8
pub record IsTextPair (code : Listing) (cert : Claimed) : Type 0 where
  pub pair : IsPair code cert
  pub order : code.order ≤ TEXT_TOP_ORDER

-- these bytes are the text of this code and certificate, which have one
abbrev pub IsTextOf : List ℕ → Listing → Claimed → Type 0
IsTextOf bytes code cert = IsTextPair code cert × (bytes ≡ text code cert)

-- the numbers of an instruction have 32 bits, and its element is a byte
abbrev pub RegisterFits : RegInstr → Type 0
RegisterFits i = IntoFits (target i) (operation i)

-- code over registers and a certificate of any blocks and claims, within the limits of a text of version 2, which has
-- every masking order. Its instructions and outputs may name any registers of 32 bits
pub record IsRegisterPair (r : RegListing) (cert : Claimed) : Type 0 where
  pub listing : IsRegListing r
  pub maps : AllByRecursion MapFits r.maps
  pub instrs : AllByRecursion RegisterFits r.instrs
  pub outs : AllByRecursion (λ register. register < 2 ^ 32) r.outs
  pub blocks : AllByRecursion OpFits cert.blocks
  pub claims : AllByRecursion OperandFits cert.claims
  pub few_blocks : length cert.blocks ≤ MOST_BLOCKS
  pub few_claims : length cert.claims ≤ MOST_CLAIMS

-- these bytes are the text of this register code and certificate, which are a pair
abbrev pub IsRegisterTextOf : List ℕ → RegListing → Claimed → Type 0
IsRegisterTextOf bytes r cert = IsRegisterPair r cert × (bytes ≡ register_text r cert)

-- these bytes are a text of this code and certificate: that of version 1, or that of version 2 of register code that
-- is renamed to the code
abbrev pub IsBundleOf : List ℕ → Listing → Claimed → Type 0
IsBundleOf bytes code cert = IsTextOf bytes code cert ⊎ ((r : RegListing) × IsRegisterTextOf bytes r cert × IsRenamed r code)

-- these bytes are the text of a certificate and a code, over positions or over registers
abbrev pub IsBundleText : List ℕ → Type 0
IsBundleText bytes =
    ((code : Listing) × (cert : Claimed) × IsTextOf bytes code cert)
    ⊎ ((r : RegListing) × (cert : Claimed) × IsRegisterTextOf bytes r cert)

-- these bytes are the text of a certificate and register code that can't be renamed, for this reason
abbrev pub IsRefusedText : RegRefusal → List ℕ → Type 0
IsRefusedText refusal bytes = (r : RegListing) × (cert : Claimed) × IsRegisterTextOf bytes r cert × (refusal_of r ≡ Some refusal)

-- different pairs have different texts, and no bundle text is a proper front of another
abbrev pub TextsDiffer : Type 0
TextsDiffer = (bytes rest : List ℕ) (code other_code : Listing) (cert other_cert : Claimed)
    → IsTextOf (bytes ++ rest) code cert → IsTextOf bytes other_code other_cert
    → (code ≡ other_code) × (cert ≡ other_cert) × (rest ≡ [])

-- the same over registers: different pairs have different texts, and none is a proper front of another
abbrev pub RegisterTextsDiffer : Type 0
RegisterTextsDiffer = (bytes rest : List ℕ) (r other_r : RegListing) (cert other_cert : Claimed)
    → IsRegisterTextOf (bytes ++ rest) r cert → IsRegisterTextOf bytes other_r other_cert
    → (r ≡ other_r) × (cert ≡ other_cert) × (rest ≡ [])

-- no text over positions is a front of one over registers or equal to it, and none over registers is one of a text over positions
abbrev pub VersionsDiffer : Type 0
VersionsDiffer = (bytes rest : List ℕ) (code : Listing) (r : RegListing) (cert registers_cert : Claimed)
    → (IsTextOf (bytes ++ rest) code cert → IsRegisterTextOf bytes r registers_cert → ⊥)
    × (IsRegisterTextOf (bytes ++ rest) r registers_cert → IsTextOf bytes code cert → ⊥)

-- the text of a bundle is read in one way: it is that of one code and certificate, or of register code that can't be
-- renamed, for one reason, and never of both. No text of a code and certificate is a proper front of another such text; of
-- all texts of bundles the three laws above say so
pub record TextsReadOnce : Type 0 where
  pub pairs : (bytes rest : List ℕ) (code other_code : Listing) (cert other_cert : Claimed)
      → IsBundleOf (bytes ++ rest) code cert → IsBundleOf bytes other_code other_cert
      → (code ≡ other_code) × (cert ≡ other_cert) × (rest ≡ [])
  pub refused : (bytes : List ℕ) (refusal : RegRefusal) (code : Listing) (cert : Claimed)
      → IsRefusedText refusal bytes → IsBundleOf bytes code cert → ⊥
  pub reasons : (bytes : List ℕ) (refusal other : RegRefusal) → IsRefusedText refusal bytes → IsRefusedText other bytes → refusal ≡ other
