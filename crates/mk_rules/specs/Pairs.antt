-- Codes and certificates of texts.
use Rattle.std.specs.Prelude.{◌≤◌, length}
use Rattle.std.specs.List.{AllByRecursion}
use Rattle.mk_field.specs.Maps.{MapFits}
use Rattle.mk_code.specs.Listing.{Listing, IsListing}
use Rattle.mk_ssa.specs.Widths.{OperandFits, OpFits}
use Rattle.mk_rules.specs.declared.TheConstants.{MOST_BLOCKS, MOST_CLAIMS}
use Rattle.mk_rules.specs.Claimed.{Claimed}

-- a code that fits together and a certificate of any blocks and claims, within the limits of a text
pub record IsPair (code : Listing) (cert : Claimed) : Type 0 where
  pub listing : IsListing code
  pub maps : AllByRecursion MapFits code.maps
  pub blocks : AllByRecursion OpFits cert.blocks
  pub claims : AllByRecursion OperandFits cert.claims
  pub few_blocks : length cert.blocks ≤ MOST_BLOCKS
  pub few_claims : length cert.claims ≤ MOST_CLAIMS
