-- What holds of the bytes that were read, said of those that the input gave.
use Rattle.std.proofs.Common.{◌≡◌, ℕ, List, Option, Some, None, IfSome, subst, sym}
use Rattle.mk_base.specs.Streams.{ReadsAll}
use Rattle.mk_code.specs.Listing.{Listing}
use Rattle.mk_rules.specs.Claimed.{Claimed}
use Rattle.mk_bundle.specs.Pairs.{IsBundleOf}
use Rattle.mk_top.specs.Bundles.{GivesText}

-- what holds of the bytes that were read holds of those that were given
pub of-given : (P : List ℕ → Type 0) (given after : Option (List ℕ)) (bytes : List ℕ) → IfSome given (λ rest. ReadsAll rest bytes after) → P bytes → IfSome given P
of-given P None after bytes read holds = tt
of-given P (Some rest) after bytes read holds = subst P read.whole holds

-- the text that was read is the one that was given
pub text-given : (given after : Option (List ℕ)) (bytes : List ℕ) (code : Listing) (cert : Claimed)
    → IfSome given (λ rest. ReadsAll rest bytes after) → GivesText (Some bytes) code cert → GivesText given code cert
text-given given after bytes code cert read (read_bytes, spelled, same) =
    (read_bytes, spelled, of-given (λ (told : List ℕ). told ≡ read_bytes) given after bytes read same)

-- bytes that the input tells are the text themselves
pub text-told : (bytes : List ℕ) (code : Listing) (cert : Claimed) → GivesText (Some bytes) code cert → IsBundleOf bytes code cert
text-told bytes code cert (read_bytes, spelled, same) = subst (λ (bs : List ℕ). IsBundleOf bs code cert) (sym same) spelled
