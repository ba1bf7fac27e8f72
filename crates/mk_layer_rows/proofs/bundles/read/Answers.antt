-- A bundle that is read is a pair.
use Rattle.std.proofs.Common.{ℕ, List, subst, inl, inr}
use Rattle.mk_code.specs.Listing.{Listing}
use Rattle.mk_regs.proofs.Renames.{renamed-fits}
use Rattle.mk_rules.specs.Claimed.{Claimed}
use Rattle.mk_rules.specs.Pairs.{IsPair}
use Rattle.mk_bundle.specs.Pairs.{IsBundleOf}
use Rattle.mk_layer_rows.proofs.bundles.read.Goals as goal

-- the code and certificate of a text are a pair
pair_of : (bytes : List ℕ) (code : Listing) (cert : Claimed) → IsBundleOf bytes code cert → IsPair code cert
pair_of bytes code cert (inl is) = is.0.pair
pair_of bytes code cert (inr is) =
    let pair = is.1.0 in
    subst (λ (x : Listing). IsPair x cert) is.2.same (record {
      listing = renamed-fits is.0 pair.listing is.2.runs;
      maps = pair.maps;
      blocks = pair.blocks;
      claims = pair.claims;
      few_blocks = pair.few_blocks;
      few_claims = pair.few_claims;
    })

pub returns-clause-pair : goal.returns-clause-pair
returns-clause-pair c = pair_of _ c.in_ok-bundle.bundle.code c.in_ok-bundle.bundle.cert (c.in_ok-bundle.ensures).ok
