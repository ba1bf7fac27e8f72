-- What is allocated for the code of a bundle, and for what a source is compiled to.
use Rattle.std.proofs.Common.{◌≡◌, ℕ, List, Some, None, inr, refl, sym, subst}
use Rattle.mk_ast.specs.declared.tree.Program.{Program as Tree}
use Rattle.mk_types.specs.Elements.{maps_of}
use Rattle.mk_code.specs.Listing.{Listing}
use Rattle.mk_code.specs.Private.{Private}
use Rattle.mk_rules.specs.Claimed.{Claimed}
use Rattle.mk_rules.specs.Pairs.{IsPair}
use Rattle.mk_rules.specs.Accepts.{IsAccepted}
use Rattle.mk_place.specs.Different.{AllDifferButRefreshes}
use Rattle.mk_compile.specs.Compiled.{IsWithin, IsCertified}
use Rattle.mk_compile.specs.Correct.{Correct}
use Rattle.mk_regs.specs.Form.{RegListing, IsRegListing}
use Rattle.mk_regs.specs.Allocation.{IsAllocated}
use Rattle.mk_bundle.specs.Pairs.{IsBundleOf, IsRegisterPair}
use Rattle.mk_bundle.specs.Text.{register_text}
use Rattle.mk_words.specs.Words.{Check}
use Rattle.mk_top.specs.Decided.{Decides}
use Rattle.mk_top.specs.Headline.{IsCompiled, CompilesSo, Checks, Allocates, Tries, trial_line}
use Rattle.mk_top.specs.Sources.{IsSourceOf}
use Rattle.mk_gen.specs.Generated.{generated}
use Rattle.mk_top.proofs.Renamed.{correct-renamed, private-renamed, text-private, bundle-pair}
use Rattle.mk_top.proofs.RegisterTexts.{register-pair, short-register_text}

-- it is a pair with the certificate of the bundle
pub allocated-pair : (bytes : List ℕ) (code : Listing) (cert : Claimed) (r : RegListing) → IsBundleOf bytes code cert → IsRegListing r → IsAllocated code r → IsRegisterPair r cert
allocated-pair bytes code cert r is listing allocated = register-pair r code cert listing allocated.renamed (bundle-pair bytes code cert is)

-- the text of what is allocated for accepted code decides that `check` has no fault
pub allocated-checks : (code : Listing) (cert : Claimed) (r : RegListing) → IsAccepted code cert → IsAllocated code r → IsRegisterPair r cert
    → Decides Check (register_text r cert) None
allocated-checks code cert r accepted allocated pair =
    (short-register_text code r cert allocated pair, (code, cert, inr (r, (pair, refl), allocated.renamed), accepted))

-- a bundle whose code is accepted and private was checked
pub checks-made : (bytes : List ℕ) (code : Listing) (cert : Claimed) → IsBundleOf bytes code cert → IsAccepted code cert → Private code → Checks (Some bytes)
checks-made bytes code cert is accepted private = record {
  code = code;
  cert = cert;
  bundle = (bytes, is, refl);
  accepted = accepted;
  private = private;
  registers = text-private bytes code cert is private;
}

-- and the text of what is allocated is the one that `regs` promises
pub allocates-made : (bytes : List ℕ) (code : Listing) (cert : Claimed) (r : RegListing) → IsBundleOf bytes code cert → IsAccepted code cert → Private code
    → IsRegListing r → IsAllocated code r → Allocates (Some bytes) (register_text r cert)
unfolding checks-made
allocates-made bytes code cert r is accepted private listing allocated =
    let pair : IsRegisterPair r cert = allocated-pair bytes code cert r is listing allocated in
    record {
      checked = checks-made bytes code cert is accepted private;
      allocated = r;
      allocation = allocated;
      text = (pair, refl);
      private = private-renamed r code listing allocated.renamed private;
      checks = allocated-checks code cert r accepted allocated pair;
    }

-- a source is compiled to a code and certificate that are what they promise
pub compiled-made : (order : ℕ) (bytes : List ℕ) (tree : Tree) (code : Listing) (cert : Claimed)
    → IsSourceOf bytes tree → IsWithin tree order → Correct tree order code → Private code → IsAccepted code cert → IsCompiled order (Some bytes)
compiled-made order bytes tree code cert source within correct private accepted = record {
  tree = tree;
  code = code;
  cert = cert;
  source = source;
  typed = source.typed;
  within = within;
  correct = correct;
  private = private;
  accepted = accepted;
}

-- what is allocated for a pair is one with its certificate
pub compiled-pair : (code : Listing) (cert claimed : Claimed) (r : RegListing) → IsPair code cert → IsRegListing r → IsAllocated code r → claimed ≡ cert
    → IsRegisterPair r claimed
compiled-pair code cert claimed r pair listing allocated same =
    subst (IsRegisterPair r) (sym same) (register-pair r code cert listing allocated.renamed pair)

-- and the text of what is allocated is the one that `compile` promises
pub compiles-made : (order : ℕ) (bytes : List ℕ) (tree : Tree) (code : Listing) (cert claimed : Claimed) (r : RegListing)
    → IsSourceOf bytes tree → IsWithin tree order → Correct tree order code → code.maps ≡ maps_of tree.decls → Private code → IsCertified tree cert
    → AllDifferButRefreshes cert.blocks → IsAccepted code cert → IsPair code cert → IsRegListing r → IsAllocated code r → claimed ≡ cert
    → CompilesSo order (Some bytes) (register_text r claimed)
unfolding compiled-made
compiles-made order bytes tree code cert claimed r source within correct maps private certified different accepted pair listing allocated same =
    subst (λ (x : Claimed). CompilesSo order (Some bytes) (register_text r x)) (sym same) (
      record {
        compiled = compiled-made order bytes tree code cert source within correct private accepted;
        allocated = r;
        allocation = allocated;
        text = (own, refl);
        correct = correct-renamed tree order r code listing allocated.renamed correct;
        private = private-renamed r code listing allocated.renamed private;
        checks = allocated-checks code cert r accepted allocated own;
      },
      record { certified = certified; different = different; maps = maps },
    )
  where
    own : IsRegisterPair r cert
    own = register-pair r code cert listing allocated.renamed pair

-- the generator's text was tried where its code and certificate are what they promise
pub tries-made : (turns order : ℕ) (written : List ℕ) (tree : Tree) (code : Listing) (cert : Claimed)
    → IsSourceOf (generated turns) tree → IsWithin tree order → Correct tree order code → code.maps ≡ maps_of tree.decls → Private code → IsCertified tree cert
    → AllDifferButRefreshes cert.blocks → IsAccepted code cert → IsPair code cert → written ≡ trial_line code cert → Tries turns order written
unfolding compiled-made
tries-made turns order written tree code cert source within correct maps private certified different accepted pair line = record {
  compiled = compiled-made order (generated turns) tree code cert source within correct private accepted;
  made = record { certified = certified; different = different; maps = maps };
  checks = λ r listing allocated. allocated-checks code cert r accepted allocated (register-pair r code cert listing allocated.renamed pair);
  bytes = line;
}
