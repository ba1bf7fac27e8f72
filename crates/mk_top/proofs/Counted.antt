-- What was counted of a text, said of the bytes that the input gave.
use Rattle.std.proofs.Common.{◌≡◌, ℕ, List, Option, Some, IfSome, subst, sym, ap, ◌⊎◌, inl, inr}
use Rattle.std.specs.Prelude.{option_map}
use Rattle.mk_base.specs.Streams.{ReadsAll}
use Rattle.mk_code.specs.Listing.{Listing}
use Rattle.mk_rules.specs.Claimed.{Claimed}
use Rattle.mk_bundle.specs.Pairs.{IsBundleOf}
use Rattle.mk_run.specs.declared.refusal.CountRefusal.{CountRefusal}
use Rattle.mk_run.specs.declared.refusal.CountRefusal.TheVariants as count
use Rattle.mk_run.specs.Refusals.{count_refusal}
use Rattle.mk_words.specs.Words.{Count}
use Rattle.mk_top.specs.Counts.{Counts}
use Rattle.mk_top.specs.Faults.{fault_of_count}
use Rattle.mk_top.specs.Running.{NotMade}
use Rattle.mk_top.proofs.Bundles.{text-given}

-- why the tapes of the code of a bundle are not counted is why nothing is made of the bundle
pub count_not_made : (ps first second probes bytes : List ℕ) (code : Listing) (cert : Claimed) (e : CountRefusal) → IsBundleOf bytes code cert
    → (e ≡ count.Memory) ⊎ (count_refusal code ps first second probes ≡ Some e) → NotMade (Count ps first second probes) bytes (fault_of_count e)
count_not_made ps first second probes bytes code cert e is (inl wanted) =
    subst (λ (x : CountRefusal). NotMade (Count ps first second probes) bytes (fault_of_count x)) (sym wanted) tt
count_not_made ps first second probes bytes code cert e is (inr why) = by e why
  where
    by : (x : CountRefusal) → count_refusal code ps first second probes ≡ Some x → NotMade (Count ps first second probes) bytes (fault_of_count x)
    by (count.Length given wanted) h = (code, cert, is, sym (ap (option_map fault_of_count) h))
    by (count.Element which index) h = (code, cert, is, sym (ap (option_map fault_of_count) h))
    by (count.Probe index) h = (code, cert, is, sym (ap (option_map fault_of_count) h))
    by (count.Tapes elements) h = (code, cert, is, sym (ap (option_map fault_of_count) h))
    by count.Memory h = tt

-- the bundle that was read is the one that was given
pub counts-given : (given after : Option (List ℕ)) (bytes written ps first second probes : List ℕ)
    → IfSome given (λ rest. ReadsAll rest bytes after) → Counts ps first second probes (Some bytes) written → Counts ps first second probes given written
counts-given given after bytes written ps first second probes read c = record {
  code = c.code;
  cert = c.cert;
  rows = c.rows;
  bundle = text-given given after bytes c.code c.cert read c.bundle;
  taken = c.taken;
  table = c.table;
  bytes = c.bytes;
}
