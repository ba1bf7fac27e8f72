-- Different texts of either version.
use Rattle.std.proofs.Common.{◌≡◌, ℕ, List, [], ◌++◌, Option, Some, None, get_or, inl, inr, append-nil, refl, sym, ap, subst, ◌∙◌, arith}
use Rattle.mk_regs.specs.Form.{RegListing}
use Rattle.mk_bundle.specs.declared.draft.Stage.TheVariants.{Ended}
use Rattle.mk_bundle.specs.RegisterReading.{RegisterState, register_start, register_read_at, register_line_read}
use Rattle.mk_code.specs.Listing.{Listing}
use Rattle.mk_regs.specs.declared.refusal.RegRefusal.{RegRefusal}
use Rattle.mk_regs.specs.Renaming.{renamed, refusal_of}
use Rattle.mk_rules.specs.Claimed.{Claimed}
use Rattle.mk_lines.proofs.Steps.{same_some}
use Rattle.mk_bundle.specs.Text.{text, register_text}
use Rattle.mk_bundle.specs.Pairs.{IsTextOf, IsRegisterTextOf, IsBundleOf, IsRefusedText, RegisterTextsDiffer, VersionsDiffer, TextsReadOnce}
use Rattle.mk_bundle.specs.Versions.{register_code}
use Rattle.mk_bundle.proofs.Naming.{differ}
use Rattle.mk_bundle.proofs.Leading.{Leads, same_end}
use Rattle.mk_bundle.proofs.RegisterComplete.{behind_cert, register_text_goes}

-- different pairs over registers have different texts, and none is a proper front of another's
pub registers_differ : RegisterTextsDiffer
unfolding register_read_at
registers_differ bytes rest r other_r cert other_cert whole front =
    let ended : RegisterState = behind_cert Ended r cert r.instrs r.outs in
    let other_ended : RegisterState = behind_cert Ended other_r other_cert other_r.instrs other_r.outs in
    let longer = subst (λ (w : List ℕ). Leads RegisterState register_line_read register_start w ended) (sym whole.1) (register_text_goes r cert whole.0) in
    let shorter = subst (λ (w : List ℕ). Leads RegisterState register_line_read register_start w other_ended) (sym front.1) (register_text_goes other_r other_cert front.0) in
    let h = same_end register_line_read register_start ended other_ended bytes rest longer shorter (λ l. refl) in
    (ap register_code (sym h.0), ap (λ (s : RegisterState). s.shared.cert) (sym h.0), h.1)

-- the sixth byte, which tells the version
abbrev sixth : List ℕ → ℕ
sixth bytes = get_or bytes 5 0

-- no text of one version is a front of one of the other
pub versions_differ : VersionsDiffer
versions_differ bytes rest code r cert registers_cert = (
  λ whole front. (
      let e : register_text r registers_cert ++ rest ≡ text code cert = ap (λ (b : List ℕ). b ++ rest) (sym front.1) ∙ whole.1 in
      let never : 50 ≡ 49 = ap {B = ℕ} sixth e in
      absurd (omega (arith, never))),
  λ whole front. (
      let e : text code cert ++ rest ≡ register_text r registers_cert = ap (λ (b : List ℕ). b ++ rest) (sym front.1) ∙ whole.1 in
      let never : 49 ≡ 50 = ap {B = ℕ} sixth e in
      absurd (omega (arith, never))),
)

-- two pairs of texts, of which one is a front of the other, are the same
pairs_once : (bytes rest : List ℕ) (code other_code : Listing) (cert other_cert : Claimed) → IsBundleOf (bytes ++ rest) code cert → IsBundleOf bytes other_code other_cert
    → (code ≡ other_code) × (cert ≡ other_cert) × (rest ≡ [])
pairs_once bytes rest code other_code cert other_cert (inl whole) (inl front) = differ bytes rest code other_code cert other_cert whole front
pairs_once bytes rest code other_code cert other_cert (inl whole) (inr front) = absurd ((versions_differ bytes rest code front.0 cert other_cert).0 whole front.1)
pairs_once bytes rest code other_code cert other_cert (inr whole) (inl front) = absurd ((versions_differ bytes rest other_code whole.0 other_cert cert).1 whole.1 front)
pairs_once bytes rest code other_code cert other_cert (inr whole) (inr front) =
    let h = registers_differ bytes rest whole.0 front.0 cert other_cert whole.1 front.1 in
    (sym whole.2.same ∙ ap renamed h.0 ∙ front.2.same, h.1, h.2)

-- one text of register code has one register code
one_code : (bytes : List ℕ) (r other : RegListing) (cert other_cert : Claimed) → IsRegisterTextOf bytes r cert → IsRegisterTextOf bytes other other_cert → r ≡ other
one_code bytes r other cert other_cert p q =
    (registers_differ bytes [] r other cert other_cert (subst (λ (l : List ℕ). IsRegisterTextOf l r cert) (sym (append-nil bytes)) p) q).0

-- the text of register code that can't be renamed is that of no pair
refused_none : (bytes : List ℕ) (refusal : RegRefusal) (code : Listing) (cert : Claimed) → IsRefusedText refusal bytes → IsBundleOf bytes code cert → ⊥
refused_none bytes refusal code cert refused (inl is) =
    absurd ((versions_differ bytes [] code refused.0 cert refused.1).0 (subst (λ (l : List ℕ). IsTextOf l code cert) (sym (append-nil bytes)) is) refused.2)
refused_none bytes refusal code cert refused (inr is) =
    let never : ◌≡◌ {A = Option RegRefusal} (Some refusal) None = sym refused.3 ∙ ap refusal_of (one_code bytes refused.0 is.0 refused.1 cert refused.2 is.1) ∙ is.2.runs in
    absurd cc

-- register code is refused for one reason
one_reason : (bytes : List ℕ) (refusal other : RegRefusal) → IsRefusedText refusal bytes → IsRefusedText other bytes → refusal ≡ other
one_reason bytes refusal other p q = same_some refusal other (sym p.3 ∙ ap refusal_of (one_code bytes p.0 q.0 p.1 q.1 p.2 q.2) ∙ q.3)

-- a text is read in one way
pub read_once : TextsReadOnce
read_once = record { pairs = pairs_once; refused = refused_none; reasons = one_reason }
