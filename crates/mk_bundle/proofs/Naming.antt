-- What lines of version 1 lead to, and texts of version 1 that differ.
use Rattle.std.proofs.Common.{◌≡◌, ℕ, ◌+◌, ◌/◌, List, [], ◌∷◌, ◌++◌, length, Option, Some, refl, sym, ap, subst, ◌∙◌, arith, append_assoc}
use Rattle.std.specs.Prelude.{codes, flat_map}
use Rattle.std.proofs.lemmas.List.{append-nil}
use Rattle.mk_code.specs.Listing.{Listing}
use Rattle.mk_rules.specs.Claimed.{Claimed}
use Rattle.mk_lines.specs.Words.{line}
use Rattle.mk_lines.specs.CertLines.{op_line, claim_line}
use Rattle.mk_lines.specs.CodeLines.{field_line, map_line, instr_line, out_lines}
use Rattle.mk_bundle.specs.Text.{number_line, head_lines, upper_text, lower_text, text}
use Rattle.mk_bundle.specs.Pairs.{IsTextPair, TextsDiffer}
use Rattle.mk_bundle.specs.declared.draft.Stage.{Stage}
use Rattle.mk_bundle.specs.declared.draft.Stage.TheVariants.{Version, Field, Order, Secrets, Publics, Upper, Lower, Ended}
use Rattle.mk_lines.specs.Parsing.{◌>>=◌}
use Rattle.mk_bundle.specs.Reading.{State, start, read_at, line_read, lines_read}
use Rattle.mk_lines.proofs.Steps.{bind_some, same_some}
use Rattle.mk_lines.proofs.ByLines.{prefix_lines, Front, front_more, front_same}
use Rattle.mk_bundle.proofs.Sound.{at, text_at, Good, IsFresh, fresh_pair, line_goes}
use Rattle.mk_bundle.proofs.Complete.{text_runs, lines_read-append}

-- what was read so far is good at its stage
abbrev pub GoodAt : State → Type 0
GoodAt st = Good st.stage st.code st.cert

-- the text of what was read so far
abbrev pub so_far : State → List ℕ
so_far st = text_at st.stage st.code st.cert

-- what was read so far has a text
pub text_pair : (st : State) → GoodAt st → IsTextPair st.code st.cert
text_pair st good = record { pair = good.pair; order = good.order }

-- ---- what was read

-- nothing read yet is good
pub start_good : GoodAt start
start_good =
    let fresh : IsFresh start.code start.cert = record { maps = refl; instrs = refl; outs = refl; blocks = refl; claims = refl } in
    record { pair = fresh_pair start.code start.cert fresh (omega arith, omega arith) (omega arith) (omega arith); order = omega arith; blank = fresh }

-- lines that are read from a good state lead to a good one, and its text is longer by just these lines
all_go : (lines : List (List ℕ)) (from to : State) → GoodAt from → lines_read from lines ≡ Some to → GoodAt to × (so_far to ≡ so_far from ++ flat_map line lines)
unfolding lines_read
all_go [] from to good e = subst (λ (st : State). GoodAt st × (so_far st ≡ so_far from ++ [])) (same_some from to e) (good, sym (append-nil (so_far from)))
all_go (l ∷ lines) from to good e =
    let a = bind_some (line_read from l) (λ (next : State). lines_read next lines) to e in
    let goes = line_goes from.stage from.code from.cert l a.0 good a.1 in
    let others = all_go lines a.0 to goes.good a.2 in
    (others.0, others.1 ∙ ap (λ (r : List ℕ). r ++ flat_map line lines) goes.more ∙ append_assoc (so_far from) (line l) (flat_map line lines))

-- lines that are read from the start on lead to a good state, and its text is these lines
pub reached : (lines : List (List ℕ)) (st : State) → lines_read start lines ≡ Some st → GoodAt st × (so_far st ≡ flat_map line lines)
reached lines st e = all_go lines start st start_good e

-- ---- the text of the pair goes on with it

-- from a front of the lines before the code on
from_upper : (xs : List ℕ) (code : Listing) (cert : Claimed) → Front xs (upper_text code cert) → Front xs (text code cert)
from_upper xs code cert h =
    let begun : List ℕ = upper_text code cert ++ line (codes "code") in
    let filled : List ℕ = upper_text code cert ++ line (codes "code") ++ flat_map instr_line code.instrs in
    let outs : List ℕ = out_lines (code.order + 1) (length code.outs / (code.order + 1)) code.outs in
    front_more xs (lower_text code cert) (line (codes "end")) (front_more xs filled outs (front_more xs begun (flat_map instr_line code.instrs) (front_more xs (upper_text code cert) (line (codes "code")) h)))

-- the text of a pair begins with what its head begins with
from_head : (xs : List ℕ) (code : Listing) (cert : Claimed) → Front xs (head_lines code) → Front xs (text code cert)
from_head xs code cert h =
    let mapped : List ℕ = head_lines code ++ flat_map map_line code.maps in
    let filled : List ℕ = head_lines code ++ flat_map map_line code.maps ++ flat_map op_line cert.blocks in
    from_upper xs code cert (front_more xs filled (flat_map claim_line cert.claims) (front_more xs mapped (flat_map op_line cert.blocks) (front_more xs (head_lines code) (flat_map map_line code.maps) h)))

-- the text of a pair begins with what the lines before the number of publics begin with
from_publics : (xs : List ℕ) (code : Listing) (cert : Claimed) → Front xs (text_at Publics code cert) → Front xs (text code cert)
from_publics xs code cert h = from_head xs code cert (front_more xs (text_at Publics code cert) (number_line (codes "publics") code.publics) h)

-- the same for the lines before the number of secrets
from_secrets : (xs : List ℕ) (code : Listing) (cert : Claimed) → Front xs (text_at Secrets code cert) → Front xs (text code cert)
from_secrets xs code cert h = from_publics xs code cert (front_more xs (text_at Secrets code cert) (number_line (codes "secrets") code.secrets) h)

-- the same for the lines before the order
from_order : (xs : List ℕ) (code : Listing) (cert : Claimed) → Front xs (text_at Order code cert) → Front xs (text code cert)
from_order xs code cert h = from_secrets xs code cert (front_more xs (text_at Order code cert) (number_line (codes "order") code.order) h)

-- the text of a pair begins with what stands before any stage of it
pub completes : (stage : Stage) (code : Listing) (cert : Claimed) → Front (text_at stage code cert) (text code cert)
completes Version code cert = (text code cert, refl)
completes Field code cert =
    from_order (text_at Field code cert) code cert (front_more (text_at Field code cert) (text_at Field code cert) (field_line code.field) (front_same (text_at Field code cert)))
completes Order code cert = from_order (text_at Order code cert) code cert (front_same (text_at Order code cert))
completes Secrets code cert = from_secrets (text_at Secrets code cert) code cert (front_same (text_at Secrets code cert))
completes Publics code cert = from_publics (text_at Publics code cert) code cert (front_same (text_at Publics code cert))
completes Upper code cert = from_upper (upper_text code cert) code cert (front_same (upper_text code cert))
completes Lower code cert = front_more (lower_text code cert) (lower_text code cert) (line (codes "end")) (front_same (lower_text code cert))
completes Ended code cert = front_same (text code cert)

-- ---- texts differ

-- different pairs have different texts, and no text of a pair is a proper front of another's
pub differ : TextsDiffer
unfolding lines_read read_at
differ bytes rest code other_code cert other_cert whole front =
    let runs = text_runs code cert whole.0 in
    let others = text_runs other_code other_cert front.0 in
    let h = prefix_lines others.lines runs.lines rest others.clean runs.clean
    (sym runs.spelled ∙ sym whole.1 ∙ ap (λ (r : List ℕ). r ++ rest) (front.1 ∙ others.spelled)) in
    let left : lines_read (at Ended other_code other_cert) h.0 ≡ Some (at Ended code cert) =
    ap (λ (o : Option State). o >>= λ next. lines_read next h.0) (sym others.read) ∙ sym (lines_read-append start others.lines h.0) ∙ ap (lines_read start) (sym h.1) ∙ runs.read in
    by h.0 left h.2
  where
    by : (more : List (List ℕ)) → lines_read (at Ended other_code other_cert) more ≡ Some (at Ended code cert) → rest ≡ flat_map line more → (code ≡ other_code) × (cert ≡ other_cert) × (rest ≡ [])
    by [] left is =
        let same : at Ended other_code other_cert ≡ at Ended code cert = same_some (at Ended other_code other_cert) (at Ended code cert) left in
        (ap (λ (s : State). s.code) (sym same), ap (λ (s : State). s.cert) (sym same), is)
    by (l ∷ more) left is = absurd (cc)
