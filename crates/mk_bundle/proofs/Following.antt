-- What follows of the events that a reader answered.
use Rattle.std.proofs.Common.{◌≡◌, ℕ, zero, suc, ◌+◌, ◌/◌, ◌≤◌, Bool, true, false, List, [], ◌∷◌, ◌++◌, length, take, drop, Option, Some, None, refl, sym, ap, ap₂, subst, ◌∙◌, inl, inr, arith, append_assoc, length-append, if◌then◌else◌}
use Rattle.std.specs.Prelude.{codes, flat_map, map, option_map, IfSome, is_some}
use Rattle.std.specs.Option.{option_or}
use Rattle.std.proofs.lemmas.List.{append-nil, take-map, drop-map, take-append-drop, length-map}
use Rattle.std.proofs.lemmas.Grind.{flat_map-append}
use Rattle.mk_ssa.specs.declared.Operand.{Operand}
use Rattle.mk_ssa.specs.declared.Op.{Op}
use Rattle.mk_code.specs.Listing.{Listing, inputs_len}
use Rattle.mk_regs.specs.declared.instr.RegInstr.{RegInstr}
use Rattle.mk_regs.specs.declared.refusal.RegRefusal.{RegRefusal}
use Rattle.mk_regs.specs.Form.{RegListing, target, operation, entries_len}
use Rattle.mk_regs.specs.Renaming.{position_in, held_behind, held_at_end, stepped, renamed_instrs, renamed, instr_refusal, outs_refusal, first_refusal, refusal_of}
use Rattle.mk_regs.specs.Renamer.{Renaming, behind}
use Rattle.mk_regs.proofs.Renames.{renamed-fits}
use Rattle.mk_rules.specs.Claimed.{Claimed}
use Rattle.mk_rules.specs.Pairs.{IsPair}
use Rattle.mk_lines.specs.Words.{line}
use Rattle.mk_lines.specs.CertLines.{op_line, claim_line}
use Rattle.mk_lines.specs.CodeLines.{map_line, instr_line, out_line, out_lines}
use Rattle.mk_lines.proofs.Steps.{same_some}
use Rattle.mk_lines.proofs.Variants.{op_line-words, op_words, instr_line-words, instr_words, into_line-words, into_words}
use Rattle.mk_bundle.specs.Text.{head_lines, claimed_text, upper_text, lower_text, text_with, outputs_with, register_line, register_front}
use Rattle.mk_bundle.specs.declared.draft.Stage.{Stage}
use Rattle.mk_bundle.specs.declared.draft.Stage.TheVariants.{Version, Field, Order, Secrets, Publics, Upper, Lower, Ended}
use Rattle.mk_bundle.specs.declared.event.Head.{Head}
use Rattle.mk_bundle.specs.declared.event.Event.{Event}
use Rattle.mk_bundle.specs.declared.event.Event.TheVariants as event
use Rattle.mk_bundle.specs.Events.{head_of, outs_of, outputs_of, upper_events, lower_events, events_of, has_begun, events_at}
use Rattle.mk_bundle.specs.RegisterReading.{RegisterState}
use Rattle.mk_bundle.specs.Versions.{Partial, Positions, Registers, stage_of, claimed_of, register_code, positions_of_code, events_so_far, has_begun_so_far}
use Rattle.mk_bundle.specs.Noting.{on_entry, at_end, refusal_in}
use Rattle.mk_bundle.specs.Standing.{event_text, over_registers, StandFrom, StandOverRegisters, StandFor}
use Rattle.mk_bundle.specs.Reads.{Reader, IsOfBoth, Read, listed, Follows}
use Rattle.mk_bundle.proofs.Sound.{text_at}
use Rattle.mk_bundle.proofs.RegisterSound.{GoodRegisters, register_text_at, upper_at, IsUnclaimed, IsBlankAt}
use Rattle.mk_bundle.proofs.Reaching.{GoodSoFar, text_so_far, reached}
use Rattle.mk_bundle.proofs.RegisterAgreeing.{outs_refusal-append, first_refusal-outs}

-- ---- the lines of events in version 1

-- things of one kind, each with an event and a line
lines_of : {A : Type 0} (make : A → Event) (spell : A → List ℕ) → ((x : A) → event_text (make x) ≡ spell x) → (xs : List A) → flat_map event_text (map make xs) ≡ flat_map spell xs
lines_of make spell one [] = refl
lines_of make spell one (x ∷ xs) = ap₂ (λ (l m : List ℕ). l ++ m) (one x) (lines_of make spell one xs)

-- outputs
lines_of_outs : (shares outputs : ℕ) (positions : List ℕ) → flat_map event_text (map event.Out (outs_of shares outputs positions)) ≡ out_lines shares outputs positions
unfolding outs_of out_lines
lines_of_outs shares zero positions = refl
lines_of_outs shares (suc outputs) positions = ap (λ (l : List ℕ). out_line (take shares positions) ++ l) (lines_of_outs shares outputs (drop shares positions))

-- one event more
lines_more : (events : List Event) (e : Event) → flat_map event_text (events ++ e ∷ []) ≡ flat_map event_text events ++ event_text e
lines_more events e = flat_map-append event_text events (e ∷ []) ∙ ap (λ (l : List ℕ). flat_map event_text events ++ l) (append-nil (event_text e))

-- the events before the code
upper_lines : (code : Listing) (cert : Claimed) → flat_map event_text (upper_events code cert) ≡ upper_text code cert
upper_lines code cert =
    let front : List ℕ = head_lines code ++ flat_map map_line code.maps in
    let blocks : List ℕ = flat_map op_line cert.blocks in
    let claims : List ℕ = flat_map claim_line cert.claims in
    let parts : flat_map event_text (map event.Block cert.blocks ++ map event.Claim cert.claims) ≡ blocks ++ claims =
    flat_map-append event_text (map event.Block cert.blocks) (map event.Claim cert.claims)
    ∙ ap₂ (λ (l m : List ℕ). l ++ m) (lines_of event.Block op_line (λ o. refl) cert.blocks) (lines_of event.Claim claim_line (λ v. refl) cert.claims) in
    ap (λ (l : List ℕ). front ++ l) parts ∙ sym (append_assoc front blocks claims)

-- the events before the last one
lower_lines : (code : Listing) (cert : Claimed) → flat_map event_text (lower_events code cert) ≡ lower_text code cert
lower_lines code cert =
    let upper : List Event = upper_events code cert in
    let instrs : List Event = map event.Instr code.instrs in
    let outs : List Event = map event.Out (outputs_of code) in
    let begun : flat_map event_text (upper ++ event.Code ∷ []) ≡ upper_text code cert ++ line (codes "code") = lines_more upper event.Code ∙ ap (λ (l : List ℕ). l ++ line (codes "code")) (upper_lines code cert) in
    let middle : flat_map event_text (upper ++ event.Code ∷ [] ++ instrs) ≡ upper_text code cert ++ line (codes "code") ++ flat_map instr_line code.instrs =
    flat_map-append event_text (upper ++ event.Code ∷ []) instrs ∙ ap₂ (λ (l m : List ℕ). l ++ m) begun (lines_of event.Instr instr_line (λ i. refl) code.instrs) in
    flat_map-append event_text (upper ++ event.Code ∷ [] ++ instrs) outs
    ∙ ap₂ (λ (l m : List ℕ). l ++ m) middle (lines_of_outs (code.order + 1) (length code.outs / (code.order + 1)) code.outs)

-- the lines of the events so far are all lines so far, where those of the maps ended
positions_stand : (stage : Stage) (code : Listing) (cert : Claimed) → has_begun stage (length cert.blocks) (length cert.claims) ≡ true → text_at stage code cert ≡ flat_map event_text (events_at stage code cert)
positions_stand Version code cert e = absurd cc
positions_stand Field code cert e = absurd cc
positions_stand Order code cert e = absurd cc
positions_stand Secrets code cert e = absurd cc
positions_stand Publics code cert e = absurd cc
positions_stand Upper code cert e = rw e (sym (upper_lines code cert))
positions_stand Lower code cert e = sym (lower_lines code cert)
positions_stand Ended code cert e = sym (lines_more (lower_events code cert) event.End ∙ ap (λ (l : List ℕ). l ++ line (codes "end")) (lower_lines code cert))

-- ---- the lines of events in version 2, before more events and their lines

-- blocks
blocks_stand : (s : Renaming) (ops : List Op) (more : List Event) (b : List ℕ) → StandFrom s more b → StandFrom s (map event.Block ops ++ more) (flat_map op_line ops ++ b)
blocks_stand s [] more b stand = stand
blocks_stand s (o ∷ os) more b stand = (flat_map op_line os ++ b, append_assoc (op_line o) (flat_map op_line os) b, blocks_stand s os more b stand)

-- claims
claims_stand : (s : Renaming) (values : List Operand) (more : List Event) (b : List ℕ) → StandFrom s more b → StandFrom s (map event.Claim values ++ more) (flat_map claim_line values ++ b)
claims_stand s [] more b stand = stand
claims_stand s (v ∷ vs) more b stand = (flat_map claim_line vs ++ b, append_assoc (claim_line v) (flat_map claim_line vs) b, claims_stand s vs more b stand)

-- where of two refusals neither comes, none comes
neither : (a b : Option RegRefusal) → option_or a b ≡ None → (a ≡ None) × (b ≡ None)
neither None b none = (refl, none)
neither (Some refusal) b none = absurd cc

-- the renaming behind instructions
abbrev behind_all : Renaming → List RegInstr → Renaming
behind_all s is = record { held = held_behind s.held (s.entries + s.accepted) is; entries = s.entries; accepted = s.accepted + length is }

-- behind no instruction it is the same
behind_none : (s : Renaming) → behind_all s [] ≡ s
unfolding held_behind
behind_none s = ap (λ (n : ℕ). record s { accepted = n }) (omega arith)

-- behind some it is that behind the others, from the first one on
behind_more : (s : Renaming) (i : RegInstr) (is : List RegInstr) → behind_all s (i ∷ is) ≡ behind_all (behind s i) is
unfolding held_behind
behind_more s i is =
    let next : List (Option ℕ) = stepped s.held (s.entries + s.accepted) i in
    let further : s.entries + s.accepted + 1 ≡ s.entries + (s.accepted + 1) = omega arith in
    let number : s.accepted + length (i ∷ is) ≡ s.accepted + 1 + length is = omega arith in
    ap₂ (λ (p n : ℕ). record { held = held_behind next p is; entries = s.entries; accepted = n }) further number

-- instructions
instrs_stand : (s : Renaming) (is : List RegInstr) (outs : List ℕ) (more : List Event) (b : List ℕ) → first_refusal s.entries s.accepted s.held is outs ≡ None → StandFrom (behind_all s is) more b
    → StandFrom s (map event.Instr (renamed_instrs s.held (s.entries + s.accepted) is) ++ more) (flat_map register_line is ++ b)
unfolding renamed_instrs first_refusal
instrs_stand s [] outs more b none stand = subst (λ (x : Renaming). StandFrom x more b) (behind_none s) stand
instrs_stand s (i ∷ is) outs more b none stand =
    let next : Renaming = behind s i in
    let both = neither (instr_refusal s.held s.accepted i) (first_refusal s.entries (s.accepted + 1) next.held is outs) none in
    let later = instrs_stand next is outs more b both.1 (subst (λ (x : Renaming). StandFrom x more b) (behind_more s i is) stand) in
    let further : s.entries + (s.accepted + 1) ≡ s.entries + s.accepted + 1 = omega arith in (
      i,
      flat_map register_line is ++ b,
      both.0,
      refl,
      append_assoc (register_line i) (flat_map register_line is) b,
      subst (λ (p : ℕ). StandFrom next (map event.Instr (renamed_instrs next.held p is) ++ more) (flat_map register_line is ++ b)) further later,
    )

-- outputs
outs_stand : (s : Renaming) (shares outputs : ℕ) (registers : List ℕ) (more : List Event) (b : List ℕ) → outs_refusal s.held s.accepted registers ≡ None → StandFrom s more b
    → StandFrom s (map event.Out (outs_of shares outputs (map (position_in s.held) registers)) ++ more) (out_lines shares outputs registers ++ b)
unfolding outs_of out_lines
outs_stand s shares zero registers more b none stand = stand
outs_stand s shares (suc outputs) registers more b none stand =
    let f : ℕ → ℕ = position_in s.held in
    let own : List ℕ = take shares registers in
    let left : List ℕ = drop shares registers in
    let both = neither (outs_refusal s.held s.accepted own) (outs_refusal s.held s.accepted left)
    (sym (outs_refusal-append s.held s.accepted own left) ∙ ap (outs_refusal s.held s.accepted) (take-append-drop shares registers) ∙ none) in
    let rest : List ℕ = out_lines shares outputs left ++ b in (
      own,
      rest,
      both.0,
      take-map f shares registers,
      append_assoc (out_line own) (out_lines shares outputs left) b,
      subst (λ (l : List ℕ). StandFrom s (map event.Out (outs_of shares outputs l) ++ more) rest) (sym (drop-map f shares registers)) (outs_stand s shares outputs left more b both.1 stand),
    )

-- ---- the events so far of register code stand for its lines

-- equal events, and equal lines
same_stand : (es fs : List Event) (a b : List ℕ) → es ≡ fs → a ≡ b → StandOverRegisters es a → StandOverRegisters fs b
same_stand es fs a b events lines stand = subst (StandOverRegisters fs) lines (subst (λ (l : List Event). StandOverRegisters l a) events stand)

-- the events before the code, and more
upper_stand : (r : RegListing) (cert : Claimed) (more : List Event) (b : List ℕ) → StandFrom (on_entry (entries_len r) r.registers) more b
    → StandOverRegisters (upper_events (renamed r) cert ++ more) (claimed_text (register_front r) cert ++ b)
upper_stand r cert more b stand =
    let s : Renaming = on_entry (entries_len r) r.registers in
    let claims : List Event = map event.Claim cert.claims in
    let block_lines : List ℕ = flat_map op_line cert.blocks in
    let claim_lines : List ℕ = flat_map claim_line cert.claims in record {
      head = head_of (renamed r);
      registers = r.registers;
      others = map event.Block cert.blocks ++ (claims ++ more);
      rest = block_lines ++ (claim_lines ++ b);
      first = ap (λ (l : List Event). event.Head (head_of (renamed r)) ∷ l) (append_assoc (map event.Block cert.blocks) claims more);
      front = append_assoc (register_front r ++ block_lines) claim_lines b ∙ append_assoc (register_front r) block_lines (claim_lines ++ b);
      stand = blocks_stand s cert.blocks (claims ++ more) (claim_lines ++ b) (claims_stand s cert.claims more b stand);
    }

-- the line `code`, instructions and outputs, and more
code_stand : (r : RegListing) (more : List Event) (b : List ℕ) → refusal_of r ≡ None → StandFrom (at_end r) more b
    → StandFrom (on_entry (entries_len r) r.registers) (event.Code ∷ (map event.Instr (renamed r).instrs ++ (map event.Out (outputs_of (renamed r)) ++ more)))
    (line (codes "code") ++ (flat_map register_line r.instrs ++ (outputs_with r.order r.outs ++ b)))
code_stand r more b none stand = (flat_map register_line r.instrs ++ left, refl, instrs)
  where
    s : Renaming
    s = on_entry (entries_len r) r.registers

    f : ℕ → ℕ
    f = position_in (held_at_end r)

    left : List ℕ
    left = outputs_with r.order r.outs ++ b

    later : List Event
    later = map event.Out (outputs_of (renamed r)) ++ more

    first : entries_len r + 0 ≡ entries_len r
    first = omega arith

    ends : behind_all s r.instrs ≡ at_end r
    ends = ap₂ (λ (p n : ℕ). record { held = held_behind s.held p r.instrs; entries = entries_len r; accepted = n }) first (omega arith)

    held : outs_refusal (held_at_end r) (length r.instrs) r.outs ≡ None
    held =
        let both = neither (first_refusal (entries_len r) 0 s.held r.instrs []) (outs_refusal (behind_all s r.instrs).held (behind_all s r.instrs).accepted r.outs)
        (sym (first_refusal-outs (entries_len r) 0 s.held r.instrs r.outs) ∙ none) in
        subst (λ (x : Renaming). outs_refusal x.held x.accepted r.outs ≡ None) ends both.1

    outs : StandFrom (at_end r) later left
    outs = subst (λ (n : ℕ). StandFrom (at_end r) (map event.Out (outs_of (r.order + 1) (n / (r.order + 1)) (map f r.outs)) ++ more) left) (sym (length-map r.outs f))
        (outs_stand (at_end r) (r.order + 1) (length r.outs / (r.order + 1)) r.outs more b held stand)

    instrs : StandFrom s (map event.Instr (renamed r).instrs ++ later) (flat_map register_line r.instrs ++ left)
    instrs = subst (λ (p : ℕ). StandFrom s (map event.Instr (renamed_instrs s.held p r.instrs) ++ later) (flat_map register_line r.instrs ++ left)) first
        (instrs_stand s r.instrs r.outs later left none (subst (λ (x : Renaming). StandFrom x later left) (sym ends) outs))

-- lists behind one another
in_line : {A : Type 0} (u c i o e : List A) → u ++ (c ++ (i ++ (o ++ e))) ≡ u ++ c ++ i ++ o ++ e
in_line u c i o e = simp (append_assoc) refl

-- the same with nothing at the end
in_line_four : {A : Type 0} (u c i o : List A) → u ++ (c ++ (i ++ (o ++ []))) ≡ u ++ c ++ i ++ o
in_line_four u c i o = in_line u c i o [] ∙ append-nil (u ++ c ++ i ++ o)

-- the events so far
registers_stand : (st : RegisterState) → GoodRegisters st → refusal_of (register_code st) ≡ None → has_begun_so_far (Registers st) ≡ true
    → StandOverRegisters (events_at st.shared.stage (renamed (register_code st)) st.shared.cert) (register_text_at st.shared.stage st.registers (register_code st) st.shared.cert)
registers_stand st good none e = by st.shared.stage e good.blank
  where
    r : RegListing
    r = register_code st

    cert : Claimed
    cert = st.shared.cert

    front : List ℕ
    front = register_front r

    upper : List Event
    upper = upper_events (renamed r) cert

    instrs : List Event
    instrs = map event.Instr (renamed r).instrs

    outs : List Event
    outs = map event.Out (outputs_of (renamed r))

    instr_lines : List ℕ
    instr_lines = flat_map register_line r.instrs

    output_lines : List ℕ
    output_lines = outputs_with r.order r.outs

    nothing : (number : Option ℕ) → has_begun Upper (length cert.blocks) (length cert.claims) ≡ true → IsUnclaimed number cert → upper_at number r cert ≡ claimed_text front cert
    nothing None e none = absurd (cc (e, ap length none.0, ap length none.1))
    nothing (Some n) e none = refl

    begun : StandOverRegisters upper (claimed_text front cert)
    begun = same_stand (upper ++ []) upper (claimed_text front cert ++ []) (claimed_text front cert) (append-nil upper) (append-nil (claimed_text front cert)) (upper_stand r cert [] [] refl)

    by : (stage : Stage) → has_begun stage (length cert.blocks) (length cert.claims) ≡ true → IsBlankAt stage st.registers r cert
        → StandOverRegisters (events_at stage (renamed r) cert) (register_text_at stage st.registers r cert)
    by Version e blank = absurd cc
    by Field e blank = absurd cc
    by Order e blank = absurd cc
    by Secrets e blank = absurd cc
    by Publics e blank = absurd cc
    by Upper e blank = rw (e, nothing st.registers e blank.unclaimed) begun
    by Lower e blank = same_stand _ (lower_events (renamed r) cert) _ (claimed_text front cert ++ line (codes "code") ++ instr_lines ++ output_lines)
        (in_line_four upper (event.Code ∷ []) instrs outs) (in_line_four (claimed_text front cert) (line (codes "code")) instr_lines output_lines)
        (upper_stand r cert (event.Code ∷ (instrs ++ (outs ++ []))) (line (codes "code") ++ (instr_lines ++ (output_lines ++ []))) (code_stand r [] [] none refl))
    by Ended e blank = same_stand _ (events_of (renamed r) cert) _ (text_with front cert instr_lines output_lines)
        (in_line upper (event.Code ∷ []) instrs outs (event.End ∷ [])) (in_line (claimed_text front cert) (line (codes "code")) instr_lines output_lines (line (codes "end")))
        (upper_stand r cert (event.Code ∷ (instrs ++ (outs ++ event.End ∷ []))) (line (codes "code") ++ (instr_lines ++ (output_lines ++ line (codes "end"))))
        (code_stand r (event.End ∷ []) (line (codes "end")) none ([], sym (append-nil (line (codes "end"))), refl)))

-- where there is an event, the lines of the maps ended
has_told : (stage : Stage) (code : Listing) (cert : Claimed) (events rest : List Event) (e : Event) → (events ++ e ∷ []) ++ rest ≡ events_at stage code cert → has_begun stage (length cert.blocks) (length cert.claims) ≡ true
has_told stage code cert events rest e is = by stage is
  where
    nothing : (events rest : List Event) (e : Event) → (events ++ e ∷ []) ++ rest ≡ [] → ⊥
    nothing [] rest e is = absurd cc
    nothing (x ∷ events) rest e is = absurd cc

    upper : (b : Bool) (all : List Event) → (events ++ e ∷ []) ++ rest ≡ (if b then all else []) → b ≡ true
    upper true all is = refl
    upper false all is = absurd (nothing events rest e is)

    by : (stage : Stage) → (events ++ e ∷ []) ++ rest ≡ events_at stage code cert → has_begun stage (length cert.blocks) (length cert.claims) ≡ true
    by Version is = absurd (nothing events rest e is)
    by Field is = absurd (nothing events rest e is)
    by Order is = absurd (nothing events rest e is)
    by Secrets is = absurd (nothing events rest e is)
    by Publics is = absurd (nothing events rest e is)
    by Upper is = upper (has_begun Upper (length cert.blocks) (length cert.claims)) (upper_events code cert) is
    by Lower is = refl
    by Ended is = refl

-- the events of a pair begin with those so far
goes_on : (stage : Stage) (code : Listing) (cert : Claimed) → has_begun stage (length cert.blocks) (length cert.claims) ≡ true → (rest : List Event) × (events_of code cert ≡ events_at stage code cert ++ rest)
goes_on Version code cert e = absurd cc
goes_on Field code cert e = absurd cc
goes_on Order code cert e = absurd cc
goes_on Secrets code cert e = absurd cc
goes_on Publics code cert e = absurd cc
goes_on Upper code cert e =
    let instrs : List Event = map event.Instr code.instrs in
    let outs : List Event = map event.Out (outputs_of code) in
    (event.Code ∷ [] ++ instrs ++ outs ++ event.End ∷ [], rw e (four (upper_events code cert) (event.Code ∷ []) instrs outs (event.End ∷ [])))
  where
    four : (u a b c d : List Event) → u ++ a ++ b ++ c ++ d ≡ u ++ (a ++ b ++ c ++ d)
    four u a b c d = simp (append_assoc) refl
goes_on Lower code cert e = (event.End ∷ [], refl)
goes_on Ended code cert e = ([], sym (append-nil (events_of code cert)))

-- the code of what was read, and its certificate, are a pair
pub code_pair : (p : Partial) (code : Listing) → GoodSoFar p → positions_of_code p ≡ Some code → IsPair code (claimed_of p)
code_pair (Positions st) code good e = subst (λ (x : Listing). IsPair x st.cert) (same_some st.code code e) good.0.pair
code_pair (Registers st) code good e = by (refusal_of (register_code st)) refl e
  where
    by : (o : Option RegRefusal) → refusal_of (register_code st) ≡ o → (if is_some o then None else Some (renamed (register_code st))) ≡ Some code → IsPair code st.shared.cert
    by (Some refusal) is e = absurd cc
    by None is e =
        let pair = good.0.pair in
        subst (λ (x : Listing). IsPair x st.shared.cert) (same_some (renamed (register_code st)) code e) (record {
          listing = renamed-fits (register_code st) pair.listing is;
          maps = pair.maps;
          blocks = pair.blocks;
          claims = pair.claims;
          few_blocks = pair.few_blocks;
          few_claims = pair.few_claims;
        })

-- the events of what was read are those of its code
told_code : (p : Partial) (all : List Event) → events_so_far p ≡ Some all → (code : Listing) × (positions_of_code p ≡ Some code) × (events_at (stage_of p) code (claimed_of p) ≡ all)
told_code p all e = by (positions_of_code p) refl e
  where
    by : (o : Option Listing) → positions_of_code p ≡ o → option_map (λ code. events_at (stage_of p) code (claimed_of p)) o ≡ Some all
        → (code : Listing) × (positions_of_code p ≡ Some code) × (events_at (stage_of p) code (claimed_of p) ≡ all)
    by None is e = absurd cc
    by (Some code) is e = (code, is, same_some (events_at (stage_of p) code (claimed_of p)) all e)

-- the events of what was read stand for what was read, where the lines of the maps ended
stand_so_far : (p : Partial) (all : List Event) → GoodSoFar p → has_begun_so_far p ≡ true → events_so_far p ≡ Some all → StandFor all (text_so_far p)
stand_so_far (Positions st) all good begun e =
    inl (positions_stand st.stage st.code st.cert begun ∙ ap (flat_map event_text) (same_some (events_at st.stage st.code st.cert) all e))
stand_so_far (Registers st) all good begun e = by (refusal_of (register_code st)) refl e
  where
    told : List Event
    told = events_at st.shared.stage (renamed (register_code st)) st.shared.cert

    by : (o : Option RegRefusal) → refusal_of (register_code st) ≡ o → option_map (λ code. events_at st.shared.stage code st.shared.cert) (if is_some o then None else Some (renamed (register_code st))) ≡ Some all
        → StandFor all (text_so_far (Registers st))
    by (Some refusal) is e = absurd cc
    by None is e = inr (subst (λ (es : List Event). StandOverRegisters es (text_so_far (Registers st))) (same_some told all e) (registers_stand st good.0 is begun))

-- ---- the lines of the event that waits stand last

-- the event that waits, if any, has the same line in both versions
abbrev IsPlain : Option Event → Type 0
IsPlain waiting = IfSome waiting IsOfBoth

-- bytes before some that are cut in two
longer : (front rest own last : List ℕ) → rest ≡ own ++ last → front ++ rest ≡ (front ++ own) ++ last
longer front rest own last is = ap (λ (l : List ℕ). front ++ l) is ∙ sym (append_assoc front own last)

-- behind the head of register code
split_from : (s : Renaming) (es : List Event) (waiting : Option Event) (bytes : List ℕ) → IsPlain waiting → StandFrom s (es ++ listed waiting) bytes
    → (own : List ℕ) × (bytes ≡ own ++ flat_map event_text (listed waiting)) × StandFrom s es own
split_from s [] waiting bytes plain stand = ([], by waiting plain stand, refl)
  where
    by : (waiting : Option Event) → IsPlain waiting → StandFrom s (listed waiting) bytes → bytes ≡ flat_map event_text (listed waiting)
    by None plain stand = stand
    by (Some (event.Head head)) plain stand = absurd plain
    by (Some (event.Block op)) plain stand = stand.1 ∙ ap (λ (l : List ℕ). op_line op ++ l) stand.2
    by (Some (event.Claim value)) plain stand = stand.1 ∙ ap (λ (l : List ℕ). claim_line value ++ l) stand.2
    by (Some event.Code) plain stand = stand.1 ∙ ap (λ (l : List ℕ). line (codes "code") ++ l) stand.2
    by (Some (event.Instr instr)) plain stand = absurd plain
    by (Some (event.Out positions)) plain stand = absurd plain
    by (Some event.End) plain stand = absurd plain
split_from s (event.Head head ∷ es) waiting bytes plain stand = absurd stand
split_from s (event.Block op ∷ es) waiting bytes plain stand =
    let h = split_from s es waiting stand.0 plain stand.2 in
    (op_line op ++ h.0, stand.1 ∙ longer (op_line op) stand.0 h.0 (flat_map event_text (listed waiting)) h.1, (h.0, refl, h.2))
split_from s (event.Claim value ∷ es) waiting bytes plain stand =
    let h = split_from s es waiting stand.0 plain stand.2 in
    (claim_line value ++ h.0, stand.1 ∙ longer (claim_line value) stand.0 h.0 (flat_map event_text (listed waiting)) h.1, (h.0, refl, h.2))
split_from s (event.Code ∷ es) waiting bytes plain stand =
    let h = split_from s es waiting stand.0 plain stand.2 in
    (line (codes "code") ++ h.0, stand.1 ∙ longer (line (codes "code")) stand.0 h.0 (flat_map event_text (listed waiting)) h.1, (h.0, refl, h.2))
split_from s (event.Instr instr ∷ es) waiting bytes plain stand =
    let h = split_from (behind s stand.0) es waiting stand.1 plain stand.5 in
    (register_line stand.0 ++ h.0, stand.4 ∙ longer (register_line stand.0) stand.1 h.0 (flat_map event_text (listed waiting)) h.1, (stand.0, h.0, stand.2, stand.3, refl, h.2))
split_from s (event.Out positions ∷ es) waiting bytes plain stand =
    let h = split_from s es waiting stand.1 plain stand.5 in
    (out_line stand.0 ++ h.0, stand.4 ∙ longer (out_line stand.0) stand.1 h.0 (flat_map event_text (listed waiting)) h.1, (stand.0, h.0, stand.2, stand.3, refl, h.2))
split_from s (event.End ∷ es) waiting bytes plain stand =
    let h = split_from s es waiting stand.0 plain stand.2 in
    (line (codes "end") ++ h.0, stand.1 ∙ longer (line (codes "end")) stand.0 h.0 (flat_map event_text (listed waiting)) h.1, (h.0, refl, h.2))

-- the events behind the head, where it isn't the head that waits
behind_head : (es others : List Event) (head : Head) (waiting : Option Event) → IsPlain waiting → es ++ listed waiting ≡ event.Head head ∷ others
    → (told : List Event) × (es ≡ event.Head head ∷ told) × (others ≡ told ++ listed waiting)
behind_head [] others head None plain is = absurd cc
behind_head [] others head (Some e) plain is = let same : e ≡ event.Head head = cc in absurd (subst IsOfBoth same plain)
behind_head (e ∷ es) others head waiting plain is =
    let same : e ≡ event.Head head = cc in
    let left : es ++ listed waiting ≡ others = cc in
    (es, ap (λ (x : Event). x ∷ es) same, sym left)

-- in either version
stand_split : (es : List Event) (waiting : Option Event) (bytes : List ℕ) → IsPlain waiting → StandFor (es ++ listed waiting) bytes
    → (own : List ℕ) × (bytes ≡ own ++ flat_map event_text (listed waiting)) × StandFor es own
stand_split es waiting bytes plain (inl is) = (flat_map event_text es, is ∙ flat_map-append event_text es (listed waiting), inl refl)
stand_split es waiting bytes plain (inr over) =
    let at = behind_head es over.others over.head waiting plain over.first in
    let entry : Renaming = on_entry (inputs_len over.head.order over.head.secrets over.head.publics) over.registers in
    let front : List ℕ = register_front (over_registers over.head over.registers) in
    let h = split_from entry at.0 waiting over.rest plain (subst (λ (l : List Event). StandFrom entry l over.rest) at.2 over.stand) in (
      front ++ h.0,
      over.front ∙ longer front over.rest h.0 (flat_map event_text (listed waiting)) h.1,
      inr (record { head = over.head; registers = over.registers; others = at.0; rest = h.0; first = at.1; front = refl; stand = h.2 }),
    )

-- ---- each event stands for some bytes

-- a line isn't empty
some_line : (words : List ℕ) → 1 ≤ length (line words)
some_line words = omega (arith, length-append words (10 ∷ []))

-- the line of an instruction over registers
some_into : (i : RegInstr) → 1 ≤ length (register_line i)
some_into i = omega (arith, ap length (into_line-words (target i) (operation i)), some_line (into_words (target i) (operation i)))

-- the lines of an event in version 1
event_some : (e : Event) → 1 ≤ length (event_text e)
event_some (event.Head head) = omega arith
event_some (event.Block op) = omega (arith, ap length (op_line-words op), some_line (codes "block " ++ op_words op))
event_some (event.Claim value) = omega arith
event_some event.Code = omega arith
event_some (event.Instr i) = omega (arith, ap length (instr_line-words i), some_line (instr_words i))
event_some (event.Out positions) = omega arith
event_some event.End = omega arith

-- there are at most as many events as bytes in their lines of version 1
lines_few : (events : List Event) → length events ≤ length (flat_map event_text events)
lines_few [] = omega arith
lines_few (e ∷ es) = omega (arith, length-append (event_text e) (flat_map event_text es), event_some e, lines_few es)

-- and behind the head of register code
from_few : (s : Renaming) (events : List Event) (bytes : List ℕ) → StandFrom s events bytes → length events ≤ length bytes
from_few s [] bytes stand = omega arith
from_few s (event.Head head ∷ es) bytes stand = absurd stand
from_few s (event.Block op ∷ es) bytes stand = omega (arith, ap length stand.1, length-append (op_line op) stand.0, event_some (event.Block op), from_few s es stand.0 stand.2)
from_few s (event.Claim value ∷ es) bytes stand = omega (arith, ap length stand.1, length-append (claim_line value) stand.0, event_some (event.Claim value), from_few s es stand.0 stand.2)
from_few s (event.Code ∷ es) bytes stand = omega (arith, ap length stand.1, length-append (line (codes "code")) stand.0, event_some event.Code, from_few s es stand.0 stand.2)
from_few s (event.Instr instr ∷ es) bytes stand = omega (arith, ap length stand.4, length-append (register_line stand.0) stand.1, some_into stand.0, from_few (behind s stand.0) es stand.1 stand.5)
from_few s (event.Out positions ∷ es) bytes stand = omega (arith, ap length stand.4, length-append (out_line stand.0) stand.1, event_some (event.Out stand.0), from_few s es stand.1 stand.5)
from_few s (event.End ∷ es) bytes stand = omega (arith, ap length stand.1, length-append (line (codes "end")) stand.0, event_some event.End, from_few s es stand.0 stand.2)

-- and in their lines of either version
events_few : (events : List Event) (bytes : List ℕ) → StandFor events bytes → length events ≤ length bytes
events_few events bytes (inl is) = omega (arith, ap length is, lines_few events)
events_few events bytes (inr over) =
    let front : List ℕ = register_front (over_registers over.head over.registers) in
    let some : 1 ≤ length front = omega arith in
    omega (
      arith,
      ap length over.first,
      ap length over.front,
      length-append front over.rest,
      some,
      from_few (on_entry (inputs_len over.head.order over.head.secrets over.head.publics) over.registers) over.others over.rest over.stand,
    )

-- what follows where a reader answered an event, and what was read can be renamed
pub follows : (reader : Reader) (taken : List ℕ) (events : List Event) (e : Event) → (read : Read reader taken (events ++ e ∷ [])) → (all : List Event) → events_so_far read.state ≡ Some all
    → Follows reader.limit taken (events ++ e ∷ [])
follows reader taken events e read all some =
    let p = read.state in
    let answered : List Event = events ++ e ∷ [] in
    let waiting : List Event = listed reader.waiting in
    let told : answered ++ waiting ≡ all = subst (λ (o : Option (List Event)). IfSome o (λ all. answered ++ waiting ≡ all)) some read.told in
    let code = told_code p all some in
    let same : answered ++ waiting ≡ events_at (stage_of p) code.0 (claimed_of p) = told ∙ sym code.2 in
    let started : has_begun_so_far p ≡ true = has_told (stage_of p) code.0 (claimed_of p) events waiting e same in
    let h = reached read.lines p read.read in
    let on = goes_on (stage_of p) code.0 (claimed_of p) started in
    let stand : StandFor (answered ++ waiting) (flat_map line read.lines) =
    subst (StandFor (answered ++ waiting)) h.1 (subst (λ (es : List Event). StandFor es (text_so_far p)) (sym told) (stand_so_far p all h.0 started some)) in
    let own : List ℕ = flat_map event_text waiting in
    let parts = stand_split answered reader.waiting (flat_map line read.lines) (plain reader.waiting read.waits) stand in
    let split : taken ≡ parts.0 ++ (own ++ reader.pending) = read.parts ∙ ap (λ (l : List ℕ). l ++ reader.pending) parts.1 ∙ append_assoc parts.0 own reader.pending in record {
      first = (code.0, claimed_of p, waiting ++ on.0, code_pair p code.0 h.0 code.1, on.1 ∙ ap (λ (l : List Event). l ++ on.0) (sym same) ∙ append_assoc answered waiting on.0);
      few = omega (arith, events_few answered parts.0 parts.2, ap length split, length-append parts.0 (own ++ reader.pending), read.count, read.within);
      front = parts.0;
      behind = own ++ reader.pending;
      parts = split;
      stands = parts.2;
      short = read.short;
    }
  where
    plain : (waiting : Option Event) → IfSome waiting (λ e. IsOfBoth e × (refusal_in reader.noted.form ≡ None)) → IsPlain waiting
    plain None waits = tt
    plain (Some e) waits = waits.0
