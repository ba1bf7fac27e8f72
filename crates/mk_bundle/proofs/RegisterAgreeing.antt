-- Reading a line of version 2 by counts, and by what the registers hold, agrees with reading it up to a pair.
use Rattle.std.proofs.Common.{◌≡◌, ℕ, ◌+◌, ◌*◌, ◌^◌, Bool, true, false, List, [], ◌∷◌, ◌++◌, length, Option, Some, None, IfSome, is_some, option_map, nat_lt, refl, sym, ap, ap₂, subst, ◌∙◌, arith, length-append, if◌then◌else◌}
use Rattle.std.specs.Prelude.{codes, bytes_eq, ◌&&◌, map}
use Rattle.std.specs.Option.{option_or}
use Rattle.std.proofs.lemmas.Bool.{and_parts, false≢true}
use Rattle.std.proofs.lemmas.List.{length-map, map-append}
use Rattle.mk_base.specs.declared.TheConstants.{TOP_ORDER}
use Rattle.mk_code.specs.declared.instr.Instr.{Instr}
use Rattle.mk_code.specs.declared.TheConstants.{MOST_INPUTS, MOST_INSTRS}
use Rattle.mk_code.specs.Listing.{Listing, inputs_len}
use Rattle.mk_regs.specs.declared.TheConstants.{MOST_REGISTERS}
use Rattle.mk_regs.specs.declared.instr.RegInstr.{RegInstr}
use Rattle.mk_regs.specs.declared.refusal.RegRefusal.{RegRefusal}
use Rattle.mk_regs.specs.Form.{RegListing, into_register, entries_len}
use Rattle.mk_regs.specs.Renaming.{position_in, held_on_entry, stepped, held_behind, held_at_end, renamed_instr, renamed_instrs, renamed, instr_refusal, out_refusal, outs_refusal, first_refusal, refusal_of}
use Rattle.mk_regs.specs.Renamer.{Renaming}
use Rattle.mk_rules.specs.Claimed.{Claimed}
use Rattle.mk_lines.specs.Parsing.{◌>>=◌, after, into_of, positions_of, behind}
use Rattle.mk_lines.proofs.Spelled.{positions_found}
use Rattle.mk_bundle.specs.declared.draft.Stage.{Stage}
use Rattle.mk_bundle.specs.declared.draft.Stage.TheVariants.{Version, Field, Order, Secrets, Publics, Upper, Lower, Ended}
use Rattle.mk_bundle.specs.declared.notes.Form.{Form}
use Rattle.mk_bundle.specs.declared.notes.Form.TheVariants as form
use Rattle.mk_bundle.specs.declared.event.Event.{Event}
use Rattle.mk_bundle.specs.declared.event.Event.TheVariants as event
use Rattle.mk_bundle.specs.Events.{lower_events, events_of, events_at}
use Rattle.mk_bundle.specs.Reading.{State, headed, field_read, order_read, secrets_read, publics_read, map_read, block_read, claim_read, code_read}
use Rattle.mk_bundle.specs.RegisterReading.{RegisterState, share, registers_read, register_upper_read, has_parts, may_register_instr, register_instr_read, register_out_read, register_lower_read, register_read_at, register_line_read}
use Rattle.mk_bundle.specs.Versions.{Partial, Registers, register_code, events_so_far, untold}
use Rattle.mk_bundle.specs.Counting.{Seen, Counted, field_counted, order_counted, secrets_counted, publics_counted, map_counted, cert_counted, counted_at}
use Rattle.mk_bundle.specs.Noting.{Noted, noted, noted_by, line_noted, register_summary, Noting, keep, on_entry, at_end, form_unless, form_of, registers_noted, front_noted, upper_noted, form_behind, instr_event, form_behind_out, out_event, register_counts, register_instr_noted, register_out_noted, register_lower_noted, register_noted}
use Rattle.mk_bundle.proofs.Sound.{at}
use Rattle.mk_bundle.proofs.RegisterSound.{GoodRegisters}
use Rattle.mk_bundle.proofs.Agreeing.{Outcome, Agrees, Left, AgreesBy, counts, pushed, empty_of, block_begun, block_events, claim_begun, claim_events, code_events, instr_events, out_events, field_agrees, order_agrees, secrets_agrees, publics_agrees, map_agrees, cert_read, cert_agrees}

-- ---- register code with one thing more

-- nothing behind a refusal
or_none : (a : Option RegRefusal) → option_or a None ≡ a
or_none None = refl
or_none (Some e) = refl

-- the first of three refusals
or_assoc : (a b c : Option RegRefusal) → option_or (option_or a b) c ≡ option_or a (option_or b c)
or_assoc None b c = refl
or_assoc (Some e) b c = refl

-- the first refusal among outs and then more of them
pub outs_refusal-append : (held : List (Option ℕ)) (k : ℕ) (xs ys : List ℕ) → outs_refusal held k (xs ++ ys) ≡ option_or (outs_refusal held k xs) (outs_refusal held k ys)
unfolding outs_refusal
outs_refusal-append held k [] ys = refl
outs_refusal-append held k (x ∷ xs) ys =
    ap (option_or (out_refusal held k x)) (outs_refusal-append held k xs ys) ∙ sym (or_assoc (out_refusal held k x) (outs_refusal held k xs) (outs_refusal held k ys))

-- the first refusal among instructions and then outs
pub first_refusal-outs : (entries k : ℕ) (held : List (Option ℕ)) (is : List RegInstr) (outs : List ℕ)
    → first_refusal entries k held is outs ≡ option_or (first_refusal entries k held is []) (outs_refusal (held_behind held (entries + k) is) (k + length is) outs)
unfolding first_refusal outs_refusal held_behind
first_refusal-outs entries k held [] outs = ap (λ (n : ℕ). outs_refusal held n outs) (omega arith)
first_refusal-outs entries k held (i ∷ is) outs =
    let next = stepped held (entries + k) i in
    let further : entries + (k + 1) ≡ entries + k + 1 = omega arith in
    let number : k + 1 + length is ≡ k + length (i ∷ is) = omega arith in
    ap (option_or (instr_refusal held k i))
    (first_refusal-outs entries (k + 1) next is outs
    ∙ ap₂ (λ (p n : ℕ). option_or (first_refusal entries (k + 1) next is []) (outs_refusal (held_behind next p is) n outs)) further number)
    ∙ sym (or_assoc (instr_refusal held k i) (first_refusal entries (k + 1) next is []) (outs_refusal (held_behind next (entries + k + 1) is) (k + length (i ∷ is)) outs))

-- the first refusal among instructions and then one more
pub first_refusal-push : (entries k : ℕ) (held : List (Option ℕ)) (is : List RegInstr) (i : RegInstr)
    → first_refusal entries k held (is ++ i ∷ []) [] ≡ option_or (first_refusal entries k held is []) (instr_refusal (held_behind held (entries + k) is) (k + length is) i)
unfolding first_refusal outs_refusal held_behind
first_refusal-push entries k held [] i = or_none (instr_refusal held k i) ∙ ap (λ (n : ℕ). instr_refusal held n i) (omega arith)
first_refusal-push entries k held (j ∷ is) i =
    let next = stepped held (entries + k) j in
    let further : entries + (k + 1) ≡ entries + k + 1 = omega arith in
    let number : k + 1 + length is ≡ k + length (j ∷ is) = omega arith in
    ap (option_or (instr_refusal held k j))
    (first_refusal-push entries (k + 1) next is i
    ∙ ap₂ (λ (p n : ℕ). option_or (first_refusal entries (k + 1) next is []) (instr_refusal (held_behind next p is) n i)) further number)
    ∙ sym (or_assoc (instr_refusal held k j) (first_refusal entries (k + 1) next is []) (instr_refusal (held_behind next (entries + k + 1) is) (k + length (j ∷ is)) i))

-- the same from the first instruction on
pub code_refusal-push : (entries : ℕ) (held : List (Option ℕ)) (is : List RegInstr) (i : RegInstr)
    → first_refusal entries 0 held (is ++ i ∷ []) [] ≡ option_or (first_refusal entries 0 held is []) (instr_refusal (held_behind held entries is) (length is) i)
code_refusal-push entries held is i =
    let first : entries + 0 ≡ entries = omega arith in
    let number : 0 + length is ≡ length is = omega arith in
    first_refusal-push entries 0 held is i ∙ ap₂ (λ (p n : ℕ). option_or (first_refusal entries 0 held is []) (instr_refusal (held_behind held p is) n i)) first number

-- the first refusal of code with more outs
pub code_refusal-outs : (entries : ℕ) (held : List (Option ℕ)) (is : List RegInstr) (outs more : List ℕ)
    → first_refusal entries 0 held is (outs ++ more) ≡ option_or (first_refusal entries 0 held is outs) (outs_refusal (held_behind held entries is) (length is) more)
code_refusal-outs entries held is outs more =
    let alone : Option RegRefusal = first_refusal entries 0 held is [] in
    let behind : List ℕ → Option RegRefusal = outs_refusal (held_behind held entries is) (length is) in
    ends (outs ++ more)
    ∙ ap (option_or alone) (outs_refusal-append (held_behind held entries is) (length is) outs more)
    ∙ sym (or_assoc alone (behind outs) (behind more))
    ∙ ap (λ (a : Option RegRefusal). option_or a (behind more)) (sym (ends outs))
  where
    ends : (rs : List ℕ) → first_refusal entries 0 held is rs ≡ option_or (first_refusal entries 0 held is []) (outs_refusal (held_behind held entries is) (length is) rs)
    ends rs =
        let first : entries + 0 ≡ entries = omega arith in
        let number : 0 + length is ≡ length is = omega arith in
        first_refusal-outs entries 0 held is rs ∙ ap₂ (λ (p n : ℕ). option_or (first_refusal entries 0 held is []) (outs_refusal (held_behind held p is) n rs)) first number

-- what is held behind one instruction more
pub held_behind-push : (held : List (Option ℕ)) (position : ℕ) (is : List RegInstr) (i : RegInstr)
    → held_behind held position (is ++ i ∷ []) ≡ stepped (held_behind held position is) (position + length is) i
unfolding held_behind
held_behind-push held position [] i = ap (λ (n : ℕ). stepped held n i) (omega arith)
held_behind-push held position (j ∷ is) i =
    let next = stepped held position j in
    let number : position + 1 + length is ≡ position + length (j ∷ is) = omega arith in
    held_behind-push next (position + 1) is i ∙ ap (λ (n : ℕ). stepped (held_behind next (position + 1) is) n i) number

-- one instruction more renamed
pub renamed_instrs-push : (held : List (Option ℕ)) (position : ℕ) (is : List RegInstr) (i : RegInstr)
    → renamed_instrs held position (is ++ i ∷ []) ≡ renamed_instrs held position is ++ renamed_instr (held_behind held position is) i ∷ []
unfolding renamed_instrs held_behind
renamed_instrs-push held position [] i = refl
renamed_instrs-push held position (j ∷ is) i = ap (λ (cs : List Instr). renamed_instr held j ∷ cs) (renamed_instrs-push (stepped held position j) (position + 1) is i)

-- ---- states

-- a state of these parts
abbrev reg : Stage → Listing → Claimed → Option ℕ → List RegInstr → List ℕ → RegisterState
reg stage code cert registers instrs outs = record { shared = at stage code cert; registers = registers; instrs = instrs; outs = outs }

-- what a line that both versions have left, its event and the counts, where the form is this one
abbrev SharedLeft : RegisterState → Form → Left
SharedLeft st f next told seen = Outcome (Registers st) (Registers (record st { shared = next })) told (record { seen = seen; form = f })

-- what the counts give, for the notes
shared_keep : (st : RegisterState) (f : Form) (c : Counted) (o : Option State) → AgreesBy (SharedLeft st f) c o → Agrees (Registers st) (keep f c) (share st o >>= λ next. Some (Registers next))
shared_keep st f None None agrees = tt
shared_keep st f None (Some next) agrees = absurd agrees
shared_keep st f (Some x) None agrees = absurd agrees
shared_keep st f (Some x) (Some next) agrees = agrees

-- ---- before the number of registers

-- what is read of the first lines, where nothing behind them has come yet
abbrev first : Stage → Listing → Claimed → RegisterState
first stage code cert = reg stage code cert None [] []

-- the counts of what is read of the first lines
abbrev first_seen : Stage → Listing → Claimed → Seen
first_seen stage code cert = counts (at stage code cert) code.maps 0 0

-- the line of the field
first_field : (code : Listing) (cert : Claimed) (l : List ℕ)
    → Agrees (Registers (first Field code cert)) (keep form.Unnumbered (counted_at Field (first_seen Field code cert) l)) (register_read_at Field (first Field code cert) l >>= λ next. Some (Registers next))
unfolding counted_at register_read_at outs_refusal first_refusal
first_field code cert l =
    let st = first Field code cert in
    let seen = first_seen Field code cert in
    shared_keep st form.Unnumbered (field_counted seen l) (field_read st.shared l) (field_agrees (SharedLeft st form.Unnumbered) code cert seen l (λ field. (refl, refl)))

-- the line of the order
first_order : (code : Listing) (cert : Claimed) (l : List ℕ)
    → Agrees (Registers (first Order code cert)) (keep form.Unnumbered (order_counted TOP_ORDER (first_seen Order code cert) l)) (register_read_at Order (first Order code cert) l >>= λ next. Some (Registers next))
unfolding register_read_at outs_refusal first_refusal
first_order code cert l =
    let st = first Order code cert in
    let seen = first_seen Order code cert in
    shared_keep st form.Unnumbered (order_counted TOP_ORDER seen l) (order_read TOP_ORDER st.shared l) (order_agrees (SharedLeft st form.Unnumbered) TOP_ORDER code cert seen l (λ n. (refl, refl)))

-- the line of the number of secrets
first_secrets : (code : Listing) (cert : Claimed) (l : List ℕ)
    → Agrees (Registers (first Secrets code cert)) (keep form.Unnumbered (counted_at Secrets (first_seen Secrets code cert) l)) (register_read_at Secrets (first Secrets code cert) l >>= λ next. Some (Registers next))
unfolding counted_at register_read_at outs_refusal first_refusal
first_secrets code cert l =
    let st = first Secrets code cert in
    let seen = first_seen Secrets code cert in
    shared_keep st form.Unnumbered (secrets_counted seen l) (secrets_read st.shared l) (secrets_agrees (SharedLeft st form.Unnumbered) code cert seen l (λ n. (refl, refl)))

-- the line of the number of publics
first_publics : (code : Listing) (cert : Claimed) (l : List ℕ) → cert.blocks ≡ [] → cert.claims ≡ []
    → Agrees (Registers (first Publics code cert)) (keep form.Unnumbered (counted_at Publics (first_seen Publics code cert) l)) (register_read_at Publics (first Publics code cert) l >>= λ next. Some (Registers next))
unfolding counted_at register_read_at outs_refusal first_refusal
first_publics code cert l blocks claims =
    let st = first Publics code cert in
    let seen = first_seen Publics code cert in
    shared_keep st form.Unnumbered (publics_counted seen l) (publics_read st.shared l)
    (publics_agrees (SharedLeft st form.Unnumbered) code cert seen l (λ n. (rw (blocks, claims) refl, rw (blocks, claims) refl)))

-- the counts before the number of registers
abbrev upper_seen : Listing → Claimed → Seen
upper_seen code cert = counts (at Upper code cert) (untold (Registers (first Upper code cert))) 0 0

-- the line of the number of registers
registers_agrees : (code : Listing) (cert : Claimed) (l : List ℕ)
    → Agrees (Registers (first Upper code cert)) (registers_noted (upper_seen code cert) l) (registers_read (first Upper code cert) l >>= λ next. Some (Registers next))
unfolding registers_noted registers_read outs_refusal first_refusal held_behind
registers_agrees code cert l = by (headed (codes "registers ") MOST_REGISTERS l)
  where
    st : RegisterState
    st = first Upper code cert

    seen : Seen
    seen = upper_seen code cert

    entries : ℕ
    entries = inputs_len code.order code.secrets code.publics

    which : (n : ℕ) (b : Bool)
        → Agrees (Registers st) (if b then None else Some (record { seen = seen; form = form.Renaming (on_entry entries n) }, None)) ((if b then None else Some (record st { registers = Some n })) >>= λ next. Some (Registers next))
    which n true = tt
    which n false = (refl, refl)

    by : (o : Option ℕ)
        → Agrees (Registers st) (o >>= λ n. if nat_lt n entries then None else Some (record { seen = seen; form = form.Renaming (on_entry entries n) }, None))
        ((o >>= λ n. if nat_lt n entries then None else Some (record st { registers = Some n })) >>= λ next. Some (Registers next))
    by None = tt
    by (Some n) = which n (nat_lt n entries)

-- a line before the number of registers
front_agrees : (code : Listing) (cert : Claimed) (l : List ℕ)
    → Agrees (Registers (first Upper code cert)) (front_noted (upper_seen code cert) l) (register_upper_read None (first Upper code cert) l >>= λ next. Some (Registers next))
unfolding front_noted register_upper_read outs_refusal first_refusal
front_agrees code cert l = by (after (codes "map ") l)
  where
    st : RegisterState
    st = first Upper code cert

    seen : Seen
    seen = upper_seen code cert

    by : (a : Option (List ℕ))
        → Agrees (Registers st) (behind a (λ words. keep form.Unnumbered (map_counted seen words)) (registers_noted seen l)) (behind a (λ words. share st (map_read st.shared words)) (registers_read st l) >>= λ next. Some (Registers next))
    by (Some words) =
        shared_keep st form.Unnumbered (map_counted seen words) (map_read st.shared words)
        (map_agrees (SharedLeft st form.Unnumbered) code cert (untold (Registers st)) 0 0 words (λ m blocks claims. (rw (blocks, claims) refl, rw (blocks, claims) refl)))
    by None = registers_agrees code cert l

-- ---- behind the number of registers

-- what is read behind the number of registers, before the line of the code
abbrev numbered : Listing → Claimed → ℕ → RegisterState
numbered code cert n = reg Upper code cert (Some n) [] []

-- what both versions have is read behind a word or not
share_behind : (st : RegisterState) (a : Option (List ℕ)) (f : List ℕ → Option State) (o : Option State) → behind a (λ words. share st (f words)) (share st o) ≡ share st (behind a f o)
share_behind st None f o = refl
share_behind st (Some words) f o = refl

-- a line of the certificate is read of what both versions have
share_cert : (n : ℕ) (st : RegisterState) (l : List ℕ) → register_upper_read (Some n) st l ≡ share st (cert_read st.shared l)
unfolding register_upper_read
share_cert n st l =
    let rest : Option State = behind (after (codes "claim ") l) (claim_read st.shared) (code_read st.shared l) in
    ap (behind (after (codes "block ") l) (λ words. share st (block_read st.shared words))) (share_behind st (after (codes "claim ") l) (claim_read st.shared) (code_read st.shared l))
    ∙ share_behind st (after (codes "block ") l) (block_read st.shared) rest

-- a line of the certificate
numbered_agrees : (code : Listing) (cert : Claimed) (n : ℕ) (l : List ℕ)
    → Agrees (Registers (numbered code cert n)) (upper_noted (form_of (Some n) (register_code (numbered code cert n))) (register_summary (numbered code cert n) (untold (Registers (numbered code cert n)))) l)
    (register_upper_read (Some n) (numbered code cert n) l >>= λ next. Some (Registers next))
unfolding upper_noted outs_refusal first_refusal renamed_instrs
numbered_agrees code cert n l =
    let st = numbered code cert n in
    let renaming : Renaming = at_end (register_code st) in
    let told = untold (Registers st) in
    let plain : Listing = renamed (register_code st) in
    let agrees =
    cert_agrees (SharedLeft st (form.Renaming renaming)) code cert told 0 0 l
    (λ op none. (refl, block_begun cert op, refl, (events_at Upper plain cert, refl, block_events plain cert op none)))
    (λ value. (refl, claim_begun cert value, refl, (events_at Upper plain cert, refl, claim_events plain cert value)))
    (refl, refl, refl, (events_at Upper plain cert, refl, code_events plain cert refl refl))
    in
    subst (λ (o : Option RegisterState). Agrees (Registers st) (keep (form.Renaming renaming) (cert_counted (counts st.shared told 0 0) l)) (o >>= λ next. Some (Registers next))) (sym (share_cert n st l))
    (shared_keep st (form.Renaming renaming) (cert_counted (counts st.shared told 0 0) l) (cert_read st.shared l) agrees)

-- ---- the code

-- what is read of the code
abbrev lower : Listing → Claimed → ℕ → List RegInstr → List ℕ → RegisterState
lower code cert n instrs outs = reg Lower code cert (Some n) instrs outs

-- behind a refusal no event is told
refused : (p : Partial) (code : Listing) (cert : Claimed) (n : ℕ) (instrs : List RegInstr) (outs : List ℕ) (seen : Seen) (e : RegRefusal)
    → seen ≡ register_summary (lower code cert n instrs outs) [] → refusal_of (register_code (lower code cert n instrs outs)) ≡ Some e
    → Outcome p (Registers (lower code cert n instrs outs)) None (record { seen = seen; form = form.Refused e })
refused p code cert n instrs outs seen e same gone =
    let st = lower code cert n instrs outs in
    let r : RegListing = register_code st in
    let is : form.Refused e ≡ form_unless (refusal_of r) (at_end r) = ap (λ (a : Option RegRefusal). form_unless a (at_end r)) (sym gone) in (
      ap₂ (λ (s : Seen) (f : Form). record { seen = s; form = f }) same is,
      subst (λ (a : Option RegRefusal). IfSome (option_map (λ (c : Listing). events_at Lower c cert) (if is_some a then None else Some (renamed r))) (λ all. events_so_far p ≡ Some all)) (sym gone) tt,
    )

-- where nothing is refused, an event comes behind those of the code so far
told : (code : Listing) (cert : Claimed) (n : ℕ) (instrs more_instrs : List RegInstr) (outs more_outs : List ℕ) (seen : Seen) (s : Renaming) (e : Event)
    → seen ≡ register_summary (lower code cert n more_instrs more_outs) []
    → s ≡ at_end (register_code (lower code cert n more_instrs more_outs))
    → refusal_of (register_code (lower code cert n instrs outs)) ≡ None
    → refusal_of (register_code (lower code cert n more_instrs more_outs)) ≡ None
    → lower_events (renamed (register_code (lower code cert n more_instrs more_outs))) cert ≡ lower_events (renamed (register_code (lower code cert n instrs outs))) cert ++ e ∷ []
    → Outcome (Registers (lower code cert n instrs outs)) (Registers (lower code cert n more_instrs more_outs)) (Some e) (record { seen = seen; form = form.Renaming s })
told code cert n instrs more_instrs outs more_outs seen s e same made before_runs runs more =
    let r : RegListing = register_code (lower code cert n instrs outs) in
    let next : RegListing = register_code (lower code cert n more_instrs more_outs) in
    let is : form.Renaming s ≡ form_unless (refusal_of next) (at_end next) = ap form.Renaming made ∙ ap (λ (a : Option RegRefusal). form_unless a (at_end next)) (sym runs) in
    let events : RegListing → Option RegRefusal → Option (List Event) = λ x a. option_map (λ (c : Listing). events_at Lower c cert) (if is_some a then None else Some (renamed x)) in
    let before : List Event = lower_events (renamed r) cert in (
      ap₂ (λ (s : Seen) (f : Form). record { seen = s; form = f }) same is,
      refl,
      refl,
      subst (λ (a : Option RegRefusal). IfSome (events next a) (λ all. (before : List Event) × (events r (refusal_of r) ≡ Some before) × (all ≡ before ++ e ∷ []))) (sym runs)
          (before, ap (events r) before_runs, more),
    )

-- one instruction more
instr_left : (code : Listing) (cert : Claimed) (n : ℕ) (instrs : List RegInstr) (i : RegInstr)
    → let st : RegisterState = lower code cert n instrs [] in
    Outcome (Registers st) (Registers (lower code cert n (instrs ++ i ∷ []) [])) (instr_event (form_of (Some n) (register_code st)) i)
    (record { seen = record (register_summary st []) { instrs = length instrs + 1 }; form = form_behind (form_of (Some n) (register_code st)) i })
instr_left code cert n instrs i = by (refusal_of r) (instr_refusal held (length instrs) i) refl refl
  where
    st : RegisterState
    st = lower code cert n instrs []

    next : RegisterState
    next = lower code cert n (instrs ++ i ∷ []) []

    r : RegListing
    r = register_code st

    entries : ℕ
    entries = entries_len r

    held : List (Option ℕ)
    held = held_at_end r

    seen : Seen
    seen = record (register_summary st []) { instrs = length instrs + 1 }

    counted : seen ≡ register_summary next []
    counted = ap (λ (k : ℕ). record (register_summary next []) { instrs = k }) (pushed instrs i)

    refusals : refusal_of (register_code next) ≡ option_or (refusal_of r) (instr_refusal held (length instrs) i)
    refusals = code_refusal-push entries (held_on_entry entries n) instrs i

    by : (a b : Option RegRefusal) → refusal_of r ≡ a → instr_refusal held (length instrs) i ≡ b
        → Outcome (Registers st) (Registers next) (instr_event (form_unless a (at_end r)) i) (record { seen = seen; form = form_behind (form_unless a (at_end r)) i })
    by (Some e) b before here = refused (Registers st) code cert n (instrs ++ i ∷ []) [] seen e counted (refusals ∙ ap (λ (a : Option RegRefusal). option_or a (instr_refusal held (length instrs) i)) before)
    by None (Some e) before here =
        let gone : refusal_of (register_code next) ≡ Some e = refusals ∙ ap₂ option_or before here in
        rw here (refused (Registers st) code cert n (instrs ++ i ∷ []) [] seen e counted gone)
    by None None before here =
        let runs : refusal_of (register_code next) ≡ None = refusals ∙ ap₂ option_or before here in
        let renaming : Renaming = record { held = stepped held (entries + length instrs) i; entries = entries; accepted = length instrs + 1 } in
        let made : renaming ≡ at_end (register_code next) =
        ap₂ (λ (h : List (Option ℕ)) (k : ℕ). record { held = h; entries = entries; accepted = k }) (sym (held_behind-push (held_on_entry entries n) entries instrs i)) (pushed instrs i) in
        let more : lower_events (renamed (register_code next)) cert ≡ lower_events (renamed r) cert ++ event.Instr (renamed_instr held i) ∷ [] =
        ap (λ (is : List Instr). lower_events (record (renamed r) { instrs = is }) cert) (renamed_instrs-push (held_on_entry entries n) entries instrs i) ∙ instr_events (renamed r) cert (renamed_instr held i) refl in
        rw here (told code cert n instrs (instrs ++ i ∷ []) [] [] seen renaming (event.Instr (renamed_instr held i)) counted made before runs more)

-- the line of an instruction
instr_agrees : (code : Listing) (cert : Claimed) (n : ℕ) (instrs : List RegInstr) (outs : List ℕ) (l : List ℕ)
    → let st : RegisterState = lower code cert n instrs outs in
    Agrees (Registers st) (register_instr_noted (form_of (Some n) (register_code st)) (register_summary st []) l) (register_instr_read st l >>= λ next. Some (Registers next))
unfolding register_instr_noted register_instr_read register_counts may_register_instr
instr_agrees code cert n instrs outs l = by (into_of l)
  where
    st : RegisterState
    st = lower code cert n instrs outs

    f : Form
    f = form_of (Some n) (register_code st)

    next : RegInstr → RegisterState
    next i = lower code cert n (instrs ++ i ∷ []) outs

    left : RegInstr → Noted
    left i = record { seen = record (register_summary st []) { instrs = length instrs + 1 }; form = form_behind f i }

    which : (x : ℕ × Instr) (b : Bool) → may_register_instr st x.1 ≡ b
        → Agrees (Registers st) (if b then Some (left (into_register x.0 x.1), instr_event f (into_register x.0 x.1)) else None) ((if b then Some (next (into_register x.0 x.1)) else None) >>= λ next. Some (Registers next))
    which x true e =
        let h = and_parts (nat_lt (length outs) 1 && nat_lt (length instrs) MOST_INSTRS) (has_parts code.field (length code.maps) x.1) e in
        let none : outs ≡ [] = empty_of outs (and_parts (nat_lt (length outs) 1) (nat_lt (length instrs) MOST_INSTRS) h.0).0 in
        let i : RegInstr = into_register x.0 x.1 in
        subst
        (λ (o : List ℕ).
        Outcome (Registers (lower code cert n instrs o)) (Registers (lower code cert n (instrs ++ i ∷ []) o)) (instr_event (form_of (Some n) (register_code (lower code cert n instrs o))) i)
        (record { seen = record (register_summary (lower code cert n instrs o) []) { instrs = length instrs + 1 }; form = form_behind (form_of (Some n) (register_code (lower code cert n instrs o))) i })) (sym none) (instr_left code cert n instrs i)
    which x false e = tt

    by : (o : Option (ℕ × Instr))
        → Agrees (Registers st) (o >>= λ x. if may_register_instr st x.1 then Some (left (into_register x.0 x.1), instr_event f (into_register x.0 x.1)) else None)
        ((o >>= λ x. if may_register_instr st x.1 then Some (next (into_register x.0 x.1)) else None) >>= λ next. Some (Registers next))
    by None = tt
    by (Some x) = which x (may_register_instr st x.1) refl

-- one output more
out_left : (code : Listing) (cert : Claimed) (n : ℕ) (instrs : List RegInstr) (outs registers : List ℕ) (k : ℕ) → length outs ≡ k * (code.order + 1) → length registers ≡ code.order + 1
    → let st : RegisterState = lower code cert n instrs outs in
    Outcome (Registers st) (Registers (lower code cert n instrs (outs ++ registers))) (out_event (form_of (Some n) (register_code st)) registers)
    (record { seen = record (register_summary st []) { outs = length outs + (code.order + 1) }; form = form_behind_out (form_of (Some n) (register_code st)) registers })
out_left code cert n instrs outs registers k all one = by (refusal_of r) (outs_refusal held (length instrs) registers) refl refl
  where
    st : RegisterState
    st = lower code cert n instrs outs

    next : RegisterState
    next = lower code cert n instrs (outs ++ registers)

    r : RegListing
    r = register_code st

    entries : ℕ
    entries = entries_len r

    held : List (Option ℕ)
    held = held_at_end r

    seen : Seen
    seen = record (register_summary st []) { outs = length outs + (code.order + 1) }

    counted : seen ≡ register_summary next []
    counted =
        let longer : length outs + (code.order + 1) ≡ length (outs ++ registers) = ap (λ (m : ℕ). length outs + m) (sym one) ∙ sym (length-append outs registers) in
        ap (λ (m : ℕ). record (register_summary next []) { outs = m }) longer

    refusals : refusal_of (register_code next) ≡ option_or (refusal_of r) (outs_refusal held (length instrs) registers)
    refusals = code_refusal-outs entries (held_on_entry entries n) instrs outs registers

    by : (a b : Option RegRefusal) → refusal_of r ≡ a → outs_refusal held (length instrs) registers ≡ b
        → Outcome (Registers st) (Registers next) (out_event (form_unless a (at_end r)) registers) (record { seen = seen; form = form_behind_out (form_unless a (at_end r)) registers })
    by (Some e) b before here =
        refused (Registers st) code cert n instrs (outs ++ registers) seen e counted (refusals ∙ ap (λ (a : Option RegRefusal). option_or a (outs_refusal held (length instrs) registers)) before)
    by None (Some e) before here =
        let gone : refusal_of (register_code next) ≡ Some e = refusals ∙ ap₂ option_or before here in
        rw here (refused (Registers st) code cert n instrs (outs ++ registers) seen e counted gone)
    by None None before here =
        let runs : refusal_of (register_code next) ≡ None = refusals ∙ ap₂ option_or before here in
        let positions : List ℕ = map (position_in held) registers in
        let so_far : length (map (position_in held) outs) ≡ k * (code.order + 1) = length-map outs (position_in held) ∙ all in
        let here_one : length positions ≡ code.order + 1 = length-map registers (position_in held) ∙ one in
        let more : lower_events (renamed (register_code next)) cert ≡ lower_events (renamed r) cert ++ event.Out positions ∷ [] =
        ap (λ (os : List ℕ). lower_events (record (renamed r) { outs = os }) cert) (map-append (position_in held) outs registers) ∙ out_events (renamed r) cert k positions so_far here_one in
        rw here (told code cert n instrs instrs outs (outs ++ registers) seen (at_end r) (event.Out positions) counted refl before runs more)

-- the line of an output
out_agrees : (code : Listing) (cert : Claimed) (n : ℕ) (instrs : List RegInstr) (outs : List ℕ) (l : List ℕ) (k : ℕ) → length outs ≡ k * (code.order + 1)
    → let st : RegisterState = lower code cert n instrs outs in
    Agrees (Registers st) (register_out_noted (form_of (Some n) (register_code st)) (register_summary st []) l) (register_out_read st l >>= λ next. Some (Registers next))
unfolding register_out_noted register_out_read
out_agrees code cert n instrs outs l k all = which (nat_lt (length outs) (MOST_INPUTS * (code.order + 1)))
  where
    st : RegisterState
    st = lower code cert n instrs outs

    f : Form
    f = form_of (Some n) (register_code st)

    next : List ℕ → RegisterState
    next registers = lower code cert n instrs (outs ++ registers)

    left : List ℕ → Noted
    left registers = record { seen = record (register_summary st []) { outs = length outs + (code.order + 1) }; form = form_behind_out f registers }

    by : (o : Option (List ℕ)) → o ≡ positions_of (code.order + 1) (2 ^ 32) l
        → Agrees (Registers st) (o >>= λ registers. Some (left registers, out_event f registers)) ((o >>= λ registers. Some (next registers)) >>= λ next. Some (Registers next))
    by None e = tt
    by (Some registers) e = out_left code cert n instrs outs registers k all (positions_found (code.order + 1) (2 ^ 32) l registers (sym e)).1

    which : (b : Bool)
        → Agrees (Registers st) (if b then (positions_of (code.order + 1) (2 ^ 32) l >>= λ registers. Some (left registers, out_event f registers)) else None)
        ((if b then (positions_of (code.order + 1) (2 ^ 32) l >>= λ registers. Some (next registers)) else None) >>= λ next. Some (Registers next))
    which true = by (positions_of (code.order + 1) (2 ^ 32) l) refl
    which false = tt

-- the last line
end_left : (code : Listing) (cert : Claimed) (n : ℕ) (instrs : List RegInstr) (outs : List ℕ)
    → let st : RegisterState = lower code cert n instrs outs in
    Outcome (Registers st) (Registers (reg Ended code cert (Some n) instrs outs)) (Some event.End) (record { seen = record (register_summary st []) { stage = Ended }; form = form_of (Some n) (register_code st) })
end_left code cert n instrs outs = (refl, refl, refl, by (refusal_of r))
  where
    r : RegListing
    r = register_code (lower code cert n instrs outs)

    by : (a : Option RegRefusal)
        → IfSome (option_map (λ (c : Listing). events_of c cert) (if is_some a then None else Some (renamed r)))
        (λ all. (before : List Event) × (option_map (λ (c : Listing). lower_events c cert) (if is_some a then None else Some (renamed r)) ≡ Some before) × (all ≡ before ++ event.End ∷ []))
    by None = (lower_events (renamed r) cert, refl, refl)
    by (Some e) = tt

-- a line of the code
lower_agrees : (code : Listing) (cert : Claimed) (n : ℕ) (instrs : List RegInstr) (outs : List ℕ) (l : List ℕ) (k : ℕ) → length outs ≡ k * (code.order + 1)
    → let st : RegisterState = lower code cert n instrs outs in
    Agrees (Registers st) (register_lower_noted (form_of (Some n) (register_code st)) (register_summary st []) l) (register_lower_read st l >>= λ next. Some (Registers next))
unfolding register_lower_noted register_lower_read
lower_agrees code cert n instrs outs l k all = by (after (codes "out") l) (bytes_eq l (codes "end"))
  where
    st : RegisterState
    st = lower code cert n instrs outs

    f : Form
    f = form_of (Some n) (register_code st)

    seen : Seen
    seen = register_summary st []

    by : (a : Option (List ℕ)) (b : Bool)
        → Agrees (Registers st)
        (behind a (register_out_noted f seen) (if b then Some (record { seen = record seen { stage = Ended }; form = f }, Some event.End) else register_instr_noted f seen l))
        (behind a (register_out_read st) (if b then Some (reg Ended code cert (Some n) instrs outs) else register_instr_read st l) >>= λ next. Some (Registers next))
    by (Some words) b = out_agrees code cert n instrs outs words k all
    by None true = end_left code cert n instrs outs
    by None false = instr_agrees code cert n instrs outs l

-- ---- any line

-- the notes of what is read, by their stage and form
abbrev noted_at : RegisterState → List ℕ → Noting
noted_at st l = register_noted st.shared.stage (form_of st.registers (register_code st)) (register_summary st (untold (Registers st))) l

-- a line by the form is one of version 2, by the stage
by_stage : (st : RegisterState) (l : List ℕ) → line_noted (noted (Registers st) (untold (Registers st))) l ≡ noted_at st l
by_stage st l = numbers st.registers
  where
    seen : Seen
    seen = register_summary st (untold (Registers st))

    r : RegListing
    r = register_code st

    runs : (a : Option RegRefusal) → noted_by (form_unless a (at_end r)) seen l ≡ register_noted seen.stage (form_unless a (at_end r)) seen l
    runs None = refl
    runs (Some e) = refl

    numbers : (registers : Option ℕ) → noted_by (form_of registers r) seen l ≡ register_noted seen.stage (form_of registers r) seen l
    numbers None = refl
    numbers (Some n) = runs (refusal_of r)

-- both ways of reading read a line of what is read, or don't
abbrev AgreesOn : RegisterState → List ℕ → Type 0
AgreesOn st l = Agrees (Registers st) (noted_at st l) (register_line_read st l >>= λ next. Some (Registers next))

-- where nothing has come yet behind the first lines
blank_agrees : (stage : Stage) (code : Listing) (cert : Claimed) (registers : Option ℕ) (instrs : List RegInstr) (outs : List ℕ) (l : List ℕ) → registers ≡ None → instrs ≡ [] → outs ≡ []
    → AgreesOn (first stage code cert) l → AgreesOn (reg stage code cert registers instrs outs) l
blank_agrees stage code cert registers instrs outs l number no_instrs no_outs agrees =
    subst (λ (n : Option ℕ). AgreesOn (reg stage code cert n instrs outs) l) (sym number)
    (subst (λ (is : List RegInstr). AgreesOn (reg stage code cert None is outs) l) (sym no_instrs) (subst (λ (os : List ℕ). AgreesOn (reg stage code cert None [] os) l) (sym no_outs) agrees))

-- a line between the head and the code
upper_agrees : (code : Listing) (cert : Claimed) (registers : Option ℕ) (instrs : List RegInstr) (outs : List ℕ) (l : List ℕ) → instrs ≡ [] → outs ≡ [] → AgreesOn (reg Upper code cert registers instrs outs) l
unfolding register_noted register_read_at upper_noted outs_refusal first_refusal
upper_agrees code cert None instrs outs l no_instrs no_outs = blank_agrees Upper code cert None instrs outs l refl no_instrs no_outs (front_agrees code cert l)
upper_agrees code cert (Some n) instrs outs l no_instrs no_outs =
    subst (λ (is : List RegInstr). AgreesOn (reg Upper code cert (Some n) is outs) l) (sym no_instrs)
    (subst (λ (os : List ℕ). AgreesOn (reg Upper code cert (Some n) [] os) l) (sym no_outs) (numbered_agrees code cert n l))

-- a line at any stage behind the first line
stage_agrees : (stage : Stage) (code : Listing) (cert : Claimed) (registers : Option ℕ) (instrs : List RegInstr) (outs : List ℕ) (l : List ℕ) → GoodRegisters (reg stage code cert registers instrs outs) → (stage ≡ Version → ⊥)
    → AgreesOn (reg stage code cert registers instrs outs) l
unfolding register_noted register_read_at
stage_agrees Version code cert registers instrs outs l good begun = absurd (begun refl)
stage_agrees Field code cert registers instrs outs l good begun = blank_agrees Field code cert registers instrs outs l good.blank.number good.blank.instrs good.blank.outs (first_field code cert l)
stage_agrees Order code cert registers instrs outs l good begun = blank_agrees Order code cert registers instrs outs l good.blank.number good.blank.instrs good.blank.outs (first_order code cert l)
stage_agrees Secrets code cert registers instrs outs l good begun = blank_agrees Secrets code cert registers instrs outs l good.blank.number good.blank.instrs good.blank.outs (first_secrets code cert l)
stage_agrees Publics code cert registers instrs outs l good begun =
    blank_agrees Publics code cert registers instrs outs l good.blank.number good.blank.instrs good.blank.outs (first_publics code cert l good.blank.blocks good.blank.claims)
stage_agrees Upper code cert registers instrs outs l good begun = upper_agrees code cert registers instrs outs l good.blank.instrs good.blank.outs
stage_agrees Lower code cert None instrs outs l good begun = absurd (false≢true good.blank)
stage_agrees Lower code cert (Some n) instrs outs l good begun = lower_agrees code cert n instrs outs l good.pair.listing.outputs.0 good.pair.listing.outputs.2
stage_agrees Ended code cert registers instrs outs l good begun = tt

-- reading a line of version 2 by counts and by what the registers hold agrees with reading it up to a pair
pub register_agrees : (st : RegisterState) (l : List ℕ) → GoodRegisters st → (st.shared.stage ≡ Version → ⊥)
    → Agrees (Registers st) (line_noted (noted (Registers st) (untold (Registers st))) l) (register_line_read st l >>= λ next. Some (Registers next))
register_agrees st l good begun =
    subst (λ (n : Noting). Agrees (Registers st) n (register_line_read st l >>= λ next. Some (Registers next))) (sym (by_stage st l))
    (stage_agrees st.shared.stage st.shared.code st.shared.cert st.registers st.instrs st.outs l good begun)
