-- Reading a line by counts agrees with reading it up to a pair: a line of version 1, and one that both versions have.
use Rattle.std.proofs.Common.{◌≡◌, ℕ, zero, suc, ◌+◌, ◌*◌, ◌/◌, ◌<◌, ◌≤◌, Bool, true, false, List, [], ◌∷◌, ◌++◌, length, take, drop, Option, Some, None, IfSome, nat_lt, refl, sym, ap, subst, ◌∙◌, arith, append_assoc, length-append, add-one, if◌then◌else◌}
use Rattle.std.specs.Prelude.{codes, bytes_eq, ◌&&◌, not, map}
use Rattle.std.proofs.lemmas.Bool.{ltb-true, le-ltb, and_parts}
use Rattle.std.proofs.lemmas.List.{append-nil, nil_from_length, take-append-le, drop-append-le, length-drop, map-append}
use Rattle.std.proofs.Math.Seq.{take-length}
use Rattle.std.proofs.Math.Nat.{zero-div, mul-div_cancel}
use Rattle.mk_field.specs.declared.field.FieldId.{FieldId}
use Rattle.mk_field.specs.declared.map.AddMap.{AddMap}
use Rattle.mk_field.specs.Field.{has_maps}
use Rattle.mk_ssa.specs.declared.Operand.{Operand}
use Rattle.mk_ssa.specs.declared.Op.{Op}
use Rattle.mk_code.specs.declared.instr.Instr.{Instr}
use Rattle.mk_code.specs.declared.TheConstants.{MOST_INPUTS, MOST_INSTRS}
use Rattle.mk_code.specs.Listing.{Listing, trace_len}
use Rattle.mk_regs.specs.Renaming.{outs_refusal, first_refusal}
use Rattle.mk_rules.specs.declared.TheConstants.{MOST_BLOCKS, MOST_CLAIMS}
use Rattle.mk_rules.specs.Claimed.{Claimed}
use Rattle.mk_lines.specs.Parsing.{field_of, ◌>>=◌, after, map_of, operand_of, op_of, instr_of, positions_of, behind}
use Rattle.mk_lines.proofs.Spelled.{positions_found}
use Rattle.mk_bundle.specs.declared.TheConstants.{TEXT_TOP_ORDER}
use Rattle.mk_bundle.specs.declared.draft.Stage.{Stage}
use Rattle.mk_bundle.specs.declared.draft.Stage.TheVariants.{Version, Field, Order, Secrets, Publics, Upper, Lower, Ended}
use Rattle.mk_bundle.specs.declared.notes.Form.TheVariants as form
use Rattle.mk_bundle.specs.declared.event.Head.{Head}
use Rattle.mk_bundle.specs.declared.event.Event.{Event}
use Rattle.mk_bundle.specs.declared.event.Event.TheVariants as event
use Rattle.mk_bundle.specs.Events.{head_of, outs_of, outputs_of, upper_events, lower_events, has_begun, events_at}
use Rattle.mk_bundle.specs.Reading.{State, start, version_line, field_read, headed, order_read, secrets_read, publics_read, may_map, map_read, may_block, block_read, claim_read, code_read, upper_read, fits_at, may_instr, instr_read, out_read, lower_read, read_at}
use Rattle.mk_bundle.specs.Versions.{Partial, Positions, Registers, register_opened, partial_read, events_so_far, has_begun_so_far, untold}
use Rattle.mk_bundle.specs.Counting.{Seen, summary, Counted, version_counted, field_counted, order_counted, secrets_counted, publics_counted, map_counts, map_counted, block_counts, block_counted, claim_counted, code_counted, cert_counted, upper_counted, instr_counts, instr_counted, out_counted, lower_counted, counted_at}
use Rattle.mk_bundle.specs.Noting.{Noted, noted, Noting, keep, first_noted, position_noted}
use Rattle.mk_bundle.proofs.Sound.{at, Good}

-- ---- what is claimed of a line

-- the head of what was read
abbrev pub head_so_far : Partial → Head
head_so_far (Positions st) = head_of st.code
head_so_far (Registers st) = head_of st.shared.code

-- the events that come with one that a line has: the head before it, where the lines of the maps ended just there
abbrev pub newly : Partial → Event → List Event
newly p e = if has_begun_so_far p then e ∷ [] else event.Head (head_so_far p) ∷ e ∷ []

-- what a line left, and its event
abbrev pub Outcome : Partial → Partial → Option Event → Noted → Type 0
Outcome p next None n = (n ≡ noted next (untold next)) × IfSome (events_so_far next) (λ all. events_so_far p ≡ Some all)
Outcome p next (Some e) n =
    (n ≡ noted next (untold p))
    × (has_begun_so_far next ≡ true)
    × (head_so_far next ≡ head_so_far p)
    × IfSome (events_so_far next) (λ all. (before : List Event) × (events_so_far p ≡ Some before) × (all ≡ before ++ newly p e))

-- both ways of reading read the line or don't
abbrev pub Agrees : Partial → Noting → Option Partial → Type 0
Agrees p None None = Unit {0}
Agrees p None (Some next) = ⊥
Agrees p (Some x) None = ⊥
Agrees p (Some x) (Some next) = Outcome p next x.1 x.0

-- what is to hold of what a line left, of its event and of the counts
abbrev pub Left : Type 1
Left = State → Option Event → Seen → Type 0

-- the same of counts alone, for what is to hold where both read the line
abbrev pub AgreesBy : Left → Counted → Option State → Type 0
AgreesBy R None None = Unit {0}
AgreesBy R None (Some next) = ⊥
AgreesBy R (Some x) None = ⊥
AgreesBy R (Some x) (Some next) = R next x.1 x.0

-- the counts of what both versions have, with so many instructions and positions of outputs
abbrev pub counts : State → List AddMap → ℕ → ℕ → Seen
counts st untold instrs outs = record (summary st untold) { instrs = instrs; outs = outs }

-- ---- lists and tests

-- a list with one thing more is longer by one
pub pushed : {A : Type 0} (xs : List A) (x : A) → length xs + 1 ≡ length (xs ++ x ∷ [])
pushed xs x = sym (length-append xs (x ∷ []))

-- a list with one thing more isn't empty
not_few : {A : Type 0} (xs : List A) (x : A) → nat_lt (length (xs ++ x ∷ [])) 1 ≡ false
not_few xs x = le-ltb (length (xs ++ x ∷ [])) 1 (omega (arith, pushed xs x))

-- a list of fewer than one thing is empty
pub empty_of : {A : Type 0} (xs : List A) → nat_lt (length xs) 1 ≡ true → xs ≡ []
empty_of xs e = nil_from_length xs (omega (arith, ltb-true (length xs) 1 e))

-- what isn't both is not
and_false : (b : Bool) → not (b && false) ≡ true
and_false true = refl
and_false false = refl

-- where the lines of the maps didn't end, both tests hold
pub both_hold : (a b : Bool) → not (a && b) ≡ false → (a ≡ true) × (b ≡ true)
both_hold true true e = (refl, refl)
both_hold true false e = absurd cc
both_hold false b e = absurd cc

-- an event comes behind the events so far, or the head and the event come first
told_more : (b : Bool) (h : Head) (before later : List Event) (e : Event) → later ≡ before ++ e ∷ [] → (b ≡ false → before ≡ event.Head h ∷ [])
    → later ≡ (if b then before else []) ++ (if b then e ∷ [] else event.Head h ∷ e ∷ [])
told_more true h before later e is none = is
told_more false h before later e is none = is ∙ ap (λ (l : List Event). l ++ e ∷ []) (none refl)

-- where the lines of the maps didn't end, the head is the only event that they give
head_only : (code : Listing) (cert : Claimed) → has_begun Upper (length cert.blocks) (length cert.claims) ≡ false → upper_events code cert ≡ event.Head (head_of code) ∷ []
head_only code cert e =
    let h = both_hold (nat_lt (length cert.blocks) 1) (nat_lt (length cert.claims) 1) e in
    rw (empty_of cert.blocks h.0, empty_of cert.claims h.1) refl

-- ---- the events of one line more

-- the events that come with one behind the head
abbrev upper_newly : Listing → Claimed → Event → List Event
upper_newly code cert e = if has_begun Upper (length cert.blocks) (length cert.claims) then e ∷ [] else event.Head (head_of code) ∷ e ∷ []

-- with one block more the lines of the maps ended
pub block_begun : (cert : Claimed) (op : Op) → has_begun Upper (length (cert.blocks ++ op ∷ [])) (length cert.claims) ≡ true
block_begun cert op = rw (not_few cert.blocks op) refl

-- the events of one block more
pub block_events : (code : Listing) (cert : Claimed) (op : Op) → cert.claims ≡ []
    → events_at Upper code (record cert { blocks = cert.blocks ++ op ∷ [] }) ≡ events_at Upper code cert ++ upper_newly code cert (event.Block op)
block_events code cert op none =
    let head : Event = event.Head (head_of code) in
    let one : map event.Block (cert.blocks ++ op ∷ []) ≡ map event.Block cert.blocks ++ event.Block op ∷ [] = map-append event.Block cert.blocks (op ∷ []) in
    let more : upper_events code (record cert { blocks = cert.blocks ++ op ∷ [] }) ≡ upper_events code cert ++ event.Block op ∷ [] =
    rw (none, one) (ap (λ (l : List Event). head ∷ l) (append-nil (map event.Block cert.blocks ++ event.Block op ∷ []) ∙ ap (λ (l : List Event). l ++ event.Block op ∷ []) (sym (append-nil (map event.Block cert.blocks))))) in
    rw (not_few cert.blocks op)
    (told_more (has_begun Upper (length cert.blocks) (length cert.claims)) (head_of code) (upper_events code cert) (upper_events code (record cert { blocks = cert.blocks ++ op ∷ [] })) (event.Block op) more (head_only code cert))

-- with one claim more the lines of the maps ended
pub claim_begun : (cert : Claimed) (value : Operand) → has_begun Upper (length cert.blocks) (length (cert.claims ++ value ∷ [])) ≡ true
claim_begun cert value = rw (not_few cert.claims value) (and_false (nat_lt (length cert.blocks) 1))

-- the events of one claim more
pub claim_events : (code : Listing) (cert : Claimed) (value : Operand)
    → events_at Upper code (record cert { claims = cert.claims ++ value ∷ [] }) ≡ events_at Upper code cert ++ upper_newly code cert (event.Claim value)
claim_events code cert value =
    let head : Event = event.Head (head_of code) in
    let one : map event.Claim (cert.claims ++ value ∷ []) ≡ map event.Claim cert.claims ++ event.Claim value ∷ [] = map-append event.Claim cert.claims (value ∷ []) in
    let more : upper_events code (record cert { claims = cert.claims ++ value ∷ [] }) ≡ upper_events code cert ++ event.Claim value ∷ [] =
    rw (one) (ap (λ (l : List Event). head ∷ l) (sym (append_assoc (map event.Block cert.blocks) (map event.Claim cert.claims) (event.Claim value ∷ [])))) in
    let ended : not (nat_lt (length cert.blocks) 1 && nat_lt (length (cert.claims ++ value ∷ [])) 1) ≡ true = claim_begun cert value in
    rw ended
    (told_more (has_begun Upper (length cert.blocks) (length cert.claims)) (head_of code) (upper_events code cert) (upper_events code (record cert { claims = cert.claims ++ value ∷ [] })) (event.Claim value) more (head_only code cert))

-- no position makes no output
no_outputs : (shares : ℕ) (outs : List ℕ) → outs ≡ [] → outs_of shares (length outs / shares) outs ≡ []
unfolding outs_of
no_outputs shares outs none = rw (none, zero-div shares) refl

-- the events behind the line `code`, where neither an instruction nor an output has come yet
pub code_events : (code : Listing) (cert : Claimed) → code.instrs ≡ [] → code.outs ≡ [] → lower_events code cert ≡ events_at Upper code cert ++ upper_newly code cert event.Code
code_events code cert no_instrs no_outs =
    let more : lower_events code cert ≡ upper_events code cert ++ event.Code ∷ [] =
    rw (no_instrs, no_outputs (code.order + 1) code.outs no_outs) (append-nil (upper_events code cert ++ event.Code ∷ [] ++ []) ∙ append-nil (upper_events code cert ++ event.Code ∷ []))
    in told_more (has_begun Upper (length cert.blocks) (length cert.claims)) (head_of code) (upper_events code cert) (lower_events code cert) event.Code more (head_only code cert)

-- the events of one instruction more, where no output has come yet
pub instr_events : (code : Listing) (cert : Claimed) (i : Instr) → code.outs ≡ [] → lower_events (record code { instrs = code.instrs ++ i ∷ [] }) cert ≡ lower_events code cert ++ event.Instr i ∷ []
instr_events code cert i none =
    let before : List Event = upper_events code cert ++ event.Code ∷ [] in
    let more : map event.Instr (code.instrs ++ i ∷ []) ≡ map event.Instr code.instrs ++ event.Instr i ∷ [] = map-append event.Instr code.instrs (i ∷ []) in
    pushed_before before (map event.Instr code.instrs) (map event.Instr (code.instrs ++ i ∷ [])) (map event.Out (outputs_of code)) (event.Instr i) more (ap (map event.Out) (no_outputs (code.order + 1) code.outs none))
  where
    pushed_before : (before xs ys none : List Event) (e : Event) → ys ≡ xs ++ e ∷ [] → none ≡ [] → before ++ ys ++ none ≡ (before ++ xs ++ none) ++ e ∷ []
    pushed_before before xs ys none e is nothing =
        rw (is, nothing) (append-nil (before ++ (xs ++ e ∷ [])) ∙ sym (append_assoc before xs (e ∷ [])) ∙ ap (λ (l : List Event). l ++ e ∷ []) (sym (append-nil (before ++ xs))))

-- one output more
pub outs_of-push : (shares outputs : ℕ) (outs positions : List ℕ) → length outs ≡ outputs * shares → length positions ≡ shares → outs_of shares (suc outputs) (outs ++ positions) ≡ outs_of shares outputs outs ++ positions ∷ []
unfolding outs_of
outs_of-push shares zero outs positions all one =
    let none : outs ≡ [] = nil_from_length outs (omega (arith, all)) in
    let is : take shares (outs ++ positions) ≡ positions = ap (λ (xs : List ℕ). take shares (xs ++ positions)) none ∙ ap (λ (n : ℕ). take n positions) (sym one) ∙ take-length positions in
    ap (λ (p : List ℕ). p ∷ []) is
outs_of-push shares (suc outputs) outs positions all one =
    let long : shares ≤ length outs = omega (arith, all) in
    let first : take shares (outs ++ positions) ≡ take shares outs = take-append-le shares outs positions long in
    let left : drop shares (outs ++ positions) ≡ drop shares outs ++ positions = drop-append-le shares outs positions long in
    let rest = outs_of-push shares outputs (drop shares outs) positions (omega (arith, length-drop shares outs, all)) one in
    ap (λ (p : List ℕ). p ∷ outs_of shares (suc outputs) (drop shares (outs ++ positions))) first
    ∙ ap (λ (p : List ℕ). take shares outs ∷ outs_of shares (suc outputs) p) left
    ∙ ap (λ (p : List (List ℕ)). take shares outs ∷ p) rest

-- the outputs of a code with one output more
outputs_more : (shares k : ℕ) (outs positions : List ℕ) → 0 < shares → length outs ≡ k * shares → length positions ≡ shares
    → outs_of shares (length (outs ++ positions) / shares) (outs ++ positions) ≡ outs_of shares (length outs / shares) outs ++ positions ∷ []
outputs_more shares k outs positions some all one =
    let longer : length (outs ++ positions) ≡ (k + 1) * shares = length-append outs positions ∙ (omega (arith, all, one)) in
    let before : length outs / shares ≡ k = ap (λ (n : ℕ). n / shares) all ∙ mul-div_cancel k some in
    let behind : length (outs ++ positions) / shares ≡ suc k = ap (λ (n : ℕ). n / shares) longer ∙ mul-div_cancel (k + 1) some ∙ add-one k in
    rw (behind, before) (outs_of-push shares k outs positions all one)

-- the events of one output more, behind so many
pub out_events : (code : Listing) (cert : Claimed) (k : ℕ) (positions : List ℕ) → length code.outs ≡ k * (code.order + 1) → length positions ≡ code.order + 1
    → lower_events (record code { outs = code.outs ++ positions }) cert ≡ lower_events code cert ++ event.Out positions ∷ []
out_events code cert k positions all one =
    let before : List Event = upper_events code cert ++ event.Code ∷ [] ++ map event.Instr code.instrs in
    let more : map event.Out (outputs_of (record code { outs = code.outs ++ positions })) ≡ map event.Out (outputs_of code) ++ event.Out positions ∷ [] =
    ap (map event.Out) (outputs_more (code.order + 1) k code.outs positions (omega arith) all one) ∙ map-append event.Out (outputs_of code) (positions ∷ [])
    in ap (λ (l : List Event). before ++ l) more ∙ sym (append_assoc before (map event.Out (outputs_of code)) (event.Out positions ∷ []))

-- ---- lines that both versions have

-- the line of the field
pub field_agrees : (R : Left) (code : Listing) (cert : Claimed) (seen : Seen) (l : List ℕ)
    → ((field : FieldId) → R (at Order (record code { field = field }) cert) None (record seen { stage = Order; field = field }))
    → AgreesBy R (field_counted seen l) (field_read (at Field code cert) l)
unfolding field_counted field_read
field_agrees R code cert seen l holds = by (field_of l)
  where
    by : (o : Option FieldId) → AgreesBy R (o >>= λ f. Some (record seen { stage = Order; field = f }, None)) (o >>= λ f. Some (at Order (record code { field = f }) cert))
    by None = tt
    by (Some f) = holds f

-- the line of the order
pub order_agrees : (R : Left) (most : ℕ) (code : Listing) (cert : Claimed) (seen : Seen) (l : List ℕ)
    → ((n : ℕ) → R (at Secrets (record code { order = n }) cert) None (record seen { stage = Secrets; order = n }))
    → AgreesBy R (order_counted most seen l) (order_read most (at Order code cert) l)
unfolding order_counted order_read
order_agrees R most code cert seen l holds = by (headed (codes "order ") most l)
  where
    which : (n : ℕ) (b : Bool) → AgreesBy R (if b then None else Some (record seen { stage = Secrets; order = n }, None)) (if b then None else Some (at Secrets (record code { order = n }) cert))
    which n true = tt
    which n false = holds n

    by : (o : Option ℕ)
        → AgreesBy R (o >>= λ n. if nat_lt n 1 then None else Some (record seen { stage = Secrets; order = n }, None)) (o >>= λ n. if nat_lt n 1 then None else Some (at Secrets (record code { order = n }) cert))
    by None = tt
    by (Some n) = which n (nat_lt n 1)

-- the line of the number of secrets
pub secrets_agrees : (R : Left) (code : Listing) (cert : Claimed) (seen : Seen) (l : List ℕ)
    → ((n : ℕ) → R (at Publics (record code { secrets = n }) cert) None (record seen { stage = Publics; secrets = n }))
    → AgreesBy R (secrets_counted seen l) (secrets_read (at Secrets code cert) l)
unfolding secrets_counted secrets_read
secrets_agrees R code cert seen l holds = by (headed (codes "secrets ") MOST_INPUTS l)
  where
    by : (o : Option ℕ) → AgreesBy R (o >>= λ n. Some (record seen { stage = Publics; secrets = n }, None)) (o >>= λ n. Some (at Publics (record code { secrets = n }) cert))
    by None = tt
    by (Some n) = holds n

-- the line of the number of publics
pub publics_agrees : (R : Left) (code : Listing) (cert : Claimed) (seen : Seen) (l : List ℕ)
    → ((n : ℕ) → R (at Upper (record code { publics = n }) cert) None (record seen { stage = Upper; publics = n }))
    → AgreesBy R (publics_counted seen l) (publics_read (at Publics code cert) l)
unfolding publics_counted publics_read
publics_agrees R code cert seen l holds = by (headed (codes "publics ") MOST_INPUTS l)
  where
    by : (o : Option ℕ) → AgreesBy R (o >>= λ n. Some (record seen { stage = Upper; publics = n }, None)) (o >>= λ n. Some (at Upper (record code { publics = n }) cert))
    by None = tt
    by (Some n) = holds n

-- the line of a map
pub map_agrees : (R : Left) (code : Listing) (cert : Claimed) (untold : List AddMap) (instrs outs : ℕ) (l : List ℕ)
    → ((m : AddMap) → nat_lt (length cert.blocks) 1 ≡ true → nat_lt (length cert.claims) 1 ≡ true
    → R (at Upper (record code { maps = code.maps ++ m ∷ [] }) cert) None (counts (at Upper (record code { maps = code.maps ++ m ∷ [] }) cert) (untold ++ m ∷ []) instrs outs))
    → AgreesBy R (map_counted (counts (at Upper code cert) untold instrs outs) l) (map_read (at Upper code cert) l)
unfolding map_counted map_read map_counts may_map
map_agrees R code cert untold instrs outs l holds = by (map_of l)
  where
    seen : Seen
    seen = counts (at Upper code cert) untold instrs outs

    test : Bool
    test = map_counts seen

    next : AddMap → State
    next m = at Upper (record code { maps = code.maps ++ m ∷ [] }) cert

    which : (m : AddMap) (b : Bool) → test ≡ b
        → AgreesBy R (if b then Some (record seen { untold = untold ++ m ∷ []; maps = length code.maps + 1 }, None) else None) (if b then Some (next m) else None)
    which m true e =
        let h = and_parts (has_maps code.field && nat_lt (length cert.blocks) 1 && nat_lt (length cert.claims) 1) (nat_lt (length code.maps) 32768) e in
        let g = and_parts (has_maps code.field && nat_lt (length cert.blocks) 1) (nat_lt (length cert.claims) 1) h.0 in
        let f = and_parts (has_maps code.field) (nat_lt (length cert.blocks) 1) g.0 in
        subst (λ (n : ℕ). R (next m) None (record (counts (next m) (untold ++ m ∷ []) instrs outs) { maps = n })) (sym (pushed code.maps m)) (holds m f.1 g.1)
    which m false e = tt

    by : (o : Option AddMap) → AgreesBy R (o >>= λ m. if test then Some (record seen { untold = untold ++ m ∷ []; maps = length code.maps + 1 }, None) else None) (o >>= λ m. if test then Some (next m) else None)
    by None = tt
    by (Some m) = which m test refl

-- the line of a block
pub block_agrees : (R : Left) (code : Listing) (cert : Claimed) (untold : List AddMap) (instrs outs : ℕ) (l : List ℕ)
    → ((op : Op) → cert.claims ≡ []
    → R (at Upper code (record cert { blocks = cert.blocks ++ op ∷ [] })) (Some (event.Block op)) (counts (at Upper code (record cert { blocks = cert.blocks ++ op ∷ [] })) untold instrs outs))
    → AgreesBy R (block_counted (counts (at Upper code cert) untold instrs outs) l) (block_read (at Upper code cert) l)
unfolding block_counted block_read block_counts may_block
block_agrees R code cert untold instrs outs l holds = by (op_of l)
  where
    seen : Seen
    seen = counts (at Upper code cert) untold instrs outs

    test : Bool
    test = block_counts seen

    next : Op → State
    next op = at Upper code (record cert { blocks = cert.blocks ++ op ∷ [] })

    which : (op : Op) (b : Bool) → test ≡ b → AgreesBy R (if b then Some (record seen { blocks = length cert.blocks + 1 }, Some (event.Block op)) else None) (if b then Some (next op) else None)
    which op true e =
        let none : cert.claims ≡ [] = empty_of cert.claims (and_parts (nat_lt (length cert.claims) 1) (nat_lt (length cert.blocks) MOST_BLOCKS) e).0 in
        subst (λ (n : ℕ). R (next op) (Some (event.Block op)) (record (counts (next op) untold instrs outs) { blocks = n })) (sym (pushed cert.blocks op)) (holds op none)
    which op false e = tt

    by : (o : Option Op) → AgreesBy R (o >>= λ op. if test then Some (record seen { blocks = length cert.blocks + 1 }, Some (event.Block op)) else None) (o >>= λ op. if test then Some (next op) else None)
    by None = tt
    by (Some op) = which op test refl

-- the line of a claim
pub claim_agrees : (R : Left) (code : Listing) (cert : Claimed) (untold : List AddMap) (instrs outs : ℕ) (l : List ℕ)
    → ((value : Operand)
    → R (at Upper code (record cert { claims = cert.claims ++ value ∷ [] })) (Some (event.Claim value)) (counts (at Upper code (record cert { claims = cert.claims ++ value ∷ [] })) untold instrs outs))
    → AgreesBy R (claim_counted (counts (at Upper code cert) untold instrs outs) l) (claim_read (at Upper code cert) l)
unfolding claim_counted claim_read
claim_agrees R code cert untold instrs outs l holds = by (operand_of l)
  where
    seen : Seen
    seen = counts (at Upper code cert) untold instrs outs

    test : Bool
    test = nat_lt (length cert.claims) MOST_CLAIMS

    next : Operand → State
    next value = at Upper code (record cert { claims = cert.claims ++ value ∷ [] })

    which : (value : Operand) (b : Bool) → AgreesBy R (if b then Some (record seen { claims = length cert.claims + 1 }, Some (event.Claim value)) else None) (if b then Some (next value) else None)
    which value true = subst (λ (n : ℕ). R (next value) (Some (event.Claim value)) (record (counts (next value) untold instrs outs) { claims = n })) (sym (pushed cert.claims value)) (holds value)
    which value false = tt

    by : (o : Option Operand) → AgreesBy R (o >>= λ v. if test then Some (record seen { claims = length cert.claims + 1 }, Some (event.Claim v)) else None) (o >>= λ v. if test then Some (next v) else None)
    by None = tt
    by (Some value) = which value test

-- the line `code`
pub code_agrees : (R : Left) (code : Listing) (cert : Claimed) (seen : Seen) (l : List ℕ) → R (at Lower code cert) (Some event.Code) (record seen { stage = Lower })
    → AgreesBy R (code_counted seen l) (code_read (at Upper code cert) l)
unfolding code_counted code_read
code_agrees R code cert seen l holds = which (bytes_eq l (codes "code"))
  where
    which : (b : Bool) → AgreesBy R (if b then Some (record seen { stage = Lower }, Some event.Code) else None) (if b then Some (at Lower code cert) else None)
    which true = holds
    which false = tt

-- a line of the certificate that is read: a block, a claim or the code's beginning
abbrev pub cert_read : State → List ℕ → Option State
cert_read st l = behind (after (codes "block ") l) (block_read st) (behind (after (codes "claim ") l) (claim_read st) (code_read st l))

-- a line of the certificate
pub cert_agrees : (R : Left) (code : Listing) (cert : Claimed) (untold : List AddMap) (instrs outs : ℕ) (l : List ℕ)
    → ((op : Op) → cert.claims ≡ []
    → R (at Upper code (record cert { blocks = cert.blocks ++ op ∷ [] })) (Some (event.Block op)) (counts (at Upper code (record cert { blocks = cert.blocks ++ op ∷ [] })) untold instrs outs))
    → ((value : Operand)
    → R (at Upper code (record cert { claims = cert.claims ++ value ∷ [] })) (Some (event.Claim value)) (counts (at Upper code (record cert { claims = cert.claims ++ value ∷ [] })) untold instrs outs))
    → R (at Lower code cert) (Some event.Code) (counts (at Lower code cert) untold instrs outs)
    → AgreesBy R (cert_counted (counts (at Upper code cert) untold instrs outs) l) (cert_read (at Upper code cert) l)
unfolding cert_counted
cert_agrees R code cert untold instrs outs l blocks claims begins = by (after (codes "block ") l) (after (codes "claim ") l)
  where
    st : State
    st = at Upper code cert

    seen : Seen
    seen = counts st untold instrs outs

    by : (a b : Option (List ℕ)) → AgreesBy R (behind a (block_counted seen) (behind b (claim_counted seen) (code_counted seen l))) (behind a (block_read st) (behind b (claim_read st) (code_read st l)))
    by (Some words) b = block_agrees R code cert untold instrs outs words blocks
    by None (Some words) = claim_agrees R code cert untold instrs outs words claims
    by None None = code_agrees R code cert seen l begins

-- ---- version 1

-- what a line of version 1 left, its event and the counts
abbrev PositionsLeft : State → Left
PositionsLeft st next told seen = Outcome (Positions st) (Positions next) told (record { seen = seen; form = form.Positions })

-- what the counts give, for the notes
positions_keep : (st : State) (c : Counted) (o : Option State) → AgreesBy (PositionsLeft st) c o → Agrees (Positions st) (keep form.Positions c) (o >>= λ next. Some (Positions next))
positions_keep st None None agrees = tt
positions_keep st None (Some next) agrees = absurd agrees
positions_keep st (Some x) None agrees = absurd agrees
positions_keep st (Some x) (Some next) agrees = agrees

-- the first line
opening_agrees : (l : List ℕ) → Agrees (Positions start) (first_noted (summary start []) l) (partial_read (Positions start) l)
unfolding first_noted version_counted partial_read read_at version_line outs_refusal first_refusal
opening_agrees l = by (bytes_eq l (codes "mask 2")) (bytes_eq l (codes "mask 1"))
  where
    by : (a b : Bool)
        → Agrees (Positions start)
        (if a then Some (record { seen = record (summary start []) { stage = Field }; form = form.Unnumbered }, None)
        else keep form.Positions (if b then Some (record (summary start []) { stage = Field }, None) else None))
        (if a then Some (Registers register_opened) else ((if b then Some (record start { stage = Field }) else None) >>= λ next. Some (Positions next)))
    by true b = (refl, refl)
    by false true = (refl, refl)
    by false false = tt

-- a line between the head and the code
upper_agrees : (code : Listing) (cert : Claimed) (l : List ℕ) → Good Upper code cert
    → AgreesBy (PositionsLeft (at Upper code cert)) (upper_counted (summary (at Upper code cert) (untold (Positions (at Upper code cert)))) l) (upper_read (at Upper code cert) l)
unfolding upper_counted upper_read
upper_agrees code cert l good = by (after (codes "map ") l)
  where
    st : State
    st = at Upper code cert

    seen : Seen
    seen = summary st (untold (Positions st))

    by : (a : Option (List ℕ)) → AgreesBy (PositionsLeft st) (behind a (map_counted seen) (cert_counted seen l)) (behind a (map_read st) (cert_read st l))
    by (Some words) = map_agrees (PositionsLeft st) code cert (untold (Positions st)) (length code.instrs) (length code.outs) words (λ m blocks claims. (rw (blocks, claims) refl, rw (blocks, claims) refl))
    by None =
        cert_agrees (PositionsLeft st) code cert (untold (Positions st)) (length code.instrs) (length code.outs) l
        (λ op none. (refl, block_begun cert op, refl, (events_at Upper code cert, refl, block_events code cert op none)))
        (λ value. (refl, claim_begun cert value, refl, (events_at Upper code cert, refl, claim_events code cert value)))
        (refl, refl, refl, (events_at Upper code cert, refl, code_events code cert good.blank.instrs good.blank.outs))

-- the line of an instruction
instr_agrees : (code : Listing) (cert : Claimed) (l : List ℕ) → AgreesBy (PositionsLeft (at Lower code cert)) (instr_counted (summary (at Lower code cert) []) l) (instr_read (at Lower code cert) l)
unfolding instr_counted instr_read instr_counts may_instr
instr_agrees code cert l = by (instr_of l)
  where
    st : State
    st = at Lower code cert

    seen : Seen
    seen = summary st []

    next : Instr → State
    next i = at Lower (record code { instrs = code.instrs ++ i ∷ [] }) cert

    test : Instr → Bool
    test i = may_instr st i

    which : (i : Instr) (b : Bool) → test i ≡ b
        → AgreesBy (PositionsLeft st) (if b then Some (record seen { instrs = length code.instrs + 1 }, Some (event.Instr i)) else None) (if b then Some (next i) else None)
    which i true e =
        let h = and_parts (nat_lt (length code.outs) 1 && nat_lt (length code.instrs) MOST_INSTRS) (fits_at code.field (length code.maps) (trace_len code) i) e in
        let none : code.outs ≡ [] = empty_of code.outs (and_parts (nat_lt (length code.outs) 1) (nat_lt (length code.instrs) MOST_INSTRS) h.0).0 in
        (ap (λ (n : ℕ). record { seen = record seen { instrs = n }; form = form.Positions }) (pushed code.instrs i), refl, refl, (lower_events code cert, refl, instr_events code cert i none))
    which i false e = tt

    by : (o : Option Instr) → AgreesBy (PositionsLeft st) (o >>= λ i. if test i then Some (record seen { instrs = length code.instrs + 1 }, Some (event.Instr i)) else None) (o >>= λ i. if test i then Some (next i) else None)
    by None = tt
    by (Some i) = which i (test i) refl

-- the line of an output
out_agrees : (code : Listing) (cert : Claimed) (l : List ℕ) → Good Lower code cert
    → AgreesBy (PositionsLeft (at Lower code cert)) (out_counted (summary (at Lower code cert) []) l) (out_read (at Lower code cert) l)
unfolding out_counted out_read
out_agrees code cert l good = which (nat_lt (length code.outs) (MOST_INPUTS * (code.order + 1)))
  where
    st : State
    st = at Lower code cert

    seen : Seen
    seen = summary st []

    shares : ℕ
    shares = code.order + 1

    next : List ℕ → State
    next positions = at Lower (record code { outs = code.outs ++ positions }) cert

    by : (o : Option (List ℕ)) → o ≡ positions_of shares (trace_len code) l
        → AgreesBy (PositionsLeft st) (o >>= λ positions. Some (record seen { outs = length code.outs + shares }, Some (event.Out positions))) (o >>= λ positions. Some (next positions))
    by None e = tt
    by (Some positions) e =
        let one : length positions ≡ shares = (positions_found shares (trace_len code) l positions (sym e)).1 in
        let longer : length code.outs + shares ≡ length (code.outs ++ positions) = ap (λ (n : ℕ). length code.outs + n) (sym one) ∙ sym (length-append code.outs positions) in
        let outputs = good.pair.listing.outputs in
        (ap (λ (n : ℕ). record { seen = record seen { outs = n }; form = form.Positions }) longer, refl, refl, (lower_events code cert, refl, out_events code cert outputs.0 positions outputs.2 one))

    which : (b : Bool)
        → AgreesBy (PositionsLeft st) (if b then (positions_of shares (trace_len code) l >>= λ positions. Some (record seen { outs = length code.outs + shares }, Some (event.Out positions))) else None)
        (if b then (positions_of shares (trace_len code) l >>= λ positions. Some (next positions)) else None)
    which true = by (positions_of shares (trace_len code) l) refl
    which false = tt

-- a line of the code
lower_agrees : (code : Listing) (cert : Claimed) (l : List ℕ) → Good Lower code cert
    → AgreesBy (PositionsLeft (at Lower code cert)) (lower_counted (summary (at Lower code cert) []) l) (lower_read (at Lower code cert) l)
unfolding lower_counted lower_read
lower_agrees code cert l good = by (after (codes "out") l) (bytes_eq l (codes "end"))
  where
    st : State
    st = at Lower code cert

    seen : Seen
    seen = summary st []

    by : (a : Option (List ℕ)) (b : Bool)
        → AgreesBy (PositionsLeft st) (behind a (out_counted seen) (if b then Some (record seen { stage = Ended }, Some event.End) else instr_counted seen l))
        (behind a (out_read st) (if b then Some (record st { stage = Ended }) else instr_read st l))
    by (Some words) b = out_agrees code cert words good
    by None true = (refl, refl, refl, (lower_events code cert, refl, refl))
    by None false = instr_agrees code cert l

-- the counts of any line behind the first one
counted_agrees : (stage : Stage) (code : Listing) (cert : Claimed) (l : List ℕ) → (stage ≡ Version → ⊥) → Good stage code cert
    → AgreesBy (PositionsLeft (at stage code cert)) (counted_at stage (summary (at stage code cert) (untold (Positions (at stage code cert)))) l) (read_at stage (at stage code cert) l)
unfolding counted_at read_at
counted_agrees Version code cert l begun good = absurd (begun refl)
counted_agrees Field code cert l begun good = field_agrees (PositionsLeft (at Field code cert)) code cert (summary (at Field code cert) code.maps) l (λ field. (refl, refl))
counted_agrees Order code cert l begun good = order_agrees (PositionsLeft (at Order code cert)) TEXT_TOP_ORDER code cert (summary (at Order code cert) code.maps) l (λ n. (refl, refl))
counted_agrees Secrets code cert l begun good = secrets_agrees (PositionsLeft (at Secrets code cert)) code cert (summary (at Secrets code cert) code.maps) l (λ n. (refl, refl))
counted_agrees Publics code cert l begun good =
    publics_agrees (PositionsLeft (at Publics code cert)) code cert (summary (at Publics code cert) code.maps) l (λ n. (rw (good.blank.blocks, good.blank.claims) refl, rw (good.blank.blocks, good.blank.claims) refl))
counted_agrees Upper code cert l begun good = upper_agrees code cert l good
counted_agrees Lower code cert l begun good = lower_agrees code cert l good
counted_agrees Ended code cert l begun good = tt

-- the notes of any line behind the first one
behind_first : (stage : Stage) (code : Listing) (cert : Claimed) (l : List ℕ) → (stage ≡ Version → ⊥) → Good stage code cert
    → Agrees (Positions (at stage code cert)) (keep form.Positions (counted_at stage (summary (at stage code cert) (untold (Positions (at stage code cert)))) l)) (read_at stage (at stage code cert) l >>= λ next. Some (Positions next))
behind_first stage code cert l begun good =
    positions_keep (at stage code cert) (counted_at stage (summary (at stage code cert) (untold (Positions (at stage code cert)))) l) (read_at stage (at stage code cert) l) (counted_agrees stage code cert l begun good)

-- no line stands behind the end
ended : (code : Listing) (cert : Claimed) (l : List ℕ) → Agrees (Positions (at Ended code cert)) None (read_at Ended (at Ended code cert) l >>= λ next. Some (Positions next))
unfolding read_at
ended code cert l = tt

-- reading a line by counts agrees with reading it up to a pair, where the version isn't 2
pub position_agrees : (stage : Stage) (code : Listing) (cert : Claimed) (l : List ℕ) → Good stage code cert → (stage ≡ Version → at stage code cert ≡ start)
    → Agrees (Positions (at stage code cert)) (position_noted stage (summary (at stage code cert) (untold (Positions (at stage code cert)))) l) (partial_read (Positions (at stage code cert)) l)
unfolding position_noted partial_read
position_agrees Version code cert l good fresh =
    subst (λ (st : State). Agrees (Positions st) (first_noted (summary st (untold (Positions st))) l) (partial_read (Positions st) l)) (sym (fresh refl)) (opening_agrees l)
position_agrees Field code cert l good fresh = behind_first Field code cert l (λ is. absurd cc) good
position_agrees Order code cert l good fresh = behind_first Order code cert l (λ is. absurd cc) good
position_agrees Secrets code cert l good fresh = behind_first Secrets code cert l (λ is. absurd cc) good
position_agrees Publics code cert l good fresh = behind_first Publics code cert l (λ is. absurd cc) good
position_agrees Upper code cert l good fresh = behind_first Upper code cert l (λ is. absurd cc) good
position_agrees Lower code cert l good fresh = behind_first Lower code cert l (λ is. absurd cc) good
position_agrees Ended code cert l good fresh = ended code cert l
