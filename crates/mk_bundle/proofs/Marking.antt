-- The last event comes with the last line only.
use Rattle.std.proofs.Common.{◌≡◌, ℕ, ◌+◌, ◌*◌, Bool, true, false, List, map, Option, Some, None, refl, subst, if◌then◌else◌}
use Rattle.std.specs.Prelude.{◌^◌, codes, bytes_eq, nat_lt, is_some, IfSome}
use Rattle.mk_base.specs.declared.TheConstants.{TOP_ORDER}
use Rattle.mk_code.specs.declared.TheConstants.{MOST_INPUTS}
use Rattle.mk_code.specs.Listing.{inputs_len}
use Rattle.mk_regs.specs.declared.TheConstants.{MOST_REGISTERS}
use Rattle.mk_regs.specs.declared.instr.RegInstr.{RegInstr}
use Rattle.mk_regs.specs.Form.{into_register}
use Rattle.mk_regs.specs.Renaming.{position_in, renamed_instr, instr_refusal, outs_refusal}
use Rattle.mk_rules.specs.declared.TheConstants.{MOST_CLAIMS}
use Rattle.mk_lines.specs.Parsing.{field_of, ◌>>=◌, after, map_of, operand_of, op_of, instr_of, into_of, positions_of, behind}
use Rattle.mk_bundle.specs.Reading.{headed}
use Rattle.mk_bundle.specs.declared.TheConstants.{TEXT_TOP_ORDER}
use Rattle.mk_bundle.specs.declared.draft.Stage.{Stage}
use Rattle.mk_bundle.specs.declared.draft.Stage.TheVariants.{Version, Field, Order, Secrets, Publics, Upper, Lower, Ended}
use Rattle.mk_bundle.specs.declared.event.Event.{Event}
use Rattle.mk_bundle.specs.declared.event.Event.TheVariants as event
use Rattle.mk_bundle.specs.declared.notes.Form.{Form}
use Rattle.mk_bundle.specs.declared.notes.Form.TheVariants as form
use Rattle.mk_bundle.specs.Counting.{Seen, Counted, version_counted, field_counted, order_counted, secrets_counted, publics_counted, map_counts, map_counted, block_counts, block_counted, claim_counted, code_counted, cert_counted, upper_counted, entries, instr_counts, instr_counted, out_counted, lower_counted, counted_at}
use Rattle.mk_bundle.specs.Noting.{Noted, Noting, keep, first_noted, registers_noted, front_noted, upper_noted, instr_event, out_event, register_counts, register_instr_noted, register_out_noted, register_lower_noted, position_noted, register_noted, line_noted}

-- the last event comes with the last stage, and with no other
abbrev pub Marked : Option Event → Stage → Type 0
Marked None stage = stage ≡ Ended → ⊥
Marked (Some e) stage = (e ≡ event.End → stage ≡ Ended) × (stage ≡ Ended → e ≡ event.End)

-- the same of counts and an event
abbrev Counts : Seen × Option Event → Type 0
Counts x = Marked x.1 x.0.stage

-- the same of what is noted and an event
abbrev Notes : Noted × Option Event → Type 0
Notes x = Marked x.1 x.0.seen.stage

-- ---- tests

-- what is read on
pub if_bind : {A B : Type 0} (P : B → Type 0) (o : Option A) (f : A → Option B) → ((x : A) → IfSome (f x) P) → IfSome (o >>= f) P
if_bind P None f all = tt
if_bind P (Some x) f all = all x

-- one of two
pub if_chosen : {B : Type 0} (P : B → Type 0) (b : Bool) (c d : Option B) → IfSome c P → IfSome d P → IfSome (if b then c else d) P
if_chosen P true c d p q = p
if_chosen P false c d p q = q

-- behind a word
pub if_behind : {B : Type 0} (P : B → Type 0) (o : Option (List ℕ)) (f : List ℕ → Option B) (c : Option B) → ((words : List ℕ) → IfSome (f words) P) → IfSome c P → IfSome (behind o f c) P
if_behind P None f c all p = p
if_behind P (Some words) f c all p = all words

-- an event that isn't the last, if there is one, at another stage than the last
quiet : (told : Option Event) (stage : Stage) → IfSome told (λ e. e ≡ event.End → ⊥) → (stage ≡ Ended → ⊥) → Marked told stage
quiet None stage differs other = other
quiet (Some e) stage differs other = ((λ is. absurd (differs is)), (λ is. absurd (other is)))

-- ---- lines that are counted

-- the line of a map
map_marks : (seen : Seen) (words : List ℕ) → (seen.stage ≡ Ended → ⊥) → IfSome (map_counted seen words) Counts
unfolding map_counted
map_marks seen words other = if_bind Counts (map_of words) _ (λ m. if_chosen Counts (map_counts seen) _ None (quiet None seen.stage tt other) tt)

-- the line of a block
block_marks : (seen : Seen) (words : List ℕ) → (seen.stage ≡ Ended → ⊥) → IfSome (block_counted seen words) Counts
unfolding block_counted
block_marks seen words other = if_bind Counts (op_of words) _ (λ o. if_chosen Counts (block_counts seen) _ None (quiet (Some (event.Block o)) seen.stage (λ e. absurd cc) other) tt)

-- the line of a claim
claim_marks : (seen : Seen) (words : List ℕ) → (seen.stage ≡ Ended → ⊥) → IfSome (claim_counted seen words) Counts
unfolding claim_counted
claim_marks seen words other = if_bind Counts (operand_of words) _ (λ v. if_chosen Counts (nat_lt seen.claims MOST_CLAIMS) _ None (quiet (Some (event.Claim v)) seen.stage (λ e. absurd cc) other) tt)

-- the line `code`
code_marks : (seen : Seen) (l : List ℕ) → IfSome (code_counted seen l) Counts
unfolding code_counted
code_marks seen l = if_chosen Counts (bytes_eq l (codes "code")) _ None (quiet (Some event.Code) Lower (λ e. absurd cc) (λ e. absurd cc)) tt

-- a line of the certificate
cert_marks : (seen : Seen) (l : List ℕ) → (seen.stage ≡ Ended → ⊥) → IfSome (cert_counted seen l) Counts
unfolding cert_counted
cert_marks seen l other =
    if_behind Counts (after (codes "block ") l) (block_counted seen) _ (λ words. block_marks seen words other)
    (if_behind Counts (after (codes "claim ") l) (claim_counted seen) (code_counted seen l) (λ words. claim_marks seen words other) (code_marks seen l))

-- a line between the head and the code
upper_marks : (seen : Seen) (l : List ℕ) → (seen.stage ≡ Ended → ⊥) → IfSome (upper_counted seen l) Counts
unfolding upper_counted
upper_marks seen l other = if_behind Counts (after (codes "map ") l) (map_counted seen) (cert_counted seen l) (λ words. map_marks seen words other) (cert_marks seen l other)

-- the line of an instruction
instr_marks : (seen : Seen) (l : List ℕ) → (seen.stage ≡ Ended → ⊥) → IfSome (instr_counted seen l) Counts
unfolding instr_counted
instr_marks seen l other = if_bind Counts (instr_of l) _ (λ i. if_chosen Counts (instr_counts seen i) _ None (quiet (Some (event.Instr i)) seen.stage (λ e. absurd cc) other) tt)

-- the line of an output
out_marks : (seen : Seen) (words : List ℕ) → (seen.stage ≡ Ended → ⊥) → IfSome (out_counted seen words) Counts
unfolding out_counted
out_marks seen words other =
    if_chosen Counts (nat_lt seen.outs (MOST_INPUTS * (seen.order + 1))) _ None
    (if_bind Counts (positions_of (seen.order + 1) (entries seen) words) _ (λ positions. quiet (Some (event.Out positions)) seen.stage (λ e. absurd cc) other)) tt

-- a line of the code
lower_marks : (seen : Seen) (l : List ℕ) → (seen.stage ≡ Ended → ⊥) → IfSome (lower_counted seen l) Counts
unfolding lower_counted
lower_marks seen l other =
    if_behind Counts (after (codes "out") l) (out_counted seen) _ (λ words. out_marks seen words other)
    (if_chosen Counts (bytes_eq l (codes "end")) _ (instr_counted seen l) ((λ e. refl), (λ e. refl)) (instr_marks seen l other))

-- the line of the order
order_marks : (most : ℕ) (seen : Seen) (l : List ℕ) → IfSome (order_counted most seen l) Counts
unfolding order_counted
order_marks most seen l = if_bind Counts (headed (codes "order ") most l) _ (λ n. if_chosen Counts (nat_lt n 1) None _ tt (quiet None Secrets tt (λ e. absurd cc)))

-- any line that is counted
counted_marks : (stage : Stage) (seen : Seen) (l : List ℕ) → (seen.stage ≡ Ended → ⊥) → IfSome (counted_at stage seen l) Counts
unfolding counted_at version_counted field_counted secrets_counted publics_counted
counted_marks Version seen l other = if_chosen Counts (bytes_eq l (codes "mask 1")) _ None (quiet None Field tt (λ e. absurd cc)) tt
counted_marks Field seen l other = if_bind Counts (field_of l) _ (λ f. quiet None Order tt (λ e. absurd cc))
counted_marks Order seen l other = order_marks TEXT_TOP_ORDER seen l
counted_marks Secrets seen l other = if_bind Counts (headed (codes "secrets ") MOST_INPUTS l) _ (λ n. quiet None Publics tt (λ e. absurd cc))
counted_marks Publics seen l other = if_bind Counts (headed (codes "publics ") MOST_INPUTS l) _ (λ n. quiet None Upper tt (λ e. absurd cc))
counted_marks Upper seen l other = upper_marks seen l other
counted_marks Lower seen l other = lower_marks seen l other
counted_marks Ended seen l other = tt

-- ---- lines of either version

-- what holds of counts holds of them with a form
kept : (f : Form) (c : Counted) → IfSome c Counts → IfSome (keep f c) Notes
kept f None marks = tt
kept f (Some x) marks = marks

-- the same for a line that is counted
kept_marks : (f : Form) (stage : Stage) (seen : Seen) (l : List ℕ) → (seen.stage ≡ Ended → ⊥) → IfSome (keep f (counted_at stage seen l)) Notes
kept_marks f stage seen l other = kept f (counted_at stage seen l) (counted_marks stage seen l other)

-- the first line
first_marks : (seen : Seen) (l : List ℕ) → (seen.stage ≡ Ended → ⊥) → IfSome (first_noted seen l) Notes
unfolding first_noted counted_at
first_marks seen l other = if_chosen Notes (bytes_eq l (codes "mask 2")) _ (keep form.Positions (version_counted seen l)) (quiet None Field tt (λ e. absurd cc)) (kept_marks form.Positions Version seen l other)

-- the line of the number of registers
registers_marks : (seen : Seen) (l : List ℕ) → (seen.stage ≡ Ended → ⊥) → IfSome (registers_noted seen l) Notes
unfolding registers_noted
registers_marks seen l other =
    if_bind Notes (headed (codes "registers ") MOST_REGISTERS l) _ (λ n. if_chosen Notes (nat_lt n (inputs_len seen.order seen.secrets seen.publics)) None _ tt (quiet None seen.stage tt other))

-- a line between the head and the number of registers
front_marks : (seen : Seen) (l : List ℕ) → (seen.stage ≡ Ended → ⊥) → IfSome (front_noted seen l) Notes
unfolding front_noted
front_marks seen l other =
    if_behind Notes (after (codes "map ") l) (λ words. keep form.Unnumbered (map_counted seen words)) (registers_noted seen l) (λ words. kept form.Unnumbered (map_counted seen words) (map_marks seen words other)) (registers_marks seen l other)

-- a line between the head and the code of version 2
noted_upper_marks : (f : Form) (seen : Seen) (l : List ℕ) → (seen.stage ≡ Ended → ⊥) → IfSome (upper_noted f seen l) Notes
unfolding upper_noted
noted_upper_marks form.Unnumbered seen l other = front_marks seen l other
noted_upper_marks form.Positions seen l other = kept form.Positions (cert_counted seen l) (cert_marks seen l other)
noted_upper_marks (form.Renaming s) seen l other = kept (form.Renaming s) (cert_counted seen l) (cert_marks seen l other)
noted_upper_marks (form.Refused refusal) seen l other = kept (form.Refused refusal) (cert_counted seen l) (cert_marks seen l other)

-- an event that is told unless there is a refusal isn't the last
unless_refused : (b : Bool) (e : Event) → (e ≡ event.End → ⊥) → IfSome (if b then None else Some e) (λ told. told ≡ event.End → ⊥)
unless_refused true e differs = tt
unless_refused false e differs = differs

-- the event of an instruction over registers isn't the last
instr_differs : (f : Form) (i : RegInstr) → IfSome (instr_event f i) (λ told. told ≡ event.End → ⊥)
instr_differs form.Positions i = tt
instr_differs form.Unnumbered i = tt
instr_differs (form.Renaming s) i = unless_refused (is_some (instr_refusal s.held s.accepted i)) (event.Instr (renamed_instr s.held i)) (λ e. absurd cc)
instr_differs (form.Refused refusal) i = tt

-- the event of an output over registers isn't the last
out_differs : (f : Form) (registers : List ℕ) → IfSome (out_event f registers) (λ told. told ≡ event.End → ⊥)
out_differs form.Positions registers = tt
out_differs form.Unnumbered registers = tt
out_differs (form.Renaming s) registers = unless_refused (is_some (outs_refusal s.held s.accepted registers)) (event.Out (map (position_in s.held) registers)) (λ e. absurd cc)
out_differs (form.Refused refusal) registers = tt

-- the line of an instruction over registers
register_instr_marks : (f : Form) (seen : Seen) (l : List ℕ) → (seen.stage ≡ Ended → ⊥) → IfSome (register_instr_noted f seen l) Notes
unfolding register_instr_noted
register_instr_marks f seen l other =
    if_bind Notes (into_of l) _ (λ x. if_chosen Notes (register_counts seen x.1) _ None (quiet (instr_event f (into_register x.0 x.1)) seen.stage (instr_differs f (into_register x.0 x.1)) other) tt)

-- the line of an output over registers
register_out_marks : (f : Form) (seen : Seen) (words : List ℕ) → (seen.stage ≡ Ended → ⊥) → IfSome (register_out_noted f seen words) Notes
unfolding register_out_noted
register_out_marks f seen words other =
    if_chosen Notes (nat_lt seen.outs (MOST_INPUTS * (seen.order + 1))) _ None
    (if_bind Notes (positions_of (seen.order + 1) (2 ^ 32) words) _ (λ registers. quiet (out_event f registers) seen.stage (out_differs f registers) other)) tt

-- a line of code over registers
register_lower_marks : (f : Form) (seen : Seen) (l : List ℕ) → (seen.stage ≡ Ended → ⊥) → IfSome (register_lower_noted f seen l) Notes
unfolding register_lower_noted
register_lower_marks f seen l other =
    if_behind Notes (after (codes "out") l) (register_out_noted f seen) _ (λ words. register_out_marks f seen words other)
    (if_chosen Notes (bytes_eq l (codes "end")) _ (register_instr_noted f seen l) ((λ e. refl), (λ e. refl)) (register_instr_marks f seen l other))

-- any line of version 1, and the first one
position_marks : (stage : Stage) (seen : Seen) (l : List ℕ) → (seen.stage ≡ Ended → ⊥) → IfSome (position_noted stage seen l) Notes
unfolding position_noted
position_marks Version seen l other = first_marks seen l other
position_marks Field seen l other = kept_marks form.Positions Field seen l other
position_marks Order seen l other = kept_marks form.Positions Order seen l other
position_marks Secrets seen l other = kept_marks form.Positions Secrets seen l other
position_marks Publics seen l other = kept_marks form.Positions Publics seen l other
position_marks Upper seen l other = kept_marks form.Positions Upper seen l other
position_marks Lower seen l other = kept_marks form.Positions Lower seen l other
position_marks Ended seen l other = tt

-- any line of version 2
register_marks : (stage : Stage) (f : Form) (seen : Seen) (l : List ℕ) → (seen.stage ≡ Ended → ⊥) → IfSome (register_noted stage f seen l) Notes
unfolding register_noted
register_marks Version f seen l other = tt
register_marks Field f seen l other = kept_marks f Field seen l other
register_marks Order f seen l other = kept f (order_counted TOP_ORDER seen l) (order_marks TOP_ORDER seen l)
register_marks Secrets f seen l other = kept_marks f Secrets seen l other
register_marks Publics f seen l other = kept_marks f Publics seen l other
register_marks Upper f seen l other = noted_upper_marks f seen l other
register_marks Lower f seen l other = register_lower_marks f seen l other
register_marks Ended f seen l other = tt

-- any line, by the form
form_marks : (f : Form) (seen : Seen) (l : List ℕ) → (seen.stage ≡ Ended → ⊥) → IfSome (line_noted (record { seen = seen; form = f }) l) Notes
form_marks form.Positions seen l other = position_marks seen.stage seen l other
form_marks form.Unnumbered seen l other = register_marks seen.stage form.Unnumbered seen l other
form_marks (form.Renaming s) seen l other = register_marks seen.stage (form.Renaming s) seen l other
form_marks (form.Refused refusal) seen l other = register_marks seen.stage (form.Refused refusal) seen l other

-- what a line that is read leaves
pub marked : (n left : Noted) (told : Option Event) (l : List ℕ) → (n.seen.stage ≡ Ended → ⊥) → line_noted n l ≡ Some (left, told) → Marked told left.seen.stage
marked n left told l other e = subst (λ (noting : Noting). IfSome noting Notes) e (form_marks n.form n.seen l other)
