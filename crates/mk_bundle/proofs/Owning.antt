-- Where the lines of the maps did not end before, the event of a line stands for just that line.
use Rattle.std.proofs.Common.{◌≡◌, ℕ, Bool, true, false, List, ◌++◌, Option, Some, None, refl, sym, ap, subst, ◌∙◌, inl, inr}
use Rattle.std.specs.Prelude.{codes, bytes_eq, nat_lt}
use Rattle.mk_base.specs.declared.TheConstants.{TOP_ORDER}
use Rattle.mk_code.specs.declared.TheConstants.{MOST_INPUTS}
use Rattle.mk_code.specs.Listing.{inputs_len}
use Rattle.mk_regs.specs.declared.TheConstants.{MOST_REGISTERS}
use Rattle.mk_rules.specs.declared.TheConstants.{MOST_CLAIMS}
use Rattle.mk_lines.specs.Words.{line}
use Rattle.mk_lines.specs.Parsing.{field_of, map_of, operand_of, op_of}
use Rattle.mk_lines.proofs.Steps.{bind_some, same_some, chosen, passed, not_passed, behind_found, is_word}
use Rattle.mk_lines.proofs.Spelled.{operand_of_found}
use Rattle.mk_lines.proofs.Variants.{op_line-words, op_found}
use Rattle.mk_bundle.specs.Reading.{headed}
use Rattle.mk_bundle.specs.declared.TheConstants.{TEXT_TOP_ORDER}
use Rattle.mk_bundle.specs.declared.draft.Stage.{Stage}
use Rattle.mk_bundle.specs.declared.draft.Stage.TheVariants.{Version, Field, Order, Secrets, Publics, Upper, Lower, Ended}
use Rattle.mk_bundle.specs.declared.event.Event.{Event}
use Rattle.mk_bundle.specs.declared.event.Event.TheVariants as event
use Rattle.mk_bundle.specs.declared.notes.Form.{Form}
use Rattle.mk_bundle.specs.declared.notes.Form.TheVariants as form
use Rattle.mk_bundle.specs.Events.{has_begun}
use Rattle.mk_bundle.specs.Standing.{event_text}
use Rattle.mk_bundle.specs.Reads.{IsOfBoth}
use Rattle.mk_bundle.specs.Counting.{Seen, Counted, version_counted, field_counted, order_counted, secrets_counted, publics_counted, map_counts, map_counted, block_counts, block_counted, claim_counted, code_counted, cert_counted, upper_counted, counted_at}
use Rattle.mk_bundle.specs.Noting.{Noted, keep, first_noted, registers_noted, front_noted, upper_noted, position_noted, register_noted, line_noted}
use Rattle.mk_bundle.proofs.Marking.{marked}

-- the line of the event is the same in both versions, and it is this one
abbrev Owns : List ℕ → Event → Type 0
Owns l e = IsOfBoth e × (event_text e ≡ line l)

-- the event that was told is that of the line
same_event : {A : Type 0} (seen left : A) (d e : Event) → ◌≡◌ {A = Option (A × Option Event)} (Some (seen, Some d)) (Some (left, Some e)) → d ≡ e
same_event seen left d e is = same_some d e (ap (λ x. x.1) (same_some (seen, Some d) (left, Some e) is))

-- no event was told
no_event : {A : Type 0} (seen left : A) (l : List ℕ) (e : Event) → ◌≡◌ {A = Option (A × Option Event)} (Some (seen, None)) (Some (left, Some e)) → Owns l e
no_event seen left l e is = let never : ◌≡◌ {A = Option Event} None (Some e) = ap (λ x. x.1) (same_some (seen, None) (left, Some e) is) in absurd cc

-- ---- lines that are counted

-- a map's line has no event
map_owns : (seen left : Seen) (e : Event) (l words : List ℕ) → map_counted seen words ≡ Some (left, Some e) → Owns l e
unfolding map_counted
map_owns seen left e l words is =
    let a = bind_some (map_of words) _ (left, Some e) is in
    no_event _ left l e (passed (map_counts seen) _ (left, Some e) a.2).1

-- the event of a block's line
block_owns : (seen left : Seen) (e : Event) (l words : List ℕ) → l ≡ codes "block " ++ words → block_counted seen words ≡ Some (left, Some e) → Owns l e
unfolding block_counted
block_owns seen left e l words here is =
    let a = bind_some (op_of words) _ (left, Some e) is in
    let h = passed (block_counts seen) _ (left, Some e) a.2 in
    let spelled = op_line-words a.0 ∙ ap (λ (w : List ℕ). line (codes "block " ++ w)) (sym (op_found words a.0 a.1).0) ∙ ap line (sym here) in
    subst (Owns l) (same_event _ left (event.Block a.0) e h.1) (tt, spelled)

-- the event of a claim's line
claim_owns : (seen left : Seen) (e : Event) (l words : List ℕ) → l ≡ codes "claim " ++ words → claim_counted seen words ≡ Some (left, Some e) → Owns l e
unfolding claim_counted
claim_owns seen left e l words here is =
    let a = bind_some (operand_of words) _ (left, Some e) is in
    let h = passed (nat_lt seen.claims MOST_CLAIMS) _ (left, Some e) a.2 in
    let spelled = ap (λ (w : List ℕ). line (codes "claim " ++ w)) (sym (operand_of_found words a.0 a.1).0) ∙ ap line (sym here) in
    subst (Owns l) (same_event _ left (event.Claim a.0) e h.1) (tt, spelled)

-- the event of the line `code`
code_owns : (seen left : Seen) (e : Event) (l : List ℕ) → code_counted seen l ≡ Some (left, Some e) → Owns l e
unfolding code_counted
code_owns seen left e l is =
    let h = passed (bytes_eq l (codes "code")) _ (left, Some e) is in
    let spelled = ap line (sym (is_word l (codes "code") h.0)) in
    subst (Owns l) (same_event _ left event.Code e h.1) (tt, spelled)

-- the event of a line of the certificate
cert_owns : (seen left : Seen) (e : Event) (l : List ℕ) → cert_counted seen l ≡ Some (left, Some e) → Owns l e
unfolding cert_counted
cert_owns seen left e l is = elim (behind_found (codes "block ") l _ _ (left, Some e) is) [
  | inl h ↦ block_owns seen left e l h.0 h.1 h.2
  | inr is ↦ elim (behind_found (codes "claim ") l _ _ (left, Some e) is) [ inl h ↦ claim_owns seen left e l h.0 h.1 h.2 | inr is ↦ code_owns seen left e l is ]
]

-- the event of a line between the head and the code
upper_owns : (seen left : Seen) (e : Event) (l : List ℕ) → upper_counted seen l ≡ Some (left, Some e) → Owns l e
unfolding upper_counted
upper_owns seen left e l is = elim (behind_found (codes "map ") l _ _ (left, Some e) is) [ inl h ↦ map_owns seen left e l h.0 h.2 | inr is ↦ cert_owns seen left e l is ]

-- the line of the order has no event
order_owns : (most : ℕ) (seen left : Seen) (e : Event) (l : List ℕ) → order_counted most seen l ≡ Some (left, Some e) → Owns l e
unfolding order_counted
order_owns most seen left e l is =
    let a = bind_some (headed (codes "order ") most l) _ (left, Some e) is in
    no_event _ left l e (not_passed (nat_lt a.0 1) _ (left, Some e) a.2).1

-- the event of a line that is counted
counted_owns : (stage : Stage) (seen left : Seen) (e : Event) (l : List ℕ) → has_begun stage seen.blocks seen.claims ≡ false → counted_at stage seen l ≡ Some (left, Some e) → Owns l e
unfolding counted_at version_counted field_counted secrets_counted publics_counted
counted_owns Version seen left e l before is = no_event _ left l e (passed (bytes_eq l (codes "mask 1")) _ (left, Some e) is).1
counted_owns Field seen left e l before is = no_event _ left l e (bind_some (field_of l) _ (left, Some e) is).2
counted_owns Order seen left e l before is = order_owns TEXT_TOP_ORDER seen left e l is
counted_owns Secrets seen left e l before is = no_event _ left l e (bind_some (headed (codes "secrets ") MOST_INPUTS l) _ (left, Some e) is).2
counted_owns Publics seen left e l before is = no_event _ left l e (bind_some (headed (codes "publics ") MOST_INPUTS l) _ (left, Some e) is).2
counted_owns Upper seen left e l before is = upper_owns seen left e l is
counted_owns Lower seen left e l before is = absurd cc
counted_owns Ended seen left e l before is = absurd cc

-- ---- lines of either version

-- what the counts gave, where the form stays
kept_found : (f : Form) (c : Counted) (left : Noted) (e : Event) → keep f c ≡ Some (left, Some e) → (seen : Seen) × (c ≡ Some (seen, Some e))
kept_found f None left e is = absurd cc
kept_found f (Some x) left e is = let told : x.1 ≡ Some e = ap (λ (y : Noted × Option Event). y.1) (same_some (record { seen = x.0; form = f }, x.1) (left, Some e) is) in (x.0, ap {B = Counted} (λ (t : Option Event). Some (x.0, t)) told)

-- the event of a line that is counted, where the form stays
kept_owns : (f : Form) (stage : Stage) (seen : Seen) (left : Noted) (e : Event) (l : List ℕ) → has_begun stage seen.blocks seen.claims ≡ false → keep f (counted_at stage seen l) ≡ Some (left, Some e) → Owns l e
kept_owns f stage seen left e l before is = let h = kept_found f (counted_at stage seen l) left e is in counted_owns stage seen h.0 e l before h.1

-- the same for a line of the certificate
kept_cert_owns : (f : Form) (seen : Seen) (left : Noted) (e : Event) (l : List ℕ) → keep f (cert_counted seen l) ≡ Some (left, Some e) → Owns l e
kept_cert_owns f seen left e l is = let h = kept_found f (cert_counted seen l) left e is in cert_owns seen h.0 e l h.1

-- the first line has no event
first_owns : (seen : Seen) (left : Noted) (e : Event) (l : List ℕ) → first_noted seen l ≡ Some (left, Some e) → Owns l e
unfolding first_noted version_counted
first_owns seen left e l is = elim (chosen (bytes_eq l (codes "mask 2")) _ _ (Some (left, Some e)) is) [
  | inl h ↦ no_event _ left l e h.1
  | inr h ↦ (let k = kept_found form.Positions _ left e h.1 in no_event _ k.0 l e (passed (bytes_eq l (codes "mask 1")) _ (k.0, Some e) k.1).1)
]

-- a line between the head and the number of registers has no event
front_owns : (seen : Seen) (left : Noted) (e : Event) (l : List ℕ) → front_noted seen l ≡ Some (left, Some e) → Owns l e
unfolding front_noted registers_noted
front_owns seen left e l is = elim (behind_found (codes "map ") l _ _ (left, Some e) is) [
  | inl h ↦ (let k = kept_found form.Unnumbered (map_counted seen h.0) left e h.2 in map_owns seen k.0 e l h.0 k.1)
  | inr is ↦ (let a = bind_some (headed (codes "registers ") MOST_REGISTERS l) _ (left, Some e) is in
      no_event _ left l e (not_passed (nat_lt a.0 (inputs_len seen.order seen.secrets seen.publics)) _ (left, Some e) a.2).1)
]

-- the event of a line between the head and the code of version 2
noted_upper_owns : (f : Form) (seen : Seen) (left : Noted) (e : Event) (l : List ℕ) → upper_noted f seen l ≡ Some (left, Some e) → Owns l e
unfolding upper_noted
noted_upper_owns form.Unnumbered seen left e l is = front_owns seen left e l is
noted_upper_owns form.Positions seen left e l is = kept_cert_owns form.Positions seen left e l is
noted_upper_owns (form.Renaming s) seen left e l is = kept_cert_owns (form.Renaming s) seen left e l is
noted_upper_owns (form.Refused refusal) seen left e l is = kept_cert_owns (form.Refused refusal) seen left e l is

-- the event of a line of version 1
position_owns : (stage : Stage) (seen : Seen) (left : Noted) (e : Event) (l : List ℕ) → has_begun stage seen.blocks seen.claims ≡ false → position_noted stage seen l ≡ Some (left, Some e) → Owns l e
unfolding position_noted
position_owns Version seen left e l before is = first_owns seen left e l is
position_owns Field seen left e l before is = kept_owns form.Positions Field seen left e l before is
position_owns Order seen left e l before is = kept_owns form.Positions Order seen left e l before is
position_owns Secrets seen left e l before is = kept_owns form.Positions Secrets seen left e l before is
position_owns Publics seen left e l before is = kept_owns form.Positions Publics seen left e l before is
position_owns Upper seen left e l before is = kept_owns form.Positions Upper seen left e l before is
position_owns Lower seen left e l before is = absurd cc
position_owns Ended seen left e l before is = absurd cc

-- the event of a line of version 2
register_owns : (stage : Stage) (f : Form) (seen : Seen) (left : Noted) (e : Event) (l : List ℕ) → has_begun stage seen.blocks seen.claims ≡ false → register_noted stage f seen l ≡ Some (left, Some e) → Owns l e
unfolding register_noted
register_owns Version f seen left e l before is = absurd cc
register_owns Field f seen left e l before is = kept_owns f Field seen left e l before is
register_owns Order f seen left e l before is = let h = kept_found f (order_counted TOP_ORDER seen l) left e is in order_owns TOP_ORDER seen h.0 e l h.1
register_owns Secrets f seen left e l before is = kept_owns f Secrets seen left e l before is
register_owns Publics f seen left e l before is = kept_owns f Publics seen left e l before is
register_owns Upper f seen left e l before is = noted_upper_owns f seen left e l is
register_owns Lower f seen left e l before is = absurd cc
register_owns Ended f seen left e l before is = absurd cc

-- the event of a line, by the form
form_owns : (f : Form) (seen : Seen) (left : Noted) (e : Event) (l : List ℕ) → has_begun seen.stage seen.blocks seen.claims ≡ false → line_noted (record { seen = seen; form = f }) l ≡ Some (left, Some e) → Owns l e
form_owns form.Positions seen left e l before is = position_owns seen.stage seen left e l before is
form_owns form.Unnumbered seen left e l before is = register_owns seen.stage form.Unnumbered seen left e l before is
form_owns (form.Renaming s) seen left e l before is = register_owns seen.stage (form.Renaming s) seen left e l before is
form_owns (form.Refused refusal) seen left e l before is = register_owns seen.stage (form.Refused refusal) seen left e l before is

-- where the lines of the maps did not end before, the event of a line is one whose line is the same in both versions, and
-- it stands for just that line
pub own_line : (n left : Noted) (e : Event) (l : List ℕ) → (n.seen.stage ≡ Ended → ⊥) → has_begun n.seen.stage n.seen.blocks n.seen.claims ≡ false → line_noted n l ≡ Some (left, Some e)
    → IsOfBoth e × (event_text e ≡ line l)
own_line n left e l other before is = form_owns n.form n.seen left e l before is

-- the last line comes where the lines of the maps ended before
pub begun_events : (n left : Noted) (e : Event) (l : List ℕ) → line_noted n l ≡ Some (left, Some e) → left.seen.stage ≡ Ended → has_begun n.seen.stage n.seen.blocks n.seen.claims ≡ true
begun_events n left e l is ended = by (has_begun n.seen.stage n.seen.blocks n.seen.claims) refl
  where
    by : (b : Bool) → has_begun n.seen.stage n.seen.blocks n.seen.claims ≡ b → b ≡ true
    by true before = refl
    by false before =
        let other : n.seen.stage ≡ Ended → ⊥ = λ last. absurd (never last) in
        let both = own_line n left e l other before is in
        let last : e ≡ event.End = (marked n left (Some e) l other is).1 ended in
        absurd (subst IsOfBoth last both.0)
      where
        never : n.seen.stage ≡ Ended → ⊥
        never last = let h : true ≡ false = sym (ap (λ (s : Stage). has_begun s n.seen.blocks n.seen.claims) last) ∙ before in absurd cc
