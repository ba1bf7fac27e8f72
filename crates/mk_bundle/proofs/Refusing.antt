-- An event that isn't the last one comes only where nothing was refused.
use Rattle.std.proofs.Common.{◌≡◌, ℕ, ◌+◌, ◌*◌, ◌^◌, List, [], Option, Some, None, refl, sym, ap, subst, ◌∙◌, if◌then◌else◌}
use Rattle.std.specs.Option.{IsSome}
use Rattle.std.specs.Prelude.{codes, bytes_eq, nat_lt, is_some, map, option_map, IfSome}
use Rattle.mk_base.specs.declared.TheConstants.{TOP_ORDER}
use Rattle.mk_field.specs.declared.map.AddMap.{AddMap}
use Rattle.mk_code.specs.Listing.{inputs_len}
use Rattle.mk_code.specs.declared.TheConstants.{MOST_INPUTS}
use Rattle.mk_regs.specs.declared.TheConstants.{MOST_REGISTERS}
use Rattle.mk_regs.specs.declared.instr.RegInstr.{RegInstr}
use Rattle.mk_regs.specs.declared.refusal.RegRefusal.{RegRefusal}
use Rattle.mk_regs.specs.Form.{RegListing, into_register, entries_len}
use Rattle.mk_regs.specs.Renaming.{held_on_entry, position_in, renamed_instr, renamed, instr_refusal, outs_refusal, first_refusal, refusal_of}
use Rattle.mk_regs.specs.Renamer.{Renaming, behind}
use Rattle.mk_lines.specs.Parsing.{after, into_of, positions_of}
use Rattle.mk_lines.proofs.Steps.{same_some}
use Rattle.mk_bundle.specs.declared.draft.Stage.{Stage}
use Rattle.mk_bundle.specs.declared.draft.Stage.TheVariants.{Version, Field, Order, Secrets, Publics, Upper, Lower, Ended}
use Rattle.mk_bundle.specs.declared.notes.Form.{Form}
use Rattle.mk_bundle.specs.declared.notes.Form.TheVariants as form
use Rattle.mk_bundle.specs.declared.event.Event.{Event}
use Rattle.mk_bundle.specs.declared.event.Event.TheVariants as event
use Rattle.mk_bundle.specs.Events.{events_at}
use Rattle.mk_bundle.specs.Reading.{headed}
use Rattle.mk_bundle.specs.RegisterReading.{RegisterState}
use Rattle.mk_bundle.specs.Versions.{Partial, Positions, Registers, register_code, events_so_far}
use Rattle.mk_bundle.specs.Counting.{Seen, Counted, version_counted, order_counted, map_counted, cert_counted, counted_at}
use Rattle.mk_bundle.specs.Noting.{Noted, Noting, noted, form_of, form_unless, at_end, refusal_in, keep, first_noted, registers_noted, front_noted, upper_noted, form_behind, instr_event, form_behind_out, out_event, register_counts, register_instr_noted, register_out_noted, register_lower_noted, position_noted, register_noted, line_noted}
use Rattle.mk_bundle.proofs.RegisterSound.{GoodRegisters, IsBlankAt}
use Rattle.mk_bundle.proofs.Reaching.{GoodSoFar}
use Rattle.mk_bundle.proofs.Marking.{if_bind, if_chosen, if_behind}

-- ---- one line

-- an event that isn't the last one comes only where nothing was refused
abbrev Renames : Option Event → Form → Type 0
Renames told f = (e : Event) → told ≡ Some e → (e ≡ event.End → ⊥) → refusal_in f ≡ None

-- the same of what is noted and an event
abbrev Clean : Noted × Option Event → Type 0
Clean x = Renames x.1 x.0.form

-- no event
none_told : (f : Form) → Renames None f
none_told f = λ e is other. absurd cc

-- the last event
last_told : (f : Form) → Renames (Some event.End) f
last_told f = λ e is other. absurd (other (sym (same_some event.End e is)))

-- what the counts give, where nothing was refused
kept : (f : Form) (c : Counted) → refusal_in f ≡ None → IfSome (keep f c) Clean
kept f None none = tt
kept f (Some x) none = λ e is other. none

-- the line of the number of registers
registers_clean : (seen : Seen) (l : List ℕ) → IfSome (registers_noted seen l) Clean
unfolding registers_noted
registers_clean seen l =
    if_bind Clean (headed (codes "registers ") MOST_REGISTERS l) _ (λ n. if_chosen Clean (nat_lt n (inputs_len seen.order seen.secrets seen.publics)) None _ tt (λ e is other. refl))

-- a line between the head and the number of registers
front_clean : (seen : Seen) (l : List ℕ) → IfSome (front_noted seen l) Clean
unfolding front_noted
front_clean seen l =
    if_behind Clean (after (codes "map ") l) (λ words. keep form.Unnumbered (map_counted seen words)) (registers_noted seen l) (λ words. kept form.Unnumbered (map_counted seen words) refl) (registers_clean seen l)

-- a line between the head and the code of version 2
upper_clean : (f : Form) (seen : Seen) (l : List ℕ) → refusal_in f ≡ None → IfSome (upper_noted f seen l) Clean
unfolding upper_noted
upper_clean form.Unnumbered seen l none = front_clean seen l
upper_clean form.Positions seen l none = kept form.Positions (cert_counted seen l) none
upper_clean (form.Renaming s) seen l none = kept (form.Renaming s) (cert_counted seen l) none
upper_clean (form.Refused refusal) seen l none = kept (form.Refused refusal) (cert_counted seen l) none

-- an event that is told unless there is a refusal
unless_clean : (o : Option RegRefusal) (s : Renaming) (told : Event) → Renames (if is_some o then None else Some told) (form_unless o s)
unless_clean None s told = λ e is other. refl
unless_clean (Some refusal) s told = none_told (form.Refused refusal)

-- the event of an instruction over registers
instr_clean : (f : Form) (i : RegInstr) → Renames (instr_event f i) (form_behind f i)
instr_clean form.Positions i = none_told form.Positions
instr_clean form.Unnumbered i = none_told form.Unnumbered
instr_clean (form.Renaming s) i = unless_clean (instr_refusal s.held s.accepted i) (behind s i) (event.Instr (renamed_instr s.held i))
instr_clean (form.Refused refusal) i = none_told (form.Refused refusal)

-- the event of an output over registers
out_clean : (f : Form) (registers : List ℕ) → Renames (out_event f registers) (form_behind_out f registers)
out_clean form.Positions registers = none_told form.Positions
out_clean form.Unnumbered registers = none_told form.Unnumbered
out_clean (form.Renaming s) registers = unless_clean (outs_refusal s.held s.accepted registers) s (event.Out (map (position_in s.held) registers))
out_clean (form.Refused refusal) registers = none_told (form.Refused refusal)

-- a line of code over registers
lower_clean : (f : Form) (seen : Seen) (l : List ℕ) → IfSome (register_lower_noted f seen l) Clean
unfolding register_lower_noted register_out_noted register_instr_noted
lower_clean f seen l =
    if_behind Clean (after (codes "out") l) (register_out_noted f seen) _ outs
    (if_chosen Clean (bytes_eq l (codes "end")) _ (register_instr_noted f seen l) (last_told f) instrs)
  where
    outs : (words : List ℕ) → IfSome (register_out_noted f seen words) Clean
    outs words = if_chosen Clean (nat_lt seen.outs (MOST_INPUTS * (seen.order + 1))) _ None (if_bind Clean (positions_of (seen.order + 1) (2 ^ 32) words) _ (λ registers. out_clean f registers)) tt

    instrs : IfSome (register_instr_noted f seen l) Clean
    instrs = if_bind Clean (into_of l) _ (λ x. if_chosen Clean (register_counts seen x.1) _ None (instr_clean f (into_register x.0 x.1)) tt)

-- any line of version 1, and the first one
position_clean : (stage : Stage) (seen : Seen) (l : List ℕ) → IfSome (position_noted stage seen l) Clean
unfolding position_noted first_noted
position_clean Version seen l = if_chosen Clean (bytes_eq l (codes "mask 2")) _ (keep form.Positions (version_counted seen l)) (none_told form.Unnumbered) (kept form.Positions (version_counted seen l) refl)
position_clean Field seen l = kept form.Positions (counted_at Field seen l) refl
position_clean Order seen l = kept form.Positions (counted_at Order seen l) refl
position_clean Secrets seen l = kept form.Positions (counted_at Secrets seen l) refl
position_clean Publics seen l = kept form.Positions (counted_at Publics seen l) refl
position_clean Upper seen l = kept form.Positions (counted_at Upper seen l) refl
position_clean Lower seen l = kept form.Positions (counted_at Lower seen l) refl
position_clean Ended seen l = tt

-- nothing was refused before the lines of the code
abbrev pub IsEarlyClean : Stage → Form → Type 0
IsEarlyClean stage f = (stage ≡ Lower → ⊥) → (stage ≡ Ended → ⊥) → refusal_in f ≡ None

-- any line of version 2
register_clean : (stage : Stage) (f : Form) (seen : Seen) (l : List ℕ) → IsEarlyClean stage f → IfSome (register_noted stage f seen l) Clean
unfolding register_noted
register_clean Version f seen l early = tt
register_clean Field f seen l early = kept f (counted_at Field seen l) (early (λ e. absurd cc) (λ e. absurd cc))
register_clean Order f seen l early = kept f (order_counted TOP_ORDER seen l) (early (λ e. absurd cc) (λ e. absurd cc))
register_clean Secrets f seen l early = kept f (counted_at Secrets seen l) (early (λ e. absurd cc) (λ e. absurd cc))
register_clean Publics f seen l early = kept f (counted_at Publics seen l) (early (λ e. absurd cc) (λ e. absurd cc))
register_clean Upper f seen l early = upper_clean f seen l (early (λ e. absurd cc) (λ e. absurd cc))
register_clean Lower f seen l early = lower_clean f seen l
register_clean Ended f seen l early = tt

-- any line, by the form
form_clean : (f : Form) (seen : Seen) (l : List ℕ) → IsEarlyClean seen.stage f → IfSome (line_noted (record { seen = seen; form = f }) l) Clean
form_clean form.Positions seen l early = position_clean seen.stage seen l
form_clean form.Unnumbered seen l early = register_clean seen.stage form.Unnumbered seen l early
form_clean (form.Renaming s) seen l early = register_clean seen.stage (form.Renaming s) seen l early
form_clean (form.Refused refusal) seen l early = register_clean seen.stage (form.Refused refusal) seen l early

-- behind a line with an event that isn't the last one nothing was refused
pub told_clean : (n left : Noted) (e : Event) (l : List ℕ) → line_noted n l ≡ Some (left, Some e) → (e ≡ event.End → ⊥) → IsEarlyClean n.seen.stage n.form → refusal_in left.form ≡ None
told_clean n left e l is other early = (subst (λ (noting : Noting). IfSome noting Clean) is (form_clean n.form n.seen l early)) e refl other

-- ---- what was read

-- register code without instructions and outputs isn't refused
nothing_refused : (r : RegListing) → r.instrs ≡ [] → r.outs ≡ [] → refusal_of r ≡ None
unfolding first_refusal outs_refusal
nothing_refused r instrs outs =
    ap (λ (is : List RegInstr). first_refusal (entries_len r) 0 (held_on_entry (entries_len r) r.registers) is r.outs) instrs
    ∙ ap (outs_refusal (held_on_entry (entries_len r) r.registers) 0) outs

-- the form of code that isn't refused has no refusal
form_clean_of : (registers : Option ℕ) (r : RegListing) → refusal_of r ≡ None → refusal_in (form_of registers r) ≡ None
form_clean_of None r none = refl
form_clean_of (Some n) r none = ap (λ (o : Option RegRefusal). refusal_in (form_unless o (at_end r))) none

-- before the lines of the code nothing was refused
pub early_clean : (p : Partial) (untold : List AddMap) → GoodSoFar p → IsEarlyClean (noted p untold).seen.stage (noted p untold).form
early_clean (Positions st) untold good = λ lower ended. refl
early_clean (Registers st) untold good = λ lower ended. form_clean_of st.registers (register_code st) (by st.shared.stage lower ended good.0.blank)
  where
    by : (stage : Stage) → (stage ≡ Lower → ⊥) → (stage ≡ Ended → ⊥) → IsBlankAt stage st.registers (register_code st) st.shared.cert → refusal_of (register_code st) ≡ None
    by Version lower ended blank = nothing_refused (register_code st) blank.instrs blank.outs
    by Field lower ended blank = nothing_refused (register_code st) blank.instrs blank.outs
    by Order lower ended blank = nothing_refused (register_code st) blank.instrs blank.outs
    by Secrets lower ended blank = nothing_refused (register_code st) blank.instrs blank.outs
    by Publics lower ended blank = nothing_refused (register_code st) blank.instrs blank.outs
    by Upper lower ended blank = nothing_refused (register_code st) blank.instrs blank.outs
    by Lower lower ended blank = absurd (lower refl)
    by Ended lower ended blank = absurd (ended refl)

-- where nothing was refused, register code isn't refused
pub clean_runs : (st : RegisterState) (untold : List AddMap) → GoodRegisters st → refusal_in (noted (Registers st) untold).form ≡ None → refusal_of (register_code st) ≡ None
clean_runs st untold good none = by st.shared.stage good.blank
  where
    r : RegListing
    r = register_code st

    numbered : (registers : Option ℕ) → IsSome registers → refusal_in (form_of registers r) ≡ None → refusal_of r ≡ None
    numbered None some none = absurd cc
    numbered (Some n) some none = accepted (refusal_of r) none
      where
        accepted : (o : Option RegRefusal) → refusal_in (form_unless o (at_end r)) ≡ None → o ≡ None
        accepted None none = refl
        accepted (Some refusal) none = absurd cc

    by : (stage : Stage) → IsBlankAt stage st.registers r st.shared.cert → refusal_of r ≡ None
    by Version blank = nothing_refused r blank.instrs blank.outs
    by Field blank = nothing_refused r blank.instrs blank.outs
    by Order blank = nothing_refused r blank.instrs blank.outs
    by Secrets blank = nothing_refused r blank.instrs blank.outs
    by Publics blank = nothing_refused r blank.instrs blank.outs
    by Upper blank = nothing_refused r blank.instrs blank.outs
    by Lower blank = numbered st.registers blank none
    by Ended blank = numbered st.registers blank none

-- code in which nothing was refused has events
pub clean_told : (p : Partial) (untold : List AddMap) → GoodSoFar p → refusal_in (noted p untold).form ≡ None → (all : List Event) × (events_so_far p ≡ Some all)
clean_told (Positions st) untold good none = (events_at st.stage st.code st.cert, refl)
clean_told (Registers st) untold good none = (
  events_at st.shared.stage (renamed (register_code st)) st.shared.cert,
  ap (λ (o : Option RegRefusal). option_map (λ code. events_at st.shared.stage code st.shared.cert) (if is_some o then None else Some (renamed (register_code st)))) (clean_runs st untold good.0 none),
)

-- register code that was refused is refused
pub refused_so : (p : Partial) (untold : List AddMap) (refusal : RegRefusal) → refusal_in (noted p untold).form ≡ Some refusal → (st : RegisterState) × (p ≡ Registers st) × (refusal_of (register_code st) ≡ Some refusal)
refused_so (Positions st) untold refusal is = absurd cc
refused_so (Registers st) untold refusal is = (st, refl, numbered st.registers is)
  where
    r : RegListing
    r = register_code st

    numbered : (registers : Option ℕ) → refusal_in (form_of registers r) ≡ Some refusal → refusal_of r ≡ Some refusal
    numbered None is = absurd cc
    numbered (Some n) is = refused (refusal_of r) is
      where
        refused : (o : Option RegRefusal) → refusal_in (form_unless o (at_end r)) ≡ Some refusal → o ≡ Some refusal
        refused None is = absurd cc
        refused (Some other) is = is
