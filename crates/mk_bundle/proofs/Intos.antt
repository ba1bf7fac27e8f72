-- The line of an instruction over registers that is read without looking for its end first.
use Rattle.std.proofs.Common.{◌≡◌, ◌≢◌, ℕ, ◌+◌, ◌-◌, ◌<◌, ◌≤◌, true, List, [], ◌∷◌, ◌++◌, length, get_or, Option, Some, None, refl, sym, ap, subst, ◌∙◌, arith, length-append}
use Rattle.mk_code.specs.declared.instr.Instr.{Instr}
use Rattle.mk_code.specs.declared.instr.Instr.TheVariants as instr
use Rattle.mk_regs.specs.Form.{into_register}
use Rattle.mk_lines.specs.Parsing.{after, into_at, into_of}
use Rattle.mk_lines.proofs.Feeds.{is_line-into}
use Rattle.mk_lines.proofs.Steps.{same_some}
use Rattle.mk_lines.proofs.Variants.{into_words, into_found, into_at_found, into_at_again, into_again}
use Rattle.mk_bundle.specs.declared.draft.Stage.{Stage}
use Rattle.mk_bundle.specs.declared.draft.Stage.TheVariants.{Lower, Ended}
use Rattle.mk_bundle.specs.declared.event.Event.{Event}
use Rattle.mk_bundle.specs.declared.notes.Form.{Form}
use Rattle.mk_bundle.specs.declared.notes.Form.TheVariants as form
use Rattle.mk_bundle.specs.Counting.{Seen}
use Rattle.mk_bundle.specs.Noting.{Noted, Noting, noted_by, line_noted, register_noted, register_counts, register_lower_noted, register_instr_noted, form_behind, instr_event}
use Rattle.mk_bundle.specs.Taking.{IsIntoLine}
use Rattle.mk_bundle.specs.Reads.{Reader, IsGoing}
use Rattle.mk_bundle.specs.Stepping.{Tells, Passed}
use Rattle.mk_bundle.proofs.Stepping.{stepped_told, stepped_quiet}

-- the words of an instruction that writes a register are some
some_words : (to : ℕ) (i : Instr) → 1 ≤ length (into_words to i)
some_words to instr.Rnd = omega arith
some_words to (instr.Const value) = omega arith
some_words to (instr.Copy from) = omega arith
some_words to (instr.Add left right) = omega arith
some_words to (instr.Mul left right) = omega arith
some_words to (instr.Sq from) = omega arith
some_words to (instr.Map map from) = omega arith

-- what is read at the front leaves at most the bytes that it was read of
pub into_leaves : (pending rest : List ℕ) (x : ℕ × Instr) → into_at pending ≡ Some (x, rest) → length rest ≤ length pending
into_leaves pending rest x e = omega (arith, ap length (into_at_found pending (x, rest) e).0, length-append (into_words x.0 x.1) rest)

-- an instruction that is read at the front, before a line feed, is the first line
pub into_line_found : (pending rest : List ℕ) (x : ℕ × Instr) → into_at pending ≡ Some (x, rest) → 0 < length rest → get_or rest 0 0 ≡ 10 → IsIntoLine x (length pending - length rest) pending
into_line_found pending [] x e some feed = absurd (omega (arith, some))
into_line_found pending (b ∷ behind) x e some feed =
    let found = into_at_found pending (x, b ∷ behind) e in
    let here : pending ≡ into_words x.0 x.1 ++ 10 ∷ behind = found.0 ∙ ap (λ (c : ℕ). into_words x.0 x.1 ++ c ∷ behind) feed in
    let len : length (into_words x.0 x.1) ≡ length pending - length (b ∷ behind) = omega (arith, ap length found.0, length-append (into_words x.0 x.1) (b ∷ behind)) in record {
      line = into_words x.0 x.1;
      clean = is_line-into x.0 x.1 found.1;
      reads = into_again x.0 x.1 found.1;
      len = len;
      some = omega (arith, len, some_words x.0 x.1);
      behind = behind;
      here = here;
    }

-- where the first line is that of an instruction, it is read at the front
into_line_at : (pending : List ℕ) (x : ℕ × Instr) (n : ℕ) → (h : IsIntoLine x n pending) → into_at pending ≡ Some (x, 10 ∷ h.behind)
into_line_at pending x n h =
    let found = into_found h.line x h.reads in
    ap into_at (h.here ∙ ap (λ (l : List ℕ). l ++ 10 ∷ h.behind) found.0) ∙ into_at_again x.0 x.1 (10 ∷ h.behind) found.1 refl

-- where no instruction is read at the front, the first line is none
pub no_into_read : (pending : List ℕ) → into_at pending ≡ None → (x : ℕ × Instr) (n : ℕ) → IsIntoLine x n pending → ⊥
no_into_read pending e x n h = let never : ◌≡◌ {A = Option ((ℕ × Instr) × List ℕ)} None (Some (x, 10 ∷ h.behind)) = sym e ∙ into_line_at pending x n h in absurd cc

-- where an instruction is read at the front, and no line feed stands behind it, the first line is no instruction's
pub no_feed_behind : (pending rest : List ℕ) (y : ℕ × Instr) → into_at pending ≡ Some (y, rest) → (0 < length rest → get_or rest 0 0 ≢ 10) → (x : ℕ × Instr) (n : ℕ) → IsIntoLine x n pending → ⊥
no_feed_behind pending rest y e other x n h =
    let same : ◌≡◌ {A = (ℕ × Instr) × List ℕ} (y, rest) (x, 10 ∷ h.behind) = same_some (y, rest) (x, 10 ∷ h.behind) (sym e ∙ into_line_at pending x n h) in
    let is : rest ≡ 10 ∷ h.behind = ap (λ (r : (ℕ × Instr) × List ℕ). r.1) same in
    let some : 0 < length rest = omega (arith, ap length is) in
    let feed : get_or rest 0 0 ≡ 10 = ap (λ (r : List ℕ). get_or r 0 0) is in
    other some feed

-- the words of an instruction are neither an output nor the end
lower_words : (f : Form) (seen : Seen) (to : ℕ) (i : Instr) → register_lower_noted f seen (into_words to i) ≡ register_instr_noted f seen (into_words to i)
unfolding register_lower_noted after
lower_words f seen to instr.Rnd = refl
lower_words f seen to (instr.Const value) = refl
lower_words f seen to (instr.Copy from) = refl
lower_words f seen to (instr.Add left right) = refl
lower_words f seen to (instr.Mul left right) = refl
lower_words f seen to (instr.Sq from) = refl
lower_words f seen to (instr.Map map from) = refl

-- the form of version 2 chooses its lines
over_registers : (f : Form) (seen : Seen) (l : List ℕ) → (f ≡ form.Positions → ⊥) → noted_by f seen l ≡ register_noted seen.stage f seen l
over_registers form.Positions seen l over = absurd (over refl)
over_registers form.Unnumbered seen l over = refl
over_registers (form.Renaming s) seen l over = refl
over_registers (form.Refused refusal) seen l over = refl

-- what is kept behind this instruction
abbrev pub kept_behind : Noted → ℕ × Instr → Noted
kept_behind n x = record { seen = record n.seen { instrs = n.seen.instrs + 1 }; form = form_behind n.form (into_register x.0 x.1) }

-- a line that is read as an instruction over registers, which may stand there, is noted
into_line_noted : (n : Noted) (l : List ℕ) (x : ℕ × Instr) → (n.form ≡ form.Positions → ⊥) → n.seen.stage ≡ Lower → into_of l ≡ Some x → register_counts n.seen x.1 ≡ true
    → line_noted n l ≡ Some (kept_behind n x, instr_event n.form (into_register x.0 x.1))
unfolding register_noted register_instr_noted
into_line_noted n l x over lower reads counts =
    let by_stage : register_noted n.seen.stage n.form n.seen l ≡ register_lower_noted n.form n.seen l = ap (λ (s : Stage). register_noted s n.form n.seen l) lower in
    let words : register_lower_noted n.form n.seen l ≡ register_instr_noted n.form n.seen l =
    subst (λ (w : List ℕ). register_lower_noted n.form n.seen w ≡ register_instr_noted n.form n.seen w) (sym (into_found l x reads).0) (lower_words n.form n.seen x.0 x.1) in
    let noted : register_instr_noted n.form n.seen l ≡ Some (kept_behind n x, instr_event n.form (into_register x.0 x.1)) = rw (reads, counts) refl in
    over_registers n.form n.seen l over ∙ by_stage ∙ words ∙ noted

-- what a reader is that read the line of an instruction over registers
abbrev pub IsBehindInto : (old new : Reader) (x : ℕ × Instr) (n : ℕ) → IsIntoLine x n old.pending → Type 0
IsBehindInto old new x n h = new ≡ record old { noted = kept_behind old.noted x; lines = old.lines + 1; pending = h.behind }

-- it answers the event of the instruction, if it has one
pub into_told : (old new : Reader) (x : ℕ × Instr) (n : ℕ) (e : Event) → (h : IsIntoLine x n old.pending) → old.waiting ≡ None → (old.noted.form ≡ form.Positions → ⊥) → old.noted.seen.stage ≡ Lower
    → register_counts old.noted.seen x.1 ≡ true → IsBehindInto old new x n h → instr_event old.noted.form (into_register x.0 x.1) ≡ Some e → Tells e old new
into_told old new x n e h free over lower counts is tells =
    let left : Noted = kept_behind old.noted x in
    let some : h.line ≡ [] → ⊥ = λ none. absurd (omega (arith, h.some, h.len, ap length none)) in
    let going : IsGoing old = λ ended. (let never : Lower ≡ Ended = sym lower ∙ ended in absurd cc) in
    let other : left.seen.stage ≡ Ended → ⊥ = λ ended. (let never : Lower ≡ Ended = sym lower ∙ ended in absurd cc) in
    let counted : line_noted old.noted h.line ≡ Some (left, Some e) =
    into_line_noted old.noted h.line x over lower h.reads counts ∙ ap {B = Noting} (λ (t : Option Event). Some (left, t)) tells in
    stepped_told old new new left e e true h.line h.behind free going h.clean h.here some counted other is (rw lower refl) (refl, refl)

-- and goes on where it has none
pub into_quiet : (old new : Reader) (x : ℕ × Instr) (n : ℕ) → (h : IsIntoLine x n old.pending) → old.waiting ≡ None → (old.noted.form ≡ form.Positions → ⊥) → old.noted.seen.stage ≡ Lower
    → register_counts old.noted.seen x.1 ≡ true → IsBehindInto old new x n h → instr_event old.noted.form (into_register x.0 x.1) ≡ None → Passed old new
into_quiet old new x n h free over lower counts is tells =
    let left : Noted = kept_behind old.noted x in
    let some : h.line ≡ [] → ⊥ = λ none. absurd (omega (arith, h.some, h.len, ap length none)) in
    let going : IsGoing old = λ ended. (let never : Lower ≡ Ended = sym lower ∙ ended in absurd cc) in
    let counted : line_noted old.noted h.line ≡ Some (left, None) =
    into_line_noted old.noted h.line x over lower h.reads counts ∙ ap {B = Noting} (λ (t : Option Event). Some (left, t)) tells in
    stepped_quiet old new left h.line h.behind free going h.clean h.here some counted is
