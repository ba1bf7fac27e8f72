-- The line of an instruction that is read without looking for its end first.
use Rattle.std.proofs.Common.{◌≡◌, ◌≢◌, ℕ, ◌+◌, ◌-◌, ◌<◌, ◌≤◌, true, List, [], ◌∷◌, ◌++◌, length, get_or, Option, Some, None, refl, sym, ap, subst, ◌∙◌, arith, length-append}
use Rattle.mk_code.specs.declared.instr.Instr.{Instr}
use Rattle.mk_code.specs.declared.instr.Instr.TheVariants as instr
use Rattle.mk_lines.specs.Parsing.{after, whole, instr_at, instr_of}
use Rattle.mk_lines.proofs.Feeds.{is_line-instr}
use Rattle.mk_lines.proofs.Steps.{bind_some, same_some, whole_found}
use Rattle.mk_lines.specs.CodeLines.{InstrFits}
use Rattle.mk_lines.proofs.Variants.{instr_words, instr_found, instr_at_found, instr_at_again, instr_again}
use Rattle.mk_bundle.specs.declared.draft.Stage.TheVariants.{Lower, Ended}
use Rattle.mk_bundle.specs.declared.event.Event.TheVariants as event
use Rattle.mk_bundle.specs.Counting.{Seen, instr_counts, instr_counted, lower_counted, counted_at, line_counted}
use Rattle.mk_bundle.specs.declared.draft.Stage.{Stage}
use Rattle.mk_bundle.specs.declared.notes.Form.{Form}
use Rattle.mk_bundle.specs.declared.notes.Form.TheVariants as form
use Rattle.mk_bundle.specs.Noting.{Noted, Noting, keep, position_noted, noted_by, line_noted}
use Rattle.mk_bundle.specs.Taking.{IsInstrLine}
use Rattle.mk_bundle.specs.Reads.{Reader, IsGoing}
use Rattle.mk_bundle.specs.Stepping.{Tells}
use Rattle.mk_bundle.proofs.Stepping.{stepped_told}

-- the words of an instruction are some
some_words : (i : Instr) → 1 ≤ length (instr_words i)
some_words instr.Rnd = omega arith
some_words (instr.Const value) = omega arith
some_words (instr.Copy from) = omega arith
some_words (instr.Add left right) = omega arith
some_words (instr.Mul left right) = omega arith
some_words (instr.Sq from) = omega arith
some_words (instr.Map map from) = omega arith

-- what is read at the front leaves at most the bytes that it was read of
pub instr_leaves : (pending rest : List ℕ) (i : Instr) → instr_at pending ≡ Some (i, rest) → length rest ≤ length pending
instr_leaves pending rest i e = omega (arith, ap length (instr_at_found pending (i, rest) e).0, length-append (instr_words i) rest)

-- an instruction that is read at the front, before a line feed, is the first line
pub instr_line_found : (pending rest : List ℕ) (i : Instr) → instr_at pending ≡ Some (i, rest) → 0 < length rest → get_or rest 0 0 ≡ 10 → IsInstrLine i (length pending - length rest) pending
instr_line_found pending [] i e some feed = absurd (omega (arith, some))
instr_line_found pending (b ∷ behind) i e some feed =
    let found = instr_at_found pending (i, b ∷ behind) e in
    let here : pending ≡ instr_words i ++ 10 ∷ behind = found.0 ∙ ap (λ (c : ℕ). instr_words i ++ c ∷ behind) feed in
    let len : length (instr_words i) ≡ length pending - length (b ∷ behind) = omega (arith, ap length found.0, length-append (instr_words i) (b ∷ behind)) in record {
      line = instr_words i;
      clean = is_line-instr i found.1;
      reads = instr_again i found.1;
      len = len;
      some = omega (arith, len, some_words i);
      behind = behind;
      here = here;
    }

-- where the first line is that of an instruction, it is read at the front
pub instr_line_at : (pending : List ℕ) (i : Instr) (n : ℕ) → (h : IsInstrLine i n pending) → instr_at pending ≡ Some (i, 10 ∷ h.behind)
unfolding instr_of
instr_line_at pending i n h =
    let a = bind_some (instr_at h.line) (λ (x : Instr × List ℕ). whole x) i h.reads in
    let w = whole_found a.0 i a.2 in
    let fits : InstrFits i = subst InstrFits w.0 (instr_at_found h.line a.0 a.1).1 in
    ap instr_at (h.here ∙ ap (λ (l : List ℕ). l ++ 10 ∷ h.behind) (instr_found h.line i h.reads)) ∙ instr_at_again i (10 ∷ h.behind) fits refl

-- where no instruction is read at the front, the first line is none
pub no_instr_read : (pending : List ℕ) → instr_at pending ≡ None → (i : Instr) (n : ℕ) → IsInstrLine i n pending → ⊥
no_instr_read pending e i n h = let never : ◌≡◌ {A = Option (Instr × List ℕ)} None (Some (i, 10 ∷ h.behind)) = sym e ∙ instr_line_at pending i n h in absurd cc

-- where an instruction is read at the front, and no line feed stands behind it, the first line is no instruction's
pub no_feed_behind : (pending rest : List ℕ) (j : Instr) → instr_at pending ≡ Some (j, rest) → (0 < length rest → get_or rest 0 0 ≢ 10) → (i : Instr) (n : ℕ) → IsInstrLine i n pending → ⊥
no_feed_behind pending rest j e other i n h =
    let same : ◌≡◌ {A = Instr × List ℕ} (j, rest) (i, 10 ∷ h.behind) = same_some (j, rest) (i, 10 ∷ h.behind) (sym e ∙ instr_line_at pending i n h) in
    let is : rest ≡ 10 ∷ h.behind = ap (λ (x : Instr × List ℕ). x.1) same in
    let some : 0 < length rest = omega (arith, ap length is) in
    let feed : get_or rest 0 0 ≡ 10 = ap (λ (r : List ℕ). get_or r 0 0) is in
    other some feed

-- the words of an instruction are neither an output nor the end
lower_words : (seen : Seen) (i : Instr) → lower_counted seen (instr_words i) ≡ instr_counted seen (instr_words i)
unfolding lower_counted after
lower_words seen instr.Rnd = refl
lower_words seen (instr.Const value) = refl
lower_words seen (instr.Copy from) = refl
lower_words seen (instr.Add left right) = refl
lower_words seen (instr.Mul left right) = refl
lower_words seen (instr.Sq from) = refl
lower_words seen (instr.Map map from) = refl

-- a line that is read as an instruction, which may stand there, is counted
instr_line_counted : (seen : Seen) (l : List ℕ) (i : Instr) → seen.stage ≡ Lower → instr_of l ≡ Some i → instr_counts seen i ≡ true
    → line_counted seen l ≡ Some (record seen { instrs = seen.instrs + 1 }, Some (event.Instr i))
unfolding counted_at instr_counted
instr_line_counted seen l i lower reads counts =
    let at : line_counted seen l ≡ lower_counted seen l = ap (λ s. counted_at s seen l) lower in
    let words : lower_counted seen l ≡ instr_counted seen l = subst (λ (w : List ℕ). lower_counted seen w ≡ instr_counted seen w) (sym (instr_found l i reads)) (lower_words seen i) in
    let counted : instr_counted seen l ≡ Some (record seen { instrs = seen.instrs + 1 }, Some (event.Instr i)) = rw (reads, counts) refl in
    at ∙ words ∙ counted

-- the same of what is noted
instr_line_noted : (n : Noted) (l : List ℕ) (i : Instr) → n.form ≡ form.Positions → n.seen.stage ≡ Lower → instr_of l ≡ Some i → instr_counts n.seen i ≡ true
    → line_noted n l ≡ Some (record n { seen = record n.seen { instrs = n.seen.instrs + 1 } }, Some (event.Instr i))
unfolding position_noted
instr_line_noted n l i over lower reads counts =
    let left : Seen = record n.seen { instrs = n.seen.instrs + 1 } in
    let by_form : line_noted n l ≡ position_noted n.seen.stage n.seen l = ap (λ (f : Form). noted_by f n.seen l) over in
    let by_stage : position_noted n.seen.stage n.seen l ≡ keep form.Positions (counted_at Lower n.seen l) = ap (λ (s : Stage). position_noted s n.seen l) lower in
    let counted : counted_at Lower n.seen l ≡ Some (left, Some (event.Instr i)) = ap (λ (s : Stage). counted_at s n.seen l) (sym lower) ∙ instr_line_counted n.seen l i lower reads counts in
    by_form ∙ by_stage ∙ ap (keep form.Positions) counted ∙ ap {B = Noting} (λ (f : Form). Some (record { seen = left; form = f }, Some (event.Instr i))) (sym over)

-- a reader that read the line of an instruction over positions answers it
pub instr_told : (old new : Reader) (i : Instr) (n : ℕ) → (h : IsInstrLine i n old.pending) → old.waiting ≡ None → old.noted.form ≡ form.Positions → old.noted.seen.stage ≡ Lower → instr_counts old.noted.seen i ≡ true
    → new ≡ record old { noted = record old.noted { seen = record old.noted.seen { instrs = old.noted.seen.instrs + 1 } }; lines = old.lines + 1; pending = h.behind } → Tells (event.Instr i) old new
instr_told old new i n h free over lower counts is =
    let left : Noted = record old.noted { seen = record old.noted.seen { instrs = old.noted.seen.instrs + 1 } } in
    let some : h.line ≡ [] → ⊥ = λ none. absurd (omega (arith, h.some, h.len, ap length none)) in
    let going : IsGoing old = λ ended. (let never : Lower ≡ Ended = sym lower ∙ ended in absurd cc) in
    let other : left.seen.stage ≡ Ended → ⊥ = λ ended. (let never : Lower ≡ Ended = sym lower ∙ ended in absurd cc) in
    stepped_told old new new left (event.Instr i) (event.Instr i) true h.line h.behind free going h.clean h.here some (instr_line_noted old.noted h.line i over lower h.reads counts) other is (rw lower refl) (refl, refl)
