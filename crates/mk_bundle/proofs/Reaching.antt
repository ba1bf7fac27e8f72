-- How far the lines of a text of either version lead, and the line that is named where no text goes on.
use Rattle.std.proofs.Common.{◌≡◌, ℕ, ◌+◌, Bool, true, false, List, [], ◌∷◌, ◌++◌, length, Option, Some, None, refl, sym, ap, subst, ◌∙◌, inl, inr, arith, append_assoc, length-append, if◌then◌else◌}
use Rattle.std.specs.Prelude.{codes, flat_map, bytes_eq}
use Rattle.std.proofs.lemmas.List.{append-nil}
use Rattle.std.proofs.lemmas.Grind.{flat_map-append}
use Rattle.mk_lines.specs.Words.{line, is_line}
use Rattle.mk_lines.specs.Lines.{AreLines, BeginsWith, GoesWellFor, NamesFirst}
use Rattle.mk_lines.specs.Parsing.{◌>>=◌}
use Rattle.mk_lines.proofs.Steps.{bind_some, same_some, passed, is_word}
use Rattle.mk_lines.proofs.ByLines.{All-append, All-back, joined, not_nil, prefix_lines, last_line, goes_well-less, Front}
use Rattle.mk_lines.proofs.Feeds.{first_line, has_feed}
use Rattle.mk_bundle.specs.Text.{text, register_text}
use Rattle.mk_bundle.specs.Pairs.{IsBundleText}
use Rattle.mk_bundle.specs.declared.draft.Stage.{Stage}
use Rattle.mk_bundle.specs.declared.draft.Stage.TheVariants.{Version, Field, Order, Secrets, Publics, Upper, Lower, Ended}
use Rattle.mk_bundle.specs.Reading.{State, start, line_read, lines_read, version_line, read_at}
use Rattle.mk_bundle.specs.RegisterReading.{RegisterState, register_start, register_line_read, register_read_at, register_version_line}
use Rattle.mk_bundle.specs.Versions.{Partial, Positions, Registers, begin, register_opened, opens_registers, partial_read, partials_read, stage_of, register_code}
use Rattle.mk_bundle.proofs.Sound.{at, text_at, line_goes}
use Rattle.mk_bundle.proofs.Complete.{text_runs, bind_same, bind_assoc}
use Rattle.mk_bundle.proofs.Naming.{GoodAt, so_far, text_pair, start_good, completes}
use Rattle.mk_bundle.proofs.Leading.{all_read}
use Rattle.mk_bundle.proofs.RegisterComplete.{behind_cert, register_text_goes}
use Rattle.mk_bundle.proofs.RegisterSound.{register_text_at, register_so_far, GoodRegisters, opened_good, opened_text, register_line_goes, register_completes, register_ended}

-- what was read so far is within the limits; only at the start the version isn't known
abbrev pub GoodSoFar : Partial → Type 0
GoodSoFar (Positions st) = GoodAt st × (st.stage ≡ Version → st ≡ start)
GoodSoFar (Registers st) = GoodRegisters st × (st.shared.stage ≡ Version → ⊥)

-- the text of what was read so far
abbrev pub text_so_far : Partial → List ℕ
text_so_far (Positions st) = so_far st
text_so_far (Registers st) = register_so_far st

-- the text of the pair so far
abbrev pub text_of : Partial → List ℕ
text_of (Positions st) = text st.code st.cert
text_of (Registers st) = register_text (register_code st) st.shared.cert

-- ---- one line

-- what stands behind a line isn't empty
not_empty : (front l : List ℕ) → [] ≡ front ++ line l → ⊥
not_empty front l e = absurd (omega (arith, ap length e, length-append front (line l), length-append l (10 ∷ [])))

-- behind a line the version is known
positions_begun : (st next : State) (l : List ℕ) → so_far next ≡ so_far st ++ line l → next.stage ≡ Version → ⊥
positions_begun st next l more is = not_empty (so_far st) l (sym (ap (λ (s : Stage). text_at s next.code next.cert) is) ∙ more)

-- the line of version 2 stands at the start
opens_there : (stage : Stage) (l : List ℕ) → opens_registers stage l ≡ true → (stage ≡ Version) × (l ≡ codes "mask 2")
opens_there Version l e = (refl, is_word l (codes "mask 2") e)
opens_there Field l e = absurd cc
opens_there Order l e = absurd cc
opens_there Secrets l e = absurd cc
opens_there Publics l e = absurd cc
opens_there Upper l e = absurd cc
opens_there Lower l e = absurd cc
opens_there Ended l e = absurd cc

-- a line that is read leads to what is good, and its text is longer by just that line
partial_goes : (from to : Partial) (l : List ℕ) → GoodSoFar from → partial_read from l ≡ Some to → GoodSoFar to × (text_so_far to ≡ text_so_far from ++ line l)
unfolding partial_read
partial_goes (Positions st) to l good e = by (opens_registers st.stage l) refl e
  where
    by : (b : Bool) → opens_registers st.stage l ≡ b → (if b then Some (Registers register_opened) else (line_read st l >>= λ next. Some (Positions next))) ≡ Some to
        → GoodSoFar to × (text_so_far to ≡ so_far st ++ line l)
    by true opens e =
        let h = opens_there st.stage l opens in
        let first : so_far st ≡ [] = ap so_far (good.1 h.0) in
        let same : register_so_far register_opened ≡ so_far st ++ line l = opened_text ∙ ap line (sym h.1) ∙ ap (λ (x : List ℕ). x ++ line l) (sym first) in
        subst (λ (p : Partial). GoodSoFar p × (text_so_far p ≡ so_far st ++ line l)) (same_some (Registers register_opened) to e) ((opened_good, λ is. absurd cc), same)
    by false opens e =
        let a = bind_some (line_read st l) (λ (next : State). Some (Positions next)) to e in
        let goes = line_goes st.stage st.code st.cert l a.0 good.0 a.1 in
        subst (λ (p : Partial). GoodSoFar p × (text_so_far p ≡ so_far st ++ line l)) (same_some (Positions a.0) to a.2)
        ((goes.good, λ is. absurd (positions_begun st a.0 l goes.more is)), goes.more)
partial_goes (Registers st) to l good e =
    let a = bind_some (register_line_read st l) (λ (next : RegisterState). Some (Registers next)) to e in
    let goes = register_line_goes st a.0 l good.0 a.1 in
    subst (λ (p : Partial). GoodSoFar p × (text_so_far p ≡ register_so_far st ++ line l)) (same_some (Registers a.0) to a.2)
    ((goes.0, λ is. absurd (registers_begun st a.0 l goes.1 is)), goes.1)
  where
    registers_begun : (st next : RegisterState) (l : List ℕ) → register_so_far next ≡ register_so_far st ++ line l → next.shared.stage ≡ Version → ⊥
    registers_begun st next l more is = not_empty (register_so_far st) l (sym (ap (λ (s : Stage). register_text_at s next.registers (register_code next) next.shared.cert) is) ∙ more)

-- ---- lines

-- lines and then more lines are read as all of them are
pub partials_read-append : (p : Partial) (xs ys : List (List ℕ)) → partials_read p (xs ++ ys) ≡ (partials_read p xs >>= λ next. partials_read next ys)
unfolding partials_read
partials_read-append p [] ys = refl
partials_read-append p (x ∷ xs) ys =
    bind_same (partial_read p x) (λ (next : Partial). partials_read next (xs ++ ys)) (λ (next : Partial). partials_read next xs >>= λ last. partials_read last ys) (λ next. partials_read-append next xs ys)
    ∙ sym (bind_assoc (partial_read p x) (λ (next : Partial). partials_read next xs) (λ (last : Partial). partials_read last ys))

-- lines that are read from what is good on lead to what is good, and its text is longer by just these lines
all_go : (lines : List (List ℕ)) (from to : Partial) → GoodSoFar from → partials_read from lines ≡ Some to → GoodSoFar to × (text_so_far to ≡ text_so_far from ++ flat_map line lines)
unfolding partials_read
all_go [] from to good e = subst (λ (p : Partial). GoodSoFar p × (text_so_far p ≡ text_so_far from ++ [])) (same_some from to e) (good, sym (append-nil (text_so_far from)))
all_go (l ∷ lines) from to good e =
    let a = bind_some (partial_read from l) (λ (next : Partial). partials_read next lines) to e in
    let goes = partial_goes from a.0 l good a.1 in
    let others = all_go lines a.0 to goes.0 a.2 in
    (others.0, others.1 ∙ ap (λ (r : List ℕ). r ++ flat_map line lines) goes.1 ∙ append_assoc (text_so_far from) (line l) (flat_map line lines))

-- lines that are read from the start on lead to what is good, and its text is these lines
pub reached : (lines : List (List ℕ)) (p : Partial) → partials_read begin lines ≡ Some p → GoodSoFar p × (text_so_far p ≡ flat_map line lines)
reached lines p e = all_go lines begin p (start_good, λ is. refl) e

-- the text of what was read goes on to that of its pair, which is a bundle text
goes_on : (p : Partial) → GoodSoFar p → Front (text_so_far p) (text_of p) × IsBundleText (text_of p)
goes_on (Positions st) good = (completes st.stage st.code st.cert, inl (st.code, st.cert, (text_pair st good.0, refl)))
goes_on (Registers st) good = (register_completes st good.0, inr (register_code st, st.shared.cert, (good.0.pair, refl)))

-- ---- texts are read

-- the bytes are lines that are read up to the end
record ReadsWhole (bytes : List ℕ) : Type 0 where
  lines : List (List ℕ)
  clean : AreLines lines
  spelled : bytes ≡ flat_map line lines
  last : Partial
  ended : stage_of last ≡ Ended
  read : partials_read begin lines ≡ Some last

-- lines that are read as those of version 1, behind the first one
positions_read : (lines : List (List ℕ)) (st last : State) → (st.stage ≡ Version → ⊥) → GoodAt st → lines_read st lines ≡ Some last → partials_read (Positions st) lines ≡ Some (Positions last)
unfolding lines_read partials_read partial_read
positions_read [] st last begun good e = ap {B = Option Partial} (λ (s : State). Some (Positions s)) (same_some st last e)
positions_read (l ∷ lines) st last begun good e =
    let a = bind_some (line_read st l) (λ (next : State). lines_read next lines) last e in
    let goes = line_goes st.stage st.code st.cert l a.0 good a.1 in
    let closed : opens_registers st.stage l ≡ false = not_open st.stage begun in
    rw (closed, a.1) (positions_read lines a.0 last (positions_begun st a.0 l goes.more) goes.good a.2)
  where
    not_open : (stage : Stage) → (stage ≡ Version → ⊥) → opens_registers stage l ≡ false
    not_open Version begun = absurd (begun refl)
    not_open Field begun = refl
    not_open Order begun = refl
    not_open Secrets begun = refl
    not_open Publics begun = refl
    not_open Upper begun = refl
    not_open Lower begun = refl
    not_open Ended begun = refl

-- lines that are read as those of version 2, behind the first one
registers_read_on : (lines : List (List ℕ)) (st last : RegisterState) → all_read register_line_read st lines ≡ Some last → partials_read (Registers st) lines ≡ Some (Registers last)
unfolding partials_read partial_read
registers_read_on [] st last e = ap {B = Option Partial} (λ (s : RegisterState). Some (Registers s)) (same_some st last e)
registers_read_on (l ∷ lines) st last e =
    let a = bind_some (register_line_read st l) (λ (next : RegisterState). all_read register_line_read next lines) last e in
    rw (a.1) (registers_read_on lines a.0 last a.2)

-- the first stage isn't the last one
first_is_not_last : Version ≡ Ended → ⊥
first_is_not_last e = absurd cc

-- the text of a bundle is read
text_reads : (bytes : List ℕ) → IsBundleText bytes → ReadsWhole bytes
unfolding lines_read partials_read partial_read read_at version_line register_read_at register_version_line
text_reads bytes (inl x) =
    let runs = text_runs x.0 x.1 x.2.0 in record {
      lines = runs.lines;
      clean = runs.clean;
      spelled = x.2.1 ∙ runs.spelled;
      last = Positions (at Ended x.0 x.1);
      ended = refl;
      read = first runs.lines runs.read;
    }
  where
    first : (lines : List (List ℕ)) → lines_read start lines ≡ Some (at Ended x.0 x.1) → partials_read begin lines ≡ Some (Positions (at Ended x.0 x.1))
    first [] e = absurd (first_is_not_last (ap (λ (s : State). s.stage) (same_some start (at Ended x.0 x.1) e)))
    first (l ∷ lines) e =
        let a = bind_some (line_read start l) (λ (next : State). lines_read next lines) (at Ended x.0 x.1) e in
        let goes = line_goes Version start.code start.cert l a.0 start_good a.1 in
        let opened : State = at Field start.code start.cert in
        let h = passed (bytes_eq l (codes "mask 1")) (Some opened) a.0 a.1 in
        let same : opened ≡ a.0 = same_some opened a.0 h.1 in
        let good : GoodAt opened = subst GoodAt (sym same) goes.good in
        let rest : lines_read opened lines ≡ Some (at Ended x.0 x.1) = ap (λ (s : State). lines_read s lines) same ∙ a.2 in
        subst (λ (w : List ℕ). partials_read begin (w ∷ lines) ≡ Some (Positions (at Ended x.0 x.1))) (sym (is_word l (codes "mask 1") h.0))
        (positions_read lines opened (at Ended x.0 x.1) (λ is. absurd cc) good rest)
text_reads bytes (inr x) =
    let leads = register_text_goes x.0 x.1 x.2.0 in record {
      lines = leads.lines;
      clean = leads.clean;
      spelled = x.2.1 ∙ leads.spelled;
      last = Registers ended;
      ended = refl;
      read = first leads.lines leads.read;
    }
  where
    ended : RegisterState
    ended = behind_cert Ended x.0 x.1 x.0.instrs x.0.outs

    first : (lines : List (List ℕ)) → all_read register_line_read register_start lines ≡ Some ended → partials_read begin lines ≡ Some (Registers ended)
    first [] e = absurd (first_is_not_last (ap (λ (s : RegisterState). s.shared.stage) (same_some register_start ended e)))
    first (l ∷ lines) e =
        let a = bind_some (register_line_read register_start l) (λ (next : RegisterState). all_read register_line_read next lines) ended e in
        let h = passed (bytes_eq l (codes "mask 2")) (Some register_opened) a.0 a.1 in
        let same : register_opened ≡ a.0 = same_some register_opened a.0 h.1 in
        let rest : all_read register_line_read register_opened lines ≡ Some ended = ap (λ (s : RegisterState). all_read register_line_read s lines) same ∙ a.2 in
        subst (λ (w : List ℕ). partials_read begin (w ∷ lines) ≡ Some (Registers ended)) (sym (is_word l (codes "mask 2") h.0))
        (registers_read_on lines register_opened ended rest)

-- ---- how far reading came

-- these lines were read, and the rest is left
pub record Progress (bytes rest : List ℕ) (number : ℕ) (p : Partial) : Type 0 where
  pub lines : List (List ℕ)
  pub clean : AreLines lines
  pub parts : bytes ≡ flat_map line lines ++ rest
  pub read : partials_read begin lines ≡ Some p
  pub count : number ≡ length lines + 1

-- no line that stands at the front of the rest is read
abbrev pub Stuck : Partial → List ℕ → Type 0
Stuck p rest = (l behind : List ℕ) → is_line l ≡ true → rest ≡ l ++ 10 ∷ behind → partial_read p l ≡ None

-- one line more that is read brings reading one line further
pub further : (bytes rest l behind : List ℕ) (number : ℕ) (p next : Partial) → Progress bytes rest number p → is_line l ≡ true → rest ≡ l ++ 10 ∷ behind → partial_read p l ≡ Some next → Progress bytes behind (number + 1) next
unfolding partials_read
further bytes rest l behind number p next so clean here e = record {
  lines = so.lines ++ l ∷ [];
  clean = All-append (λ l. is_line l ≡ true) so.lines (l ∷ []) so.clean (clean, tt);
  parts = so.parts ∙ ap (λ (r : List ℕ). flat_map line so.lines ++ r) (here ∙ sym (joined l [] behind)) ∙ sym (append_assoc (flat_map line so.lines) (flat_map line (l ∷ [])) behind)
      ∙ ap (λ (r : List ℕ). r ++ behind) (sym (flat_map-append line so.lines (l ∷ [])));
  read = partials_read-append begin so.lines (l ∷ []) ∙ ap (λ (o : Option Partial). o >>= λ next. partials_read next (l ∷ [])) so.read ∙ ap (λ (o : Option Partial). o >>= λ next. Some next) e;
  count = omega (arith, so.count, length-append so.lines (l ∷ []));
}

-- as far as was read the text goes well
goes_well : (lines : List (List ℕ)) (bytes rest : List ℕ) (p : Partial) → AreLines lines → bytes ≡ flat_map line lines ++ rest → partials_read begin lines ≡ Some p → GoesWellFor IsBundleText (length lines) bytes
goes_well lines bytes rest p clean parts e =
    let h = reached lines p e in
    let all = goes_on p h.0 in
    (lines, clean, refl, (rest, parts), (text_of p, all.1, (all.0.0, all.0.1 ∙ ap (λ (r : List ℕ). r ++ all.0.0) h.1)))

-- the lines that a bundle text begins with are read
read_front : (lines : List (List ℕ)) (whole : List ℕ) → AreLines lines → IsBundleText whole → BeginsWith lines whole → (p : Partial) × (partials_read begin lines ≡ Some p)
read_front lines whole clean is begins =
    let reads = text_reads whole is in
    let h = prefix_lines lines reads.lines begins.0 clean reads.clean (sym reads.spelled ∙ begins.1) in
    let a = bind_some (partials_read begin lines) (λ (next : Partial). partials_read next h.0) reads.last (sym (partials_read-append begin lines h.0) ∙ ap (partials_read begin) (sym h.1) ∙ reads.read) in
    (a.0, a.1)

-- with a line that is not read the text does not go well
no_further : (bytes rest : List ℕ) (number : ℕ) (p : Partial) → Progress bytes rest number p → Stuck p rest → GoesWellFor IsBundleText number bytes → ⊥
unfolding partials_read
no_further bytes rest number p so stuck well =
    let lines = well.0 in
    let front = read_front lines well.4.0 well.1 well.4.1 well.4.2 in
    let last = last_line so.lines lines rest well.3.0 so.clean well.1 (well.2 ∙ so.count) (sym so.parts ∙ well.3.1) in
    let none : partial_read p last.0 ≡ None = stuck last.0 well.3.0 last.3 last.2 in
    let read : partials_read begin lines ≡ None =
    ap (partials_read begin) last.1 ∙ partials_read-append begin so.lines (last.0 ∷ []) ∙ ap (λ (o : Option Partial). o >>= λ next. partials_read next (last.0 ∷ [])) so.read ∙ ap (λ (o : Option Partial). o >>= λ next. Some next) none in
    let never : ◌≡◌ {A = Option Partial} (Some front.0) None = sym front.1 ∙ read in
    absurd (cc)

-- where reading is stuck, the number of the next line is that of the first line that goes wrong
pub names : (bytes rest : List ℕ) (number : ℕ) (p : Partial) → Progress bytes rest number p → Stuck p rest → NamesFirst IsBundleText number bytes
names bytes rest number p so stuck = (
  omega (arith, so.count),
  no_further bytes rest number p so stuck,
  λ m below. goes_well-less IsBundleText m (length so.lines) bytes (omega (arith, so.count, below)) (goes_well so.lines bytes rest p so.clean so.parts so.read),
)

-- a text where reading ends before the last line is no bundle text
pub no_text : (bytes rest : List ℕ) (number : ℕ) (p : Partial) → Progress bytes rest number p → Stuck p rest → (rest ≡ [] → stage_of p ≡ Ended → ⊥) → IsBundleText bytes → ⊥
unfolding partials_read
no_text bytes rest number p so stuck unended is =
    let reads = text_reads bytes is in
    let h = prefix_lines so.lines reads.lines rest so.clean reads.clean (sym reads.spelled ∙ so.parts) in
    let left : partials_read p h.0 ≡ Some reads.last =
    ap (λ (o : Option Partial). o >>= λ next. partials_read next h.0) (sym so.read) ∙ sym (partials_read-append begin so.lines h.0) ∙ ap (partials_read begin) (sym h.1) ∙ reads.read in
    by reads.last reads.ended h.0 (All-back (λ l. is_line l ≡ true) so.lines h.0 (subst AreLines h.1 reads.clean)) left h.2
  where
    by : (last : Partial) → stage_of last ≡ Ended → (more : List (List ℕ)) → AreLines more → partials_read p more ≡ Some last → rest ≡ flat_map line more → ⊥
    by last ended [] clean left is = unended is (ap stage_of (same_some p last left) ∙ ended)
    by last ended (l ∷ more) clean left is =
        let a = bind_some (partial_read p l) (λ (next : Partial). partials_read next more) last left in
        let none : partial_read p l ≡ None = stuck l (flat_map line more) clean.0 (is ∙ append_assoc l (10 ∷ []) (flat_map line more)) in
        let never : ◌≡◌ {A = Option Partial} (Some a.0) None = sym a.1 ∙ none in
        absurd (cc)

-- a text that was read to its end is that of the pair
pub whole_text : (bytes rest : List ℕ) (number : ℕ) (p : Partial) → Progress bytes rest number p → rest ≡ [] → stage_of p ≡ Ended → GoodSoFar p × (bytes ≡ text_of p)
whole_text bytes rest number p so none ended =
    let h = reached so.lines p so.read in
    (h.0, so.parts ∙ ap (λ (r : List ℕ). flat_map line so.lines ++ r) none ∙ append-nil (flat_map line so.lines) ∙ sym h.1 ∙ all p ended)
  where
    all : (p : Partial) → stage_of p ≡ Ended → text_so_far p ≡ text_of p
    all (Positions st) ended = ap (λ (s : Stage). text_at s st.code st.cert) ended
    all (Registers st) ended = register_ended st ended

-- what a line feed or the end of the bytes cuts off
pub stuck_at : (p : Partial) (rest l behind : List ℕ) → is_line l ≡ true → rest ≡ l ++ 10 ∷ behind → partial_read p l ≡ None → Stuck p rest
stuck_at p rest l behind clean here none = λ m left clean_m there. (
    let same = first_line m l left behind clean_m clean (sym there ∙ here) in
    ap (partial_read p) same.0 ∙ none)

-- where a line feed is left, something is left
pub some_left : (rest l behind : List ℕ) → rest ≡ l ++ 10 ∷ behind → rest ≡ [] → ⊥
some_left rest l behind here none = not_nil l behind (sym none ∙ here)

-- where no line feed is left, no line is read
pub stuck_end : (p : Partial) (rest : List ℕ) → is_line rest ≡ true → Stuck p rest
stuck_end p rest clean = λ l behind clean_l here. absurd (has_feed l behind (ap is_line (sym here) ∙ clean))
