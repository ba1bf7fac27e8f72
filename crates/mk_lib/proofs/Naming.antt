-- The line that is named, and texts that differ.
use Rattle.std.proofs.Common.{◌≡◌, ℕ, ◌+◌, ◌≤◌, true, List, [], ◌∷◌, ◌++◌, length, Option, Some, None, refl, sym, ap, subst, ◌∙◌, arith, append_assoc, length-append}
use Rattle.std.specs.Prelude.{flat_map}
use Rattle.std.proofs.lemmas.List.{append-nil}
use Rattle.std.proofs.lemmas.Grind.{flat_map-append}
use Rattle.mk_pad.specs.Form.{GadgetForm}
use Rattle.mk_lines.specs.Words.{line, is_line}
use Rattle.mk_lines.specs.Lines.{AreLines, GoesWellFor, NamesFirst}
use Rattle.mk_lines.proofs.Feeds.{first_line, has_feed}
use Rattle.mk_lib.specs.Texts.{IsTextOf, IsGadgetText, TextsDiffer}
use Rattle.mk_lib.specs.declared.draft.Stage.{Stage}
use Rattle.mk_lib.specs.declared.draft.Stage.TheVariants.{Ended}
use Rattle.mk_lib.specs.Reading.{State, start, IsGood}
use Rattle.mk_lines.proofs.ByLines.{All-append, All-back, not_nil, prefix_lines, last_line, few_lines, goes_well-less}
use Rattle.mk_lib.proofs.Form.{at, ended_form}
use Rattle.mk_lib.proofs.Sound.{text_at, goes, completes}
use Rattle.mk_lib.proofs.Complete.{step, Runs, Runs-append, Runs-rest, begun_good, text_leads}

-- these lines were read, and the rest is left
pub record Progress (bytes rest : List ℕ) (number : ℕ) (st : State) : Type 0 where
  pub lines : List (List ℕ)
  pub clean : AreLines lines
  pub parts : bytes ≡ flat_map line lines ++ rest
  pub runs : Runs start lines st
  pub good : IsGood st
  pub spelled : text_at st.stage st.gadget ≡ flat_map line lines
  pub count : number ≡ length lines + 1

-- no line that stands at the front of the rest goes on
abbrev pub Stuck : State → List ℕ → Type 0
Stuck st rest = (l behind : List ℕ) → is_line l ≡ true → rest ≡ l ++ 10 ∷ behind → (next : State) → step st l ≡ Some next → IsGood next → ⊥

-- before the first line nothing was read and all is left
pub begun : (bytes : List ℕ) → Progress bytes bytes 1 start
begun bytes = record { lines = []; clean = tt; parts = refl; runs = refl; good = begun_good; spelled = refl; count = omega arith }

-- one line more that goes on brings reading one line further
pub further : (bytes rest l behind : List ℕ) (number : ℕ) (st next : State) → Progress bytes rest number st → is_line l ≡ true → rest ≡ l ++ 10 ∷ behind → step st l ≡ Some next → IsGood next → Progress bytes behind (number + 1) next
further bytes rest l behind number st next so clean here e good =
    let longer : flat_map line (so.lines ++ l ∷ []) ≡ flat_map line so.lines ++ line l = flat_map-append line so.lines (l ∷ []) ∙ ap (λ (r : List ℕ). flat_map line so.lines ++ r) (append-nil (line l)) in
    record {
      lines = so.lines ++ l ∷ [];
      clean = All-append (λ l. is_line l ≡ true) so.lines (l ∷ []) so.clean (clean, tt);
      parts = so.parts ∙ ap (λ (r : List ℕ). flat_map line so.lines ++ r) (here ∙ sym (append_assoc l (10 ∷ []) behind)) ∙ sym (append_assoc (flat_map line so.lines) (line l) behind)
          ∙ ap (λ (r : List ℕ). r ++ behind) (sym longer);
      runs = Runs-append start st next so.lines (l ∷ []) so.runs (next, e, good, refl);
      good = good;
      spelled = goes st.stage st.gadget l next so.good e ∙ ap (λ (r : List ℕ). r ++ line l) so.spelled ∙ sym longer;
      count = omega (arith, so.count, length-append so.lines (l ∷ []));
    }

-- the number of the line is small
pub number_small : (bytes rest : List ℕ) (number : ℕ) (st : State) → Progress bytes rest number st → number ≤ length bytes + 1
number_small bytes rest number st so = omega (arith, so.count, few_lines so.lines, ap length so.parts, length-append (flat_map line so.lines) rest)

-- as far as was read the text goes well
goes_well : (bytes rest : List ℕ) (number : ℕ) (st : State) (so : Progress bytes rest number st) → GoesWellFor IsGadgetText (length so.lines) bytes
goes_well bytes rest number st so =
    let all = completes st.stage st.gadget so.good in
    (so.lines, so.clean, refl, (rest, so.parts), (all.0, all.1, (all.2.0, all.2.1 ∙ ap (λ (r : List ℕ). r ++ all.2.0) so.spelled)))

-- the lines behind those that were read lead on to the end of a text that begins with these
leads_on : (bytes rest : List ℕ) (number : ℕ) (st : State) (so : Progress bytes rest number st) (g : GadgetForm) (lines more : List (List ℕ)) → Runs start lines (at Ended g) → lines ≡ so.lines ++ more → Runs st more (at Ended g)
leads_on bytes rest number st so g lines more runs e = Runs-rest start st (at Ended g) so.lines more so.runs (subst (λ (ls : List (List ℕ)). Runs start ls (at Ended g)) e runs)

-- with a line that does not go on the text does not go well
no_further : (bytes rest : List ℕ) (number : ℕ) (st : State) → Progress bytes rest number st → Stuck st rest → GoesWellFor IsGadgetText number bytes → ⊥
no_further bytes rest number st so stuck well =
    let lines = well.0 in
    let text_of = well.4.1 in
    let leads = text_leads text_of.0 text_of.1.0 in
    let h = prefix_lines lines leads.lines well.4.2.0 well.1 leads.clean (sym leads.spelled ∙ sym text_of.1.1 ∙ well.4.2.1) in
    let last = last_line so.lines lines rest well.3.0 so.clean well.1 (well.2 ∙ so.count) (sym so.parts ∙ well.3.1) in
    let split : leads.lines ≡ so.lines ++ last.0 ∷ h.0 = h.1 ∙ ap (λ (ls : List (List ℕ)). ls ++ h.0) last.1 ∙ append_assoc so.lines (last.0 ∷ []) h.0 in
    let on = leads_on bytes rest number st so text_of.0 leads.lines (last.0 ∷ h.0) leads.runs split in
    stuck last.0 well.3.0 last.3 last.2 on.0 on.1 on.2

-- where reading is stuck, the number of the next line is that of the first line that goes wrong
pub names : (bytes rest : List ℕ) (number : ℕ) (st : State) → Progress bytes rest number st → Stuck st rest → NamesFirst IsGadgetText number bytes
names bytes rest number st so stuck = (
  omega (arith, so.count),
  no_further bytes rest number st so stuck,
  λ m below. goes_well-less IsGadgetText m (length so.lines) bytes (omega (arith, so.count, below)) (goes_well bytes rest number st so),
)

-- a text where reading ends before the last line is no gadget text
pub no_text : (bytes rest : List ℕ) (number : ℕ) (st : State) → Progress bytes rest number st → Stuck st rest → (rest ≡ [] → st.stage ≡ Ended → ⊥) → IsGadgetText bytes → ⊥
no_text bytes rest number st so stuck unended text_of =
    let leads = text_leads text_of.0 text_of.1.0 in
    let h = prefix_lines so.lines leads.lines rest so.clean leads.clean (sym leads.spelled ∙ sym text_of.1.1 ∙ so.parts) in
    by h.0 (All-back (λ l. is_line l ≡ true) so.lines h.0 (subst AreLines h.1 leads.clean)) (leads_on bytes rest number st so text_of.0 leads.lines h.0 leads.runs h.1) h.2
  where
    by : (more : List (List ℕ)) → AreLines more → Runs st more (at Ended text_of.0) → rest ≡ flat_map line more → ⊥
    by [] clean same is = unended is (ap (λ (s : State). s.stage) same)
    by (l ∷ more) clean on is = stuck l (flat_map line more) clean.0 (is ∙ append_assoc l (10 ∷ []) (flat_map line more)) on.0 on.1 on.2

-- a text that was read to its end is that of the gadget
pub whole_text : (bytes rest : List ℕ) (number : ℕ) (st : State) → Progress bytes rest number st → rest ≡ [] → st.stage ≡ Ended → IsTextOf bytes st.gadget
whole_text bytes rest number st so none ended = (
  ended_form st so.good ended,
  so.parts ∙ ap (λ (r : List ℕ). flat_map line so.lines ++ r) none ∙ append-nil (flat_map line so.lines) ∙ sym so.spelled ∙ ap (λ (s : Stage). text_at s st.gadget) ended,
)

-- what a line feed or the end of the bytes cuts off
pub stuck_at : (st : State) (rest l behind : List ℕ) → is_line l ≡ true → rest ≡ l ++ 10 ∷ behind → ((next : State) → step st l ≡ Some next → IsGood next → ⊥) → Stuck st rest
stuck_at st rest l behind clean here none = λ m left clean_m there next e good. (
    let same = first_line m l left behind clean_m clean (sym there ∙ here) in
    none next (ap (step st) (sym same.0) ∙ e) good)

-- where a line feed is left, something is left
pub some_left : (rest l behind : List ℕ) → rest ≡ l ++ 10 ∷ behind → rest ≡ [] → ⊥
some_left rest l behind here none = not_nil l behind (sym none ∙ here)

-- where no line feed is left, no line is read
pub stuck_end : (st : State) (rest : List ℕ) → is_line rest ≡ true → Stuck st rest
stuck_end st rest clean = λ l behind clean_l here next e good. has_feed l behind (ap is_line (sym here) ∙ clean)

-- different gadgets have different texts, and no text of a gadget is a proper front of another's
pub differ : TextsDiffer
differ bytes rest g other whole front =
    let leads = text_leads g whole.0 in
    let others = text_leads other front.0 in
    let h = prefix_lines others.lines leads.lines rest others.clean leads.clean (sym leads.spelled ∙ sym whole.1 ∙ ap (λ (r : List ℕ). r ++ rest) (front.1 ∙ others.spelled)) in
    by h.0 (Runs-rest start (at Ended other) (at Ended g) others.lines h.0 others.runs (subst (λ (ls : List (List ℕ)). Runs start ls (at Ended g)) h.1 leads.runs)) h.2
  where
    by : (more : List (List ℕ)) → Runs (at Ended other) more (at Ended g) → rest ≡ flat_map line more → (g ≡ other) × (rest ≡ [])
    by [] same is = (ap (λ (s : State). s.gadget) (sym same), is)
    by (l ∷ more) on is = (let never : ◌≡◌ {A = Option State} None (Some on.0) = on.1 in absurd (cc))
