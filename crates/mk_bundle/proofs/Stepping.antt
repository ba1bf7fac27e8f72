-- A reader steps from line to line.
use Rattle.std.proofs.Common.{◌≡◌, ℕ, ◌+◌, ◌-◌, ◌<◌, ◌≤◌, Bool, true, false, List, [], ◌∷◌, ◌++◌, length, drop, Option, Some, None, refl, sym, ap, subst, ◌∙◌, arith, append_assoc, length-append, if◌then◌else◌}
use Rattle.std.specs.Prelude.{flat_map, ◌==◌, IfSome}
use Rattle.std.proofs.lemmas.List.{append-nil}
use Rattle.std.proofs.Math.Seq.{drop-append-add}
use Rattle.mk_field.specs.declared.map.AddMap.{AddMap}
use Rattle.mk_lines.specs.declared.words.TheConstants.{MOST_LINE}
use Rattle.mk_lines.specs.Words.{line, is_line}
use Rattle.mk_lines.specs.Lines.{NamesFirst}
use Rattle.mk_lines.proofs.Steps.{same_some}
use Rattle.mk_bundle.specs.declared.TheConstants.{MOST_HELD}
use Rattle.mk_bundle.specs.Pairs.{IsBundleText}
use Rattle.mk_bundle.specs.declared.draft.Stage.TheVariants.{Ended}
use Rattle.mk_bundle.specs.declared.event.Head.{Head}
use Rattle.mk_bundle.specs.declared.event.Event.{Event}
use Rattle.mk_bundle.specs.declared.event.Event.TheVariants as event
use Rattle.mk_bundle.specs.Events.{has_begun}
use Rattle.mk_bundle.specs.Standing.{event_text}
use Rattle.mk_bundle.specs.Versions.{Partial, Positions, Registers, begin, partial_read, partials_read, stage_of, maps_of, untold, events_so_far, has_begun_so_far}
use Rattle.mk_bundle.specs.Noting.{Noted, Noting, noted, refusal_in, line_noted}
use Rattle.mk_bundle.specs.Reads.{Reader, IsGoing, listed, to_come, IsOfBoth, Read}
use Rattle.mk_bundle.specs.Stepping.{GoesWrong, kept_head, Hands, Passed, Reached, Tells}
use Rattle.mk_bundle.proofs.Reaching.{reached, Progress, Stuck, further, names, no_text, stuck_at, stuck_end}
use Rattle.mk_bundle.proofs.PartialAgreeing.{head_so_far, newly, Outcome, Agrees, line_agrees}
use Rattle.mk_bundle.proofs.Marking.{marked}
use Rattle.mk_bundle.proofs.Owning.{own_line, begun_events}
use Rattle.mk_bundle.proofs.Refusing.{IsEarlyClean, told_clean, early_clean}
use Rattle.mk_bundle.proofs.Short.{partial_short, empty_stuck}

-- ---- both ways of reading

-- what is read by counts is read up to a pair
agrees_some : (p : Partial) (c : Noting) (r : Option Partial) (n : Noted) (told : Option Event) → Agrees p c r → c ≡ Some (n, told) → (next : Partial) × (r ≡ Some next) × Outcome p next told n
agrees_some p None r n told h e = absurd cc
agrees_some p (Some x) None n told h e = absurd h
agrees_some p (Some x) (Some next) n told h e =
    let same : ◌≡◌ {A = Noted × Option Event} x (n, told) = same_some x (n, told) e in
    (next, refl, subst (λ (y : Noted × Option Event). Outcome p next y.1 y.0) same h)

-- what is not read by counts is not read up to a pair
agrees_none : (p : Partial) (c : Noting) (r : Option Partial) → Agrees p c r → c ≡ None → r ≡ None
agrees_none p None None h e = refl
agrees_none p None (Some next) h e = absurd h
agrees_none p (Some x) r h e = absurd cc

-- ---- what is noted

-- the stage
noted_stage : (p : Partial) (maps : List AddMap) → (noted p maps).seen.stage ≡ stage_of p
noted_stage (Positions st) maps = refl
noted_stage (Registers st) maps = refl

-- whether the lines of the maps ended
noted_begun : (p : Partial) (maps : List AddMap) → has_begun (noted p maps).seen.stage (noted p maps).seen.blocks (noted p maps).seen.claims ≡ has_begun_so_far p
noted_begun (Positions st) maps = refl
noted_begun (Registers st) maps = refl

-- the maps are told
noted_told : (p : Partial) (maps : List AddMap) → record (noted p maps) { seen = record (noted p maps).seen { untold = [] } } ≡ noted p []
noted_told (Positions st) maps = refl
noted_told (Registers st) maps = refl

-- the head
noted_head : (p : Partial) (maps : List AddMap) → kept_head (noted p maps).seen ≡ record (head_so_far p) { maps = maps }
noted_head (Positions st) maps = refl
noted_head (Registers st) maps = refl

-- the maps of the head
head_maps : (p : Partial) → record (head_so_far p) { maps = maps_of p } ≡ head_so_far p
head_maps (Positions st) = refl
head_maps (Registers st) = refl

-- ---- the events so far

-- no event more, where there are events
told_same : (o q : Option (List Event)) (es : List Event) → IfSome o (λ all. q ≡ Some all) → IfSome q (λ all. es ≡ all) → IfSome o (λ all. es ≡ all)
told_same None q es h r = tt
told_same (Some all) q es h r = subst (λ (x : Option (List Event)). IfSome x (λ all. es ≡ all)) h r

-- some events more
told_more : (o q : Option (List Event)) (es more : List Event) → IfSome o (λ all. (before : List Event) × (q ≡ Some before) × (all ≡ before ++ more)) → IfSome q (λ all. es ≡ all) → IfSome o (λ all. es ++ more ≡ all)
told_more None q es more h r = tt
told_more (Some all) q es more h r =
    let same : es ≡ h.0 = subst (λ (x : Option (List Event)). IfSome x (λ all. es ≡ all)) h.1 r in
    ap (λ (l : List Event). l ++ more) same ∙ sym h.2

-- equal events
told_equal : (o : Option (List Event)) (es fs : List Event) → es ≡ fs → IfSome o (λ all. es ≡ all) → IfSome o (λ all. fs ≡ all)
told_equal o es fs same h = subst (λ (x : List Event). IfSome o (λ all. x ≡ all)) same h

-- where no event waits, the last one doesn't, nor does another
nothing_waits : (r : Reader) (none : Option Event) → none ≡ None → IfSome none (λ e. IsOfBoth e × (refusal_in r.noted.form ≡ None))
nothing_waits r None free = tt
nothing_waits r (Some e) free = absurd cc

-- no event stands for no lines
pub none_stand : (waiting : Option Event) → waiting ≡ None → flat_map event_text (listed waiting) ≡ []
none_stand waiting free = ap (λ (w : Option Event). flat_map event_text (listed w)) free

-- where no event waits, the bytes that are held are few
few_held : (old : Reader) (taken : List ℕ) (events : List Event) → old.waiting ≡ None → Read old taken events → length old.pending ≤ MOST_HELD
few_held old taken events free r =
    omega (arith, r.short, length-append (flat_map event_text (listed old.waiting)) old.pending)

-- where no event waits, the events are all events of the lines
pub all_told : (old : Reader) (taken : List ℕ) (events : List Event) → old.waiting ≡ None → (r : Read old taken events) → IfSome (events_so_far r.state) (λ all. events ≡ all)
all_told old taken events free r = told_equal (events_so_far r.state) (events ++ listed old.waiting) events (ap (λ (w : Option Event). events ++ listed w) free ∙ append-nil events) r.told

-- ---- before the first line

-- a reader that took nothing
pub reads_nothing : (r : Reader) → r.noted ≡ noted begin [] → r.waiting ≡ None → r.lines ≡ 0 → r.pending ≡ [] → r.count ≡ 0 → Read r [] []
unfolding partials_read
reads_nothing r is free none held nothing = record {
  lines = [];
  state = begin;
  clean = tt;
  read = refl;
  parts = sym held;
  number = none;
  noted = is;
  told = ap listed free;
  count = nothing;
  within = omega (arith, nothing);
  waits = nothing_waits r r.waiting free;
  short = omega (arith, length-append (flat_map event_text (listed r.waiting)) r.pending, ap length (none_stand r.waiting free), ap length held);
}

-- ---- a line that is read

-- how far a reader came
pub progress : (old : Reader) (taken : List ℕ) (events : List Event) → (r : Read old taken events) → Progress taken old.pending (old.lines + 1) r.state
progress old taken events r = record { lines = r.lines; clean = r.clean; parts = r.parts; read = r.read; count = omega (arith, r.number) }

-- one line more
moves : (old : Reader) (taken : List ℕ) (events : List Event) (l behind : List ℕ) (n : Noted) (told : Option Event) → (r : Read old taken events) → is_line l ≡ true → old.pending ≡ l ++ 10 ∷ behind → line_noted old.noted l ≡ Some (n, told)
    → (next : Partial) × Progress taken behind (old.lines + 1 + 1) next × Outcome r.state next told n
moves old taken events l behind n told r clean here e =
    let p = r.state in
    let good = (reached r.lines p r.read).0 in
    let counted : line_noted (noted p (untold p)) l ≡ Some (n, told) = ap (λ (x : Noted). line_noted x l) (sym r.noted) ∙ e in
    let a = agrees_some p (line_noted (noted p (untold p)) l) (partial_read p l) n told (line_agrees p l good) counted in
    (a.0, further taken old.pending l behind (old.lines + 1) p a.0 (progress old taken events r) clean here a.1, a.2)

-- behind a line and its line feed stands what is left
pub behind_line : (pending l behind : List ℕ) → pending ≡ l ++ 10 ∷ behind → drop (length l + 1) pending ≡ behind
behind_line pending l behind here = ap (drop (length l + 1)) here ∙ drop-append-add l (10 ∷ behind) 1

-- what is held behind a line
less_held : (old : Reader) (taken : List ℕ) (events : List Event) (l behind : List ℕ) → old.waiting ≡ None → Read old taken events → old.pending ≡ l ++ 10 ∷ behind → length (flat_map event_text (listed old.waiting) ++ behind) ≤ MOST_HELD
less_held old taken events l behind free r here =
    let own : List ℕ = flat_map event_text (listed old.waiting) in
    omega (arith, few_held old taken events free r, ap length (none_stand old.waiting free), length-append own behind, ap length here, length-append l (10 ∷ behind))

-- a line without an event
pub reads_quiet : (old new : Reader) (n : Noted) (l behind : List ℕ) → old.waiting ≡ None → is_line l ≡ true → old.pending ≡ l ++ 10 ∷ behind → line_noted old.noted l ≡ Some (n, None)
    → new ≡ record old { noted = n; lines = old.lines + 1; pending = behind }
    → (taken : List ℕ) (events : List Event) → Read old taken events → Read new taken events
reads_quiet old new n l behind free clean here e is taken events r =
    let m = moves old taken events l behind n None r clean here e in
    let p = m.1 in
    let now : Reader = record old { noted = n; lines = old.lines + 1; pending = behind } in
    subst (λ (x : Reader). Read x taken events) (sym is) (record {
      lines = p.lines;
      state = m.0;
      clean = p.clean;
      read = p.read;
      parts = p.parts;
      number = omega (arith, p.count);
      noted = m.2.0;
      told = told_same (events_so_far m.0) (events_so_far r.state) (events ++ listed old.waiting) m.2.1 r.told;
      count = r.count;
      within = r.within;
      waits = nothing_waits now old.waiting free;
      short = less_held old taken events l behind free r here;
    })

-- a reader keeps whether the lines of the maps ended
begun_kept : (old : Reader) (taken : List ℕ) (events : List Event) → (r : Read old taken events) → has_begun old.noted.seen.stage old.noted.seen.blocks old.noted.seen.claims ≡ has_begun_so_far r.state
begun_kept old taken events r = ap (λ (n : Noted). has_begun n.seen.stage n.seen.blocks n.seen.claims) r.noted ∙ noted_begun r.state (untold r.state)

-- a line with an event, where the lines of the maps had ended
pub reads_told : (old new : Reader) (n : Noted) (e : Event) (l behind : List ℕ) → old.waiting ≡ None → is_line l ≡ true → old.pending ≡ l ++ 10 ∷ behind → line_noted old.noted l ≡ Some (n, Some e)
    → has_begun old.noted.seen.stage old.noted.seen.blocks old.noted.seen.claims ≡ true → new ≡ record old { noted = n; lines = old.lines + 1; pending = behind }
    → (taken : List ℕ) (events : List Event) → Read old taken events → Read new taken (events ++ e ∷ [])
reads_told old new n e l behind free clean here counted started is taken events r =
    let m = moves old taken events l behind n (Some e) r clean here counted in
    let p = r.state in
    let next = m.0 in
    let so = m.1 in
    let had : has_begun_so_far p ≡ true = sym (begun_kept old taken events r) ∙ started in
    let was : untold p ≡ [] = ap (λ (b : Bool). if b then [] else maps_of p) had in
    let gone : untold next ≡ [] = ap (λ (b : Bool). if b then [] else maps_of next) m.2.1 in
    let more : newly p e ≡ e ∷ [] = ap (λ (b : Bool). if b then e ∷ [] else event.Head (head_so_far p) ∷ e ∷ []) had in
    let now : Reader = record old { noted = n; lines = old.lines + 1; pending = behind } in
    let all : IfSome (events_so_far next) (λ all. events ++ newly p e ≡ all) = told_more (events_so_far next) (events_so_far p) events (newly p e) m.2.3 (all_told old taken events free r) in
    subst (λ (x : Reader). Read x taken (events ++ e ∷ [])) (sym is) (record {
      lines = so.lines;
      state = next;
      clean = so.clean;
      read = so.read;
      parts = so.parts;
      number = omega (arith, so.count);
      noted = m.2.0 ∙ ap (noted next) (was ∙ sym gone);
      told = told_equal (events_so_far next) (events ++ newly p e) ((events ++ e ∷ []) ++ listed old.waiting)
          (ap (λ (x : List Event). events ++ x) more ∙ sym (append-nil (events ++ e ∷ [])) ∙ ap (λ (w : Option Event). (events ++ e ∷ []) ++ listed w) (sym free)) all;
      count = r.count;
      within = r.within;
      waits = nothing_waits now old.waiting free;
      short = less_held old taken events l behind free r here;
    })

-- a line with an event, where the lines of the maps end before it: the head is told, and the event waits
pub reads_head : (old new : Reader) (n : Noted) (e : Event) (l behind : List ℕ) → old.waiting ≡ None → IsGoing old → is_line l ≡ true → old.pending ≡ l ++ 10 ∷ behind → line_noted old.noted l ≡ Some (n, Some e)
    → has_begun old.noted.seen.stage old.noted.seen.blocks old.noted.seen.claims ≡ false → (e ≡ event.End → ⊥)
    → new ≡ record old { noted = record n { seen = record n.seen { untold = [] } }; waiting = Some e; lines = old.lines + 1; pending = behind }
    → (taken : List ℕ) (events : List Event) → Read old taken events → Read new taken (events ++ event.Head (kept_head n.seen) ∷ [])
reads_head old new n e l behind free going clean here counted started differs is taken events r =
    let m = moves old taken events l behind n (Some e) r clean here counted in
    let p = r.state in
    let next = m.0 in
    let so = m.1 in
    let had : has_begun_so_far p ≡ false = sym (begun_kept old taken events r) ∙ started in
    let was : untold p ≡ maps_of p = ap (λ (b : Bool). if b then [] else maps_of p) had in
    let gone : untold next ≡ [] = ap (λ (b : Bool). if b then [] else maps_of next) m.2.1 in
    let more : newly p e ≡ event.Head (head_so_far p) ∷ e ∷ [] = ap (λ (b : Bool). if b then e ∷ [] else event.Head (head_so_far p) ∷ e ∷ []) had in
    let head : kept_head n.seen ≡ head_so_far p =
    ap (λ (x : Noted). kept_head x.seen) m.2.0 ∙ noted_head next (untold p) ∙ ap (λ (h : Head). record h { maps = untold p }) m.2.2 ∙ ap (λ (maps : List AddMap). record (head_so_far p) { maps = maps }) was ∙ head_maps p in
    let own_is = own_line old.noted n e l going started counted in
    let good = (reached r.lines p r.read).0 in
    let early = subst (λ (x : Noted). IsEarlyClean x.seen.stage x.form) (sym r.noted) (early_clean p (untold p) good) in
    let all : IfSome (events_so_far next) (λ all. events ++ newly p e ≡ all) = told_more (events_so_far next) (events_so_far p) events (newly p e) m.2.3 (all_told old taken events free r) in
    subst (λ (x : Reader). Read x taken (events ++ event.Head (kept_head n.seen) ∷ [])) (sym is) (record {
      lines = so.lines;
      state = next;
      clean = so.clean;
      read = so.read;
      parts = so.parts;
      number = omega (arith, so.count);
      noted = ap (λ (x : Noted). record x { seen = record x.seen { untold = [] } }) m.2.0 ∙ noted_told next (untold p) ∙ ap (noted next) (sym gone);
      told = told_equal (events_so_far next) (events ++ newly p e) ((events ++ event.Head (kept_head n.seen) ∷ []) ++ e ∷ [])
          (ap (λ (x : List Event). events ++ x) more ∙ ap (λ (h : Head). events ++ event.Head h ∷ e ∷ []) (sym head) ∙ sym (append_assoc events (event.Head (kept_head n.seen) ∷ []) (e ∷ []))) all;
      count = r.count;
      within = r.within;
      waits = (own_is.0, told_clean old.noted n e l counted differs early);
      short = one (few_held old taken events free r);
    })
  where
    one : length old.pending ≤ MOST_HELD → length (flat_map event_text (e ∷ []) ++ behind) ≤ MOST_HELD
    one few =
        let own : length (event_text e) ≡ length (line l) = ap length (own_line old.noted n e l going started counted).1 in
        omega (arith, few, own, length-append (event_text e ++ []) behind, length-append (event_text e) [], length-append l (10 ∷ []), ap length here, length-append l (10 ∷ behind))

-- the event that waits is answered
pub reads_waiting : (old new : Reader) (e : Event) → old.waiting ≡ Some e → new ≡ record old { waiting = None } → (taken : List ℕ) (events : List Event) → Read old taken events → Read new taken (events ++ e ∷ [])
reads_waiting old new e waits is taken events r =
    subst (λ (x : Reader). Read x taken (events ++ e ∷ [])) (sym is) (record {
      lines = r.lines;
      state = r.state;
      clean = r.clean;
      read = r.read;
      parts = r.parts;
      number = r.number;
      noted = r.noted;
      told = told_equal (events_so_far r.state) (events ++ listed old.waiting) ((events ++ e ∷ []) ++ []) (ap (λ (w : Option Event). events ++ listed w) waits ∙ sym (append-nil (events ++ e ∷ []))) r.told;
      count = r.count;
      within = r.within;
      waits = tt;
      short = omega (arith, r.short, length-append (flat_map event_text (listed old.waiting)) old.pending);
    })

-- an event of both versions isn't the last one
pub not_last : (e : Event) → IsOfBoth e → e ≡ event.End → ⊥
not_last (event.Block op) is last = absurd cc
not_last (event.Claim value) is last = absurd cc
not_last event.Code is last = absurd cc
not_last (event.Head head) is last = absurd is
not_last (event.Instr instr) is last = absurd is
not_last (event.Out positions) is last = absurd is
not_last event.End is last = absurd is

-- where an event waits, nothing was refused
pub waiting_clean : (old : Reader) (e : Event) (taken : List ℕ) (events : List Event) → old.waiting ≡ Some e → Read old taken events → IsOfBoth e × (refusal_in old.noted.form ≡ None)
waiting_clean old e taken events waits r = subst (λ (w : Option Event). IfSome w (λ e. IsOfBoth e × (refusal_in old.noted.form ≡ None))) waits r.waits

-- ---- lines that are not read

-- the stage of a reader
pub stage_kept : (old : Reader) (taken : List ℕ) (events : List Event) → (r : Read old taken events) → old.noted.seen.stage ≡ stage_of r.state
stage_kept old taken events r = ap (λ (n : Noted). n.seen.stage) r.noted ∙ noted_stage r.state (untold r.state)

-- where no line at the front is read, whatever comes behind, no bundle text goes on
pub wrong_by : (old : Reader) (taken : List ℕ) (events : List Event) → (r : Read old taken events) → ((came : List ℕ) → Stuck r.state (old.pending ++ came)) → ((came : List ℕ) → old.pending ++ came ≡ [] → stage_of r.state ≡ Ended → ⊥) → GoesWrong old.lines taken
wrong_by old taken events r stuck unended = λ came. (
    let p = r.state in
    let so : Progress (taken ++ came) (old.pending ++ came) (old.lines + 1) p =
    record { lines = r.lines; clean = r.clean; parts = ap (λ (l : List ℕ). l ++ came) r.parts ∙ append_assoc (flat_map line r.lines) old.pending came; read = r.read; count = omega (arith, r.number) } in (
      no_text (taken ++ came) (old.pending ++ came) (old.lines + 1) p so (stuck came) (unended came),
      names (taken ++ came) (old.pending ++ came) (old.lines + 1) p so (stuck came),
    ))

-- a reader that goes on isn't at the end
going_on : (old : Reader) (taken : List ℕ) (events : List Event) → (r : Read old taken events) → IsGoing old → (came : List ℕ) → old.pending ++ came ≡ [] → stage_of r.state ≡ Ended → ⊥
going_on old taken events r going came none ended = going (stage_kept old taken events r ∙ ended)

-- the first line isn't read
pub wrong_line : (old : Reader) (l behind : List ℕ) → is_line l ≡ true → old.pending ≡ l ++ 10 ∷ behind → IsGoing old → line_noted old.noted l ≡ None
    → (taken : List ℕ) (events : List Event) → Read old taken events → GoesWrong old.lines taken
wrong_line old l behind clean here going e taken events r =
    let p = r.state in
    let good = (reached r.lines p r.read).0 in
    let counted : line_noted (noted p (untold p)) l ≡ None = ap (λ (n : Noted). line_noted n l) (sym r.noted) ∙ e in
    let none : partial_read p l ≡ None = agrees_none p (line_noted (noted p (untold p)) l) (partial_read p l) (line_agrees p l good) counted in
    wrong_by old taken events r (λ came. stuck_at p (old.pending ++ came) l (behind ++ came) clean (ap (λ (b : List ℕ). b ++ came) here ∙ append_assoc l (10 ∷ behind) came) none) (going_on old taken events r going)

-- the first line is empty
pub wrong_empty : (old : Reader) (l behind : List ℕ) → is_line l ≡ true → old.pending ≡ l ++ 10 ∷ behind → IsGoing old → l ≡ []
    → (taken : List ℕ) (events : List Event) → Read old taken events → GoesWrong old.lines taken
wrong_empty old l behind clean here going e taken events r =
    let p = r.state in
    let none : partial_read p l ≡ None = ap (partial_read p) e ∙ empty_stuck p in
    wrong_by old taken events r (λ came. stuck_at p (old.pending ++ came) l (behind ++ came) clean (ap (λ (b : List ℕ). b ++ came) here ∙ append_assoc l (10 ∷ behind) came) none) (going_on old taken events r going)

-- a line that begins with bytes in which no line feed stands is at least as long
front_long : (p c l b : List ℕ) → is_line p ≡ true → p ++ c ≡ l ++ 10 ∷ b → length p ≤ length l
front_long [] c l b clean e = omega arith
front_long (x ∷ p) c [] b clean e = absurd (feed x p c b clean e)
  where
    feed : (x : ℕ) (p c b : List ℕ) → is_line (x ∷ p) ≡ true → (x ∷ p) ++ c ≡ 10 ∷ b → ⊥
    feed x p c b clean e = let is : x ≡ 10 = cc in absurd (no_feed x p is clean)
      where
        no_feed : (x : ℕ) (p : List ℕ) → x ≡ 10 → is_line (x ∷ p) ≡ true → ⊥
        no_feed x p is clean = let fed : is_line (10 ∷ p) ≡ true = subst (λ (y : ℕ). is_line (y ∷ p) ≡ true) is clean in absurd cc
front_long (x ∷ p) c (y ∷ l) b clean e =
    let tails : p ++ c ≡ l ++ 10 ∷ b = cc in
    let rest : is_line p ≡ true = unfed (x == 10) (is_line p) clean in
    omega (arith, front_long p c l b rest tails)
  where
    unfed : (t r : Bool) → (if t then false else r) ≡ true → r ≡ true
    unfed true r e = absurd cc
    unfed false r e = e

-- the first line is long
pub wrong_long : (old : Reader) → is_line old.pending ≡ true → MOST_LINE ≤ length old.pending → IsGoing old → (taken : List ℕ) (events : List Event) → Read old taken events → GoesWrong old.lines taken
wrong_long old clean long going taken events r =
    wrong_by old taken events r (λ came l behind clean_l here. by l (front_long old.pending came l behind clean here) (partial_read r.state l) refl) (going_on old taken events r going)
  where
    by : (l : List ℕ) → length old.pending ≤ length l → (o : Option Partial) → o ≡ partial_read r.state l → partial_read r.state l ≡ None
    by l le None e = sym e
    by l le (Some next) e = absurd (omega (arith, le, long, partial_short r.state next l (reached r.lines r.state r.read).0 (sym e)))

-- no line is whole, and nothing comes any more
pub wrong_end : (old : Reader) → is_line old.pending ≡ true → IsGoing old → (taken : List ℕ) (events : List Event) → Read old taken events → (IsBundleText taken → ⊥) × NamesFirst IsBundleText (old.lines + 1) taken
wrong_end old clean going taken events r =
    let p = r.state in
    let so = progress old taken events r in
    let stuck : Stuck p old.pending = stuck_end p old.pending clean in
    (no_text taken old.pending (old.lines + 1) p so stuck (λ none ended. going (stage_kept old taken events r ∙ ended)), names taken old.pending (old.lines + 1) p so stuck)

-- ---- what a step does

-- bytes that are some
some_long : (l : List ℕ) → (l ≡ [] → ⊥) → 1 ≤ length l
some_long [] some = absurd (some refl)
some_long (b ∷ l) some = omega arith

-- how much is to come behind a line
less_left : (old new : Reader) (l behind : List ℕ) → (l ≡ [] → ⊥) → old.waiting ≡ None → old.pending ≡ l ++ 10 ∷ behind → new.pending ≡ behind → new.count ≡ old.count → new.limit ≡ old.limit → length (listed new.waiting) ≤ 1
    → to_come new < to_come old
less_left old new l behind some free here pending count limit one =
    let none : length (listed old.waiting) ≡ 0 = ap (λ (w : Option Event). length (listed w)) free in
    let same : new.limit - new.count ≡ old.limit - old.count = rw (count, limit) refl in
    omega (arith, none, same, ap length here, ap length pending, length-append l (10 ∷ behind), some_long l some, one)

-- a line without an event
pub stepped_quiet : (old new : Reader) (n : Noted) (l behind : List ℕ) → old.waiting ≡ None → IsGoing old → is_line l ≡ true → old.pending ≡ l ++ 10 ∷ behind → (l ≡ [] → ⊥) → line_noted old.noted l ≡ Some (n, None)
    → new ≡ record old { noted = n; lines = old.lines + 1; pending = behind } → Passed old new
stepped_quiet old new n l behind free going clean here some counted is =
    let waits : new.waiting ≡ None = ap (λ (r : Reader). r.waiting) is ∙ free in record {
      going = λ ended. marked old.noted n None l going counted (sym (ap (λ (r : Reader). r.noted.seen.stage) is) ∙ ended);
      limit = ap (λ (r : Reader). r.limit) is;
      waiting = waits;
      fewer = less_left old new l behind some free here (ap (λ (r : Reader). r.pending) is) (ap (λ (r : Reader). r.count) is) (ap (λ (r : Reader). r.limit) is)
          (let none : length (listed new.waiting) ≡ 0 = ap (λ (w : Option Event). length (listed w)) waits in omega (arith, none));
      read = reads_quiet old new n l behind free clean here counted is;
    }

-- the last line, with its event
pub stepped_last : (old new : Reader) (n : Noted) (e : Event) (l behind : List ℕ) → old.waiting ≡ None → IsGoing old → is_line l ≡ true → old.pending ≡ l ++ 10 ∷ behind → (l ≡ [] → ⊥) → line_noted old.noted l ≡ Some (n, Some e)
    → n.seen.stage ≡ Ended → new ≡ record old { noted = n; lines = old.lines + 1; pending = behind } → Reached old new
stepped_last old new n e l behind free going clean here some counted ended is =
    let waits : new.waiting ≡ None = ap (λ (r : Reader). r.waiting) is ∙ free in
    let last : e ≡ event.End = (marked old.noted n (Some e) l going counted).1 ended in
    let started = begun_events old.noted n e l counted ended in record {
      limit = ap (λ (r : Reader). r.limit) is;
      waiting = waits;
      fewer = less_left old new l behind some free here (ap (λ (r : Reader). r.pending) is) (ap (λ (r : Reader). r.count) is) (ap (λ (r : Reader). r.limit) is)
          (let none : length (listed new.waiting) ≡ 0 = ap (λ (w : Option Event). length (listed w)) waits in omega (arith, none));
      ended = ap (λ (r : Reader). r.noted.seen.stage) is ∙ ended;
      read = λ taken events r. subst (λ (x : Event). Read new taken (events ++ x ∷ [])) last (reads_told old new n e l behind free clean here counted started is taken events r);
    }

-- where nothing was refused before the code, nothing is behind a line with an event
reads_clean : (old : Reader) (n : Noted) (e : Event) (l : List ℕ) → line_noted old.noted l ≡ Some (n, Some e) → (e ≡ event.End → ⊥) → (taken : List ℕ) (events : List Event) → Read old taken events → refusal_in n.form ≡ None
reads_clean old n e l counted differs taken events r =
    told_clean old.noted n e l counted differs (subst (λ (x : Noted). IsEarlyClean x.seen.stage x.form) (sym r.noted) (early_clean r.state (untold r.state) (reached r.lines r.state r.read).0))

-- an event that isn't the last one, or the head before it
pub stepped_told : (old mid new : Reader) (n : Noted) (e first : Event) (b : Bool) (l behind : List ℕ) → old.waiting ≡ None → IsGoing old → is_line l ≡ true → old.pending ≡ l ++ 10 ∷ behind → (l ≡ [] → ⊥) → line_noted old.noted l ≡ Some (n, Some e)
    → (n.seen.stage ≡ Ended → ⊥) → mid ≡ record old { noted = n; lines = old.lines + 1; pending = behind } → has_begun old.noted.seen.stage old.noted.seen.blocks old.noted.seen.claims ≡ b → Hands b e first mid new → Tells first old new
stepped_told old mid new n e first true l behind free going clean here some counted other is started hands =
    let now : new ≡ record old { noted = n; lines = old.lines + 1; pending = behind } = hands.1 ∙ is in
    let waits : new.waiting ≡ None = ap (λ (r : Reader). r.waiting) now ∙ free in
    let differs : e ≡ event.End → ⊥ = λ last. other ((marked old.noted n (Some e) l going counted).0 last) in record {
      going = λ ended. other (sym (ap (λ (r : Reader). r.noted.seen.stage) now) ∙ ended);
      renames = λ taken events r. ap (λ (x : Reader). refusal_in x.noted.form) now ∙ reads_clean old n e l counted differs taken events r;
      other = λ last. differs (sym hands.0 ∙ last);
      limit = ap (λ (r : Reader). r.limit) now;
      fewer = less_left old new l behind some free here (ap (λ (r : Reader). r.pending) now) (ap (λ (r : Reader). r.count) now) (ap (λ (r : Reader). r.limit) now)
          (let none : length (listed new.waiting) ≡ 0 = ap (λ (w : Option Event). length (listed w)) waits in omega (arith, none));
      read = λ taken events r. subst (λ (x : Event). Read new taken (events ++ x ∷ [])) (sym hands.0) (reads_told old new n e l behind free clean here counted started now taken events r);
    }
stepped_told old mid new n e first false l behind free going clean here some counted other is started hands =
    let now : new ≡ record old { noted = record n { seen = record n.seen { untold = [] } }; waiting = Some e; lines = old.lines + 1; pending = behind } =
    hands.1 ∙ ap (λ (r : Reader). record r { waiting = Some e; noted = record r.noted { seen = record r.noted.seen { untold = [] } } }) is in
    let head : first ≡ event.Head (kept_head n.seen) = hands.0 ∙ ap (λ (r : Reader). event.Head (kept_head r.noted.seen)) is in
    let differs : e ≡ event.End → ⊥ = λ last. other ((marked old.noted n (Some e) l going counted).0 last) in record {
      going = λ ended. other (sym (ap (λ (r : Reader). r.noted.seen.stage) now) ∙ ended);
      renames = λ taken events r. ap (λ (x : Reader). refusal_in x.noted.form) now ∙ reads_clean old n e l counted differs taken events r;
      other = λ last. (let never : event.Head (kept_head n.seen) ≡ event.End = sym head ∙ last in absurd cc);
      limit = ap (λ (r : Reader). r.limit) now;
      fewer = less_left old new l behind some free here (ap (λ (r : Reader). r.pending) now) (ap (λ (r : Reader). r.count) now) (ap (λ (r : Reader). r.limit) now)
          (let one : length (listed new.waiting) ≡ 1 = ap (λ (r : Reader). length (listed r.waiting)) now in omega (arith, one));
      read = λ taken events r. subst (λ (x : Event). Read new taken (events ++ x ∷ [])) (sym head) (reads_head old new n e l behind free going clean here counted started differs now taken events r);
    }
