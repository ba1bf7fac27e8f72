-- A reader refuses the bytes, or ends.
use Rattle.std.proofs.Common.{◌≡◌, ℕ, ◌+◌, ◌≤◌, true, List, [], ◌∷◌, ◌++◌, length, Option, Some, None, Result, Ok, Err, refl, sym, ap, subst, ◌∙◌, inl, inr, arith, append_assoc, length-append}
use Rattle.std.specs.Prelude.{flat_map, IfSome}
use Rattle.std.proofs.lemmas.List.{append-nil, nil_from_length}
use Rattle.mk_code.specs.Listing.{Listing, IsListing}
use Rattle.mk_regs.proofs.Renames.{renamed-fits}
use Rattle.mk_regs.specs.declared.refusal.RegRefusal.{RegRefusal}
use Rattle.mk_regs.specs.declared.refusal.RegRefusal.TheVariants as unnamed
use Rattle.mk_regs.specs.Renaming.{renamed, refusal_of}
use Rattle.mk_rules.specs.Claimed.{Claimed}
use Rattle.mk_lines.specs.Words.{line, is_line}
use Rattle.mk_lines.specs.Lines.{NamesFirst}
use Rattle.mk_lines.proofs.Steps.{same_some}
use Rattle.mk_bundle.specs.Pairs.{IsBundleOf, IsBundleText, IsRefusedText}
use Rattle.mk_bundle.specs.declared.draft.Stage.{Stage}
use Rattle.mk_bundle.specs.declared.draft.Stage.TheVariants.{Ended}
use Rattle.mk_bundle.specs.declared.event.Event.{Event}
use Rattle.mk_bundle.specs.declared.event.Event.TheVariants as event
use Rattle.mk_bundle.specs.declared.refusal.StreamRefusal.{StreamRefusal}
use Rattle.mk_bundle.specs.declared.refusal.StreamRefusal.TheVariants as refusals
use Rattle.mk_bundle.specs.Events.{events_of, events_at}
use Rattle.mk_bundle.specs.Reading.{read_at}
use Rattle.mk_bundle.specs.RegisterReading.{register_read_at}
use Rattle.mk_bundle.specs.Versions.{Partial, Positions, Registers, stage_of, claimed_of, register_code, partial_read, events_so_far, untold}
use Rattle.mk_bundle.specs.Noting.{Noted, noted, refusal_in}
use Rattle.mk_bundle.specs.Standing.{event_text}
use Rattle.mk_bundle.specs.Taking.{Comes}
use Rattle.mk_bundle.specs.Reads.{Reader, IsGoing, listed, Read, Follows, Misnames, Completes, Denies, Answers, EndsWith, Next}
use Rattle.mk_bundle.specs.Stepping.{GoesWrong, Refused, Grown, Ending, end_of, stream_of}
use Rattle.mk_bundle.proofs.Naming.{text_pair}
use Rattle.mk_bundle.proofs.Reaching.{GoodSoFar, text_of, Stuck, reached, whole_text}
use Rattle.mk_bundle.proofs.Coming.{comes_more, end_kept, end_from}
use Rattle.mk_bundle.proofs.Following.{follows}
use Rattle.mk_bundle.proofs.Refusing.{clean_runs, clean_told, refused_so}
use Rattle.mk_bundle.proofs.Stepping.{progress, stage_kept, none_stand, all_told, wrong_by, wrong_end}

-- ---- bytes that come to a reader

-- bytes that come are taken, and are held
pub reads_more : (old new : Reader) (n : ℕ) (before after : Option (List ℕ)) (taken : List ℕ) (events : List Event) → old.waiting ≡ None → (g : Grown n old new before after) → Read old taken events → Read new (taken ++ g.came) events
reads_more old new n before after taken events free g r = subst (λ (x : Reader). Read x (taken ++ g.came) events) (sym g.held) (record {
  lines = r.lines;
  state = r.state;
  clean = r.clean;
  read = r.read;
  parts = ap (λ (l : List ℕ). l ++ g.came) r.parts ∙ append_assoc (flat_map line r.lines) old.pending g.came;
  number = r.number;
  noted = r.noted;
  told = r.told;
  count = omega (arith, r.count, g.number, length-append taken g.came);
  within = g.within;
  waits = r.waits;
  short = omega (arith, g.short, ap (λ (x : Reader). length x.pending) g.held, ap length (none_stand old.waiting free), length-append (flat_map event_text (listed old.waiting)) (old.pending ++ g.came));
})

-- the same of register code that can't be renamed
misnames_later : (refusal : RegRefusal) (limit : ℕ) (taken came : List ℕ) (before mid after : Option (List ℕ)) → Comes came before mid → Misnames refusal limit (taken ++ came) mid after → Misnames refusal limit taken before after
misnames_later refusal limit taken came before mid after comes h = record {
  came = came ++ h.came;
  comes = comes_more before mid after came h.came comes h.comes;
  within = subst (λ (l : List ℕ). length l ≤ limit) (append_assoc taken came h.came) h.within;
  end = end_from before mid after came comes h.end;
  text = subst (IsRefusedText refusal) (append_assoc taken came h.came) h.text;
}

-- a refusal of bytes that came later is one of all
pub denies_later : (refusal : StreamRefusal) (limit : ℕ) (taken came : List ℕ) (before mid after : Option (List ℕ)) → Comes came before mid → Denies refusal limit (taken ++ came) mid after → Denies refusal limit taken before after
denies_later refusals.Fault limit taken came before mid after comes h = record {
  came = came ++ h.came;
  comes = comes_more before mid after came h.came comes h.comes;
  few = subst (λ (l : List ℕ). length l ≤ limit) (append_assoc taken came h.came) h.few;
}
denies_later refusals.TooLong limit taken came before mid after comes h = record {
  came = came ++ h.came;
  comes = comes_more before mid after came h.came comes h.comes;
  many = omega (arith, h.many, ap length (append_assoc taken came h.came));
}
denies_later (refusals.Form line) limit taken came before mid after comes h = record {
  came = came ++ h.came;
  comes = comes_more before mid after came h.came comes h.comes;
  within = subst (λ (l : List ℕ). length l ≤ limit) (append_assoc taken came h.came) h.within;
  end = end_from before mid after came comes h.end;
  only = λ is. h.only (subst IsBundleText (sym (append_assoc taken came h.came)) is);
  first = subst (NamesFirst IsBundleText line) (append_assoc taken came h.came) h.first;
}
denies_later (refusals.Unset instr) limit taken came before mid after comes h = misnames_later (unnamed.Unset instr) limit taken came before mid after comes h
denies_later (refusals.Register instr) limit taken came before mid after comes h = misnames_later (unnamed.Register instr) limit taken came before mid after comes h
denies_later refusals.Memory limit taken came before mid after comes h = tt

-- what goes wrong goes wrong with more bytes too
pub wrong_more : (lines : ℕ) (taken came : List ℕ) → GoesWrong lines taken → GoesWrong lines (taken ++ came)
wrong_more lines taken came wrong = λ more. (
    let h = wrong (came ++ more) in (
      (λ is. h.0 (subst IsBundleText (append_assoc taken came more) is)),
      subst (NamesFirst IsBundleText (lines + 1)) (sym (append_assoc taken came more)) h.1,
    ))

-- ---- behind the last line

-- no line is read behind the last one
ended_stuck : (p : Partial) (rest : List ℕ) → stage_of p ≡ Ended → Stuck p rest
unfolding partial_read read_at register_read_at
ended_stuck (Positions st) rest ended = λ l behind clean here. rw ended refl
ended_stuck (Registers st) rest ended = λ l behind clean here. rw ended refl

-- bytes behind the last line go wrong
pub wrong_behind : (old : Reader) (taken : List ℕ) (events : List Event) → Read old taken events → old.noted.seen.stage ≡ Ended → 1 ≤ length old.pending → GoesWrong old.lines taken
wrong_behind old taken events r ended some =
    wrong_by old taken events r (λ came. ended_stuck r.state (old.pending ++ came) (sym (stage_kept old taken events r) ∙ ended))
    (λ came none is. absurd (omega (arith, some, ap length none, length-append old.pending came)))

-- the text of a pair, read to its end
whole_pair : (p : Partial) (bytes : List ℕ) (all : List Event) → GoodSoFar p → bytes ≡ text_of p → stage_of p ≡ Ended → refusal_in (noted p (untold p)).form ≡ None → events_so_far p ≡ Some all
    → (code : Listing) × IsBundleOf bytes code (claimed_of p) × (all ≡ events_of code (claimed_of p))
whole_pair (Positions st) bytes all good is ended none some =
    (st.code, inl (text_pair st good.0, is), sym (same_some (events_at st.stage st.code st.cert) all some) ∙ ap (λ (s : Stage). events_at s st.code st.cert) ended)
whole_pair (Registers st) bytes all good is ended none some =
    let runs : refusal_of (register_code st) ≡ None = clean_runs st (untold (Registers st)) good.0 none in
    let told : events_so_far (Registers st) ≡ Some (events_at st.shared.stage (renamed (register_code st)) st.shared.cert) = rw runs refl in (
      renamed (register_code st),
      inr (register_code st, (good.0.pair, is), record { runs = runs; same = refl }),
      sym (same_some (events_at st.shared.stage (renamed (register_code st)) st.shared.cert) all (sym told ∙ some)) ∙ ap (λ (s : Stage). events_at s (renamed (register_code st)) st.shared.cert) ended,
    )

-- where nothing stands behind the last line, and nothing was refused, the bytes are a text of the pair
completes : (old : Reader) (taken : List ℕ) (events : List Event) (before after : Option (List ℕ)) → Read old taken events → old.waiting ≡ None → old.noted.seen.stage ≡ Ended → old.pending ≡ []
    → refusal_in old.noted.form ≡ None → IfSome before (λ rest. after ≡ Some []) → Completes taken events before after
completes old taken events before after r free ended nothing none end =
    let p = r.state in
    let last : stage_of p ≡ Ended = sym (stage_kept old taken events r) ∙ ended in
    let whole = whole_text taken old.pending (old.lines + 1) p (progress old taken events r) nothing last in
    let clean : refusal_in (noted p (untold p)).form ≡ None = ap (λ (n : Noted). refusal_in n.form) (sym r.noted) ∙ none in
    let some = clean_told p (untold p) whole.0 clean in
    let told : events ≡ some.0 = subst (λ (o : Option (List Event)). IfSome o (λ all. events ≡ all)) some.1 (all_told old taken events free r) in
    let pair = whole_pair p taken some.0 whole.0 whole.1 last clean some.1 in
    record { code = pair.0; cert = claimed_of p; gave = told ∙ pair.2; text = pair.1; end = end }

-- where nothing stands behind the last line, and something was refused, the bytes are the text of register code that is refused so
misnames : (refusal : RegRefusal) (old : Reader) (taken : List ℕ) (events : List Event) (before after : Option (List ℕ)) → Read old taken events → old.noted.seen.stage ≡ Ended → old.pending ≡ []
    → refusal_in old.noted.form ≡ Some refusal → Comes [] before after → IfSome before (λ rest. after ≡ Some []) → Misnames refusal old.limit taken before after
misnames refusal old taken events before after r ended nothing refused comes end =
    let p = r.state in
    let last : stage_of p ≡ Ended = sym (stage_kept old taken events r) ∙ ended in
    let whole = whole_text taken old.pending (old.lines + 1) p (progress old taken events r) nothing last in
    let so = refused_so p (untold p) refusal (ap (λ (n : Noted). refusal_in n.form) (sym r.noted) ∙ refused) in
    let good : GoodSoFar (Registers so.0) = subst GoodSoFar so.1 whole.0 in
    let is : taken ≡ text_of (Registers so.0) = whole.1 ∙ ap text_of so.1 in record {
      came = [];
      comes = comes;
      within = omega (arith, r.count, r.within, length-append taken []);
      end = end;
      text = subst (IsRefusedText refusal) (sym (append-nil taken)) (register_code so.0, so.0.shared.cert, (good.0.pair, is), so.2);
    }

-- a refusal of register code as one of a text
denies_so : (refusal : RegRefusal) (limit : ℕ) (taken : List ℕ) (before after : Option (List ℕ)) → Misnames refusal limit taken before after → Denies (stream_of refusal) limit taken before after
denies_so (unnamed.Unset instr) limit taken before after h = h
denies_so (unnamed.Register instr) limit taken before after h = h
denies_so unnamed.Memory limit taken before after h = tt

-- a reader that read the last line, behind which nothing stands, ends with the last event or with that refusal
pub ending_whole : (o : Option RegRefusal) (old new : Reader) (before after : Option (List ℕ)) (taken : List ℕ) (events : List Event) → refusal_in old.noted.form ≡ o → Read old taken events → Read new taken events → new.noted ≡ old.noted → new.limit ≡ old.limit
    → old.waiting ≡ None → old.noted.seen.stage ≡ Ended → old.pending ≡ [] → Comes [] before after → IfSome before (λ rest. after ≡ Some []) → Ending (end_of o) new taken events before after
ending_whole None old new before after taken events form r now same limit free ended nothing comes end =
    (refl, comes, now, ap (λ (n : Noted). refusal_in n.form) same ∙ form, completes old taken events before after r free ended nothing form end)
ending_whole (Some refusal) old new before after taken events form r now same limit free ended nothing comes end =
    denies_so refusal new.limit taken before after (subst (λ (n : ℕ). Misnames refusal n taken before after) (sym limit) (misnames refusal old taken events before after r ended nothing form comes end))

-- a reader that refuses ends so
pub ending_refused : (res : Result Event StreamRefusal) (old new : Reader) (before after : Option (List ℕ)) (taken : List ℕ) (events : List Event) → Refused res old before after → new.limit ≡ old.limit → GoesWrong old.lines taken → old.count ≡ length taken
    → Ending res new taken events before after
ending_refused (Ok e) old new before after taken events h limit wrong count = absurd h
ending_refused (Err refusal) old new before after taken events h limit wrong count = subst (λ (n : ℕ). Denies refusal n taken before after) (sym limit) (h taken wrong count)

-- the same where some bytes came before
pub ending_later : (res : Result Event StreamRefusal) (old new : Reader) (before mid after : Option (List ℕ)) (taken came : List ℕ) (events : List Event) → Comes came before mid → Refused res old mid after → new.limit ≡ old.limit → GoesWrong old.lines (taken ++ came)
    → old.count ≡ length (taken ++ came) → Ending res new taken events before after
ending_later (Ok e) old new before mid after taken came events comes h limit wrong count = absurd h
ending_later (Err refusal) old new before mid after taken came events comes h limit wrong count =
    subst (λ (n : ℕ). Denies refusal n taken before after) (sym limit) (denies_later refusal old.limit taken came before mid after comes (h (taken ++ came) wrong count))

-- ---- what comes next

-- an event that isn't the last one needs no end
other_ends : (e : Event) (taken : List ℕ) (events : List Event) (before after : Option (List ℕ)) → (e ≡ event.End → ⊥) → EndsWith e taken events before after
other_ends (event.Head head) taken events before after other = tt
other_ends (event.Block op) taken events before after other = tt
other_ends (event.Claim value) taken events before after other = tt
other_ends event.Code taken events before after other = tt
other_ends (event.Instr instr) taken events before after other = tt
other_ends (event.Out positions) taken events before after other = tt
other_ends event.End taken events before after other = absurd (other refl)

-- behind an event nothing was refused, and what follows of the events is this
clean_follows : (new : Reader) (taken : List ℕ) (events : List Event) (e : Event) → Read new taken (events ++ e ∷ []) → refusal_in new.noted.form ≡ None → Follows new.limit taken (events ++ e ∷ [])
clean_follows new taken events e read none =
    let p = read.state in
    let some = clean_told p (untold p) (reached read.lines p read.read).0 (ap (λ (n : Noted). refusal_in n.form) (sym read.noted) ∙ none) in
    follows new taken events e read some.0 some.1

-- an event that isn't the last one is answered
pub next_told : (e : Event) (new : Reader) (taken came : List ℕ) (events : List Event) (before after : Option (List ℕ)) → Comes came before after → Read new (taken ++ came) (events ++ e ∷ []) → refusal_in new.noted.form ≡ None → (e ≡ event.End → ⊥)
    → Next (Ok e) new taken events before after
next_told e new taken came events before after comes read none other = record {
  came = came;
  comes = comes;
  read = read;
  follows = clean_follows new (taken ++ came) events e read none;
  ends = other_ends e (taken ++ came) (events ++ e ∷ []) before after other;
}

-- what comes at the end comes next, some bytes having come before
pub next_ending : (res : Result Event StreamRefusal) (new : Reader) (taken came : List ℕ) (events : List Event) (before mid after : Option (List ℕ)) → Comes came before mid
    → Ending res new (taken ++ came) (events ++ event.End ∷ []) mid after → Next res new taken events before after
next_ending (Ok e) new taken came events before mid after comes h =
    let is : event.End ≡ e = sym h.0 in
    subst (λ (x : Event). Next (Ok x) new taken events before after) is
    (let all : Comes (came ++ []) before after = comes_more before mid after came [] comes h.1 in
    let same : taken ++ (came ++ []) ≡ taken ++ came = ap (λ (l : List ℕ). taken ++ l) (append-nil came) in
    let read : Read new (taken ++ (came ++ [])) (events ++ event.End ∷ []) = subst (λ (l : List ℕ). Read new l (events ++ event.End ∷ [])) (sym same) h.2 in record {
      came = came ++ [];
      comes = all;
      read = read;
      follows = clean_follows new (taken ++ (came ++ [])) events event.End read h.3;
      ends = record { code = h.4.code; cert = h.4.cert; gave = h.4.gave; text = subst (λ (l : List ℕ). IsBundleOf l h.4.code h.4.cert) (sym same) h.4.text; end = end_from before mid after came comes h.4.end };
    })
next_ending (Err refusal) new taken came events before mid after comes h = denies_later refusal new.limit taken came before mid after comes h

-- a reader that refuses answers so next
pub next_refused : (res : Result Event StreamRefusal) (old new : Reader) (before mid after : Option (List ℕ)) (taken came : List ℕ) (events : List Event) → Comes came before mid → Refused res old mid after → new.limit ≡ old.limit → GoesWrong old.lines (taken ++ came)
    → old.count ≡ length (taken ++ came) → Next res new taken events before after
next_refused (Ok e) old new before mid after taken came events comes h limit wrong count = absurd h
next_refused (Err refusal) old new before mid after taken came events comes h limit wrong count =
    subst (λ (n : ℕ). Denies refusal n taken before after) (sym limit) (denies_later refusal old.limit taken came before mid after comes (h (taken ++ came) wrong count))

-- where nothing comes any more and no line is whole, the bytes are refused
pub denies_end : (old new : Reader) (line : ℕ) (before after : Option (List ℕ)) (taken : List ℕ) (events : List Event) → is_line old.pending ≡ true → IsGoing old → Read old taken events → Grown 0 old new before after → line ≡ old.lines + 1
    → Denies (refusals.Form line) old.limit taken before after
denies_end old new line before after taken events clean going r grown is =
    let nothing : grown.came ≡ [] = nil_from_length grown.came (omega (arith, grown.number)) in
    let comes : Comes [] before after = subst (λ (l : List ℕ). Comes l before after) nothing grown.comes in
    let wrong = wrong_end old clean going taken events r in record {
      came = [];
      comes = comes;
      within = omega (arith, r.count, r.within, length-append taken []);
      end = end_kept before after (grown.end refl) comes;
      only = λ text_of. wrong.0 (subst IsBundleText (append-nil taken) text_of);
      first = subst (NamesFirst IsBundleText line) (sym (append-nil taken)) (subst (λ (n : ℕ). NamesFirst IsBundleText n taken) (sym is) wrong.1);
    }

-- the code of a bundle fits together
pub bundle_listing : (bytes : List ℕ) (code : Listing) (cert : Claimed) → IsBundleOf bytes code cert → IsListing code
bundle_listing bytes code cert (inl is) = is.0.pair.listing
bundle_listing bytes code cert (inr is) = subst IsListing is.2.same (renamed-fits is.0 is.1.0.listing is.2.runs)

-- the last event comes with the text of the pair
pub last_completes : (e : Event) (new : Reader) (taken : List ℕ) (events : List Event) (before after : Option (List ℕ)) → e ≡ event.End → (h : Answers e new taken events before after) → Completes (taken ++ h.came) (events ++ event.End ∷ []) before after
last_completes e new taken events before after is h = subst (λ (x : Event). EndsWith x (taken ++ h.came) (events ++ x ∷ []) before after) is h.ends

-- where nothing is left, all came
pub all_came : (text came : List ℕ) (after : Option (List ℕ)) → Comes came (Some text) after → after ≡ Some [] → came ≡ text
all_came text came after comes end =
    let none : comes.0 ≡ [] = same_some comes.0 [] (sym comes.2 ∙ end) in
    sym (append-nil came) ∙ ap (λ (l : List ℕ). came ++ l) (sym none) ∙ sym comes.1
