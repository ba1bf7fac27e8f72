-- How readers of phrases are made by choices.
use Rattle.std.proofs.Common.{◌≡◌, ℕ, Bool, true, false, inl, inr, List, [], ◌∷◌, ◌++◌, Ok, Err, refl, sym, ap, subst, ◌∙◌, cond}
use Rattle.mk_ast.specs.Tokens.{Token}
use Rattle.mk_ast.specs.Phrases.{Phrase, one, made, ◌or◌, ◌and◌, after, until}
use Rattle.mk_parse.specs.Readers.{Reading, Reader, ◌>>=◌, starts, never, fails, skips, ◌next◌, expects, past, ended, chosen}
use Rattle.mk_parse.proofs.ReaderLaws.{Stops, SameHead, Found, Stuck, Reads, BeginsBy, read, refused, ok_same, err_same, cond_ok, cond_err, cond_is, same_head, starts_same, stuck_here, reads_made}
use Rattle.mk_parse.proofs.Joined.{reads_after, reads_and}

-- where more tokens stop what goes on, those that stopped it do
pub stops_weaker : (more goes_on : Token → Bool) → ((t : Token) → more t ≡ false → goes_on t ≡ false) → (ts : List Token) → Stops more ts → Stops goes_on ts
stops_weaker more goes_on h [] s = tt
stops_weaker more goes_on h (t ∷ ts) s = h t s

-- the same reader reads a phrase that spells the same
pub reads_same : {A : Type 0} {reader : Reader A} {phrase other : Phrase A} {goes_on : Token → Bool} → Reads reader phrase goes_on
    → ((ts : List Token) (a : A) → phrase ts a → other ts a) → ((ts : List Token) (a : A) → other ts a → phrase ts a) → Reads reader other goes_on
reads_same reads to from = record {
  found = λ ts a rest e. let found = reads.found ts a rest e in
      record { taken = found.taken; parts = found.parts; spelled = to found.taken a found.spelled; again = found.again };
  only = λ taken a rest spelled stops. reads.only taken a rest (from taken a spelled) stops;
  stuck = λ ts bad e. let stuck = reads.stuck ts bad e in
      record { taken = stuck.taken; parts = stuck.parts; more = stuck.more; value = stuck.value; completed = to (stuck.taken ++ stuck.more) stuck.value stuck.completed; again = stuck.again };
  sample = reads.sample;
  sample_value = reads.sample_value;
  sampled = to reads.sample reads.sample_value reads.sampled;
}

-- and where fewer tokens may follow
pub reads_before : {A : Type 0} {reader : Reader A} {phrase : Phrase A} {goes_on : Token → Bool} (more : Token → Bool) → ((t : Token) → more t ≡ false → goes_on t ≡ false)
    → Reads reader phrase goes_on → Reads reader phrase more
reads_before {goes_on = goes_on} more h reads = record {
  found = reads.found;
  only = λ taken a rest spelled stops. reads.only taken a rest spelled (stops_weaker more goes_on h rest stops);
  stuck = reads.stuck;
  sample = reads.sample;
  sample_value = reads.sample_value;
  sampled = reads.sampled;
}

-- no tokens
abbrev pub empty : {A : Type 0} → A → Phrase A
empty value ts a = (ts ≡ []) × (a ≡ value)

-- a reader that takes nothing reads them
pub reads_empty : {A : Type 0} (value : A) (goes_on : Token → Bool) → Reads (skips value) (empty value) goes_on
reads_empty {A = A} value goes_on = record {
  found = λ ts a rest e.
      let same = ok_same A (value, ts) (a, rest) e in
      let is : value ≡ a = ap (λ (x : A × List Token). x.0) same in
      record { taken = []; parts = ap (λ (x : A × List Token). x.1) same; spelled = (refl, sym is); again = λ other s. ap (λ (v : A). Ok (v, other)) is };
  only = λ taken a rest spelled stops.
      ap (λ (l : List Token). read A (value, l ++ rest)) spelled.0 ∙ ap (λ (v : A). read A (v, rest)) (sym spelled.1);
  stuck = λ ts bad e. absurd cc;
  sample = [];
  sample_value = value;
  sampled = (refl, refl);
}

-- a reader that reads the same
pub reads_by : {A : Type 0} {reader other : Reader A} {phrase : Phrase A} {goes_on : Token → Bool} → ((ts : List Token) → other ts ≡ reader ts)
    → Reads reader phrase goes_on → Reads other phrase goes_on
reads_by same reads = record {
  found = λ ts a rest e. let found = reads.found ts a rest (sym (same ts) ∙ e) in
      record { taken = found.taken; parts = found.parts; spelled = found.spelled; again = λ more s. same (found.taken ++ more) ∙ found.again more s };
  only = λ taken a rest spelled stops. same (taken ++ rest) ∙ reads.only taken a rest spelled stops;
  stuck = λ ts bad e. let stuck = reads.stuck ts bad (sym (same ts) ∙ e) in
      record { taken = stuck.taken; parts = stuck.parts; more = stuck.more; value = stuck.value; completed = stuck.completed; again = λ more s. same (stuck.taken ++ more) ∙ stuck.again more s };
  sample = reads.sample;
  sample_value = reads.sample_value;
  sampled = reads.sampled;
}

-- a word behind a value, by two steps or by one
ended_last : {A : Type 0} (a : A) (r : Reading (Unit {0}))
    → (r >>= (λ y. read A (a, y.1)))
    ≡ (((r >>= (λ x. skips tt x.1)) >>= (λ (y : Unit {0} × List Token). read (A × Unit {0}) ((a, y.0), y.1))) >>= (λ x. read A (x.0.0, x.1)))
ended_last a (Ok x) = refl
ended_last a (Err bad) = refl

-- a value up to a word, by two steps or by one
ended_once : {A : Type 0} (word : List ℕ) (r : Reading A)
    → (r >>= (λ x. expects word x.1 >>= (λ y. read A (x.0, y.1))))
    ≡ ((r >>= (λ x. past word (skips tt) x.1 >>= (λ (y : Unit {0} × List Token). read (A × Unit {0}) ((x.0, y.0), y.1)))) >>= (λ x. read A (x.0.0, x.1)))
ended_once word (Ok x) = ended_last x.0 (expects word x.1)
ended_once word (Err bad) = refl

-- the phrase, and then the word or symbol
module _ {A : Type 0} (word : List ℕ) {reader : Reader A} {phrase : Phrase A} {goes_on : Token → Bool} (reads : Reads reader phrase goes_on)
    (stop : (t : Token) → t.text ≡ word → goes_on t ≡ false) where
  -- a phrase with the word behind it is the phrase up to that word
  until_to : (ts : List Token) (a : A) → made (λ (x : A × Unit {0}). x.0) (phrase and after word (empty tt)) ts a → until word phrase ts a
  until_to ts a h =
      let x = h.0 in
      let last = h.1.4 in
      (h.1.0, last.0, h.1.2 ∙ ap (λ (l : List Token). h.1.0 ++ l) (last.2 ∙ ap (λ (l : List Token). last.0 ∷ l) last.4.0), last.3, subst (phrase h.1.0) (sym h.2) h.1.3)

  -- and the other way round
  until_from : (ts : List Token) (a : A) → until word phrase ts a → made (λ (x : A × Unit {0}). x.0) (phrase and after word (empty tt)) ts a
  until_from ts a h = ((a, tt), (h.0, h.1 ∷ [], h.2, h.4, (h.1, [], refl, h.3, (refl, refl))), refl)

  -- what is read up to a word is the phrase up to it, and any token may follow
  pub reads_until : Reads (ended word reader) (until word phrase) never
  reads_until =
      let closing : Reads (past word (skips tt)) (after word (empty tt)) never = reads_after word (reads_empty tt never) in
      let both : Reads (reader next past word (skips tt)) (phrase and after word (empty tt)) never =
      reads_and reads closing (λ back b rest spelled stops.
      subst (λ (l : List Token). Stops goes_on (l ++ rest)) (sym spelled.2) (stop spelled.0 spelled.3)) in
      reads_same (reads_by (λ ts. ended_once word (reader ts)) (reads_made (λ (x : A × Unit {0}). x.0) both)) until_to until_from

-- a choice by the first token
module _ {A : Type 0} (test : Token → Bool) (more : Token → Bool)
    {first : Reader A} {phrase : Phrase A} {goes_on : Token → Bool} (reads : Reads first phrase goes_on)
    (begins : BeginsBy test phrase) (stop : (t : Token) → more t ≡ false → goes_on t ≡ false) where
  -- where the first token passes, the choice is the first reader
  is_first : (ts : List Token) → starts test ts ≡ true → (second : Reader A) → chosen test first second ts ≡ first ts
  is_first ts e second = ap (λ (b : Bool). cond b (first ts) (second ts)) e

  -- where it fails, the second
  is_second : (ts : List Token) → starts test ts ≡ false → (second : Reader A) → chosen test first second ts ≡ second ts
  is_second ts e second = ap (λ (b : Bool). cond b (first ts) (second ts)) e

  -- what the phrase spells passes the test, whatever stands behind it
  begins_so : (taken : List Token) (a : A) (rest : List Token) → phrase taken a → starts test (taken ++ rest) ≡ true
  begins_so taken a rest spelled =
      let h = begins taken a spelled in
      ap (λ (l : List Token). starts test (l ++ rest)) h.2 ∙ h.3

  -- the test answers the same with other tokens behind that begin as the first ones did
  kept : (ts taken rest other : List Token) (b : Bool) → ts ≡ taken ++ rest → SameHead rest other → starts test ts ≡ b → starts test (taken ++ other) ≡ b
  kept ts taken rest other b parts s e = starts_same test (taken ++ rest) (taken ++ other) (same_head taken rest other s) ∙ ap (starts test) (sym parts) ∙ e

  module _ {second : Reader A} {other_phrase : Phrase A} {other_goes_on : Token → Bool} (others : Reads second other_phrase other_goes_on)
      (apart : (back : List Token) (b : A) (rest : List Token) → other_phrase back b → Stops more rest → starts test (back ++ rest) ≡ false)
      (other_stop : (t : Token) → more t ≡ false → other_goes_on t ≡ false) where
    -- what the choice found is what the reader that it chose found
    or_found : (ts : List Token) (a : A) (rest : List Token) → chosen test first second ts ≡ Ok (a, rest) → Found (chosen test first second) (phrase or other_phrase) ts a rest
    or_found ts a rest e = elim (cond_is (starts test ts) (first ts) (second ts) (Ok (a, rest)) e) [
      | inl h ↦ (
          let found = reads.found ts a rest h.1 in
          record {
            taken = found.taken;
            parts = found.parts;
            spelled = inl found.spelled;
            again = λ other s. is_first (found.taken ++ other) (kept ts found.taken rest other true found.parts s h.0) second ∙ found.again other s;
          })
      | inr h ↦ (
          let found = others.found ts a rest h.1 in
          record {
            taken = found.taken;
            parts = found.parts;
            spelled = inr found.spelled;
            again = λ other s. is_second (found.taken ++ other) (kept ts found.taken rest other false found.parts s h.0) second ∙ found.again other s;
          })
    ]

    -- the choice reads what either phrase spells
    or_only : (taken : List Token) (a : A) (rest : List Token) → (phrase or other_phrase) taken a → Stops more rest → chosen test first second (taken ++ rest) ≡ Ok (a, rest)
    or_only taken a rest spelled stops = elim spelled [
      | inl h ↦ is_first (taken ++ rest) (begins_so taken a rest h) second ∙ reads.only taken a rest h (stops_weaker more goes_on stop rest stops)
      | inr h ↦ is_second (taken ++ rest) (apart taken a rest h stops) second ∙ others.only taken a rest h (stops_weaker more other_goes_on other_stop rest stops)
    ]

    -- the choice is stuck where the reader that it chose is
    or_stuck : (ts bad : List Token) → chosen test first second ts ≡ Err bad → Stuck (chosen test first second) (phrase or other_phrase) ts bad
    or_stuck ts bad e = elim (cond_is (starts test ts) (first ts) (second ts) (Err bad) e) [
      | inl h ↦ (
          let stuck = reads.stuck ts bad h.1 in
          record {
            taken = stuck.taken;
            parts = stuck.parts;
            more = stuck.more;
            value = stuck.value;
            completed = inl stuck.completed;
            again = λ other s. is_first (stuck.taken ++ other) (kept ts stuck.taken bad other true stuck.parts s h.0) second ∙ stuck.again other s;
          })
      | inr h ↦ (
          let stuck = others.stuck ts bad h.1 in
          record {
            taken = stuck.taken;
            parts = stuck.parts;
            more = stuck.more;
            value = stuck.value;
            completed = inr stuck.completed;
            again = λ other s. is_second (stuck.taken ++ other) (kept ts stuck.taken bad other false stuck.parts s h.0) second ∙ stuck.again other s;
          })
    ]

    -- the reader that chooses reads the one phrase or the other
    pub reads_or : Reads (chosen test first second) (phrase or other_phrase) more
    reads_or = record {
      found = or_found;
      only = or_only;
      stuck = or_stuck;
      sample = reads.sample;
      sample_value = reads.sample_value;
      sampled = inl reads.sampled;
    }

  -- a choice with nothing else
  alone_found : (ts : List Token) (a : A) (rest : List Token) → chosen test first fails ts ≡ Ok (a, rest) → Found (chosen test first fails) phrase ts a rest
  alone_found ts a rest e =
      let h = cond_ok (starts test ts) (first ts) ts (a, rest) e in
      let found = reads.found ts a rest h.1 in
      record {
        taken = found.taken;
        parts = found.parts;
        spelled = found.spelled;
        again = λ other s. is_first (found.taken ++ other) (kept ts found.taken rest other true found.parts s h.0) fails ∙ found.again other s;
      }

  -- the choice is stuck at a token that fails the test, or where its reader is
  alone_stuck : (ts bad : List Token) → chosen test first fails ts ≡ Err bad → Stuck (chosen test first fails) phrase ts bad
  alone_stuck ts bad e = elim (cond_err (starts test ts) (first ts) ts bad e) [
    | inl h ↦ (
        let stuck = reads.stuck ts bad h.1 in
        record {
          taken = stuck.taken;
          parts = stuck.parts;
          more = stuck.more;
          value = stuck.value;
          completed = stuck.completed;
          again = λ other s. is_first (stuck.taken ++ other) (kept ts stuck.taken bad other true stuck.parts s h.0) fails ∙ stuck.again other s;
        })
    | inr h ↦ stuck_here (chosen test first fails) phrase ts bad reads.sample reads.sample_value h.1 reads.sampled
        (λ other s. is_second other (starts_same test ts other s ∙ h.0) fails)
  ]

  -- a choice with no other reader reads the phrase
  pub reads_alone : Reads (chosen test first fails) phrase more
  reads_alone = record {
    found = alone_found;
    only = λ taken a rest spelled stops.
        is_first (taken ++ rest) (begins_so taken a rest spelled) fails ∙ reads.only taken a rest spelled (stops_weaker more goes_on stop rest stops);
    stuck = alone_stuck;
    sample = reads.sample;
    sample_value = reads.sample_value;
    sampled = reads.sampled;
  }

-- where the first phrase of a choice is closed
module _ {A : Type 0} (test : Token → Bool) {second : Reader A} {phrase : Phrase A} {goes_on : Token → Bool} (reads : Reads second phrase goes_on)
    (apart : (back : List Token) (a : A) (rest : List Token) → phrase back a → Stops goes_on rest → starts test (back ++ rest) ≡ false) where
  -- where the first token fails, the choice is the second reader
  closed_is : (ts : List Token) → starts test ts ≡ false → chosen test fails second ts ≡ second ts
  closed_is ts e = ap (λ (b : Bool). cond b (refused A ts) (second ts)) e

  -- where it passes, nothing is read
  closed_fails : (ts : List Token) → starts test ts ≡ true → chosen test fails second ts ≡ Err ts
  closed_fails ts e = ap (λ (b : Bool). cond b (refused A ts) (second ts)) e

  -- whether the first token passes is the same with other tokens behind
  kept_closed : (ts taken rest other : List Token) (b : Bool) → ts ≡ taken ++ rest → SameHead rest other → starts test ts ≡ b → starts test (taken ++ other) ≡ b
  kept_closed ts taken rest other b parts s e = starts_same test (taken ++ rest) (taken ++ other) (same_head taken rest other s) ∙ ap (starts test) (sym parts) ∙ e

  -- what is found is what the second reader finds
  closed_found : (ts : List Token) (a : A) (rest : List Token) → chosen test fails second ts ≡ Ok (a, rest) → Found (chosen test fails second) phrase ts a rest
  closed_found ts a rest e = elim (cond_is (starts test ts) (refused A ts) (second ts) (Ok (a, rest)) e) [
    | inl h ↦ absurd (let wrong = h.1 in cc)
    | inr h ↦ (
        let found = reads.found ts a rest h.1 in
        record {
          taken = found.taken;
          parts = found.parts;
          spelled = found.spelled;
          again = λ other s. closed_is (found.taken ++ other) (kept_closed ts found.taken rest other false found.parts s h.0) ∙ found.again other s;
        })
  ]

  -- where it is stuck no phrase goes on
  closed_stuck : (ts bad : List Token) → chosen test fails second ts ≡ Err bad → Stuck (chosen test fails second) phrase ts bad
  closed_stuck ts bad e = elim (cond_is (starts test ts) (refused A ts) (second ts) (Err bad) e) [
    | inl h ↦ stuck_here (chosen test fails second) phrase ts bad reads.sample reads.sample_value (err_same A ts bad h.1) reads.sampled
        (λ other s. closed_fails other (starts_same test ts other s ∙ h.0))
    | inr h ↦ (
        let stuck = reads.stuck ts bad h.1 in
        record {
          taken = stuck.taken;
          parts = stuck.parts;
          more = stuck.more;
          value = stuck.value;
          completed = stuck.completed;
          again = λ other s. closed_is (stuck.taken ++ other) (kept_closed ts stuck.taken bad other false stuck.parts s h.0) ∙ stuck.again other s;
        })
  ]

  -- the choice reads the second reader's phrase
  pub reads_closed : Reads (chosen test fails second) phrase goes_on
  reads_closed = record {
    found = closed_found;
    only = λ taken a rest spelled stops. closed_is (taken ++ rest) (apart taken a rest spelled stops) ∙ reads.only taken a rest spelled stops;
    stuck = closed_stuck;
    sample = reads.sample;
    sample_value = reads.sample_value;
    sampled = reads.sampled;
  }

-- any tokens may follow where nothing goes on
pub stops_never : (ts : List Token) → Stops never ts
stops_never [] = tt
stops_never (t ∷ ts) = refl

-- a phrase whose value is changed begins as it did
pub made_begins : {A B : Type 0} (test : Token → Bool) (f : A → B) (phrase : Phrase A) → BeginsBy test phrase → BeginsBy test (made f phrase)
made_begins test f phrase begins ts b spelled = begins ts spelled.0 spelled.1

-- two phrases begin as the first does
pub and_begins : {A B : Type 0} (test : Token → Bool) (first : Phrase A) (second : Phrase B) → BeginsBy test first → BeginsBy test (first and second)
and_begins test first second begins ts x spelled =
    let b = begins spelled.0 x.0 spelled.3 in
    (b.0, b.1 ++ spelled.1, spelled.2 ∙ ap (λ (l : List Token). l ++ spelled.1) b.2, b.3)

-- a phrase of one token begins with a token that gives a value
pub one_begins : {A : Type 0} (test : Token → Bool) (Gives : Token → A → Type 0) → ((t : Token) (a : A) → Gives t a → test t ≡ true) → BeginsBy test (one Gives)
one_begins test Gives passes ts a spelled = (spelled.0, [], spelled.1, passes spelled.0 a spelled.2)

-- what begins otherwise
pub apart_by : {A : Type 0} (test other : Token → Bool) (phrase : Phrase A) → BeginsBy other phrase → ((t : Token) → other t ≡ true → test t ≡ false)
    → (back : List Token) (a : A) (rest : List Token) → phrase back a → starts test (back ++ rest) ≡ false
apart_by test other phrase begins differ back a rest spelled =
    let b = begins back a spelled in
    ap (λ (l : List Token). starts test (l ++ rest)) b.2 ∙ differ b.0 b.3
