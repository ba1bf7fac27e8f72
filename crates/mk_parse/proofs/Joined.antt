-- How readers of phrases are made of several readers.
use Rattle.std.proofs.Common.{◌≡◌, ℕ, Bool, true, false, inl, inr, List, [], ◌∷◌, ◌++◌, Ok, Err, refl, sym, ap, subst, ◌∙◌, cond, append_assoc}
use Rattle.mk_ast.specs.Tokens.{Token}
use Rattle.mk_ast.specs.Phrases.{Phrase, ◌and◌, after}
use Rattle.mk_parse.specs.Readers.{Reading, Reader, ◌>>=◌, says, ◌next◌, past}
use Rattle.mk_parse.proofs.ReaderLaws.{Stops, SameHead, Found, Stuck, Reads, BeginsBy, bind_ok, bind_err, read, ok_same, err_same, cond_ok, cond_err, says_is, is_says, same_head, stuck_here}

-- a token that is this word
abbrev pub token_of : List ℕ → Token
token_of word = record { text = word; at = record { line = 1; column = 1 } }

-- the word or symbol, and then the phrase
module _ {A : Type 0} (word : List ℕ) {reader : Reader A} {phrase : Phrase A} {goes_on : Token → Bool} (reads : Reads reader phrase goes_on) where
  -- a word that passes is dropped before the reader begins
  past_by : (b : Bool) (ts bad : List Token) → (cond b (read (Unit {0}) (tt, ts)) (Err bad) >>= (λ x. reader x.1)) ≡ cond b (reader ts) (Err bad)
  past_by true ts bad = refl
  past_by false ts bad = refl

  -- behind the word the reader goes on
  past_word : (t : Token) (ts : List Token) → t.text ≡ word → past word reader (t ∷ ts) ≡ reader ts
  past_word t ts is = past_by (says word t) ts (t ∷ ts) ∙ ap (λ (b : Bool). cond b (reader ts) (Err (t ∷ ts))) (is_says word t is)

  -- at another token it stands still
  past_other : (t : Token) (ts : List Token) → says word t ≡ false → past word reader (t ∷ ts) ≡ Err (t ∷ ts)
  past_other t ts isnt = past_by (says word t) ts (t ∷ ts) ∙ ap (λ (b : Bool). cond b (reader ts) (Err (t ∷ ts))) isnt

  -- what was found behind the word, with the word before it
  past_found : (ts : List Token) (a : A) (rest : List Token) → past word reader ts ≡ Ok (a, rest) → Found (past word reader) (after word phrase) ts a rest
  past_found [] a rest e = absurd cc
  past_found (t ∷ ts) a rest e =
      let h = cond_ok (says word t) (reader ts) (t ∷ ts) (a, rest) (sym (past_by (says word t) ts (t ∷ ts)) ∙ e) in
      let found = reads.found ts a rest h.1 in
      record {
        taken = t ∷ found.taken;
        parts = ap (λ (l : List Token). t ∷ l) found.parts;
        spelled = (t, found.taken, refl, says_is word t h.0, found.spelled);
        again = λ other s. past_word t (found.taken ++ other) (says_is word t h.0) ∙ found.again other s;
      }

  -- what the phrase spells behind the word is read
  past_only : (taken : List Token) (a : A) (rest : List Token) → after word phrase taken a → Stops goes_on rest → past word reader (taken ++ rest) ≡ Ok (a, rest)
  past_only taken a rest spelled stops =
      ap (λ (l : List Token). past word reader (l ++ rest)) spelled.2
      ∙ past_word spelled.0 (spelled.1 ++ rest) spelled.3
      ∙ reads.only spelled.1 a rest spelled.4 stops

  -- it stands still at every list that begins with such a token
  past_fails : (t : Token) (ts other : List Token) → says word t ≡ false → SameHead (t ∷ ts) other → past word reader other ≡ Err other
  past_fails t ts [] isnt s = absurd s
  past_fails t ts (u ∷ us) isnt s = past_other u us (ap (says word) (sym s) ∙ isnt)

  -- and where there are no tokens
  past_fails_nil : (other : List Token) → SameHead [] other → past word reader other ≡ Err other
  past_fails_nil [] s = refl
  past_fails_nil (u ∷ us) s = absurd s

  -- the word before a sample of the phrase
  past_sample : after word phrase (token_of word ∷ reads.sample) reads.sample_value
  past_sample = (token_of word, reads.sample, refl, refl, reads.sampled)

  -- it is stuck at the word, or behind it where the reader is
  past_stuck : (ts bad : List Token) → past word reader ts ≡ Err bad → Stuck (past word reader) (after word phrase) ts bad
  past_stuck [] bad e =
      stuck_here (past word reader) (after word phrase) [] bad _ _ (err_same A [] bad e) past_sample past_fails_nil
  past_stuck (t ∷ ts) bad e = elim (cond_err (says word t) (reader ts) (t ∷ ts) bad (sym (past_by (says word t) ts (t ∷ ts)) ∙ e)) [
    | inl h ↦ (
        let stuck = reads.stuck ts bad h.1 in
        record {
          taken = t ∷ stuck.taken;
          parts = ap (λ (l : List Token). t ∷ l) stuck.parts;
          more = stuck.more;
          value = stuck.value;
          completed = (t, stuck.taken ++ stuck.more, refl, says_is word t h.0, stuck.completed);
          again = λ other s. past_word t (stuck.taken ++ other) (says_is word t h.0) ∙ stuck.again other s;
        })
    | inr h ↦ stuck_here (past word reader) (after word phrase) (t ∷ ts) bad _ _ h.1 past_sample (λ other s. past_fails t ts other h.0 s)
  ]

  -- the reader behind a word reads the phrase behind the word
  pub reads_after : Reads (past word reader) (after word phrase) goes_on
  reads_after = record {
    found = past_found;
    only = past_only;
    stuck = past_stuck;
    sample = token_of word ∷ reads.sample;
    sample_value = reads.sample_value;
    sampled = past_sample;
  }

-- a phrase behind a word begins with the word
pub after_begins : {A : Type 0} (word : List ℕ) (phrase : Phrase A) → BeginsBy (says word) (after word phrase)
after_begins word phrase ts a spelled = (spelled.0, spelled.1, spelled.2, is_says word spelled.0 spelled.3)

-- one phrase, and then another, which the first can't go on with
module _ {A B : Type 0} {first : Reader A} {phrase : Phrase A} {goes_on : Token → Bool} (reads : Reads first phrase goes_on)
    {second : Reader B} {other_phrase : Phrase B} {other_goes_on : Token → Bool} (others : Reads second other_phrase other_goes_on)
    (parts_there : (back : List Token) (b : B) (rest : List Token) → other_phrase back b → Stops other_goes_on rest → Stops goes_on (back ++ rest)) where
  -- the pair of what was read before and what is read next
  abbrev paired : A → B × List Token → Reading (A × B)
  paired a y = Ok ((a, y.0), y.1)

  -- what the second reader reads behind the first one
  abbrev behind : A × List Token → Reading (A × B)
  behind x = second x.1 >>= paired x.0

  -- behind what the first reader read the second one begins
  next_is : (ts : List Token) (a : A) (mid : List Token) → first ts ≡ Ok (a, mid) → (first next second) ts ≡ (second mid >>= paired a)
  next_is ts a mid e = ap (λ (r : Reading A). r >>= behind) e

  -- where the first reader stands still, both do
  next_fails : (ts bad : List Token) → first ts ≡ Err bad → (first next second) ts ≡ Err bad
  next_fails ts bad e = ap (λ (r : Reading A). r >>= behind) e

  -- what the second reader read makes the pair
  end_is : (a : A) (ts : List Token) (b : B) (rest : List Token) → second ts ≡ Ok (b, rest) → (second ts >>= paired a) ≡ Ok ((a, b), rest)
  end_is a ts b rest e = ap (λ (r : Reading B). r >>= paired a) e

  -- where the second reader stands still, both do
  end_fails : (a : A) (ts bad : List Token) → second ts ≡ Err bad → (second ts >>= paired a) ≡ Err bad
  end_fails a ts bad e = ap (λ (r : Reading B). r >>= paired a) e

  -- what both found, one behind the other
  next_found : (ts : List Token) (x : A × B) (rest : List Token) → (first next second) ts ≡ Ok (x, rest) → Found (first next second) (phrase and other_phrase) ts x rest
  next_found ts x rest e =
      let h = bind_ok (first ts) behind (x, rest) e in
      let a = h.0.0 in
      let mid = h.0.1 in
      let k = bind_ok (second mid) (paired a) (x, rest) h.2 in
      let same = ok_same (A × B) ((a, k.0.0), k.0.1) (x, rest) k.2 in
      let value : (a, k.0.0) ≡ x = ap (λ (z : (A × B) × List Token). z.0) same in
      let left : k.0.1 ≡ rest = ap (λ (z : (A × B) × List Token). z.1) same in
      let one_found = reads.found ts a mid h.1 in
      let two_found = others.found mid k.0.0 k.0.1 k.1 in
      let whole : ts ≡ (one_found.taken ++ two_found.taken) ++ rest =
      one_found.parts ∙ ap (λ (l : List Token). one_found.taken ++ l) (two_found.parts ∙ ap (λ (l : List Token). two_found.taken ++ l) left)
      ∙ sym (append_assoc one_found.taken two_found.taken rest) in
      record {
        taken = one_found.taken ++ two_found.taken;
        parts = whole;
        spelled = subst (λ (z : A × B). (phrase and other_phrase) (one_found.taken ++ two_found.taken) z) value
            (one_found.taken, two_found.taken, refl, one_found.spelled, two_found.spelled);
        again = λ other s.
            let s' : SameHead k.0.1 other = subst (λ (l : List Token). SameHead l other) (sym left) s in
            let heads : SameHead mid (two_found.taken ++ other) =
            subst (λ (l : List Token). SameHead l (two_found.taken ++ other)) (sym two_found.parts) (same_head two_found.taken k.0.1 other s') in
            ap (first next second) (append_assoc one_found.taken two_found.taken other)
            ∙ next_is (one_found.taken ++ (two_found.taken ++ other)) a (two_found.taken ++ other) (one_found.again (two_found.taken ++ other) heads)
            ∙ end_is a (two_found.taken ++ other) k.0.0 other (two_found.again other s')
            ∙ ap (λ (z : A × B). Ok (z, other)) value;
      }

  -- what the two phrases spell one behind the other is read
  next_only : (taken : List Token) (x : A × B) (rest : List Token) → (phrase and other_phrase) taken x → Stops other_goes_on rest → (first next second) (taken ++ rest) ≡ Ok (x, rest)
  next_only taken x rest spelled stops =
      ap (λ (l : List Token). (first next second) (l ++ rest)) spelled.2
      ∙ ap (first next second) (append_assoc spelled.0 spelled.1 rest)
      ∙ next_is (spelled.0 ++ (spelled.1 ++ rest)) x.0 (spelled.1 ++ rest) (reads.only spelled.0 x.0 (spelled.1 ++ rest) spelled.3 (parts_there spelled.1 x.1 rest spelled.4 stops))
      ∙ end_is x.0 (spelled.1 ++ rest) x.1 rest (others.only spelled.1 x.1 rest spelled.4 stops)

  -- both are stuck where the first is, or behind it where the second is
  next_stuck : (ts bad : List Token) → (first next second) ts ≡ Err bad → Stuck (first next second) (phrase and other_phrase) ts bad
  next_stuck ts bad e = elim (bind_err (first ts) behind bad e) [
    | inl is ↦ (
        let stuck = reads.stuck ts bad is in
        record {
          taken = stuck.taken;
          parts = stuck.parts;
          more = stuck.more ++ others.sample;
          value = (stuck.value, others.sample_value);
          completed = (stuck.taken ++ stuck.more, others.sample, sym (append_assoc stuck.taken stuck.more others.sample), stuck.completed, others.sampled);
          again = λ other s. next_fails (stuck.taken ++ other) other (stuck.again other s);
        })
    | inr h ↦ (
        let a = h.0.0 in
        let mid = h.0.1 in
        let k : second mid ≡ Err bad = elim (bind_err (second mid) (paired a) bad h.2) [ inl is ↦ is | inr wrong ↦ absurd (let no_error = wrong.2 in cc) ] in
        let one_found = reads.found ts a mid h.1 in
        let stuck = others.stuck mid bad k in
        record {
          taken = one_found.taken ++ stuck.taken;
          parts = one_found.parts ∙ ap (λ (l : List Token). one_found.taken ++ l) stuck.parts ∙ sym (append_assoc one_found.taken stuck.taken bad);
          more = stuck.more;
          value = (a, stuck.value);
          completed = (one_found.taken, stuck.taken ++ stuck.more, append_assoc one_found.taken stuck.taken stuck.more, one_found.spelled, stuck.completed);
          again = λ other s.
              let heads : SameHead mid (stuck.taken ++ other) =
              subst (λ (l : List Token). SameHead l (stuck.taken ++ other)) (sym stuck.parts) (same_head stuck.taken bad other s) in
              ap (first next second) (append_assoc one_found.taken stuck.taken other)
              ∙ next_is (one_found.taken ++ (stuck.taken ++ other)) a (stuck.taken ++ other) (one_found.again (stuck.taken ++ other) heads)
              ∙ end_fails a (stuck.taken ++ other) other (stuck.again other s);
        })
  ]

  -- one reader behind the other reads the one phrase and then the other
  pub reads_and : Reads (first next second) (phrase and other_phrase) other_goes_on
  reads_and = record {
    found = next_found;
    only = next_only;
    stuck = next_stuck;
    sample = reads.sample ++ others.sample;
    sample_value = (reads.sample_value, others.sample_value);
    sampled = (reads.sample, others.sample, refl, reads.sampled, others.sampled);
  }
