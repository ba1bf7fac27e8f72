-- How readers read a phrase any number of times, and whole lists of tokens.
use Rattle.std.proofs.Common.{◌≡◌, ℕ, zero, suc, ◌≤◌, Bool, true, false, inl, inr, List, [], ◌∷◌, ◌++◌, length, Option, Some, None, Ok, Err, refl, sym, ap, subst, ◌∙◌, arith, cond, append_assoc, length-append}
use Rattle.std.proofs.lemmas.List.{append-nil}
use Rattle.mk_ast.specs.Tokens.{Token}
use Rattle.mk_ast.specs.Phrases.{Phrase, made, ◌or◌, after, optional, many, separated}
use Rattle.mk_parse.specs.Readers.{Reading, Reader, ◌>>=◌, starts, says, fails, past, perhaps, repeats, every, parted, finished, with_none_left}
use Rattle.mk_parse.proofs.ReaderLaws.{Stops, SameHead, Reads, BeginsBy, bind_ok, bind_err, read, refused, ok_same, cond_is, same_head, starts_same, reads_made}
use Rattle.mk_parse.proofs.Joined.{reads_after, reads_and, after_begins}
use Rattle.mk_parse.proofs.Choices.{stops_weaker, reads_same, empty, reads_empty, reads_or}

-- the phrase again and again, while the first token passes the test
module _ {A : Type 0} (test : Token → Bool) (more : Token → Bool)
    {reader : Reader A} {phrase : Phrase A} {goes_on : Token → Bool} (reads : Reads reader phrase goes_on)
    (begins : BeginsBy test phrase) (stop : (t : Token) → more t ≡ false → goes_on t ≡ false)
    (more_stops : (t : Token) → more t ≡ false → test t ≡ false) (test_stops : (t : Token) → test t ≡ true → goes_on t ≡ false) where
  -- one part before the others
  abbrev joined : A → List A × List Token → Reading (List A)
  joined a y = Ok (a ∷ y.0, y.1)

  -- one part and, with so many tokens left, the others
  abbrev turn : ℕ → A × List Token → Reading (List A)
  turn n x = repeats test reader n x.1 >>= joined x.0

  -- where the test passes, a turn is read
  turn_is : (n : ℕ) (ts : List Token) → starts test ts ≡ true → repeats test reader (suc n) ts ≡ (reader ts >>= turn n)
  unfolding repeats
  turn_is n ts e = ap (λ (b : Bool). cond b (reader ts >>= turn n) (Ok ([], ts))) e

  -- where it fails, none is
  stop_is : (n : ℕ) (ts : List Token) → starts test ts ≡ false → repeats test reader n ts ≡ Ok ([], ts)
  unfolding repeats
  stop_is zero ts e = refl
  stop_is (suc n) ts e = ap (λ (b : Bool). cond b (reader ts >>= turn n) (Ok ([], ts))) e

  -- one part and the others that were read behind it
  turned : (n : ℕ) (ts : List Token) (a : A) (mid : List Token) (xs : List A) (rest : List Token) → starts test ts ≡ true → reader ts ≡ Ok (a, mid)
      → repeats test reader n mid ≡ Ok (xs, rest) → repeats test reader (suc n) ts ≡ Ok (a ∷ xs, rest)
  turned n ts a mid xs rest e is others =
      turn_is n ts e ∙ ap (λ (r : Reading A). r >>= turn n) is ∙ ap (λ (r : Reading (List A)). r >>= joined a) others

  -- the phrase takes at least one token
  shorter : (taken : List Token) (a : A) (rest : List Token) (n : ℕ) → phrase taken a → length (taken ++ rest) ≤ suc n → length rest ≤ n
  shorter taken a rest n spelled le =
      let h = begins taken a spelled in
      let same : length (taken ++ rest) ≡ length ((h.0 ∷ h.1) ++ rest) = ap (λ (l : List Token). length (l ++ rest)) h.2 in
      omega (arith, same, length-append (h.0 ∷ h.1) rest, le)

  -- a part has at least one token, so that there is one where tokens are left
  no_room : (taken : List Token) (a : A) (rest : List Token) → phrase taken a → length (taken ++ rest) ≤ 0 → ⊥
  no_room taken a rest spelled le =
      let h = begins taken a spelled in
      let same : length (taken ++ rest) ≡ length ((h.0 ∷ h.1) ++ rest) = ap (λ (l : List Token). length (l ++ rest)) h.2 in
      omega (arith, same, length-append (h.0 ∷ h.1) rest, le)

  -- a part passes the test, whatever stands behind it
  begins_so : (taken : List Token) (a : A) (rest : List Token) → phrase taken a → starts test (taken ++ rest) ≡ true
  begins_so taken a rest spelled =
      let h = begins taken a spelled in
      ap (λ (l : List Token). starts test (l ++ rest)) h.2 ∙ h.3

  -- what follows a list stops each of its parts
  stops_before : (back : List Token) (xs : List A) (rest : List Token) → many phrase back xs → Stops more rest → Stops goes_on (back ++ rest)
  stops_before back [] rest h s = subst (λ (l : List Token). Stops goes_on (l ++ rest)) (sym h) (stops_weaker more goes_on stop rest s)
  stops_before back (a ∷ xs) rest h s =
      let b = begins h.0 a h.3 in
      let same : back ≡ (b.0 ∷ b.1) ++ h.1 = h.2 ∙ ap (λ (l : List Token). l ++ h.1) b.2 in
      subst (λ (l : List Token). Stops goes_on (l ++ rest)) (sym same) (test_stops b.0 b.3)

  -- what stops the list fails the test
  stops_test : (rest : List Token) → Stops more rest → starts test rest ≡ false
  stops_test [] s = refl
  stops_test (t ∷ ts) s = more_stops t s

  -- a list that is spelled is read, by how many tokens are left
  repeats_only : (n : ℕ) (xs : List A) (taken rest : List Token) → many phrase taken xs → Stops more rest → length (taken ++ rest) ≤ n
      → repeats test reader n (taken ++ rest) ≡ Ok (xs, rest)
  repeats_only n [] taken rest h s le =
      ap (λ (l : List Token). repeats test reader n (l ++ rest)) h ∙ stop_is n rest (stops_test rest s)
  repeats_only zero (a ∷ xs) taken rest h s le =
      absurd (no_room h.0 a (h.1 ++ rest) h.3 (subst (λ (l : List Token). length l ≤ 0) (ap (λ (l : List Token). l ++ rest) h.2 ∙ append_assoc h.0 h.1 rest) le))
  repeats_only (suc n) (a ∷ xs) taken rest h s le =
      let whole : taken ++ rest ≡ h.0 ++ (h.1 ++ rest) = ap (λ (l : List Token). l ++ rest) h.2 ∙ append_assoc h.0 h.1 rest in
      let fits = shorter h.0 a (h.1 ++ rest) n h.3 (subst (λ (l : List Token). length l ≤ suc n) whole le) in
      ap (repeats test reader (suc n)) whole
      ∙ turned n (h.0 ++ (h.1 ++ rest)) a (h.1 ++ rest) xs rest (begins_so h.0 a (h.1 ++ rest) h.3)
      (reads.only h.0 a (h.1 ++ rest) h.3 (stops_before h.1 xs rest h.4 s)) (repeats_only n xs h.1 rest h.4 s fits)

  -- what was found, for any bound that is high enough
  record Listed (ts : List Token) (xs : List A) (rest : List Token) : Type 0 where
    pub taken : List Token
    pub parts : ts ≡ taken ++ rest
    pub spelled : many phrase taken xs
    pub again : (n : ℕ) (other : List Token) → SameHead rest other → length (taken ++ other) ≤ n → repeats test reader n (taken ++ other) ≡ Ok (xs, other)

  -- no part was found
  listed_none : (ts : List Token) (xs : List A) (rest : List Token) → starts test ts ≡ false → [] ≡ xs → ts ≡ rest → Listed ts xs rest
  listed_none ts xs rest e is same = record {
    taken = [];
    parts = same;
    spelled = subst (many phrase []) is refl;
    again = λ n other s le.
        stop_is n other (starts_same test ts other (subst (λ (l : List Token). SameHead l other) (sym same) s) ∙ e)
        ∙ ap (λ (l : List A). read (List A) (l, other)) is;
  }

  -- after one turn, what the other turns found
  listed_more : (ts : List Token) (a : A) (mid : List Token) (xs : List A) (rest : List Token) → starts test ts ≡ true → reader ts ≡ Ok (a, mid)
      → Listed mid xs rest → Listed ts (a ∷ xs) rest
  listed_more ts a mid xs rest some is others =
      let found = reads.found ts a mid is in
      record {
        taken = found.taken ++ others.taken;
        parts = found.parts ∙ ap (λ (l : List Token). found.taken ++ l) others.parts ∙ sym (append_assoc found.taken others.taken rest);
        spelled = (found.taken, others.taken, refl, found.spelled, others.spelled);
        again = λ n other s le.
            let whole = append_assoc found.taken others.taken other in
            let heads : SameHead mid (others.taken ++ other) =
            subst (λ (l : List Token). SameHead l (others.taken ++ other)) (sym others.parts) (same_head others.taken rest other s) in
            let fits : length (found.taken ++ (others.taken ++ other)) ≤ n = subst (λ (l : List Token). length l ≤ n) whole le in
            ap (repeats test reader n) whole ∙ once n found.taken (others.taken ++ other) other s found.spelled (found.again (others.taken ++ other) heads) (λ m. others.again m other s) fits;
      }
    where
      -- one turn, where the bound has room for it
      once : (n : ℕ) (taken mid other : List Token) → SameHead rest other → phrase taken a → reader (taken ++ mid) ≡ Ok (a, mid)
          → ((m : ℕ) → length mid ≤ m → repeats test reader m mid ≡ Ok (xs, other)) → length (taken ++ mid) ≤ n
          → repeats test reader n (taken ++ mid) ≡ Ok (a ∷ xs, other)
      once zero taken mid other s spelled is others fits = absurd (no_room taken a mid spelled fits)
      once (suc m) taken mid other s spelled is others fits =
          turned m (taken ++ mid) a mid xs other (begins_so taken a mid spelled) is (others m (shorter taken a mid m spelled fits))

  -- what the turns found, by how many tokens are left
  repeats_found : (n : ℕ) (ts : List Token) (xs : List A) (rest : List Token) → length ts ≤ n → repeats test reader n ts ≡ Ok (xs, rest) → Listed ts xs rest
  unfolding repeats
  repeats_found zero [] xs rest le e =
      let same = ok_same (List A) ([], []) (xs, rest) e in
      listed_none [] xs rest refl (ap (λ (x : List A × List Token). x.0) same) (ap (λ (x : List A × List Token). x.1) same)
  repeats_found zero (t ∷ ts) xs rest le e = absurd (omega (arith, le))
  repeats_found (suc n) ts xs rest le e = elim (cond_is (starts test ts) (reader ts >>= turn n) (Ok ([], ts)) (Ok (xs, rest)) e) [
    | inl h ↦ (
        let x = bind_ok (reader ts) (turn n) (xs, rest) h.1 in
        let y = bind_ok (repeats test reader n x.0.1) (joined x.0.0) (xs, rest) x.2 in
        let same = ok_same (List A) (x.0.0 ∷ y.0.0, y.0.1) (xs, rest) y.2 in
        let found = reads.found ts x.0.0 x.0.1 x.1 in
        let fits = shorter found.taken x.0.0 x.0.1 n found.spelled (subst (λ (l : List Token). length l ≤ suc n) found.parts le) in
        let others = repeats_found n x.0.1 y.0.0 y.0.1 fits y.1 in
        let whole = listed_more ts x.0.0 x.0.1 y.0.0 y.0.1 h.0 x.1 others in
        subst (λ (z : List A × List Token). Listed ts z.0 z.1) same whole)
    | inr h ↦ (
        let same = ok_same (List A) ([], ts) (xs, rest) h.1 in
        listed_none ts xs rest h.0 (ap (λ (x : List A × List Token). x.0) same) (ap (λ (x : List A × List Token). x.1) same))
  ]

  -- where a turn is stuck, for any bound that is high enough
  record Halted (ts bad : List Token) : Type 0 where
    pub taken : List Token
    pub parts : ts ≡ taken ++ bad
    pub added : List Token
    pub value : List A
    pub completed : many phrase (taken ++ added) value
    pub again : (n : ℕ) (other : List Token) → SameHead bad other → length (taken ++ other) ≤ n → repeats test reader n (taken ++ other) ≡ Err other

  -- a turn is stuck in its first part
  halted_here : (ts bad : List Token) → starts test ts ≡ true → reader ts ≡ Err bad → Halted ts bad
  halted_here ts bad some is =
      let stuck = reads.stuck ts bad is in
      record {
        taken = stuck.taken;
        parts = stuck.parts;
        added = stuck.more;
        value = stuck.value ∷ [];
        completed = (stuck.taken ++ stuck.more, [], sym (append-nil (stuck.taken ++ stuck.more)), stuck.completed, refl);
        again = λ n other s le.
            let begun = starts_same test (stuck.taken ++ bad) (stuck.taken ++ other) (same_head stuck.taken bad other s) ∙ ap (starts test) (sym stuck.parts) ∙ some in
            once n (stuck.taken ++ other) other begun (stuck.again other s) le;
      }
    where
      -- one turn, where the bound has room for it
      once : (n : ℕ) (us other : List Token) → starts test us ≡ true → reader us ≡ Err other → length us ≤ n → repeats test reader n us ≡ Err other
      once zero [] other begun fails le = absurd (let e = begun in cc)
      once zero (u ∷ us) other begun fails le = absurd (omega (arith, le))
      once (suc n) us other begun fails le = turn_is n us begun ∙ ap (λ (r : Reading A). r >>= turn n) fails

  -- a turn is stuck in a later part
  halted_later : (ts : List Token) (a : A) (mid bad : List Token) → starts test ts ≡ true → reader ts ≡ Ok (a, mid) → Halted mid bad → Halted ts bad
  halted_later ts a mid bad some is others =
      let found = reads.found ts a mid is in
      record {
        taken = found.taken ++ others.taken;
        parts = found.parts ∙ ap (λ (l : List Token). found.taken ++ l) others.parts ∙ sym (append_assoc found.taken others.taken bad);
        added = others.added;
        value = a ∷ others.value;
        completed = (found.taken, others.taken ++ others.added, append_assoc found.taken others.taken others.added, found.spelled, others.completed);
        again = λ n other s le.
            let whole = append_assoc found.taken others.taken other in
            let heads : SameHead mid (others.taken ++ other) =
            subst (λ (l : List Token). SameHead l (others.taken ++ other)) (sym others.parts) (same_head others.taken bad other s) in
            let fits : length (found.taken ++ (others.taken ++ other)) ≤ n = subst (λ (l : List Token). length l ≤ n) whole le in
            ap (repeats test reader n) whole ∙ once n found.taken (others.taken ++ other) other found.spelled (found.again (others.taken ++ other) heads) (λ m. others.again m other s) fits;
      }
    where
      -- one turn, where the bound has room for it
      once : (n : ℕ) (taken mid other : List Token) → phrase taken a → reader (taken ++ mid) ≡ Ok (a, mid)
          → ((m : ℕ) → length mid ≤ m → repeats test reader m mid ≡ Err other) → length (taken ++ mid) ≤ n
          → repeats test reader n (taken ++ mid) ≡ Err other
      once zero taken mid other spelled is others fits = absurd (no_room taken a mid spelled fits)
      once (suc m) taken mid other spelled is others fits =
          turn_is m (taken ++ mid) (begins_so taken a mid spelled) ∙ ap (λ (r : Reading A). r >>= turn m) is
          ∙ ap (λ (r : Reading (List A)). r >>= joined a) (others m (shorter taken a mid m spelled fits))

  -- where the turns are stuck, by how many tokens are left
  repeats_stuck : (n : ℕ) (ts bad : List Token) → length ts ≤ n → repeats test reader n ts ≡ Err bad → Halted ts bad
  unfolding repeats
  repeats_stuck zero ts bad le e = absurd cc
  repeats_stuck (suc n) ts bad le e = elim (cond_is (starts test ts) (reader ts >>= turn n) (Ok ([], ts)) (Err bad) e) [
    | inl h ↦ elim (bind_err (reader ts) (turn n) bad h.1) [
      | inl is ↦ halted_here ts bad h.0 is
      | inr x ↦ (
          let y : repeats test reader n x.0.1 ≡ Err bad =
          elim (bind_err (repeats test reader n x.0.1) (joined x.0.0) bad x.2) [ inl is ↦ is | inr wrong ↦ absurd (let no_error = wrong.2 in cc) ] in
          let found = reads.found ts x.0.0 x.0.1 x.1 in
          let fits = shorter found.taken x.0.0 x.0.1 n found.spelled (subst (λ (l : List Token). length l ≤ suc n) found.parts le) in
          halted_later ts x.0.0 x.0.1 bad h.0 x.1 (repeats_stuck n x.0.1 bad fits y))
    ]
    | inr h ↦ absurd (let no_error = h.1 in cc)
  ]

  -- the reader of a list reads the phrase of a list
  pub reads_many : Reads (every test reader) (many phrase) more
  reads_many = record {
    found = λ ts xs rest e.
        let found = repeats_found (length ts) ts xs rest (omega arith) e in
        record {
          taken = found.taken;
          parts = found.parts;
          spelled = found.spelled;
          again = λ other s. found.again (length (found.taken ++ other)) other s (omega arith);
        };
    only = λ taken xs rest spelled stops. repeats_only (length (taken ++ rest)) xs taken rest spelled stops (omega arith);
    stuck = λ ts bad e.
        let stuck = repeats_stuck (length ts) ts bad (omega arith) e in
        record {
          taken = stuck.taken;
          parts = stuck.parts;
          more = stuck.added;
          value = stuck.value;
          completed = stuck.completed;
          again = λ other s. stuck.again (length (stuck.taken ++ other)) other s (omega arith);
        };
    sample = [];
    sample_value = [];
    sampled = refl;
  }

-- the phrase at least once, with the symbol between
module _ {A : Type 0} (symbol : List ℕ) (more : Token → Bool) {reader : Reader A} {phrase : Phrase A} {goes_on : Token → Bool} (reads : Reads reader phrase goes_on)
    (stop : (t : Token) → more t ≡ false → goes_on t ≡ false) (more_stops : (t : Token) → more t ≡ false → says symbol t ≡ false)
    (symbol_stops : (t : Token) → says symbol t ≡ true → goes_on t ≡ false) where
  -- the parts behind the first, each behind its symbol
  others_read : Reads (every (says symbol) (past symbol reader)) (many (after symbol phrase)) more
  others_read = reads_many (says symbol) more (reads_after symbol reads) (after_begins symbol phrase) stop more_stops symbol_stops

  -- what follows the list stops its first part
  stops_at : (back : List Token) (xs : List A) (rest : List Token) → many (after symbol phrase) back xs → Stops more rest → Stops goes_on (back ++ rest)
  stops_at back [] rest h s = subst (λ (l : List Token). Stops goes_on (l ++ rest)) (sym h) (stops_weaker more goes_on stop rest s)
  stops_at back (a ∷ xs) rest h s =
      let b = after_begins symbol phrase h.0 a h.3 in
      let same : back ≡ (b.0 ∷ b.1) ++ h.1 = h.2 ∙ ap (λ (l : List Token). l ++ h.1) b.2 in
      subst (λ (l : List Token). Stops goes_on (l ++ rest)) (sym same) (symbol_stops b.0 b.3)

  -- so does that of a list with separators
  pub reads_separated : Reads (parted symbol reader) (separated symbol phrase) more
  reads_separated = reads_made (λ (x : A × List A). x.0 ∷ x.1) (reads_and reads others_read stops_at)

-- the phrase, or no token
module _ {A : Type 0} (test : Token → Bool) (more : Token → Bool) {reader : Reader A} {phrase : Phrase A} {goes_on : Token → Bool} (reads : Reads reader phrase goes_on)
    (begins : BeginsBy test phrase) (stop : (t : Token) → more t ≡ false → goes_on t ≡ false) (more_stops : (t : Token) → more t ≡ false → test t ≡ false) where
  -- where nothing is spelled, what follows fails the test
  apart : (back : List Token) (b : Option A) (rest : List Token) → empty {A = Option A} None back b → Stops more rest → starts test (back ++ rest) ≡ false
  apart back b rest h s = ap (λ (l : List Token). starts test (l ++ rest)) h.0 ∙ none rest s
    where
      -- what stops the phrase fails the test
      none : (rest : List Token) → Stops more rest → starts test rest ≡ false
      none [] s = refl
      none (t ∷ ts) s = more_stops t s

  -- a phrase that is there passes the test
  some_begins : BeginsBy test (made {B = Option A} Some phrase)
  some_begins ts o spelled = begins ts spelled.0 spelled.1

  -- the phrase or no token is what may be left out
  optional_to : (ts : List Token) (o : Option A) → (made {B = Option A} Some phrase or empty None) ts o → optional phrase ts o
  optional_to ts o (inl h) = subst (optional phrase ts) (sym h.2) h.1
  optional_to ts o (inr h) = subst (optional phrase ts) (sym h.1) h.0

  -- and the other way round
  optional_from : (ts : List Token) (o : Option A) → optional phrase ts o → (made {B = Option A} Some phrase or empty None) ts o
  optional_from ts None h = inr (h, refl)
  optional_from ts (Some a) h = inl (a, h, refl)

  -- and that of what may be left out
  pub reads_optional : Reads (perhaps test reader) (optional phrase) more
  reads_optional = reads_same (reads_or test more (reads_made {B = Option A} Some reads) some_begins stop (reads_empty {A = Option A} None more) apart (λ t e. e)) optional_to optional_from

-- what the whole list spells
module _ {A : Type 0} {reader : Reader A} {phrase : Phrase A} {goes_on : Token → Bool} (reads : Reads reader phrase goes_on) where
  -- what the phrase says of all tokens is read of them
  pub all_only : (ts : List Token) (a : A) → phrase ts a → finished (reader ts) ≡ Ok a
  all_only ts a spelled =
      ap finished (ap reader (sym (append-nil ts)) ∙ reads.only ts a [] spelled tt)

  -- all tokens were taken where the reading is finished
  none_left : (a : A) (rest : List Token) (b : A) → with_none_left a rest ≡ Ok b → (rest ≡ []) × (a ≡ b)
  none_left a [] b e = (refl, cc)
  none_left a (t ∷ ts) b e = absurd cc

  -- tokens are left where the reading stands still behind a value
  some_left : (a : A) (rest bad : List Token) → with_none_left a rest ≡ Err bad → (t : Token) × (ts : List Token) × (rest ≡ t ∷ ts) × (rest ≡ bad)
  some_left a [] bad e = absurd cc
  some_left a (t ∷ ts) bad e = (t, ts, refl, cc)

  -- the phrase of all tokens, by what the reader answered
  all_found_by : (r : Reading A) (ts : List Token) (a : A) → reader ts ≡ r → finished r ≡ Ok a → phrase ts a
  all_found_by (Err bad) ts a is e = absurd cc
  all_found_by (Ok x) ts a is e =
      let h = none_left x.0 x.1 a e in
      let found = reads.found ts x.0 x.1 is in
      let whole : found.taken ≡ ts = sym (append-nil found.taken) ∙ ap (λ (l : List Token). found.taken ++ l) (sym h.0) ∙ sym found.parts in
      subst (λ (l : List Token). phrase l a) whole (subst (phrase found.taken) h.1 found.spelled)

  -- what is read of all tokens the phrase says of them
  pub all_found : (ts : List Token) (a : A) → finished (reader ts) ≡ Ok a → phrase ts a
  all_found ts a e = all_found_by (reader ts) ts a refl e

  -- nothing that the phrase spells begins so
  abbrev pub IsDead : List Token → List Token → Type 0
  IsDead taken [] = (a : A) → phrase taken a → ⊥
  IsDead taken (t ∷ ts) = (more : List Token) (a : A) → phrase ((taken ++ t ∷ []) ++ more) a → ⊥

  -- the phrase may begin with the tokens before these, and with no more of them
  pub record AllStuck (ts bad : List Token) : Type 0 where
    pub taken : List Token
    pub parts : ts ≡ taken ++ bad
    pub more : List Token
    pub value : A
    pub completed : phrase (taken ++ more) value
    pub dead : IsDead taken bad

  -- where every list that begins so stands still, no phrase begins so
  dead_by : (taken bad : List Token) → ((other : List Token) → SameHead bad other → finished (reader (taken ++ other)) ≡ Err other) → IsDead taken bad
  dead_by taken [] fails = λ a spelled.
      let e = sym (all_only taken a spelled) ∙ ap (λ (l : List Token). finished (reader l)) (sym (append-nil taken)) ∙ fails [] tt in
      absurd cc
  dead_by taken (t ∷ ts) fails = λ more a spelled.
      let e = sym (all_only ((taken ++ t ∷ []) ++ more) a spelled)
      ∙ ap (λ (l : List Token). finished (reader l)) (append_assoc taken (t ∷ []) more) ∙ fails (t ∷ more) refl in
      absurd cc

  -- a value with tokens behind it stands still at them
  left_over : (a : A) (t : Token) (ts other : List Token) → SameHead (t ∷ ts) other → with_none_left a other ≡ Err other
  left_over a t ts [] s = absurd s
  left_over a t ts (u ∷ us) s = refl

  -- where all tokens are refused, by what the reader answered
  all_stuck_by : (r : Reading A) (ts bad : List Token) → reader ts ≡ r → finished r ≡ Err bad → AllStuck ts bad
  all_stuck_by (Err b) ts bad is e =
      let same : b ≡ bad = cc in
      let stuck = reads.stuck ts bad (is ∙ ap (refused A) same) in
      record {
        taken = stuck.taken;
        parts = stuck.parts;
        more = stuck.more;
        value = stuck.value;
        completed = stuck.completed;
        dead = dead_by stuck.taken bad (λ other s. ap finished (stuck.again other s));
      }
  all_stuck_by (Ok x) ts bad is e =
      let h = some_left x.0 x.1 bad e in
      let found = reads.found ts x.0 x.1 is in
      record {
        taken = found.taken;
        parts = found.parts ∙ ap (λ (l : List Token). found.taken ++ l) h.3;
        more = [];
        value = x.0;
        completed = subst (λ (l : List Token). phrase l x.0) (sym (append-nil found.taken)) found.spelled;
        dead = dead_by found.taken bad (λ other s.
            let head : SameHead x.1 other = subst (λ (l : List Token). SameHead l other) (sym h.3) s in
            ap finished (found.again other head)
            ∙ left_over x.0 h.0 h.1 other (subst (λ (l : List Token). SameHead l other) h.2 head));
      }

  -- a reader that stops says where no phrase goes on
  pub all_stuck : (ts bad : List Token) → finished (reader ts) ≡ Err bad → AllStuck ts bad
  all_stuck ts bad e = all_stuck_by (reader ts) ts bad refl e
