-- Texts whose tokens spell a value by a phrase, wherever they stand.
use Rattle.std.proofs.Common.{◌≡◌, ℕ, inl, inr, List, [], ◌∷◌, ◌++◌, map, flat_map, refl, sym, ap, ◌∙◌, subst, append_assoc, Contains}
use Rattle.std.proofs.lemmas.List.{append-nil}
use Rattle.std.proofs.lemmas.List.Folds.{flat_map-map}
use Rattle.std.specs.List.{AllByRecursion}
use Rattle.mk_base.specs.declared.Place.{Place}
use Rattle.mk_ast.specs.Tokens.{Token, IsGap, IsComment, IsToken, symbols, place_of, BeginsWith, NothingGoesOn}
use Rattle.mk_ast.specs.Phrases.{Phrase, one, made, ◌or◌, ◌and◌, after, until, many, separated, several}
use Rattle.mk_ast.specs.Canonical.{joined}

-- gaps and comments go on with gaps
mutual
  -- a gap and then another one are a gap
  pub IsGap-append : (g h : List ℕ) → IsGap g → IsGap h → IsGap (g ++ h)
  IsGap-append [] h p q = q
  IsGap-append (b ∷ g) h (inl p) q = inl (p.0, IsGap-append g h p.1 q)
  IsGap-append (b ∷ g) h (inr p) q = inr (p.0, IsComment-append g h p.1 q)

  IsComment-append : (c h : List ℕ) → IsComment c → IsGap h → IsComment (c ++ h)
  IsComment-append [] h p q = absurd p
  IsComment-append (b ∷ c) h (inl p) q = inl (p.0, IsGap-append c h p.1 q)
  IsComment-append (b ∷ c) h (inr p) q = inr (p.0, IsComment-append c h p.1 q)

-- tokens, and then tokens
BeginsWith-append : (text left middle rest : List ℕ) (ts us : List Token) → BeginsWith text left ts middle → BeginsWith text middle us rest →
    BeginsWith text left (ts ++ us) rest
BeginsWith-append text left middle rest [] us p q = subst (λ l. BeginsWith text l us rest) (sym p) q
BeginsWith-append text left middle rest (t ∷ ts) us p q = (p.0, p.1, BeginsWith-append text p.0 middle rest ts us p.2 q)

-- The text x stands behind a gap and before a rest. Its tokens spell a value that is like the one
-- meant, and behind them a gap is left.
pub record Reads {A : Type 0} (phrase : Phrase A) (Like : A → Type 0) (x text gap rest : List ℕ) : Type 0 where
  pub tokens : List Token
  pub behind : List ℕ
  pub begins : BeginsWith text (gap ++ (x ++ rest)) tokens (behind ++ rest)
  pub is_gap : IsGap behind
  pub value : A
  pub spells : phrase tokens value
  pub like : Like value

-- the text is read so wherever it stands before such a rest
pub record Reading {A : Type 0} (Rest : List ℕ → Type 0) (phrase : Phrase A) (Like : A → Type 0) (x : List ℕ) : Type 0 where
  pub at : (text gap rest : List ℕ) → IsGap gap → Rest rest → Reads phrase Like x text gap rest

-- any rest
abbrev pub Any : List ℕ → Type 0
Any rest = Unit {0}

module _ {A : Type 0} where
  -- one token
  pub reads_one : (Rest : List ℕ → Type 0) (Gives : Token → A → Type 0) (Like : A → Type 0) (x : List ℕ) →
      ((rest : List ℕ) → Rest rest → IsToken x rest) → ((at : Place) → (a : A) × Gives (record { text = x; at = at }) a × Like a) →
      Reading Rest (one Gives) Like x
  reads_one Rest Gives Like x is gives = record {
    at = λ text gap rest g r.
        let at = place_of text (x ++ rest) in
        let given = gives at in
        record {
          tokens = record { text = x; at = at } ∷ [];
          behind = [];
          begins = (rest, record { gap = gap; is_gap = g; parts = refl; is_token = is rest r; place = refl }, refl);
          is_gap = tt;
          value = given.0;
          spells = (record { text = x; at = at }, refl, given.1);
          like = given.2;
        };
  }

  -- a gap in front
  pub reads_gap : {Rest : List ℕ → Type 0} {phrase : Phrase A} {Like : A → Type 0} (h x : List ℕ) → IsGap h →
      Reading Rest phrase Like x → Reading Rest phrase Like (h ++ x)
  reads_gap h x is reading = record {
    at = λ text gap rest g r.
        let read = reading.at text (gap ++ h) rest (IsGap-append gap h g is) r in
        record {
          tokens = read.tokens;
          behind = read.behind;
          begins = subst (λ l. BeginsWith text l read.tokens (read.behind ++ rest)) (append_assoc gap h (x ++ rest) ∙ ap (λ l. gap ++ l) (sym (append_assoc h x rest))) read.begins;
          is_gap = read.is_gap;
          value = read.value;
          spells = read.spells;
          like = read.like;
        };
  }

  -- a gap behind
  pub reads_trail : {Rest : List ℕ → Type 0} (Rest' : List ℕ → Type 0) {phrase : Phrase A} {Like : A → Type 0} (h x : List ℕ) → IsGap h →
      ((rest : List ℕ) → Rest' rest → Rest (h ++ rest)) → Reading Rest phrase Like x → Reading Rest' phrase Like (x ++ h)
  reads_trail Rest' h x is may reading = record {
    at = λ text gap rest g r.
        let read = reading.at text gap (h ++ rest) g (may rest r) in
        record {
          tokens = read.tokens;
          behind = read.behind ++ h;
          begins = subst (λ l. BeginsWith text l read.tokens ((read.behind ++ h) ++ rest)) (ap (λ l. gap ++ l) (sym (append_assoc x h rest)))
              (subst (λ l. BeginsWith text (gap ++ (x ++ (h ++ rest))) read.tokens l) (sym (append_assoc read.behind h rest)) read.begins);
          is_gap = IsGap-append read.behind h read.is_gap is;
          value = read.value;
          spells = read.spells;
          like = read.like;
        };
  }

  -- before fewer rests
  pub reads_before : {Rest : List ℕ → Type 0} (Rest' : List ℕ → Type 0) {phrase : Phrase A} {Like : A → Type 0} (x : List ℕ) →
      ((rest : List ℕ) → Rest' rest → Rest rest) → Reading Rest phrase Like x → Reading Rest' phrase Like x
  reads_before Rest' x may reading = record { at = λ text gap rest g r. reading.at text gap rest g (may rest r) }

  -- another phrase that spells as much, and a value that is like more
  pub reads_as : {Rest : List ℕ → Type 0} {B : Type 0} {phrase : Phrase A} (other : Phrase B) {Like : A → Type 0} (Like' : B → Type 0) (x : List ℕ) →
      (f : A → B) → ((tokens : List Token) (a : A) → phrase tokens a → Like a → other tokens (f a) × Like' (f a)) →
      Reading Rest phrase Like x → Reading Rest other Like' x
  reads_as other Like' x f gives reading = record {
    at = λ text gap rest g r.
        let read = reading.at text gap rest g r in
        let given = gives read.tokens read.value read.spells read.like in
        record {
          tokens = read.tokens;
          behind = read.behind;
          begins = read.begins;
          is_gap = read.is_gap;
          value = f read.value;
          spells = given.0;
          like = given.1;
        };
  }

  -- no token at all
  pub reads_nothing : (Rest : List ℕ → Type 0) (phrase : Phrase A) (Like : A → Type 0) (a : A) → phrase [] a → Like a → Reading Rest phrase Like []
  reads_nothing Rest phrase Like a spells like = record {
    at = λ text gap rest g r. record { tokens = []; behind = gap; begins = refl; is_gap = g; value = a; spells = spells; like = like };
  }

  -- a word or symbol, and then the phrase
  pub reads_after : {Rest : List ℕ → Type 0} {phrase : Phrase A} {Like : A → Type 0} (w x : List ℕ) →
      ((rest : List ℕ) → Rest rest → IsToken w (x ++ rest)) → Reading Rest phrase Like x → Reading Rest (after w phrase) Like (w ++ x)
  reads_after w x is reading = record {
    at = λ text gap rest g r.
        let read = reading.at text [] rest tt r in
        let token : Token = record { text = w; at = place_of text (w ++ (x ++ rest)) } in
        record {
          tokens = token ∷ read.tokens;
          behind = read.behind;
          begins = (
            x ++ rest,
            record { gap = gap; is_gap = g; parts = ap (λ l. gap ++ l) (append_assoc w x rest); is_token = is rest r; place = refl },
            read.begins,
          );
          is_gap = read.is_gap;
          value = read.value;
          spells = (token, read.tokens, refl, refl, read.spells);
          like = read.like;
        };
  }

  -- the phrase, and then a symbol
  pub reads_until : {Rest : List ℕ → Type 0} {phrase : Phrase A} {Like : A → Type 0} (w x : List ℕ) → Contains symbols w →
      ((rest : List ℕ) → Rest (w ++ rest)) → Reading Rest phrase Like x → Reading Any (until w phrase) Like (x ++ w)
  reads_until w x is may reading = record {
    at = λ text gap rest g r.
        let read = reading.at text gap (w ++ rest) g (may rest) in
        let token : Token = record { text = w; at = place_of text (w ++ rest) } in
        record {
          tokens = read.tokens ++ token ∷ [];
          behind = [];
          begins = subst (λ l. BeginsWith text l (read.tokens ++ token ∷ []) rest) (ap (λ l. gap ++ l) (sym (append_assoc x w rest)))
              (BeginsWith-append text _ (read.behind ++ (w ++ rest)) rest read.tokens (token ∷ []) read.begins
              (rest, record { gap = read.behind; is_gap = read.is_gap; parts = refl; is_token = inl is; place = refl }, refl));
          is_gap = tt;
          value = read.value;
          spells = (read.tokens, token, refl, refl, read.spells);
          like = read.like;
        };
  }

-- one phrase, and then the other
pub reads_and : {A B : Type 0} {FirstRest SecondRest : List ℕ → Type 0} {first : Phrase A} {second : Phrase B} {LikeFirst : A → Type 0} {LikeSecond : B → Type 0} (x y : List ℕ) →
    ((rest : List ℕ) → SecondRest rest → FirstRest (y ++ rest)) → Reading FirstRest first LikeFirst x → Reading SecondRest second LikeSecond y →
    Reading SecondRest (first and second) (λ p. LikeFirst p.0 × LikeSecond p.1) (x ++ y)
reads_and x y may one_reading other_reading = record {
  at = λ text gap rest g r.
      let one_read = one_reading.at text gap (y ++ rest) g (may rest r) in
      let other_read = other_reading.at text one_read.behind rest one_read.is_gap r in
      record {
        tokens = one_read.tokens ++ other_read.tokens;
        behind = other_read.behind;
        begins = subst (λ l. BeginsWith text l (one_read.tokens ++ other_read.tokens) (other_read.behind ++ rest)) (ap (λ l. gap ++ l) (sym (append_assoc x y rest)))
            (BeginsWith-append text _ _ _ one_read.tokens other_read.tokens one_read.begins other_read.begins);
        is_gap = other_read.is_gap;
        value = (one_read.value, other_read.value);
        spells = (one_read.tokens, other_read.tokens, refl, one_read.spells, other_read.spells);
        like = (one_read.like, other_read.like);
      };
}

-- what is made of a value
pub reads_made : {A B : Type 0} {Rest : List ℕ → Type 0} {phrase : Phrase A} {Like : A → Type 0} (Like' : B → Type 0) (f : A → B) (x : List ℕ) →
    ((a : A) → Like a → Like' (f a)) → Reading Rest phrase Like x → Reading Rest (made f phrase) Like' x
reads_made {phrase = phrase} Like' f x likes reading = reads_as (made f phrase) Like' x f (λ tokens a spells like. ((a, spells, refl), likes a like)) reading

module _ {A : Type 0} {Rest : List ℕ → Type 0} {Like : A → Type 0} (first second : Phrase A) (x : List ℕ) where
  -- the first of two phrases
  pub reads_first : Reading Rest first Like x → Reading Rest (first or second) Like x
  reads_first reading = reads_as (first or second) Like x (λ a. a) (λ tokens a spells like. (inl spells, like)) reading

  -- the second of two phrases
  pub reads_second : Reading Rest second Like x → Reading Rest (first or second) Like x
  reads_second reading = reads_as (first or second) Like x (λ a. a) (λ tokens a spells like. (inr spells, like)) reading

-- ---- lists of things, which are alike where a function of them is the same

-- the values are like these things, by what a function gives
abbrev pub AreLike : {A B : Type 0} → (A → B) → List A → List A → Type 0
AreLike same xs values = map same values ≡ map same xs

-- the texts of things, one behind the other
pub reads_many : {A B : Type 0} {Rest : List ℕ → Type 0} (phrase : Phrase A) (same : A → B) (f : A → List ℕ) (xs : List A) →
    ((x : A) (rest : List ℕ) → Rest rest → Rest (f x ++ rest)) →
    AllByRecursion (λ x. Reading Rest phrase (λ a. same a ≡ same x) (f x)) xs →
    Reading Rest (many phrase) (AreLike same xs) (flat_map f xs)
reads_many {Rest = Rest} phrase same f [] may all = reads_nothing Rest (many phrase) (AreLike same []) [] refl refl
reads_many {A} {B} {Rest} phrase same f (x ∷ xs) may all =
    reads_as (many phrase) (AreLike same (x ∷ xs)) (f x ++ flat_map f xs) (λ p. p.0 ∷ p.1)
    (λ tokens p spells like. ((spells.0, spells.1, spells.2, spells.3, spells.4), λ i. like.0 i ∷ like.1 i))
    (reads_and (f x) (flat_map f xs) (λ rest r. goes xs rest r) all.0 (reads_many phrase same f xs may all.1))
  where
    goes : (ys : List A) (rest : List ℕ) → Rest rest → Rest (flat_map f ys ++ rest)
    goes [] rest r = r
    goes (y ∷ ys) rest r = subst Rest (sym (append_assoc (f y) (flat_map f ys) rest)) (may y (flat_map f ys ++ rest) (goes ys rest r))

-- ---- lists with a symbol between

module _ {A B : Type 0} (phrase : Phrase A) (same : A → B) where
  -- the values that are like this one
  abbrev pub Like : A → A → Type 0
  Like x a = same a ≡ same x

  -- things with a symbol between, and gaps round it
  pub reads_separated : (f : A → List ℕ) (g w h : List ℕ) → IsGap g → IsGap h → Contains symbols w →
      ((rest : List ℕ) → NothingGoesOn ((g ++ (w ++ h)) ++ rest)) → (x : A) (xs : List A) →
      AllByRecursion (λ y. Reading NothingGoesOn phrase (Like y) (f y)) (x ∷ xs) →
      Reading NothingGoesOn (separated w phrase) (AreLike same (x ∷ xs)) (joined (g ++ (w ++ h)) (map f (x ∷ xs)))
  reads_separated f g w h is_g is_h symbol stops x xs all =
      reads_as (separated w phrase) (AreLike same (x ∷ xs)) _ (λ p. p.0 ∷ p.1)
      (λ tokens p spells like. ((p, spells, refl), λ i. like.0 i ∷ like.1 i))
      (reads_and (f x) _ (λ rest r. goes xs rest r) all.0
      (subst (Reading NothingGoesOn (many (after w phrase)) (AreLike same xs)) (sym (flat_map-map _ f xs))
      (reads_many (after w phrase) same (λ y. (g ++ (w ++ h)) ++ f y) xs may (each xs all.1))))
    where
      may : (y : A) (rest : List ℕ) → NothingGoesOn rest → NothingGoesOn (((g ++ (w ++ h)) ++ f y) ++ rest)
      may y rest r = subst NothingGoesOn (sym (append_assoc (g ++ (w ++ h)) (f y) rest)) (stops (f y ++ rest))

      each : (ys : List A) → AllByRecursion (λ y. Reading NothingGoesOn phrase (Like y) (f y)) ys →
          AllByRecursion (λ y. Reading NothingGoesOn (after w phrase) (Like y) ((g ++ (w ++ h)) ++ f y)) ys
      each [] p = tt
      each (y ∷ ys) p = (
        subst (Reading NothingGoesOn (after w phrase) (Like y))
            (ap (λ l. g ++ l) (sym (append_assoc w h (f y))) ∙ sym (append_assoc g (w ++ h) (f y)))
            (reads_gap g (w ++ (h ++ f y)) is_g (reads_after w (h ++ f y) (λ rest r. inl symbol) (reads_gap h (f y) is_h p.0))),
        each ys p.1,
      )

      goes : (ys : List A) (rest : List ℕ) → NothingGoesOn rest → NothingGoesOn (flat_map (λ next. (g ++ (w ++ h)) ++ next) (map f ys) ++ rest)
      goes [] rest r = r
      goes (y ∷ ys) rest r =
          let others = flat_map (λ next. (g ++ (w ++ h)) ++ next) (map f ys) in
          subst NothingGoesOn (sym (append_assoc ((g ++ (w ++ h)) ++ f y) others rest ∙ append_assoc (g ++ (w ++ h)) (f y) (others ++ rest)))
          (stops (f y ++ (others ++ rest)))

  module _ (w : List ℕ) (several_of : List A → A) where
    -- one thing alone
    pub reads_alone : (x : A) (t : List ℕ) → Reading NothingGoesOn phrase (Like x) t →
        Reading NothingGoesOn (made (several several_of) (separated w phrase)) (Like x) t
    reads_alone x t =
        reads_as (made (several several_of) (separated w phrase)) (Like x) t (λ a. a)
        (λ tokens a spells like. ((a ∷ [], ((a, []), (tokens, [], sym (append-nil tokens), spells, refl), refl), refl), like))

    -- at least two things
    pub reads_several : (joint : List B → B) → ((values : List A) → same (several_of values) ≡ joint (map same values)) → (x y : A) (zs : List A) (t : List ℕ) →
        Reading NothingGoesOn (separated w phrase) (AreLike same (x ∷ y ∷ zs)) t →
        Reading NothingGoesOn (made (several several_of) (separated w phrase)) (Like (several_of (x ∷ y ∷ zs))) t
    reads_several joint is x y zs t = reads_made (Like (several_of (x ∷ y ∷ zs))) (several several_of) t likes
      where
        likes : (values : List A) → map same values ≡ map same (x ∷ y ∷ zs) → same (several several_of values) ≡ same (several_of (x ∷ y ∷ zs))
        likes [] e = absurd cc
        likes (a ∷ []) e = absurd cc
        likes (a ∷ b ∷ cs) e = is (a ∷ b ∷ cs) ∙ ap joint e ∙ sym (is (x ∷ y ∷ zs))
