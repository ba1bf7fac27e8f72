-- What it means that a reader reads a phrase, and how readers of phrases are made of readers of
-- smaller ones.
use Rattle.std.proofs.Common.{◌≡◌, ℕ, Bool, true, false, ◌⊎◌, List, [], ◌∷◌, ◌++◌, Option, Some, None, Ok, Err, refl, sym, ap, subst, ◌∙◌, cond, inl, inr}
use Rattle.std.proofs.lemmas.Slice.Eq.{bytes_eq-Decides}
use Rattle.mk_ast.specs.Tokens.{Token}
use Rattle.mk_ast.specs.Phrases.{Phrase, one, made}
use Rattle.mk_parse.specs.Readers.{Reading, Reader, ◌>>=◌, starts, says, never, given, takes, makes}

-- no token of these goes on with the phrase
abbrev pub Stops : (Token → Bool) → List Token → Type 0
Stops more [] = Unit {0}
Stops more (t ∷ ts) = more t ≡ false

-- the lists begin with the same token, or both are empty
abbrev pub SameHead : List Token → List Token → Type 0
SameHead [] [] = Unit {0}
SameHead [] (u ∷ us) = ⊥
SameHead (t ∷ ts) [] = ⊥
SameHead (t ∷ ts) (u ∷ us) = t ≡ u

-- what was found: the tokens that were taken spell it, whatever follows behind the next token
pub record Found {A : Type 0} (reader : Reader A) (phrase : Phrase A) (ts : List Token) (a : A) (rest : List Token) : Type 0 where
  pub taken : List Token
  pub parts : ts ≡ taken ++ rest
  pub spelled : phrase taken a
  pub again : (other : List Token) → SameHead rest other → reader (taken ++ other) ≡ Ok (a, other)

-- what is stuck: the tokens before can be completed, and it is stuck there whatever follows behind
-- the next token
pub record Stuck {A : Type 0} (reader : Reader A) (phrase : Phrase A) (ts bad : List Token) : Type 0 where
  pub taken : List Token
  pub parts : ts ≡ taken ++ bad
  pub more : List Token
  pub value : A
  pub completed : phrase (taken ++ more) value
  pub again : (other : List Token) → SameHead bad other → reader (taken ++ other) ≡ Err other

-- the reader reads the phrase, where no token that passes `goes_on` follows
pub record Reads {A : Type 0} (reader : Reader A) (phrase : Phrase A) (goes_on : Token → Bool) : Type 0 where
  pub found : (ts : List Token) (a : A) (rest : List Token) → reader ts ≡ Ok (a, rest) → Found reader phrase ts a rest
  pub only : (taken : List Token) (a : A) (rest : List Token) → phrase taken a → Stops goes_on rest → reader (taken ++ rest) ≡ Ok (a, rest)
  pub stuck : (ts bad : List Token) → reader ts ≡ Err bad → Stuck reader phrase ts bad
  pub sample : List Token
  pub sample_value : A
  pub sampled : phrase sample sample_value

-- what the phrase spells begins with a token that passes the test
abbrev pub BeginsBy : {A : Type 0} → (Token → Bool) → Phrase A → Type 0
BeginsBy test phrase = (ts : List Token) (a : _) → phrase ts a → (t : Token) × (rest : List Token) × (ts ≡ t ∷ rest) × (test t ≡ true)

-- what was read, and the tokens behind it
abbrev pub read : (A : Type 0) → A × List Token → Reading A
read A x = Ok x

-- nothing was read, and the tokens where none fits
abbrev pub refused : (A : Type 0) → List Token → Reading A
refused A bad = Err bad

-- two readings of the same answer have the same value and the same tokens left
pub ok_same : (A : Type 0) (x y : A × List Token) → read A x ≡ read A y → x ≡ y
ok_same A x y e = cc

-- two refusals of the same answer stand at the same tokens
pub err_same : (A : Type 0) (x y : List Token) → refused A x ≡ refused A y → x ≡ y
err_same A x y e = cc

-- what two readers read, the first has read, and then the second
pub bind_ok : {A B : Type 0} (r : Reading A) (f : A × List Token → Reading B) (y : B × List Token) → (r >>= f) ≡ Ok y
    → (x : A × List Token) × (r ≡ Ok x) × (f x ≡ Ok y)
bind_ok (Ok x) f y e = (x, refl, e)
bind_ok (Err bad) f y e = absurd cc

-- where two readers stand still, the first does, or it has read and the second does
pub bind_err : {A B : Type 0} (r : Reading A) (f : A × List Token → Reading B) (bad : List Token) → (r >>= f) ≡ Err bad
    → (r ≡ Err bad) ⊎ ((x : A × List Token) × (r ≡ Ok x) × (f x ≡ Err bad))
bind_err (Ok x) f bad e = inr (x, refl, e)
bind_err {A = A} {B = B} (Err b) f bad e = inl (ap (refused A) (err_same B b bad e))

-- a choice that read something chose the reading
pub cond_ok : {A : Type 0} (b : Bool) (r : Reading A) (l : List Token) (z : A × List Token) → cond b r (Err l) ≡ Ok z → (b ≡ true) × (r ≡ Ok z)
cond_ok true r l z e = (refl, e)
cond_ok false r l z e = absurd cc

-- a choice that stands still chose a reading that does, or none
pub cond_err : {A : Type 0} (b : Bool) (r : Reading A) (l bad : List Token) → cond b r (Err l) ≡ Err bad
    → ((b ≡ true) × (r ≡ Err bad)) ⊎ ((b ≡ false) × (l ≡ bad))
cond_err true r l bad e = inl (refl, e)
cond_err {A = A} false r l bad e = inr (refl, err_same A l bad e)

-- which of two was chosen
pub cond_is : {X : Type 0} (b : Bool) (x y z : X) → cond b x y ≡ z → ((b ≡ true) × (x ≡ z)) ⊎ ((b ≡ false) × (y ≡ z))
cond_is true x y z e = inl (refl, e)
cond_is false x y z e = inr (refl, e)

-- a token that passes for a word has its bytes
pub says_is : (word : List ℕ) (t : Token) → says word t ≡ true → t.text ≡ word
says_is word t e = (bytes_eq-Decides t.text word).0 e

-- and a token that has them passes
pub is_says : (word : List ℕ) (t : Token) → t.text ≡ word → says word t ≡ true
is_says word t e = (bytes_eq-Decides t.text word).1 e

-- lists with one front and the same first token behind it have the same first token
pub same_head : (front rest other : List Token) → SameHead rest other → SameHead (front ++ rest) (front ++ other)
same_head [] rest other s = s
same_head (t ∷ ts) rest other s = refl

-- lists with the same first token begin with the same test
pub starts_same : (test : Token → Bool) (rest other : List Token) → SameHead rest other → starts test other ≡ starts test rest
starts_same test [] [] s = refl
starts_same test [] (u ∷ us) s = absurd s
starts_same test (t ∷ ts) [] s = absurd s
starts_same test (t ∷ ts) (u ∷ us) s = ap test (sym s)

-- stuck at the first token
pub stuck_here : {A : Type 0} (reader : Reader A) (phrase : Phrase A) (ts bad : List Token) (sample : List Token) (value : A)
    → ts ≡ bad → phrase sample value → ((other : List Token) → SameHead ts other → reader other ≡ Err other) → Stuck reader phrase ts bad
stuck_here reader phrase ts bad sample value e spelled fail = record {
  taken = [];
  parts = e;
  more = sample;
  value = value;
  completed = spelled;
  again = λ other s. fail other (subst (λ (l : List Token). SameHead l other) (sym e) s);
}

-- a reader that took the token had a value of it, and leaves the others
given_ok : {A : Type 0} (o : Option A) (t : Token) (ts : List Token) (a : A) (rest : List Token) → given t ts o ≡ Ok (a, rest)
    → (o ≡ Some a) × (ts ≡ rest)
given_ok {A = A} (Some b) t ts a rest e =
    let same = ok_same A (b, ts) (a, rest) e in
    (ap (λ (x : A × List Token). Some x.0) same, ap (λ (x : A × List Token). x.1) same)
given_ok None t ts a rest e = absurd cc

-- one that refused it had none, and leaves it
given_err : {A : Type 0} (o : Option A) (t : Token) (ts bad : List Token) → given t ts o ≡ Err bad → (o ≡ None) × (t ∷ ts ≡ bad)
given_err (Some b) t ts bad e = absurd cc
given_err {A = A} None t ts bad e = (refl, err_same A (t ∷ ts) bad e)

-- one token
module _ {A : Type 0} (value : Token → Option A) (Gives : Token → A → Type 0)
    (sound : (t : Token) (a : A) → value t ≡ Some a → Gives t a)
    (complete : (t : Token) (a : A) → Gives t a → value t ≡ Some a) where
  -- the one token that was taken gives the value
  token_found : (ts : List Token) (a : A) (rest : List Token) → takes value ts ≡ Ok (a, rest) → Found (takes value) (one Gives) ts a rest
  token_found [] a rest e = absurd cc
  token_found (t ∷ ts) a rest e =
      let h = given_ok (value t) t ts a rest e in
      record {
        taken = t ∷ [];
        parts = ap (λ (r : List Token). t ∷ r) h.1;
        spelled = (t, refl, sound t a h.0);
        again = λ other s. ap (given t other) h.0;
      }

  -- a token that gives a value is read
  token_only : (taken : List Token) (a : A) (rest : List Token) → one Gives taken a → takes value (taken ++ rest) ≡ Ok (a, rest)
  token_only taken a rest spelled =
      ap (λ (u : List Token). takes value (u ++ rest)) spelled.1 ∙ ap (given spelled.0 rest) (complete spelled.0 a spelled.2)

  -- one that gives none is refused, whatever stands behind it
  token_fails : (t : Token) (ts other : List Token) → value t ≡ None → SameHead (t ∷ ts) other → takes value other ≡ Err other
  token_fails t ts [] none s = absurd s
  token_fails t ts (u ∷ us) none s = ap (given u us) (ap value (sym s) ∙ none)

  -- and so is no token
  token_fails_nil : (other : List Token) → SameHead [] other → takes value other ≡ Err other
  token_fails_nil [] s = refl
  token_fails_nil (u ∷ us) s = absurd s

  -- the reader of one token is stuck at the first token
  token_stuck : (sample : Token) (a : A) → Gives sample a → (ts bad : List Token) → takes value ts ≡ Err bad → Stuck (takes value) (one Gives) ts bad
  token_stuck sample a gives [] bad e =
      stuck_here (takes value) (one Gives) [] bad (sample ∷ []) a (err_same A [] bad e) (sample, refl, gives) token_fails_nil
  token_stuck sample a gives (t ∷ ts) bad e =
      let h = given_err (value t) t ts bad e in
      stuck_here (takes value) (one Gives) (t ∷ ts) bad (sample ∷ []) a h.1 (sample, refl, gives) (λ other s. token_fails t ts other h.0 s)

  -- the reader of one token reads the phrase of one token
  pub reads_token : (sample : Token) (a : A) → Gives sample a → Reads (takes value) (one Gives) never
  reads_token sample a gives = record {
    found = token_found;
    only = λ taken b rest spelled stops. token_only taken b rest spelled;
    stuck = token_stuck sample a gives;
    sample = sample ∷ [];
    sample_value = a;
    sampled = (sample, refl, gives);
  }

-- what is made of what is read
module _ {A B : Type 0} (f : A → B) {reader : Reader A} {phrase : Phrase A} {goes_on : Token → Bool} (reads : Reads reader phrase goes_on) where
  -- what was found gives what is made of it
  makes_found : (ts : List Token) (b : B) (rest : List Token) → makes f reader ts ≡ Ok (b, rest) → Found (makes f reader) (made f phrase) ts b rest
  makes_found ts b rest e =
      let h = bind_ok (reader ts) (λ x. Ok (f x.0, x.1)) (b, rest) e in
      let same = ok_same B (f h.0.0, h.0.1) (b, rest) h.2 in
      let value : f h.0.0 ≡ b = ap (λ (x : B × List Token). x.0) same in
      let left : h.0.1 ≡ rest = ap (λ (x : B × List Token). x.1) same in
      let found = reads.found ts h.0.0 h.0.1 h.1 in
      record {
        taken = found.taken;
        parts = found.parts ∙ ap (λ (r : List Token). found.taken ++ r) left;
        spelled = (h.0.0, found.spelled, sym value);
        again = λ other s. ap (λ (r : Reading A). r >>= (λ x. Ok (f x.0, x.1))) (found.again other (subst (λ (r : List Token). SameHead r other) (sym left) s))
            ∙ ap (λ (v : B). Ok (v, other)) value;
      }

  -- what the phrase spells is read, and the function made of it
  makes_only : (taken : List Token) (b : B) (rest : List Token) → made f phrase taken b → Stops goes_on rest → makes f reader (taken ++ rest) ≡ Ok (b, rest)
  makes_only taken b rest spelled stops =
      ap (λ (r : Reading A). r >>= (λ x. Ok (f x.0, x.1))) (reads.only taken spelled.0 rest spelled.1 stops) ∙ ap (λ (v : B). Ok (v, rest)) (sym spelled.2)

  -- it is stuck where the reader is
  makes_stuck : (ts bad : List Token) → makes f reader ts ≡ Err bad → Stuck (makes f reader) (made f phrase) ts bad
  makes_stuck ts bad e = elim (bind_err (reader ts) (λ x. Ok (f x.0, x.1)) bad e) [
    | inl is ↦ (
        let stuck = reads.stuck ts bad is in
        record {
          taken = stuck.taken;
          parts = stuck.parts;
          more = stuck.more;
          value = f stuck.value;
          completed = (stuck.value, stuck.completed, refl);
          again = λ other s. ap (λ (r : Reading A). r >>= (λ x. Ok (f x.0, x.1))) (stuck.again other s);
        })
    | inr h ↦ absurd (let wrong = h.2 in cc)
  ]

  -- a reader with a function reads the phrase with that function
  pub reads_made : Reads (makes f reader) (made f phrase) goes_on
  reads_made = record {
    found = makes_found;
    only = makes_only;
    stuck = makes_stuck;
    sample = reads.sample;
    sample_value = f reads.sample_value;
    sampled = (reads.sample_value, reads.sampled, refl);
  }
