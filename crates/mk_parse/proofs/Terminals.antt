-- The tests of names, numbers, sizes and elements, and how their first bytes tell them apart.
use Rattle.std.proofs.Common.{◌≡◌, ◌≢◌, ℕ, zero, suc, ◌+◌, ◌*◌, ◌<◌, Bool, true, false, ◌||◌, List, [], ◌∷◌, ◌++◌, length, Option, Some, None, Ok, Err, nat_lt, refl, sym, ap, ◌∙◌, arith, cond}
use Rattle.std.specs.Prelude.{codes, decimal, bytes_eq, Contains, IsTrue, ◌↔◌, MatchOption, ◌&&◌, not}
use Rattle.std.specs.List.{AllByRecursion}
use Rattle.std.specs.Char.{is_ascii_digit}
use Rattle.std.specs.Str.{all_ascii_digits}
use Rattle.std.proofs.lemmas.Bool.{and_parts, ltb-true, lt-ltb, false≢true}
use Rattle.std.proofs.lemmas.Slice.Eq.{bytes_eq-Decides}
use Rattle.mk_base.specs.declared.Place.{Place}
use Rattle.mk_base.specs.Digits.{hex_value}
use Rattle.mk_ast.specs.Tokens.{Token, begins_word, goes_on, IsWord, IsName, reserved, IsNumber, IsElement}
use Rattle.mk_parse.specs.Readers.{starts, given, takes}
use Rattle.mk_parse.proofs.ReaderLaws.{read, refused}
use Rattle.mk_parse.specs.Reading.{all_go_on, is_word, is_among, is_name_text, is_name, where_true, name_of, last_below, number_text, number_of, positive, size_of, of_digits, element_text, with_place, element_of, gives}
use Rattle.mk_parse.proofs.Joined.{token_of}
use Rattle.mk_parse.proofs.Decoding.{number_parts, number_unique}

-- what is there twice is the same
pub some_is : {A : Type 0} {a b : A} → Some a ≡ Some b → a ≡ b
some_is e = cc

-- ---- names

-- bytes that pass the test all go on
go_on_all : (bs : List ℕ) → all_go_on bs ≡ true → AllByRecursion (λ c. IsTrue (goes_on c)) bs
unfolding all_go_on
go_on_all [] e = tt
go_on_all (b ∷ bs) e = let h = and_parts (goes_on b) (all_go_on bs) e in (h.0, go_on_all bs h.1)

-- and where all go on the test passes
all_go : (bs : List ℕ) → AllByRecursion (λ c. IsTrue (goes_on c)) bs → all_go_on bs ≡ true
unfolding all_go_on
all_go [] h = refl
all_go (b ∷ bs) h = rw (h.0, all_go bs h.1) refl

-- what passes for a word is one
word_sound : (text : List ℕ) → is_word text ≡ true → IsWord text
word_sound [] e = absurd cc
word_sound (b ∷ bs) e =
    let h = and_parts (begins_word b) (all_go_on bs && nat_lt (length bs) 64) e in
    let k = and_parts (all_go_on bs) (nat_lt (length bs) 64) h.1 in
    (h.0, go_on_all bs k.0, ltb-true (length bs) 64 k.1)

-- and a word passes
word_complete : (text : List ℕ) → IsWord text → is_word text ≡ true
word_complete [] h = absurd h
word_complete (b ∷ bs) h = rw (h.0, all_go bs h.1, lt-ltb (length bs) 64 h.2) refl

-- what passes for one of these is one
pub among_sound : (ws : List (List ℕ)) (text : List ℕ) → is_among ws text ≡ true → Contains ws text
unfolding is_among
among_sound [] text e = absurd cc
among_sound (w ∷ ws) text e = by (bytes_eq w text) refl e (among_sound ws text)
  where
    by : (b : Bool) → bytes_eq w text ≡ b → (b || is_among ws text) ≡ true → (is_among ws text ≡ true → Contains ws text) → Contains (w ∷ ws) text
    by true is e others = (0, omega arith, (bytes_eq-Decides w text).0 is)
    by false is e others = let h = others e in (suc h.0, omega (arith, h.1), h.2)

-- and one of these passes
pub among_complete : (ws : List (List ℕ)) (text : List ℕ) → Contains ws text → is_among ws text ≡ true
unfolding is_among
among_complete [] text (k, lt, e) = absurd (omega (arith, lt))
among_complete (w ∷ ws) text (zero, lt, e) = rw ((bytes_eq-Decides w text).1 e) refl
among_complete (w ∷ ws) text (suc k, lt, e) = or_true (bytes_eq w text) (is_among ws text) (among_complete ws text (k, omega (arith, lt), e))
  where
    or_true : (a b : Bool) → b ≡ true → (a || b) ≡ true
    or_true true b e = refl
    or_true false b e = e

-- what is not so fails
not_true : (b : Bool) → not b ≡ true → b ≡ false
not_true true e = sym e
not_true false e = refl

-- what passes for a name is one
pub name_sound : (t : Token) → is_name t ≡ true → IsName t.text
unfolding is_name
name_sound t e =
    let h = and_parts (is_word t.text) (not (is_among reserved t.text)) e in
    (word_sound t.text h.0, λ c. false≢true (sym (not_true (is_among reserved t.text) h.1) ∙ among_complete reserved t.text c))

-- and a name passes
pub name_complete : (t : Token) → IsName t.text → is_name t ≡ true
unfolding is_name
name_complete t h = rw (word_complete t.text h.0) (by (is_among reserved t.text) refl)
  where
    by : (b : Bool) → is_among reserved t.text ≡ b → not b ≡ true
    by true e = absurd (h.1 (among_sound reserved t.text e))
    by false e = refl

-- a value that a test gives comes where it passes
where_some : {A : Type 0} (b : Bool) (a c : A) → where_true b a ≡ Some c → (b ≡ true) × (a ≡ c)
where_some true a c e = (refl, some_is e)
where_some false a c e = absurd cc

-- the name that a token gives is its own, with its place
pub name_of_sound : (t : Token) (x : List ℕ × Place) → name_of t ≡ Some x → IsName t.text × (x ≡ (t.text, t.at))
name_of_sound t x e = let h = where_some (is_name t) (t.text, t.at) x e in (name_sound t h.0, sym h.1)

-- and a name gives it
pub name_of_complete : (t : Token) (x : List ℕ × Place) → IsName t.text × (x ≡ (t.text, t.at)) → name_of t ≡ Some x
name_of_complete t x h = ap (λ (b : Bool). where_true b (t.text, t.at)) (name_complete t h.0) ∙ ap (λ (y : List ℕ × Place). Some y) (sym h.1)

-- ---- numbers

-- a number that is found passes, and is below the bound
below_sound : (k : ℕ) (p : ℕ → Bool) (n : ℕ) → last_below k p ≡ Some n → (p n ≡ true) × (n < k)
unfolding last_below
below_sound zero p n e = absurd cc
below_sound (suc k) p n e = by (p k) refl e (below_sound k p n)
  where
    by : (b : Bool) → p k ≡ b → cond b (Some k) (last_below k p) ≡ Some n → (last_below k p ≡ Some n → (p n ≡ true) × (n < k)) → (p n ≡ true) × (n < suc k)
    by true is e others = let same : k ≡ n = some_is e in (ap p (sym same) ∙ is, omega (arith, same))
    by false is e others = let h = others e in (h.0, omega (arith, h.1))

-- a number below a bound is below the one before, or is that
below_other : (n k : ℕ) → n < suc k → (k ≡ n → ⊥) → n < k
below_other n k lt other = omega (arith, lt, other)

-- the only number that passes is found
below_complete : (k : ℕ) (p : ℕ → Bool) (n : ℕ) → p n ≡ true → n < k → ((m : ℕ) → m < k → p m ≡ true → m ≡ n) → last_below k p ≡ Some n
unfolding last_below
below_complete zero p n is lt only = absurd (omega (arith, lt))
below_complete (suc k) p n is lt only =
    by (p k) refl (λ other. below_complete k p n is (below_other n k lt other) (λ m below e. only m (omega (arith, below)) e))
  where
    by : (b : Bool) → p k ≡ b → ((k ≡ n → ⊥) → last_below k p ≡ Some n) → cond b (Some k) (last_below k p) ≡ Some n
    by true e others = ap (λ (m : ℕ). Some m) (only k (omega arith) e)
    by false e others = others (λ same. false≢true (sym e ∙ ap p same ∙ is))

-- the number that a token gives is the one that it writes
pub number_sound : (t : Token) (n : ℕ) → number_of t ≡ Some n → IsNumber n t.text
unfolding number_text
number_sound t n e =
    let h = below_sound 65536 (λ n. bytes_eq t.text (decimal n)) n e in
    ((bytes_eq-Decides t.text (decimal n)).0 h.0, omega (arith, h.1))

-- and a number gives it
pub number_complete : (t : Token) (n : ℕ) → IsNumber n t.text → number_of t ≡ Some n
unfolding number_text
number_complete t n h =
    below_complete 65536 (λ n. bytes_eq t.text (decimal n)) n ((bytes_eq-Decides t.text (decimal n)).1 h.0) (omega (arith, h.1))
    (λ m below e. number_unique m n t.text ((bytes_eq-Decides t.text (decimal m)).0 e, omega (arith, below)) h)

-- the first byte of a number is a digit
pub number_first : (t : Token) (n : ℕ) → IsNumber n t.text → (b : ℕ) × (bs : List ℕ) × (t.text ≡ b ∷ bs) × (is_ascii_digit b ≡ true)
number_first t n h = by t.text ((number_parts n t.text h).0) ((number_parts n t.text h).2)
  where
    by : (text : List ℕ) → all_ascii_digits text ≡ true → 0 < length text → (b : ℕ) × (bs : List ℕ) × (text ≡ b ∷ bs) × (is_ascii_digit b ≡ true)
    by [] all some = absurd (omega (arith, some))
    by (b ∷ bs) all some = (b, bs, refl, (and_parts (is_ascii_digit b) (all_ascii_digits bs) all).0)

-- a number that is taken is no zero
positive_is : (o : Option ℕ) (n : ℕ) → positive o ≡ Some n → (o ≡ Some n) × (n ≢ 0)
positive_is None n e = absurd cc
positive_is (Some zero) n e = absurd cc
positive_is (Some (suc m)) n e = let same : suc m ≡ n = some_is e in (e, λ z. omega (arith, same, z))

-- the size that a token gives is the number that it writes, and no zero
pub size_sound : (t : Token) (n : ℕ) → size_of t ≡ Some n → IsNumber n t.text × (n ≢ 0)
size_sound t n e = let h = positive_is (number_of t) n e in (number_sound t n h.0, h.1)

-- and such a number gives it
pub size_complete : (t : Token) (n : ℕ) → IsNumber n t.text × (n ≢ 0) → size_of t ≡ Some n
size_complete t n h = ap positive (number_complete t n h.0) ∙ by n h.1
  where
    by : (n : ℕ) → n ≢ 0 → positive (Some n) ≡ Some n
    by zero some = absurd (some refl)
    by (suc n) some = refl

-- ---- elements

-- a number of two digits has both
digits_are : (high low : Option ℕ) (v : ℕ) → of_digits high low ≡ Some v → (h l : ℕ) × (high ≡ Some h) × (low ≡ Some l) × (v ≡ 16 * h + l)
digits_are (Some h) (Some l) v e = (h, l, refl, refl, sym (some_is e))
digits_are (Some h) None v e = absurd cc
digits_are None low v e = absurd cc

-- the element that bytes give is the one that they write
element_text_sound : (text : List ℕ) (v : ℕ) → element_text text ≡ Some v → IsElement v text
unfolding element_text
element_text_sound [] v e = absurd cc
element_text_sound (a ∷ []) v e = absurd cc
element_text_sound (a ∷ b ∷ []) v e = absurd cc
element_text_sound (a ∷ b ∷ c ∷ []) v e = absurd cc
element_text_sound (a ∷ b ∷ c ∷ d ∷ []) v e = by (bytes_eq (a ∷ b ∷ []) (codes "0x")) refl e
  where
    by : (x : Bool) → bytes_eq (a ∷ b ∷ []) (codes "0x") ≡ x → cond x (of_digits (hex_value c) (hex_value d)) None ≡ Some v → IsElement v (a ∷ b ∷ c ∷ d ∷ [])
    by true is e =
        let h = digits_are (hex_value c) (hex_value d) v e in
        (c, d, h.0, h.1, ap (λ (l : List ℕ). l ++ c ∷ d ∷ []) ((bytes_eq-Decides (a ∷ b ∷ []) (codes "0x")).0 is), h.2, h.3, h.4)
    by false is e = absurd cc
element_text_sound (a ∷ b ∷ c ∷ d ∷ e' ∷ rest) v e = absurd cc

-- and an element gives it
element_text_complete : (text : List ℕ) (v : ℕ) → IsElement v text → element_text text ≡ Some v
unfolding element_text
element_text_complete text v h =
    ap element_text h.4 ∙ rw (h.5, h.6) (ap (λ (n : ℕ). Some n) (sym h.7))

-- what has got a place is what was there, at that place
placed_is : (at : Place) (o : Option ℕ) (x : ℕ × Place) → with_place at o ≡ Some x → (o ≡ Some x.0) × (x.1 ≡ at)
placed_is at None x e = absurd cc
placed_is at (Some v) x e = let same : (v, at) ≡ x = some_is e in (ap (λ (y : ℕ × Place). Some y.0) same, sym (ap (λ (y : ℕ × Place). y.1) same))

-- the element that a token gives is the one that it writes, with its place
pub element_sound : (t : Token) (x : ℕ × Place) → element_of t ≡ Some x → IsElement x.0 t.text × (x.1 ≡ t.at)
element_sound t x e = let h = placed_is t.at (element_text t.text) x e in (element_text_sound t.text x.0 h.0, h.1)

-- and an element gives it
pub element_complete : (t : Token) (x : ℕ × Place) → IsElement x.0 t.text × (x.1 ≡ t.at) → element_of t ≡ Some x
element_complete t x h = ap (with_place t.at) (element_text_complete t.text x.0 h.0) ∙ ap (λ (at : Place). Some (x.0, at)) (sym h.1)

-- ---- first bytes

-- the byte that a text begins with, or 0
abbrev pub first_byte : List ℕ → ℕ
first_byte [] = 0
first_byte (b ∷ bs) = b

-- a name begins as words do
pub name_begins : (text : List ℕ) → IsName text → begins_word (first_byte text) ≡ true
name_begins [] h = absurd h.0
name_begins (b ∷ bs) h = h.0.0

-- a number begins with a digit
pub number_begins : (t : Token) (n : ℕ) → IsNumber n t.text → is_ascii_digit (first_byte t.text) ≡ true
number_begins t n h = let f = number_first t n h in ap (λ (l : List ℕ). is_ascii_digit (first_byte l)) f.2 ∙ f.3

-- an element begins with the digit 0
pub element_begins : (text : List ℕ) (v : ℕ) → IsElement v text → first_byte text ≡ 48
element_begins text v h = ap first_byte h.4

-- a value that is told to be there is
gives_by : {A : Type 0} (value : Token → Option A) (t : Token) (o : Option A) → value t ≡ o → gives value t ≡ true → (a : A) × (value t ≡ Some a)
gives_by value t None is e = absurd (let wrong = ap (λ (o : Option _). elim o as (λ _. Bool) [ None ↦ false | (Some a) ↦ true ]) (sym is) ∙ e in cc)
gives_by value t (Some a) is e = (a, is)

-- a token that gives a value has one
pub gives_some : {A : Type 0} (value : Token → Option A) (t : Token) → gives value t ≡ true → (a : A) × (value t ≡ Some a)
gives_some value t e = gives_by value t (value t) refl e

-- and one that has a value gives it
pub some_gives : {A : Type 0} (value : Token → Option A) (t : Token) (a : A) → value t ≡ Some a → gives value t ≡ true
some_gives value t a e = ap (λ (o : Option _). elim o as (λ _. Bool) [ None ↦ false | (Some a) ↦ true ]) e

-- ---- what the tests of the code answer

-- what the code's test of numbers answers is what the reader gives
pub number_by : (o : Option ℕ) (text : List ℕ) → MatchOption o ((n : ℕ) → IsNumber n text → ⊥) (λ n. IsNumber n text) → o ≡ number_text text
number_by (Some n) text h = sym (number_complete (token_of text) n h)
number_by None text h = by (number_text text) refl
  where
    by : (o : Option ℕ) → number_text text ≡ o → None ≡ o
    by None e = refl
    by (Some n) e = absurd (h n (number_sound (token_of text) n e))

-- so it is with elements
pub element_by : (o : Option ℕ) (text : List ℕ) → MatchOption o ((v : ℕ) → IsElement v text → ⊥) (λ v. IsElement v text) → o ≡ element_text text
element_by (Some v) text h = sym (element_text_complete text v h)
element_by None text h = by (element_text text) refl
  where
    by : (o : Option ℕ) → element_text text ≡ o → None ≡ o
    by None e = refl
    by (Some v) e = absurd (h v (element_text_sound text v e))
