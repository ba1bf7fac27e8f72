-- How far a token goes.
use Rattle.std.proofs.Common.{◌≡◌, ℕ, zero, suc, ◌+◌, ◌<◌, ◌≤◌, Bool, true, false, ◌⊎◌, List, [], ◌∷◌, ◌++◌, length, take, drop, get_or, Some, None, nat_lt, nat_le, ◌-◌, refl, sym, ap, subst, ◌∙◌, inl, inr, arith, length-append}
use Rattle.std.specs.Prelude.{◌||◌, ◌&&◌, ◌==◌, not, cond, IsTrue, Contains, codes, Decides, map, min}
use Rattle.std.specs.List.{prefix_len, AllByRecursion}
use Rattle.std.specs.Char.{is_ascii_alphabetic, is_ascii_alphanumeric, is_ascii_digit}
use Rattle.std.specs.Int.{is_in_range}
use Rattle.std.specs.Str.{all_ascii_digits}
use Rattle.std.proofs.lemmas.Bool.{and_parts, or_cases, or_left, or_right, eqb-true, eq-eqb, cases_Bool, both_ways, false≢true, ltb-true, ltb-false, and_from, le-leb, false_from_ne_true, not-true, cond-true, cond-false}
use Rattle.std.proofs.lemmas.List.{drop_at, take_at, take_rest, append-nil, get_or-map}
use Rattle.std.proofs.lemmas.List.Sums.{prefix_len-le-length}
use Rattle.std.proofs.lemmas.List.Elements.{All-from_recursion, All-contains, Contains-append_left, Contains-push_cases}
use Rattle.mk_base.specs.Digits.{hex_value}
use Rattle.mk_ast.specs.Tokens.{is_blank, goes_on, begins_word, IsWord, IsNumber, IsElement, IsToken, NothingGoesOn, symbols}
use Rattle.mk_ast.specs.Spells.{NoGapBegins}
use Rattle.mk_parse.specs.Lexing.{IsOfKind}
use Rattle.mk_parse.specs.declared.token.Written.{Written}
use Rattle.mk_parse.specs.declared.token.Written.TheVariants.{Name, Reserved, Number, Element, Symbol}
use Rattle.mk_parse.proofs.Decoding.{number_parts}

-- a word, a number or an element
abbrev pub IsRun : List ℕ → Type 0
IsRun text = IsWord text ⊎ ((n : ℕ) × IsNumber n text) ⊎ ((value : ℕ) × IsElement value text)

-- letters, digits and `_`, at least one
abbrev pub GoesOn : List ℕ → Type 0
GoesOn text = (0 < length text) × AllByRecursion (λ c. IsTrue (goes_on c)) text

-- one of the tests of `goes_on` passed
by_digit : (d u l x : Bool) → d ≡ true → (d || u || l || x) ≡ true
by_digit true u l x h = refl
by_digit false u l x h = absurd (false≢true h)

-- a letter passed
by_letter : (d u l x : Bool) → (u || l) ≡ true → (d || u || l || x) ≡ true
by_letter true u l x h = refl
by_letter false true l x h = refl
by_letter false false true x h = refl
by_letter false false false x h = absurd (false≢true h)

-- a letter goes on, and so does `_`
begins_goes_on : (b : ℕ) → begins_word b ≡ true → goes_on b ≡ true
begins_goes_on b h = elim (or_cases (is_ascii_alphabetic b) (b == 95) h) [
  | inl letter ↦ by_letter (is_in_range 48 57 b) (is_in_range 65 90 b) (is_in_range 97 122 b) (b == 95) letter
  | inr line ↦ or_right (is_ascii_alphanumeric b) (b == 95) line
]

-- a digit goes on
digit_goes_on : (b : ℕ) → is_ascii_digit b ≡ true → goes_on b ≡ true
digit_goes_on b h = by_digit (is_in_range 48 57 b) (is_in_range 65 90 b) (is_in_range 97 122 b) (b == 95) h

-- digits go on
digits_go_on : (ds : List ℕ) → all_ascii_digits ds ≡ true → AllByRecursion (λ c. IsTrue (goes_on c)) ds
digits_go_on [] h = tt
digits_go_on (d ∷ ds) h = let parts = and_parts (is_ascii_digit d) (all_ascii_digits ds) h in (digit_goes_on d parts.0, digits_go_on ds parts.1)

-- the tests that a hexadecimal digit passed
hex_tests : (a b d e f g : Bool) (x y z value : ℕ) → cond a None (cond b (Some x) (cond d None (cond e (Some y) (cond f None (cond g (Some z) None))))) ≡ Some value
    → ((a ≡ false) × (b ≡ true)) ⊎ ((d ≡ false) × (e ≡ true)) ⊎ ((f ≡ false) × (g ≡ true))
hex_tests true b d e f g x y z value h = absurd cc
hex_tests false true d e f g x y z value h = inl (refl, refl)
hex_tests false false true e f g x y z value h = absurd cc
hex_tests false false false true f g x y z value h = inr (inl (refl, refl))
hex_tests false false false false true g x y z value h = absurd cc
hex_tests false false false false false true x y z value h = inr (inr (refl, refl))
hex_tests false false false false false false x y z value h = absurd cc

-- a hexadecimal digit goes on
hex_goes_on : (c value : ℕ) → hex_value c ≡ Some value → goes_on c ≡ true
hex_goes_on c value h = elim (hex_tests (nat_lt c 48) (nat_lt c 58) (nat_lt c 65) (nat_lt c 71) (nat_lt c 97) (nat_lt c 103) (c - 48) (c - 55) (c - 87) value h) [
  | inl t ↦ digit_goes_on c (within 48 57 c (ltb-false c 48 t.0) (ltb-true c 58 t.1))
  | inr (inl t) ↦ letter (or_left (is_in_range 65 90 c) (is_in_range 97 122 c) (within 65 90 c (ltb-false c 65 t.0) (omega (arith, ltb-true c 71 t.1))))
  | inr (inr t) ↦ letter (or_right (is_in_range 65 90 c) (is_in_range 97 122 c) (within 97 122 c (ltb-false c 97 t.0) (omega (arith, ltb-true c 103 t.1))))
]
  where
    within : (low high c : ℕ) → low ≤ c → c < high + 1 → is_in_range low high c ≡ true
    within low high c l h = and_from (nat_le low c) (nat_le c high) (le-leb low c l) (le-leb c high (omega arith))

    letter : (is_in_range 65 90 c || is_in_range 97 122 c) ≡ true → goes_on c ≡ true
    letter h = by_letter (is_in_range 48 57 c) (is_in_range 65 90 c) (is_in_range 97 122 c) (c == 95) h

-- such bytes go on
pub run_goes_on : (t : List ℕ) → IsRun t → GoesOn t
run_goes_on t (inl word) = by t word
  where
    by : (t : List ℕ) → IsWord t → GoesOn t
    by [] h = absurd h
    by (b ∷ bs) h = (omega arith, (begins_goes_on b h.0, h.1))
run_goes_on t (inr (inl number)) = let parts = number_parts number.0 t number.1 in (parts.2, digits_go_on t parts.0)
run_goes_on t (inr (inr (value, (c, d, high, low, is, a, b, sum)))) =
    subst GoesOn (sym is) (omega arith, (refl, (refl, (hex_goes_on c high a, (hex_goes_on d low b, tt)))))

-- what passes, as long as possible
munched : (t rest : List ℕ) → AllByRecursion (λ c. IsTrue (goes_on c)) t → NothingGoesOn rest → prefix_len goes_on (t ++ rest) ≡ length t
munched [] [] all none = refl
munched [] (b ∷ bs) all none = cond-false (goes_on b) (1 + prefix_len goes_on bs) 0 none
munched (c ∷ cs) rest all none = cond-true (goes_on c) (1 + prefix_len goes_on (cs ++ rest)) 0 all.0 ∙ (let more = munched cs rest all.1 none in omega arith)

-- how long a symbol that begins with this byte is, which begins no gap and doesn't go on
abbrev fits_symbol : List ℕ → Bool
fits_symbol [] = false
fits_symbol (b ∷ bs) = not (goes_on b) && not (is_blank b || b == 35) && (length bs == cond (b == 46) 1 0)

-- each symbol is so
symbols_fit : (t : List ℕ) → Contains symbols t → fits_symbol t ≡ true
symbols_fit t h = All-contains (λ (s : List ℕ). fits_symbol s ≡ true) symbols t (All-from_recursion (λ (s : List ℕ). fits_symbol s ≡ true) symbols (refl, (refl, (refl, (refl, (refl, (refl, (refl, (refl, (refl, (refl, (refl, (refl, (refl, tt)))))))))))))) h

-- what is known of a symbol
pub symbol_parts : (b : ℕ) (bs : List ℕ) → Contains symbols (b ∷ bs) → (goes_on b ≡ false) × ((is_blank b || b == 35) ≡ false) × (length bs ≡ cond (b == 46) 1 0)
symbol_parts b bs h =
    let e = symbols_fit (b ∷ bs) h in
    let outer = and_parts (not (goes_on b) && not (is_blank b || b == 35)) (length bs == cond (b == 46) 1 0) e in
    let inner = and_parts (not (goes_on b)) (not (is_blank b || b == 35)) outer.0 in
    (not-true (goes_on b) inner.0, not-true (is_blank b || b == 35) inner.1, eqb-true (length bs) (cond (b == 46) 1 0) outer.1)

-- what goes on begins no gap
no_gap_goes_on : (b : ℕ) → goes_on b ≡ true → (is_blank b || b == 35) ≡ false
no_gap_goes_on b h = false_from_ne_true (is_blank b || b == 35) (λ gap. by (or_cases (is_blank b) (b == 35) gap))
  where
    not_at : (c : ℕ) → goes_on c ≡ false → (b == c) ≡ true → ⊥
    not_at c isnt e = both_ways (goes_on c) isnt (subst (λ (d : ℕ). goes_on d ≡ true) (eqb-true b c e) h)

    by : (is_blank b ≡ true) ⊎ ((b == 35) ≡ true) → ⊥
    by (inr hash) = not_at 35 refl hash
    by (inl blank) = elim (or_cases (b == 32 || b == 9 || b == 13) (b == 10) blank) [
      | inr feed ↦ not_at 10 refl feed
      | inl more ↦ elim (or_cases (b == 32 || b == 9) (b == 13) more) [
        | inr back ↦ not_at 13 refl back
        | inl last ↦ elim (or_cases (b == 32) (b == 9) last) [ inl space ↦ not_at 32 refl space | inr tab ↦ not_at 9 refl tab ]
      ]
    ]

-- a token has a byte, and begins no gap
pub token_begins : (t rest : List ℕ) → IsToken t rest → (0 < length t) × NoGapBegins (t ++ rest)
token_begins [] rest (inl symbol) = absurd (false≢true (symbols_fit [] symbol))
token_begins (b ∷ bs) rest (inl symbol) = (omega arith, (symbol_parts b bs symbol).1)
token_begins t rest (inr run) = by t (run_goes_on t run.0)
  where
    by : (t : List ℕ) → GoesOn t → (0 < length t) × NoGapBegins (t ++ rest)
    by [] h = absurd (omega (arith, h.0))
    by (b ∷ bs) h = (h.0, no_gap_goes_on b h.1.0)

-- the length of the only token that may stand at the front
unfoldable pub token_length : List ℕ → ℕ
token_length [] = 0
token_length (b ∷ bs) = cond (goes_on b) (prefix_len goes_on (b ∷ bs)) (cond (b == 46) 2 1)

-- a token has the length that is told from the bytes at its front
pub token_length_is : (t rest : List ℕ) → IsToken t rest → length t ≡ token_length (t ++ rest)
unfolding token_length
token_length_is [] rest (inl symbol) = absurd (false≢true (symbols_fit [] symbol))
token_length_is (b ∷ bs) rest (inl symbol) =
    let parts = symbol_parts b bs symbol in
    sym (cond-false (goes_on b) (prefix_len goes_on (b ∷ (bs ++ rest))) (cond (b == 46) 2 1) parts.0 ∙ by (b == 46) (length bs) parts.2)
  where
    by : (dot : Bool) (n : ℕ) → n ≡ cond dot 1 0 → cond dot 2 1 ≡ suc n
    by true n e = omega arith
    by false n e = omega arith
token_length_is t rest (inr run) = by t (run_goes_on t run.0)
  where
    by : (t : List ℕ) → GoesOn t → length t ≡ token_length (t ++ rest)
    by [] h = absurd (omega (arith, h.0))
    by (b ∷ bs) h = sym (cond-true (goes_on b) (prefix_len goes_on (b ∷ (bs ++ rest))) (cond (b == 46) 2 1) h.1.0 ∙ munched (b ∷ bs) rest h.1 run.1)

-- a token at the front is one only
pub token_unique : (a b x y : List ℕ) → IsToken a x → IsToken b y → a ++ x ≡ b ++ y → (a ≡ b) × (x ≡ y)
token_unique a b x y p q e =
    let same : length a ≡ length b = token_length_is a x p ∙ ap token_length e ∙ sym (token_length_is b y q) in
    (sym (take_at a x (length a) refl) ∙ ap (take (length a)) e ∙ take_at b y (length a) (sym same), sym (drop_at a x (length a) refl) ∙ ap (drop (length a)) e ∙ drop_at b y (length a) (sym same))

-- the length of that token by its first byte
pub token_length_at : (bytes : List ℕ) → 0 < length bytes → token_length bytes ≡ cond (goes_on (get_or bytes 0 0)) (prefix_len goes_on bytes) (cond (get_or bytes 0 0 == 46) 2 1)
unfolding token_length
token_length_at [] some = absurd (omega arith)
token_length_at (b ∷ bs) some = refl

-- no other token stands at the front
pub piece_alone : (bytes : List ℕ) (n : ℕ) → min (length bytes) (token_length bytes) ≡ n → (word rest : List ℕ) → bytes ≡ word ++ rest → IsToken word rest → length word ≡ n
piece_alone bytes n is word rest e p =
    let long : length word ≡ token_length bytes = token_length_is word rest p ∙ ap token_length (sym e) in
    let sum : length bytes ≡ length word + length rest = ap length e ∙ length-append word rest in
    omega arith

-- behind the bytes that go on none does
run_stops : (bytes : List ℕ) → NothingGoesOn (drop (prefix_len goes_on bytes) bytes)
run_stops [] = tt
run_stops (b ∷ bs) = by (goes_on b) refl (run_stops bs)
  where
    by : (t : Bool) → goes_on b ≡ t → NothingGoesOn (drop (prefix_len goes_on bs) bs) → NothingGoesOn (drop (cond t (1 + prefix_len goes_on bs) 0) (b ∷ bs))
    by true is rest = let e : 1 + prefix_len goes_on bs ≡ suc (prefix_len goes_on bs) = omega arith in subst (λ (n : ℕ). NothingGoesOn (drop n (b ∷ bs))) (sym e) rest
    by false is rest = is

-- a run at the front with nothing more behind it
whole_run : (bytes : List ℕ) (n : ℕ) → (n ≡ prefix_len goes_on bytes) ⊎ (goes_on (get_or bytes 0 0) ≡ false) → IsRun (take n bytes) → IsToken (take n bytes) (drop n bytes)
whole_run bytes n (inl all) run = inr (run, subst (λ (m : ℕ). NothingGoesOn (drop m bytes)) (sym all) (run_stops bytes))
whole_run bytes n (inr none) run = absurd (first n bytes (run_goes_on (take n bytes) run) none)
  where
    first : (n : ℕ) (bytes : List ℕ) → GoesOn (take n bytes) → goes_on (get_or bytes 0 0) ≡ false → ⊥
    first zero bytes h none = omega (arith, h.0)
    first (suc n) [] h none = omega (arith, h.0)
    first (suc n) (b ∷ bs) h none = both_ways (goes_on b) none h.1.0

-- bytes of some kind are a token, as they are as many as go on or none goes on
pub piece_whole : (bytes : List ℕ) (n : ℕ) → (n ≡ prefix_len goes_on bytes) ⊎ (goes_on (get_or bytes 0 0) ≡ false) → (kind : Written) → IsOfKind kind (take n bytes) → IsToken (take n bytes) (drop n bytes)
piece_whole bytes n h Symbol fits = inl fits
piece_whole bytes n h Name fits = whole_run bytes n h (inl fits.0)
piece_whole bytes n h Reserved fits = whole_run bytes n h (inl fits.0)
piece_whole bytes n h (Number m) fits = whole_run bytes n h (inr (inl (m, fits)))
piece_whole bytes n h (Element value) fits = whole_run bytes n h (inr (inr (value, fits)))

-- bytes of none of the kinds
pub no_kind : (text : List ℕ) → (IsWord text → ⊥) → ((n : ℕ) → IsNumber n text → ⊥) → ((value : ℕ) → IsElement value text → ⊥) → (Contains symbols text → ⊥) → (kind : Written) → IsOfKind kind text → ⊥
no_kind text word number element symbol Name h = word h.0
no_kind text word number element symbol Reserved h = word h.0
no_kind text word number element symbol (Number n) h = number n h
no_kind text word number element symbol (Element value) h = element value h
no_kind text word number element symbol Symbol h = symbol h

-- the symbols of one byte
abbrev pub marks : List ℕ
marks = codes ";=,+*%()[]{}"

-- a list of one byte
abbrev one : ℕ → List ℕ
one b = b ∷ []

-- one byte is a symbol where it is one of those
pub single_symbol : (text : List ℕ) (r : Bool) → length text ≡ 1 → Decides r (Contains marks (get_or text 0 0)) → (IsTrue r → Contains symbols text) × (Contains symbols text → IsTrue r)
single_symbol [] r e d = absurd (omega (arith, e))
single_symbol (b ∷ c ∷ cs) r e d = absurd (omega (arith, e))
single_symbol (b ∷ []) r e d = (λ held. to (d.0 held), λ h. d.1 (from h))
  where
    to : Contains marks b → Contains symbols (b ∷ [])
    to (k, lt, is) = Contains-append_left (map one marks) (codes ".." ∷ []) (one b) (k, lt, get_or-map one marks k b (one b) lt ∙ ap one is)

    head : (x : ℕ) → one x ≡ one b → x ≡ b
    head x is = cc

    dots : codes ".." ≡ one b → ⊥
    dots is = absurd cc

    from : Contains symbols (b ∷ []) → Contains marks b
    from h = elim (Contains-push_cases (map one marks) (codes "..") (one b) h) [
      | inl (k, lt, is) ↦ (k, lt, head (get_or marks k b) (sym (get_or-map one marks k b (one b) lt) ∙ is))
      | inr is ↦ absurd (dots is)
    ]

-- all bytes go on where as many do as there are
all_go_on : (t : List ℕ) → prefix_len goes_on t ≡ length t → AllByRecursion (λ c. IsTrue (goes_on c)) t
all_go_on [] e = tt
all_go_on (c ∷ cs) e = elim (cases_Bool (goes_on c)) [
  | inl held ↦ (held, all_go_on cs (more (cond-true (goes_on c) (1 + prefix_len goes_on cs) 0 held)))
  | inr failed ↦ absurd (none (cond-false (goes_on c) (1 + prefix_len goes_on cs) 0 failed))
]
  where
    more : cond (goes_on c) (1 + prefix_len goes_on cs) 0 ≡ 1 + prefix_len goes_on cs → prefix_len goes_on cs ≡ length cs
    more is = omega (arith, e, is)

    none : cond (goes_on c) (1 + prefix_len goes_on cs) 0 ≡ 0 → ⊥
    none is = omega (arith, e, is)

-- a word behind its first byte
pub word_rest : (text : List ℕ) (run : ℕ) → 0 < length text → begins_word (get_or text 0 0) ≡ true → length (take (length text - 1) (drop 1 text)) < 64
    → run ≡ prefix_len goes_on (take (length text - 1) (drop 1 text))
    → (IsTrue (run == length (take (length text - 1) (drop 1 text))) → IsWord text) × (IsWord text → IsTrue (run == length (take (length text - 1) (drop 1 text))))
word_rest [] run some begins short is = absurd (omega arith)
word_rest (b ∷ bs) run some begins short is =
    let all : take (length (b ∷ bs) - 1) bs ≡ bs = take_rest (b ∷ bs) 1 in
    by (take (length (b ∷ bs) - 1) bs) all short is
  where
    by : (r : List ℕ) → r ≡ bs → length r < 64 → run ≡ prefix_len goes_on r → (IsTrue (run == length r) → IsWord (b ∷ bs)) × (IsWord (b ∷ bs) → IsTrue (run == length r))
    by r same short is =
        let count : run ≡ prefix_len goes_on bs = is ∙ ap (prefix_len goes_on) same in
        let long : length r ≡ length bs = ap length same in (
          λ e. (begins, all_go_on bs (sym count ∙ eqb-true run (length r) e ∙ long), omega arith),
          λ h. eq-eqb run (length r) (count ∙ ap (prefix_len goes_on) (sym (append-nil bs)) ∙ munched bs [] h.1 tt ∙ sym long),
        )

-- a front that goes on is as long as such bytes go
pub length_run : (bytes : List ℕ) → 0 < length bytes → goes_on (get_or bytes 0 0) ≡ true → min (length bytes) (token_length bytes) ≡ prefix_len goes_on bytes
length_run bytes some held = ap (min (length bytes)) (token_length_at bytes some ∙ cond-true (goes_on (get_or bytes 0 0)) (prefix_len goes_on bytes) (cond (get_or bytes 0 0 == 46) 2 1) held) ∙ omega (arith, prefix_len-le-length goes_on bytes)

-- a front that doesn't go on is as long as a symbol that begins so
pub length_symbol : (bytes : List ℕ) (dot : Bool) → 0 < length bytes → goes_on (get_or bytes 0 0) ≡ false → (get_or bytes 0 0 == 46) ≡ dot → min (length bytes) (token_length bytes) ≡ min (length bytes) (cond dot 2 1)
length_symbol bytes dot some failed is =
    ap (min (length bytes)) (token_length_at bytes some ∙ cond-false (goes_on (get_or bytes 0 0)) (prefix_len goes_on bytes) (cond (get_or bytes 0 0 == 46) 2 1) failed ∙ ap (λ (t : Bool). cond t 2 1) is)
