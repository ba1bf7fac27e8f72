-- A number that is printed is read back, and what is read is printed so.
use Rattle.std.proofs.Common.{◌≡◌, ℕ, zero, suc, ◌+◌, ◌*◌, ◌-◌, ◌^◌, ◌<◌, ◌≤◌, Bool, true, false, ◌⊎◌, List, [], ◌∷◌, ◌++◌, length, take, drop, get_or, Some, None, nat_lt, refl, sym, ap, subst, ◌∙◌, inl, inr, arith}
use Rattle.std.specs.Prelude.{cond, take_while, decimal, ◌&&◌, ◌==◌, not}
use Rattle.std.specs.Char.{is_ascii_digit}
use Rattle.std.specs.Str.{all_ascii_digits}
use Rattle.std.proofs.lemmas.Bool.{ltb-true, lt-ltb, le-ltb, eqb-true, eq-eqb, and_parts, and_from, cases_Bool, cond-true}
use Rattle.std.proofs.lemmas.List.{drop_at, append-nil}
use Rattle.std.proofs.lemmas.List.Sums.{take_while-cons}
use Rattle.std.proofs.lemmas.Fmt.{digits_decimal, digits_value-decimal, decimal-digits_value, decimal_nonempty, first_decimal, decimal_digit}
use Rattle.mk_base.specs.Digits.{valued}
use Rattle.mk_base.proofs.Digits.{own, valued-ge}
use Rattle.mk_lines.specs.Parsing.{◌>>=◌, whole, leads, number_by, number_at, narrowed, digits_from, number_of}
use Rattle.mk_lines.proofs.Loops.{behind_first}
use Rattle.mk_lines.proofs.Steps.{bind_some, same_some, passed, whole_found}

-- what stands behind a number doesn't go on with it
abbrev pub EndsNumber : List ℕ → Type 0
EndsNumber [] = Unit {0}
EndsNumber (b ∷ bs) = is_ascii_digit b ≡ false

-- the digits at the front
front : (bytes : List ℕ) → bytes ≡ take_while is_ascii_digit bytes ++ drop (length (take_while is_ascii_digit bytes)) bytes
front [] = refl
front (b ∷ bs) = elim (cases_Bool (is_ascii_digit b)) [
  | inl held ↦ rw (take_while-cons is_ascii_digit b bs, held) (ap (λ (t : List ℕ). b ∷ t) (front bs))
  | inr failed ↦ rw (take_while-cons is_ascii_digit b bs, failed) refl
]

-- the bytes at the front that are taken for digits are all digits
all_front : (bytes : List ℕ) → all_ascii_digits (take_while is_ascii_digit bytes) ≡ true
all_front [] = refl
all_front (b ∷ bs) = elim (cases_Bool (is_ascii_digit b)) [
  | inl held ↦ rw (take_while-cons is_ascii_digit b bs, held) (and_from (is_ascii_digit b) (all_ascii_digits (take_while is_ascii_digit bs)) held (all_front bs))
  | inr failed ↦ rw (take_while-cons is_ascii_digit b bs, failed) refl
]

-- of digits with no digit behind them, just those are taken
front_is : (ds rest : List ℕ) → all_ascii_digits ds ≡ true → EndsNumber rest → take_while is_ascii_digit (ds ++ rest) ≡ ds
front_is [] [] all ends = refl
front_is [] (b ∷ bs) all ends = rw (take_while-cons is_ascii_digit b bs, ends) refl
front_is (d ∷ ds) rest all ends =
    let parts = and_parts (is_ascii_digit d) (all_ascii_digits ds) all in
    take_while-cons is_ascii_digit d (ds ++ rest) ∙ cond-true (is_ascii_digit d) (d ∷ take_while is_ascii_digit (ds ++ rest)) [] parts.0 ∙ ap (λ (t : List ℕ). d ∷ t) (front_is ds rest parts.1 ends)

-- without a leading zero there is a digit, and a zero in front is the only digit
leads_parts : (ds : List ℕ) → leads ds ≡ true → (0 < length ds) × (get_or ds 0 0 ≡ 48 → length ds ≡ 1)
unfolding leads
leads_parts [] e = absurd cc
leads_parts (d ∷ []) e = (omega arith, λ z. refl)
leads_parts (d ∷ f ∷ ds) e = (omega arith, λ z. (let never : not (d == 48) ≡ false = ap not (eq-eqb d 48 z) in absurd (cc)))

-- a single digit, and digits of which the first is above zero, have no leading zero
leads_from : (ds : List ℕ) → 0 < length ds → (length ds ≡ 1) ⊎ (48 < get_or ds 0 0) → leads ds ≡ true
unfolding leads
leads_from [] some h = absurd (omega arith)
leads_from (d ∷ []) some h = refl
leads_from (d ∷ f ∷ ds) some h = elim h [
  | inl one ↦ absurd (omega (arith, one))
  | inr high ↦ elim (cases_Bool (d == 48)) [ inl is ↦ absurd (omega (arith, high, eqb-true d 48 is)) | inr isnt ↦ ap not isnt ]
]

-- a number is printed without a leading zero
leads_decimal : (n : ℕ) → n < 2 ^ 32 → leads (decimal n) ≡ true
leads_decimal zero small = leads_from (decimal 0) (decimal_nonempty 0 (omega arith)) (inl (ap length (decimal_digit 0 (omega arith))))
leads_decimal (suc n) small = leads_from (decimal (suc n)) (decimal_nonempty (suc n) (omega arith)) (inr (first_decimal (suc n) (omega arith) (omega arith)))

-- digits that make a number are its print, and it has 32 bits
number_by_found : (ds : List ℕ) (n : ℕ) → all_ascii_digits ds ≡ true → number_by ds ≡ Some n → (ds ≡ decimal n) × (n < 2 ^ 32)
unfolding number_by
number_by_found ds n all e =
    let h = passed (leads ds && nat_lt (valued 0 ds) (2 ^ 32)) (Some (valued 0 ds)) n e in
    let parts = and_parts (leads ds) (nat_lt (valued 0 ds) (2 ^ 32)) h.0 in
    let small : valued 0 ds < 2 ^ 32 = ltb-true (valued 0 ds) (2 ^ 32) parts.1 in
    let led = leads_parts ds parts.0 in
    let is : valued 0 ds ≡ n = same_some (valued 0 ds) n h.1 in
    let spelled = decimal-digits_value own ds all led.0 led.1 (omega (arith, small)) in
    (sym spelled ∙ ap decimal is, subst (λ (m : ℕ). m < 2 ^ 32) is small)

-- the print of a number of 32 bits makes that number
number_by_again : (n : ℕ) → n < 2 ^ 32 → number_by (decimal n) ≡ Some n
unfolding number_by
number_by_again n small =
    let is : valued 0 (decimal n) ≡ n = digits_value-decimal own n (omega arith) in
    let below : nat_lt (valued 0 (decimal n)) (2 ^ 32) ≡ true = rw is (lt-ltb n (2 ^ 32) small) in
    ap (λ b. cond b (Some (valued 0 (decimal n))) None) (and_from (leads (decimal n)) (nat_lt (valued 0 (decimal n)) (2 ^ 32)) (leads_decimal n small) below)
    ∙ ap (λ (m : ℕ). Some m) is

-- where no digit stands, the number is the one that was made before
pub digits_end : (n : ℕ) (bytes : List ℕ) → EndsNumber bytes → digits_from n bytes ≡ narrowed n bytes
unfolding digits_from valued
digits_end n [] ends = refl
digits_end n (b ∷ bs) ends = rw (take_while-cons is_ascii_digit b bs, ends) refl

-- a digit makes a number with those before it, which those behind it go on with
pub digits_more : (n b : ℕ) (bs : List ℕ) → is_ascii_digit b ≡ true → digits_from n (b ∷ bs) ≡ digits_from (n * 10 + (b - 48)) bs
unfolding digits_from valued
digits_more n b bs digit = rw (take_while-cons is_ascii_digit b bs, digit) refl

-- the same of bytes with a digit in front
pub digits_more_first : (n : ℕ) (bytes : List ℕ) → 0 < length bytes → is_ascii_digit (get_or bytes 0 0) ≡ true
    → digits_from n bytes ≡ digits_from (n * 10 + (get_or bytes 0 0 - 48)) (take (length bytes - 1) (drop 1 bytes))
digits_more_first n [] some digit = absurd (omega (arith, some))
digits_more_first n (b ∷ bs) some digit = digits_more n b bs digit ∙ ap (digits_from (n * 10 + (b - 48))) (sym (behind_first b bs))

-- where no digit stands in front, the number is the one that was made before
pub digits_end_first : (n : ℕ) (bytes : List ℕ) → 0 < length bytes → is_ascii_digit (get_or bytes 0 0) ≡ false → digits_from n bytes ≡ narrowed n bytes
digits_end_first n [] some isnt = absurd (omega (arith, some))
digits_end_first n (b ∷ bs) some isnt = digits_end n (b ∷ bs) isnt

-- at the end of bytes, the number is the one that was made before
pub digits_end_none : (n : ℕ) (bytes : List ℕ) → length bytes < 1 → digits_from n bytes ≡ narrowed n bytes
digits_end_none n [] none = digits_end n [] tt
digits_end_none n (b ∷ bs) none = absurd (omega (arith, none))

-- digits behind a number of more than 32 bits make none
pub digits_large : (n : ℕ) (bytes : List ℕ) → 2 ^ 32 ≤ n → digits_from n bytes ≡ None
unfolding digits_from
digits_large n bytes large =
    let digits = take_while is_ascii_digit bytes in
    rw (le-ltb (valued n digits) (2 ^ 32) (omega (arith, large, valued-ge n digits))) refl

-- the first digits lead where there is one, and it is no zero before another
pub leads_long : (a b : ℕ) (bs : List ℕ) → leads (take_while is_ascii_digit (a ∷ b ∷ bs)) ≡ cond (is_ascii_digit a) (cond (a == 48) (not (is_ascii_digit b)) true) false
unfolding leads
leads_long a b bs = elim (cases_Bool (is_ascii_digit a)) [
  | inr failed ↦ rw (take_while-cons is_ascii_digit a (b ∷ bs), failed) refl
  | inl held ↦ elim (cases_Bool (is_ascii_digit b)) [
    | inl both ↦ rw (take_while-cons is_ascii_digit a (b ∷ bs), held, take_while-cons is_ascii_digit b bs, both) (by (a == 48))
    | inr one ↦ rw (take_while-cons is_ascii_digit a (b ∷ bs), held, take_while-cons is_ascii_digit b bs, one) (any (a == 48))
  ]
]
  where
    by : (zero : Bool) → not zero ≡ cond zero (not true) true
    by true = refl
    by false = refl

    any : (zero : Bool) → true ≡ cond zero (not false) true
    any true = refl
    any false = refl

-- a byte alone leads where it is a digit
pub leads_one : (a : ℕ) → leads (take_while is_ascii_digit (a ∷ [])) ≡ is_ascii_digit a
unfolding leads
leads_one a = elim (cases_Bool (is_ascii_digit a)) [
  | inl held ↦ rw (take_while-cons is_ascii_digit a [], held) refl
  | inr failed ↦ rw (take_while-cons is_ascii_digit a [], failed) refl
]

-- where the digits at the front lead, they are the number there
pub number_at_digits : (bytes : List ℕ) → leads (take_while is_ascii_digit bytes) ≡ true → number_at bytes ≡ digits_from 0 bytes
unfolding number_at number_by digits_from
number_at_digits bytes led =
    let digits = take_while is_ascii_digit bytes in
    let rest = drop (length digits) bytes in
    rw led (by (nat_lt (valued 0 digits) (2 ^ 32)) (valued 0 digits) rest)
  where
    by : (small : Bool) (n : ℕ) (rest : List ℕ) → ◌>>=◌ {B = ℕ × List ℕ} (cond small (Some n) None) (λ m. Some (m, rest)) ≡ cond small (Some (n, rest)) None
    by true n rest = refl
    by false n rest = refl

-- the digits lead only where one stands in front
pub leads_digit : (bytes : List ℕ) → leads (take_while is_ascii_digit bytes) ≡ true → (0 < length bytes) × (is_ascii_digit (get_or bytes 0 0) ≡ true)
unfolding leads
leads_digit [] led = absurd cc
leads_digit (b ∷ bs) led = (
  omega arith,
  elim (cases_Bool (is_ascii_digit b)) [
    | inl held ↦ held
    | inr failed ↦ (let none : leads (take_while is_ascii_digit (b ∷ bs)) ≡ false = rw (take_while-cons is_ascii_digit b bs, failed) refl in absurd (cc))
  ],
)

-- so they are a digit and those behind it
pub number_at_first : (bytes : List ℕ) → leads (take_while is_ascii_digit bytes) ≡ true → number_at bytes ≡ digits_from (get_or bytes 0 0 - 48) (take (length bytes - 1) (drop 1 bytes))
number_at_first bytes led =
    let first = leads_digit bytes led in
    let plain : 0 * 10 + (get_or bytes 0 0 - 48) ≡ get_or bytes 0 0 - 48 = omega arith in
    number_at_digits bytes led ∙ digits_more_first 0 bytes first.0 first.1 ∙ ap (λ (n : ℕ). digits_from n (take (length bytes - 1) (drop 1 bytes))) plain

-- and where they don't lead, there is none
pub number_at_none : (bytes : List ℕ) → leads (take_while is_ascii_digit bytes) ≡ false → number_at bytes ≡ None
unfolding number_at number_by
number_at_none bytes led = rw led refl

-- what is read at the front is a number's text
pub number_found : (bytes : List ℕ) (x : ℕ × List ℕ) → number_at bytes ≡ Some x → (bytes ≡ decimal x.0 ++ x.1) × (x.0 < 2 ^ 32)
unfolding number_at
number_found bytes x e =
    let ds = take_while is_ascii_digit bytes in
    let rest = drop (length (take_while is_ascii_digit bytes)) bytes in
    let h = bind_some (number_by ds) (λ (n : ℕ). Some (n, rest)) x e in
    let is : (h.0, rest) ≡ x = same_some (h.0, rest) x h.2 in
    let found = number_by_found ds h.0 (all_front bytes) h.1 in
    let here : bytes ≡ decimal h.0 ++ rest = front bytes ∙ ap (λ (d : List ℕ). d ++ rest) found.0 in
    (here ∙ ap (λ (y : ℕ × List ℕ). decimal y.0 ++ y.1) is, subst (λ (m : ℕ). m < 2 ^ 32) (ap (λ (y : ℕ × List ℕ). y.0) is) found.1)

-- and a number's text is read back
pub number_again : (n : ℕ) (rest : List ℕ) → n < 2 ^ 32 → EndsNumber rest → number_at (decimal n ++ rest) ≡ Some (n, rest)
unfolding number_at
number_again n rest small ends =
    let taken : take_while is_ascii_digit (decimal n ++ rest) ≡ decimal n = front_is (decimal n) rest (digits_decimal own n (omega arith)) ends in
    let left : drop (length (decimal n)) (decimal n ++ rest) ≡ rest = drop_at (decimal n) rest (length (decimal n)) refl in
    rw (taken, number_by_again n small) (ap (λ (r : List ℕ). Some (n, r)) left)

-- bytes that are read as a number are its print, and it has 32 bits
pub number_of_found : (bytes : List ℕ) (n : ℕ) → number_of bytes ≡ Some n → (bytes ≡ decimal n) × (n < 2 ^ 32)
unfolding number_of
number_of_found bytes n e =
    let h = bind_some (number_at bytes) (λ (x : ℕ × List ℕ). whole x) n e in
    let w = whole_found h.0 n h.2 in
    let found = number_found bytes h.0 h.1 in
    (found.0 ∙ ap (λ (m : ℕ). decimal m ++ h.0.1) w.0 ∙ ap (λ (r : List ℕ). decimal n ++ r) w.1 ∙ append-nil (decimal n), subst (λ (m : ℕ). m < 2 ^ 32) w.0 found.1)

-- the print of a number of 32 bits, with nothing behind it, is read as that number
pub number_of_again : (n : ℕ) → n < 2 ^ 32 → number_of (decimal n) ≡ Some n
unfolding number_of whole
number_of_again n small =
    let h : number_at (decimal n) ≡ Some (n, []) = ap number_at (sym (append-nil (decimal n))) ∙ number_again n [] small tt in
    rw h refl
