-- Digits and the numbers that they write.
use Rattle.std.proofs.Common.{◌≡◌, ℕ, zero, suc, ◌+◌, ◌*◌, ◌-◌, ◌^◌, ◌<◌, ◌≤◌, Bool, true, false, List, [], ◌∷◌, length, drop, get_or, sym, ap, subst, ◌∙◌, arith, rules, add-one, drop-cons, drop_of_length-le}
use Rattle.std.specs.Prelude.{decimal, ◌&&◌}
use Rattle.std.specs.Char.{is_ascii_digit}
use Rattle.std.specs.Str.{all_ascii_digits}
use Rattle.std.proofs.lemmas.Bool.{and_parts, false≢true}
use Rattle.std.proofs.lemmas.Str.Parse.{IsNumeralModel, numerals_by_fold}
use Rattle.std.proofs.lemmas.Fmt.{digits_decimal, digits_value-decimal, decimal-digits_value, decimal_nonempty, first_decimal, decimal_digit}
use Rattle.mk_base.specs.Digits.{IsDecimal, valued}

-- these are the digits that std reads
pub own : IsNumeralModel (λ ds. all_ascii_digits ds ≡ true) (valued 0)
unfolding valued
own = numerals_by_fold _ (search rules) valued (search rules)

-- digits make at least what is before them
pub valued-ge : (n : ℕ) (ds : List ℕ) → n ≤ valued n ds
unfolding valued
valued-ge n [] = omega arith
valued-ge n (c ∷ cs) = omega (arith, valued-ge (n * 10 + (c - 48)) cs)

-- the number of all digits is the one made with one digit more from those behind it
pub digit_more : (ds : List ℕ) (i value total : ℕ) → i < length ds → valued value (drop i ds) ≡ total → valued (value * 10 + (get_or ds i 0 - 48)) (drop (i + 1) ds) ≡ total
unfolding valued
digit_more ds i value total lt e = let cut : drop i ds ≡ get_or ds i 0 ∷ drop (i + 1) ds = rw add-one (drop-cons ds i 0 lt) in sym (ap (valued value) cut) ∙ e

-- where all bytes are digits, so are those behind one of them, and so is that one
pub all_more : (ds : List ℕ) (i : ℕ) (all : Bool) → i < length ds → all_ascii_digits (drop i ds) ≡ all → (is_ascii_digit (get_or ds i 0) && all_ascii_digits (drop (i + 1) ds)) ≡ all
all_more ds i all lt e = let cut : drop i ds ≡ get_or ds i 0 ∷ drop (i + 1) ds = rw add-one (drop-cons ds i 0 lt) in sym (ap all_ascii_digits cut) ∙ e

-- the text of a number is its digits, which lead, and the number is the one that they make
pub number_parts : (n : ℕ) (t : List ℕ) → t ≡ decimal n → n < 2 ^ 64 → (all_ascii_digits t ≡ true) × (valued 0 t ≡ n) × (0 < length t) × (get_or t 0 0 ≡ 48 → length t ≡ 1)
number_parts n t h small =
    let all : all_ascii_digits t ≡ true = subst (λ (u : List ℕ). all_ascii_digits u ≡ true) (sym h) (digits_decimal own n small) in
    let value : valued 0 t ≡ n = ap (valued 0) h ∙ digits_value-decimal own n small in
    let some : 0 < length t = subst (λ (u : List ℕ). 0 < length u) (sym h) (decimal_nonempty n small) in
    (all, value, some, leads_decimal n t h small)
  where
    leads_decimal : (n : ℕ) (t : List ℕ) → t ≡ decimal n → n < 2 ^ 64 → get_or t 0 0 ≡ 48 → length t ≡ 1
    leads_decimal zero t is small z = ap length (is ∙ decimal_digit 0 (omega arith))
    leads_decimal (suc n) t is small z = absurd (omega (arith, first_decimal (suc n) (omega arith) small, ap (λ (u : List ℕ). get_or u 0 0) is))

-- digits without a leading zero are the text of a number
pub number_from : (most : ℕ) → most < 2 ^ 64 → (t : List ℕ) → all_ascii_digits t ≡ true → 0 < length t → (get_or t 0 0 ≡ 48 → length t ≡ 1) → valued 0 t ≤ most
    → IsDecimal most (valued 0 t) t
number_from most bound t all some led small = (sym (decimal-digits_value own t all some led (omega (arith, bound, small))), small)

-- a text that isn't all digits is no number
pub not_all_digits : (most : ℕ) → most < 2 ^ 64 → (t : List ℕ) (i : ℕ) → i < length t → all_ascii_digits (drop i t) ≡ all_ascii_digits t → is_ascii_digit (get_or t i 0) ≡ false
    → (n : ℕ) → IsDecimal most n t → ⊥
not_all_digits most bound t i lt e isnt n h =
    false≢true (sym isnt ∙ (and_parts (is_ascii_digit (get_or t i 0)) (all_ascii_digits (drop (i + 1) t)) (all_more t i true lt (e ∙ (number_parts n t h.0 (omega (arith, bound, h.1))).0))).0)

-- digits whose front makes more than the bound are no number
pub too_large : (most : ℕ) → most < 2 ^ 64 → (t : List ℕ) (value : ℕ) (rest : List ℕ) → most < value → valued value rest ≡ valued 0 t → (n : ℕ) → IsDecimal most n t → ⊥
too_large most bound t value rest large e n h = omega (arith, valued-ge value rest, (number_parts n t h.0 (omega (arith, bound, h.1))).1, h.1)

-- digits that lead and make at most the bound are the text of the number that they make
pub number_end : (most : ℕ) → most < 2 ^ 64 → (t : List ℕ) (i value : ℕ) → length t ≤ i → all_ascii_digits (drop i t) ≡ all_ascii_digits t → valued value (drop i t) ≡ valued 0 t
    → 0 < length t → (get_or t 0 0 ≡ 48 → length t ≡ 1) → value ≤ most → IsDecimal most value t
unfolding valued
number_end most bound t i value done all same some led small =
    let none : drop i t ≡ [] = drop_of_length-le t done in
    let is : valued 0 t ≡ value = sym same ∙ ap (valued value) none in
    let digits : all_ascii_digits t ≡ true = sym all ∙ ap all_ascii_digits none in
    subst (λ (n : ℕ). IsDecimal most n t) is (number_from most bound t digits some led (omega (arith, is, small)))
