-- Words, numbers, elements and symbols as tokens.
use Rattle.std.proofs.Common.{◌≡◌, ◌≢◌, ℕ, zero, suc, ◌+◌, ◌*◌, ◌/◌, ◌%◌, ◌<◌, ◌≤◌, inl, inr, List, [], ◌∷◌, ◌++◌, Some, refl, Contains, codes, decimal, arith, lit<}
use Rattle.mk_base.specs.Digits.{hex_value}
use Rattle.mk_ast.specs.Tokens.{IsToken, IsWord, IsName, IsElement, symbols, NothingGoesOn, IsGap}
use Rattle.mk_ast.specs.Phrases.{Phrase, after}
use Rattle.mk_ast.specs.Grammar.{name, number, size, element, meaning}
use Rattle.mk_ast.specs.Canonical.{element_text}
use Rattle.mk_field.specs.Digits.{hex_digit}
use Rattle.mk_ast.proofs.Reading.{Reading, reads_one, reads_gap, reads_after}

-- the symbols
pub is_semicolon : Contains symbols (codes ";")
is_semicolon = (0, lit< tt, refl)

-- `=` is the second of them
pub is_equals : Contains symbols (codes "=")
is_equals = (1, lit< tt, refl)

-- `,` is one
pub is_comma : Contains symbols (codes ",")
is_comma = (2, lit< tt, refl)

-- `+` is one
pub is_plus : Contains symbols (codes "+")
is_plus = (3, lit< tt, refl)

-- `*` is one
pub is_times : Contains symbols (codes "*")
is_times = (4, lit< tt, refl)

-- `%` is one
pub is_percent : Contains symbols (codes "%")
is_percent = (5, lit< tt, refl)

-- `(` is one
pub is_opening : Contains symbols (codes "(")
is_opening = (6, lit< tt, refl)

-- `)` is one
pub is_closing : Contains symbols (codes ")")
is_closing = (7, lit< tt, refl)

-- `[` is one
pub is_square_opening : Contains symbols (codes "[")
is_square_opening = (8, lit< tt, refl)

-- `]` is one
pub is_square_closing : Contains symbols (codes "]")
is_square_closing = (9, lit< tt, refl)

-- `{` is one
pub is_curly_opening : Contains symbols (codes "{")
is_curly_opening = (10, lit< tt, refl)

-- `}` is one
pub is_curly_closing : Contains symbols (codes "}")
is_curly_closing = (11, lit< tt, refl)

-- `..` is the last of them
pub is_dots : Contains symbols (codes "..")
is_dots = (12, lit< tt, refl)

-- a word, where nothing goes on
pub word_token : (w rest : List ℕ) → IsWord w → NothingGoesOn rest → IsToken w rest
word_token w rest is r = inr (inl is, r)

-- the reserved words
pub is_field : IsWord (codes "field")
is_field = (refl, (refl, (refl, (refl, (refl, tt)))), lit< tt)

-- `gf2` is a word
pub is_gf2 : IsWord (codes "gf2")
is_gf2 = (refl, (refl, (refl, tt)), lit< tt)

-- `gf256` is a word
pub is_gf256 : IsWord (codes "gf256")
is_gf256 = (refl, (refl, (refl, (refl, (refl, tt)))), lit< tt)

-- `map` is a word
pub is_map : IsWord (codes "map")
is_map = (refl, (refl, (refl, tt)), lit< tt)

-- `secret` is a word
pub is_secret : IsWord (codes "secret")
is_secret = (refl, (refl, (refl, (refl, (refl, (refl, tt))))), lit< tt)

-- `public` is a word
pub is_public : IsWord (codes "public")
is_public = (refl, (refl, (refl, (refl, (refl, (refl, tt))))), lit< tt)

-- `output` is a word
pub is_output : IsWord (codes "output")
is_output = (refl, (refl, (refl, (refl, (refl, (refl, tt))))), lit< tt)

-- `local` is a word
pub is_local : IsWord (codes "local")
is_local = (refl, (refl, (refl, (refl, (refl, tt)))), lit< tt)

-- `for` is a word
pub is_for : IsWord (codes "for")
is_for = (refl, (refl, (refl, tt)), lit< tt)

-- `in` is a word
pub is_in : IsWord (codes "in")
is_in = (refl, (refl, tt), lit< tt)

-- `sq` is a word
pub is_sq : IsWord (codes "sq")
is_sq = (refl, (refl, tt), lit< tt)

-- a space is a gap
pub space_gap : IsGap (codes " ")
space_gap = inl (refl, tt)

-- and so is a line feed
pub feed_gap : IsGap (10 ∷ [])
feed_gap = inl (refl, tt)

-- a name
pub reads_name : (n : List ℕ) → IsName n → Reading NothingGoesOn name (λ x. x.0 ≡ n) n
reads_name n is = reads_one NothingGoesOn _ (λ x. x.0 ≡ n) n (λ rest r. word_token n rest is.0 r) (λ at. ((n, at), (is, refl), refl))

-- a number
pub reads_number : (n : ℕ) → n ≤ 65535 → Reading NothingGoesOn number (λ m. m ≡ n) (decimal n)
reads_number n le = reads_one NothingGoesOn _ (λ m. m ≡ n) (decimal n) (λ rest r. inr (inr (inl (n, (refl, le))), r)) (λ at. (n, (refl, le), refl))

-- a size
pub reads_size : (n : ℕ) → 1 ≤ n → n ≤ 65535 → Reading NothingGoesOn size (λ m. m ≡ n) (decimal n)
reads_size n ge le =
    let some : n ≢ 0 = omega arith in
    reads_one NothingGoesOn _ (λ m. m ≡ n) (decimal n) (λ rest r. inr (inr (inl (n, (refl, le))), r)) (λ at. (n, ((refl, le), some), refl))

-- a lower-case digit has its value
hex_value-digit : (n : ℕ) → n < 16 → hex_value (hex_digit n) ≡ Some n
hex_value-digit zero lt = refl
hex_value-digit (suc zero) lt = refl
hex_value-digit (suc (suc zero)) lt = refl
hex_value-digit (suc (suc (suc zero))) lt = refl
hex_value-digit (suc (suc (suc (suc zero)))) lt = refl
hex_value-digit (suc (suc (suc (suc (suc zero))))) lt = refl
hex_value-digit (suc (suc (suc (suc (suc (suc zero)))))) lt = refl
hex_value-digit (suc (suc (suc (suc (suc (suc (suc zero))))))) lt = refl
hex_value-digit (suc (suc (suc (suc (suc (suc (suc (suc zero)))))))) lt = refl
hex_value-digit (suc (suc (suc (suc (suc (suc (suc (suc (suc zero))))))))) lt = refl
hex_value-digit (suc (suc (suc (suc (suc (suc (suc (suc (suc (suc zero)))))))))) lt = refl
hex_value-digit (suc (suc (suc (suc (suc (suc (suc (suc (suc (suc (suc zero))))))))))) lt = refl
hex_value-digit (suc (suc (suc (suc (suc (suc (suc (suc (suc (suc (suc (suc zero)))))))))))) lt = refl
hex_value-digit (suc (suc (suc (suc (suc (suc (suc (suc (suc (suc (suc (suc (suc zero))))))))))))) lt = refl
hex_value-digit (suc (suc (suc (suc (suc (suc (suc (suc (suc (suc (suc (suc (suc (suc zero)))))))))))))) lt = refl
hex_value-digit (suc (suc (suc (suc (suc (suc (suc (suc (suc (suc (suc (suc (suc (suc (suc zero))))))))))))))) lt = refl
hex_value-digit (suc (suc (suc (suc (suc (suc (suc (suc (suc (suc (suc (suc (suc (suc (suc (suc n)))))))))))))))) lt = absurd (omega arith)

-- an element
pub element_is : (value : ℕ) → value < 256 → IsElement value (element_text value)
element_is value lt =
    let high : value / 16 < 16 = omega arith in
    let low : value % 16 < 16 = omega arith in
    let whole : value ≡ 16 * (value / 16) + value % 16 = omega arith in
    (_, _, _, _, refl, hex_value-digit (value / 16) high, hex_value-digit (value % 16) low, whole)

-- an element, as a token
pub reads_element : (value : ℕ) → value < 256 → Reading NothingGoesOn element (λ x. x.0 ≡ value) (element_text value)
reads_element value lt =
    let is = element_is value lt in
    reads_one NothingGoesOn _ (λ x. x.0 ≡ value) (element_text value) (λ rest r. inr (inr (inr (value, is)), r)) (λ at. ((value, at), (is, refl), refl))

-- a word with a meaning
pub reads_meaning : {A : Type 0} (w : List ℕ) (value : A) → IsWord w → Reading NothingGoesOn (meaning w value) (λ x. x ≡ value) w
reads_meaning w value is = reads_one NothingGoesOn _ (λ x. x ≡ value) w (λ rest r. word_token w rest is r) (λ at. (value, (refl, refl), refl))

-- a word, a space, and then the phrase
pub reads_word : {A : Type 0} {Rest : List ℕ → Type 0} {phrase : Phrase A} {Like : A → Type 0} (w x : List ℕ) → IsWord w →
    Reading Rest phrase Like x → Reading Rest (after w phrase) Like (w ++ (codes " " ++ x))
reads_word w x is reading =
    reads_after w (codes " " ++ x) (λ rest r. word_token w ((codes " " ++ x) ++ rest) is refl) (reads_gap (codes " ") x space_gap reading)
