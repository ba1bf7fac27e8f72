-- The tokens of source texts: words, numbers, elements and symbols, with blanks and comments between
-- them. The language is this project's own; docs/LANGUAGE.md has its grammar.
use Rattle.std.specs.Prelude.{◌≡◌, ◌≢◌, ℕ, ◌+◌, ◌-◌, ◌*◌, ◌<◌, ◌==◌, Bool, false, not, ◌||◌, IsTrue, ◌⊎◌, List, [], ◌∷◌, ◌++◌, length, take, reverse, filter, Option, Some, None, nat_lt, if◌then◌else◌, Contains, codes}
use Rattle.mk_base.specs.Digits.{IsDecimal, hex_value}
use Rattle.mk_ast.specs.declared.TheConstants.{GREATEST_NUMBER}
use Rattle.std.specs.List.{AllByRecursion, take_while}
use Rattle.std.specs.Char.{is_ascii_alphabetic, is_ascii_alphanumeric}
use Rattle.mk_base.specs.declared.Place.{Place}

-- a token: its bytes, and its place in the text
pub record Token : Type 0 where
  pub text : List ℕ
  pub at : Place

-- the place behind these bytes: the line is 1 plus the number of line feeds, and the column 1 plus
-- the number of bytes since the last of them
abbrev pub place_behind : List ℕ → Place
place_behind front = record {
  line = 1 + length (filter (λ b. b == 10) front);
  column = 1 + length (take_while (λ b. not (b == 10)) (reverse front));
}

-- the place in the text where this rest of it begins
abbrev pub place_of : List ℕ → List ℕ → Place
place_of text rest = place_behind (take (length text - length rest) text)

-- a space, a tab, a carriage return or a line feed
abbrev pub is_blank : ℕ → Bool
is_blank byte = byte == 32 || byte == 9 || byte == 13 || byte == 10

-- blanks and comments; a comment begins with `#` and ends before the next line feed
abbrev mutual
  pub IsGap : List ℕ → Type 0
  IsGap [] = Unit {0}
  IsGap (b ∷ bs) = (IsTrue (is_blank b) × IsGap bs) ⊎ ((b ≡ 35) × IsComment bs)

  -- the rest of a comment, and what follows it
  pub IsComment : List ℕ → Type 0
  IsComment [] = ⊥
  IsComment (b ∷ bs) = ((b ≡ 10) × IsGap bs) ⊎ ((b ≢ 10) × IsComment bs)

-- the last gap of a text: a comment may also end where the text ends
abbrev pub IsLastGap : List ℕ → Type 0
IsLastGap text = IsGap (text ++ 10 ∷ [])

-- a word begins with a letter or `_`
abbrev pub begins_word : ℕ → Bool
begins_word byte = is_ascii_alphabetic byte || byte == 95

-- and goes on with letters, digits and `_`
abbrev pub goes_on : ℕ → Bool
goes_on byte = is_ascii_alphanumeric byte || byte == 95

-- a word has at most 64 bytes
abbrev pub IsWord : List ℕ → Type 0
IsWord [] = ⊥
IsWord (b ∷ bs) = IsTrue (begins_word b) × AllByRecursion (λ c. IsTrue (goes_on c)) bs × (length bs < 64)

-- the words that are no names
abbrev pub reserved : List (List ℕ)
reserved =
    codes "field" ∷ codes "gf2" ∷ codes "gf256" ∷ codes "map" ∷ codes "secret" ∷ codes "public" ∷ codes "output"
    ∷ codes "local" ∷ codes "for" ∷ codes "in" ∷ codes "sq" ∷ []

-- a name is any other word
abbrev pub IsName : List ℕ → Type 0
IsName text = IsWord text × (Contains reserved text → ⊥)

-- a number is written in decimal digits without leading zeros, and is at most 65,535
abbrev pub IsNumber : ℕ → List ℕ → Type 0
IsNumber n text = IsDecimal GREATEST_NUMBER n text

-- an element is `0x` and two hexadecimal digits
abbrev pub IsElement : ℕ → List ℕ → Type 0
IsElement value text =
    (c d high low : ℕ) × (text ≡ codes "0x" ++ c ∷ d ∷ []) × (hex_value c ≡ Some high) × (hex_value d ≡ Some low)
    × (value ≡ 16 * high + low)

-- the symbols
abbrev pub symbols : List (List ℕ)
symbols =
    codes ";" ∷ codes "=" ∷ codes "," ∷ codes "+" ∷ codes "*" ∷ codes "%" ∷ codes "(" ∷ codes ")" ∷ codes "[" ∷ codes "]"
    ∷ codes "{" ∷ codes "}" ∷ codes ".." ∷ []

-- no letter, digit or `_` follows
abbrev pub NothingGoesOn : List ℕ → Type 0
NothingGoesOn [] = Unit {0}
NothingGoesOn (b ∷ bs) = goes_on b ≡ false

-- these bytes, before the rest, are a token, as long as possible
abbrev pub IsToken : List ℕ → List ℕ → Type 0
IsToken text rest =
    Contains symbols text
    ⊎ ((IsWord text ⊎ ((n : ℕ) × IsNumber n text) ⊎ ((value : ℕ) × IsElement value text)) × NothingGoesOn rest)

-- of the text, what is left begins with a gap and the token, and then comes the rest
pub record Next (text left : List ℕ) (token : Token) (rest : List ℕ) : Type 0 where
  pub gap : List ℕ
  pub is_gap : IsGap gap
  pub parts : left ≡ gap ++ (token.text ++ rest)
  pub is_token : IsToken token.text rest
  pub place : token.at ≡ place_of text (token.text ++ rest)

-- of the text, what is left begins with these tokens, and then comes the rest
abbrev pub BeginsWith : List ℕ → List ℕ → List Token → List ℕ → Type 0
BeginsWith text left [] rest = left ≡ rest
BeginsWith text left (token ∷ tokens) rest = (behind : List ℕ) × Next text left token behind × BeginsWith text behind tokens rest

-- the tokens of a text, all of them
abbrev pub AreTokens : List ℕ → List Token → Type 0
AreTokens text tokens = (rest : List ℕ) × BeginsWith text text tokens rest × IsLastGap rest
