-- What tokens of the program stand for in a text, and where a text has no further token.
use Rattle.std.specs.Prelude.{◌≡◌, ℕ, ◌-◌, ◌≤◌, ◌<◌, ◌⊎◌, Bool, IsTrue, ◌↔◌, List, [], ◌∷◌, ◌++◌, length, take, drop, map, Contains, All}
use Rattle.mk_base.specs.declared.Place.{Place}
use Rattle.mk_ast.specs.Tokens.{Token as Spelled, IsGap, IsLastGap, IsWord, IsName, IsNumber, IsElement, IsToken, BeginsWith, AreTokens, place_of, place_behind, reserved, symbols}
use Rattle.mk_ast.specs.Spells.{NoGapBegins}
use Rattle.mk_ast.specs.declared.refusal.SourceRefusal.{SourceRefusal}
use Rattle.mk_ast.specs.declared.refusal.SourceRefusal.TheVariants.{Syntax, Memory}
use Rattle.mk_parse.specs.declared.token.Token.{Token}
use Rattle.mk_parse.specs.declared.token.TokenKind.{TokenKind}
use Rattle.mk_parse.specs.declared.token.TokenKind.TheVariants as kind_
use Rattle.mk_parse.specs.declared.token.Written.{Written}
use Rattle.mk_parse.specs.declared.token.Written.TheVariants.{Name, Reserved, Number, Element, Symbol}

-- the token of the text that a token of the program is: the bytes of its span, and its place
abbrev pub seen : List ℕ → Token → Spelled
seen text token = record { text = take (token.to - token.from) (drop token.from text); at = token.at }

-- the kind of a token that writes this
abbrev pub kind_by : Written → TokenKind
kind_by Name = kind_.Word
kind_by Reserved = kind_.Word
kind_by (Number n) = kind_.Number
kind_by (Element value) = kind_.Element
kind_by Symbol = kind_.Symbol

-- the bytes of a token that writes this
abbrev pub IsOfKind : Written → List ℕ → Type 0
IsOfKind Name text = IsName text
IsOfKind Reserved text = IsWord text × Contains reserved text
IsOfKind (Number n) text = IsNumber n text
IsOfKind (Element value) text = IsElement value text
IsOfKind Symbol text = Contains symbols text

-- a token's span lies in the text, and its bytes are of its kind
abbrev pub IsWithin : List ℕ → Token → Type 0
IsWithin text token =
    (token.from ≤ token.to) × (token.to ≤ length text)
    × IsOfKind token.written (seen text token).text × (token.kind ≡ kind_by token.written)

-- from this index on the spans of the tokens come in order, with nothing but gaps before each of them
abbrev pub AreSpans : List ℕ → ℕ → List Token → Type 0
AreSpans text start [] = Unit {0}
AreSpans text start (token ∷ tokens) =
    (start ≤ token.from) × IsGap (take (token.from - start) (drop start text)) × AreSpans text token.to tokens

-- no token begins here
abbrev pub NoTokenBegins : List ℕ → Type 0
NoTokenBegins here = (word rest : List ℕ) → here ≡ word ++ rest → IsToken word rest → ⊥

-- this is the place at this index into the text
abbrev pub IsPlaced : List ℕ → ℕ → Place → Type 0
IsPlaced text index at = (index ≤ length text) × (at ≡ place_behind (take index text))

-- between these indexes is a gap, which may be a last one where the text ends with it
abbrev pub IsGapBetween : List ℕ → ℕ → ℕ → Type 0
IsGapBetween text from to =
    (from ≤ to)
    × (IsGap (take (to - from) (drop from text)) ⊎ (IsLastGap (take (to - from) (drop from text)) × (drop to text ≡ [])))

-- between these indexes is a token that writes this
abbrev pub IsTokenBetween : List ℕ → ℕ → Written → ℕ → Type 0
IsTokenBetween text from kind to =
    (from < to) × IsOfKind kind (take (to - from) (drop from text)) × IsToken (take (to - from) (drop from text)) (drop to text)

-- Tokens are at the front of the text, as far as tokens go: a gap comes behind them, and then, at this
-- place, the text ends or no token begins.
pub record IsLexed (text : List ℕ) (tokens : List Token) (at : Place) (whole : Bool) : Type 0 where
  pub gap : List ℕ
  pub here : List ℕ
  pub before : BeginsWith text text (map (seen text) tokens) (gap ++ here)
  pub is_gap : IsGap gap ⊎ (IsLastGap gap × (here ≡ []))
  pub begins : NoGapBegins here
  pub place : at ≡ place_of text here
  pub ended : IsTrue whole ↔ (here ≡ [])
  pub stuck : NoTokenBegins here
  pub within : All (IsWithin text) tokens
  pub spans : AreSpans text 0 tokens

-- these are the tokens of the text, all of them, and it has no others
pub record AreAllTokens (text : List ℕ) (tokens : List Token) : Type 0 where
  pub all : AreTokens text (map (seen text) tokens)
  pub alone : (others : List Spelled) → AreTokens text others → others ≡ map (seen text) tokens
  pub within : All (IsWithin text) tokens
  pub spans : AreSpans text 0 tokens

-- the first place in the text where no token begins, and which isn't the end of the text
pub record IsFirstBad (text : List ℕ) (at : Place) : Type 0 where
  pub tokens : List Spelled
  pub gap : List ℕ
  pub here : List ℕ
  pub before : BeginsWith text text tokens (gap ++ here)
  pub is_gap : IsGap gap
  pub begins : NoGapBegins here
  pub rest : here ≡ [] → ⊥
  pub stuck : NoTokenBegins here
  pub place : at ≡ place_of text here

-- Why a text has no list of tokens: at that place it goes wrong, and it has no tokens; or memory was
-- wanted. No other refusal comes.
abbrev pub IsTokenRefusal : List ℕ → SourceRefusal → Type 0
IsTokenRefusal text (Syntax at) = IsFirstBad text at × ((tokens : List Spelled) → AreTokens text tokens → ⊥)
IsTokenRefusal text Memory = Unit {0}
IsTokenRefusal text _ = ⊥
