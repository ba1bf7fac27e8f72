-- Readers of lists of tokens. A reader answers a value and the tokens behind those that it took, or
-- the tokens from the first on that doesn't fit.
use Rattle.std.specs.Prelude.{ℕ, zero, suc, Bool, false, List, [], ◌∷◌, length, Option, Some, None, Result, Ok, Err, if◌then◌else◌, bytes_eq}
use Rattle.mk_ast.specs.Tokens.{Token}

-- what a reader answers
abbrev pub Reading : Type 0 → Type 0
Reading A = Result (A × List Token) (List Token)

-- a reader
abbrev pub Reader : Type 0 → Type 0
Reader A = List Token → Reading A

-- what was read is read on, and where a token doesn't fit nothing more is read
infixl 10 ◌>>=◌
abbrev pub ◌>>=◌ : {A B : Type 0} → Reading A → (A × List Token → Reading B) → Reading B
(Ok x) >>= f = f x
(Err bad) >>= f = Err bad

-- the first token, where there is one, passes the test
abbrev pub starts : (Token → Bool) → List Token → Bool
starts test [] = false
starts test (t ∷ ts) = test t

-- the token is this word or symbol
abbrev pub says : List ℕ → Token → Bool
says word t = bytes_eq t.text word

-- no token
abbrev pub never : Token → Bool
never t = false

-- no token fits
abbrev pub fails : {A : Type 0} → Reader A
fails ts = Err ts

-- what a token gave, before these
abbrev pub given : {A : Type 0} → Token → List Token → Option A → Reading A
given t ts (Some a) = Ok (a, ts)
given t ts None = Err (t ∷ ts)

-- a token, by the value that it gives
abbrev pub takes : {A : Type 0} → (Token → Option A) → Reader A
takes value [] = Err []
takes value (t ∷ ts) = given t ts (value t)

-- what is made of what is read
abbrev pub makes : {A B : Type 0} → (A → B) → Reader A → Reader B
makes f reader ts = reader ts >>= (λ x. Ok (f x.0, x.1))

-- one reader, and then the other
infixr 30 ◌next◌
abbrev pub ◌next◌ : {A B : Type 0} → Reader A → Reader B → Reader (A × B)
(first next second) ts = first ts >>= (λ x. second x.1 >>= (λ y. Ok ((x.0, y.0), y.1)))

-- the word or symbol
abbrev pub expects : List ℕ → Reader (Unit {0})
expects word [] = Err []
expects word (t ∷ ts) = if says word t then Ok (tt, ts) else Err (t ∷ ts)

-- the word or symbol, and then the reader
abbrev pub past : {A : Type 0} → List ℕ → Reader A → Reader A
past word reader ts = expects word ts >>= (λ x. reader x.1)

-- no tokens are taken
abbrev pub skips : {A : Type 0} → A → Reader A
skips a ts = Ok (a, ts)

-- the reader, and then the word or symbol
abbrev pub ended : {A : Type 0} → List ℕ → Reader A → Reader A
ended word reader ts = reader ts >>= (λ x. expects word x.1 >>= (λ y. Ok (x.0, y.1)))

-- one reader where the first token passes the test, else the other
abbrev pub chosen : {A : Type 0} → (Token → Bool) → Reader A → Reader A → Reader A
chosen test first second ts = if starts test ts then first ts else second ts

-- the reader where the first token passes the test
abbrev pub perhaps : {A : Type 0} → (Token → Bool) → Reader A → Reader (Option A)
perhaps test reader = chosen test (makes Some reader) (skips None)

-- the reader again and again, while the first token passes the test, at most so many times
unfoldable pub repeats : {A : Type 0} → (Token → Bool) → Reader A → ℕ → Reader (List A)
repeats test reader zero ts = Ok ([], ts)
repeats test reader (suc n) ts =
    if starts test ts then reader ts >>= (λ x. repeats test reader n x.1 >>= (λ y. Ok (x.0 ∷ y.0, y.1))) else Ok ([], ts)

-- as often as there can be
abbrev pub every : {A : Type 0} → (Token → Bool) → Reader A → Reader (List A)
every test reader ts = repeats test reader (length ts) ts

-- the reader at least once, with the symbol between
abbrev pub parted : {A : Type 0} → List ℕ → Reader A → Reader (List A)
parted symbol reader = makes (λ x. x.0 ∷ x.1) (reader next every (says symbol) (past symbol reader))

-- what was read, where no token is left
abbrev pub with_none_left : {A : Type 0} → A → List Token → Result A (List Token)
with_none_left a [] = Ok a
with_none_left a (t ∷ ts) = Err (t ∷ ts)

-- what was read, where it was all
abbrev pub finished : {A : Type 0} → Reading A → Result A (List Token)
finished (Ok x) = with_none_left x.0 x.1
finished (Err bad) = Err bad
