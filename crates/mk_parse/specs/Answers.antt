-- What the functions of the parser answer: what the reader reads, or that memory was wanted. Where a
-- token doesn't fit, the parser stands there.
use Rattle.std.specs.Prelude.{◌≡◌, ℕ, List, [], ◌∷◌, Result, Ok, Err, map, refl}
use Rattle.std.specs.Coded.{Coded, code_by, coded×, coded_ℕ, coded_list}
use Rattle.mk_base.specs.declared.Place.{Place}
use Rattle.mk_ast.specs.Tokens.{Token as Spelled}
use Rattle.mk_parse.specs.declared.token.Token.{Token}
use Rattle.mk_parse.specs.declared.cursor.Stop.{Stop}
use Rattle.mk_parse.specs.declared.cursor.Stop.TheVariants.{Here, Memory}
use Rattle.mk_parse.specs.Lexing.{seen}
use Rattle.mk_parse.specs.Readers.{Reading}

-- a token as numbers
abbrev pub token_code : Coded Spelled
token_code = code_by (List ℕ × (ℕ × ℕ)) (coded× (coded_list coded_ℕ) (coded× coded_ℕ coded_ℕ))
    (λ t. (t.text, (t.at.line, t.at.column))) (λ x. record { text = x.0; at = record { line = x.1.0; column = x.1.1 } }) (λ _. refl)

-- the tokens of the text that tokens of the program are
abbrev pub seen_tokens : List ℕ → List Token → List Spelled
seen_tokens text tokens = map (seen text) tokens

-- what a reader of the first tokens answers, with the tokens behind them
abbrev pub Answers : {A : Type 0} → Result A Stop → List Spelled → Reading A → Type 0
Answers (Ok a) new reading = reading ≡ Ok (a, new)
Answers (Err Here) new reading = reading ≡ Err new
Answers (Err Memory) new reading = Unit {0}

-- the same of what reads all tokens
abbrev pub AnswersAll : {A : Type 0} → Result A Stop → List Spelled → Result A (List Spelled) → Type 0
AnswersAll (Ok a) new reading = reading ≡ Ok a
AnswersAll (Err Here) new reading = reading ≡ Err new
AnswersAll (Err Memory) new reading = Unit {0}

-- the place of the first of the tokens, or this one where there is none
abbrev pub place_at : Place → List Spelled → Place
place_at end [] = end
place_at end (t ∷ ts) = t.at
