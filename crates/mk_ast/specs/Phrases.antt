-- How grammars are written here. A phrase says which lists of tokens spell which values; the phrases
-- of a grammar are made of smaller ones as in the usual notation: one behind the other, one of two,
-- any number of times. See J. W. Backus and P. Naur, Revised Report on Algol 60, 1963.
use Rattle.std.specs.Prelude.{◌≡◌, ℕ, ◌⊎◌, List, [], ◌∷◌, ◌++◌, Option, Some, None}
use Rattle.mk_ast.specs.Tokens.{Token}

-- which lists of tokens spell which values
abbrev pub Phrase : Type 0 → Type 1
Phrase A = List Token → A → Type 0

-- no tokens at all spell this
abbrev pub nothing : {A : Type 0} → Phrase A
nothing tokens a = ⊥

-- one token, which gives the value
abbrev pub one : {A : Type 0} → (Token → A → Type 0) → Phrase A
one Gives tokens a = (t : Token) × (tokens ≡ t ∷ []) × Gives t a

-- the value that is made of the value of the phrase
abbrev pub made : {A B : Type 0} → (A → B) → Phrase A → Phrase B
made f phrase tokens b = (a : _) × phrase tokens a × (b ≡ f a)

-- one of the two phrases
infixr 20 ◌or◌
abbrev pub ◌or◌ : {A : Type 0} → Phrase A → Phrase A → Phrase A
(first or second) tokens a = first tokens a ⊎ second tokens a

-- one phrase, and then the other
infixr 30 ◌and◌
abbrev pub ◌and◌ : {A B : Type 0} → Phrase A → Phrase B → Phrase (A × B)
(first and second) tokens x = (front back : List Token) × (tokens ≡ front ++ back) × first front x.0 × second back x.1

-- the word or symbol, and then the phrase
abbrev pub after : {A : Type 0} → List ℕ → Phrase A → Phrase A
after word phrase tokens a = (t : Token) × (rest : List Token) × (tokens ≡ t ∷ rest) × (t.text ≡ word) × phrase rest a

-- the phrase, and then the word or symbol
abbrev pub until : {A : Type 0} → List ℕ → Phrase A → Phrase A
until word phrase tokens a = (front : List Token) × (t : Token) × (tokens ≡ front ++ t ∷ []) × (t.text ≡ word) × phrase front a

-- the phrase, or no token
abbrev pub optional : {A : Type 0} → Phrase A → Phrase (Option A)
optional phrase tokens None = tokens ≡ []
optional phrase tokens (Some a) = phrase tokens a

-- the phrase any number of times
abbrev pub many : {A : Type 0} → Phrase A → Phrase (List A)
many phrase tokens [] = tokens ≡ []
many phrase tokens (a ∷ rest) = (front back : List Token) × (tokens ≡ front ++ back) × phrase front a × many phrase back rest

-- the phrase at least once, with the symbol between
abbrev pub separated : {A : Type 0} → List ℕ → Phrase A → Phrase (List A)
separated symbol phrase = made (λ x. x.0 ∷ x.1) (phrase and many (after symbol phrase))

-- what is made of several values, and one value as it is
abbrev pub several : {A : Type 0} → (List A → A) → List A → A
several f [] = f []
several f (a ∷ []) = a
several f (a ∷ b ∷ rest) = f (a ∷ b ∷ rest)
