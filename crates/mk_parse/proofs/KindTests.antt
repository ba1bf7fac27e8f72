-- Bytes have one kind, and the kind tells what the tests of names, numbers and elements give.
use Rattle.std.proofs.Common.{◌≡◌, ℕ, Bool, true, false, List, [], ◌∷◌, Option, Some, None, refl, sym, ap, ◌∙◌, inl, inr, arith}
use Rattle.std.specs.Prelude.{Contains}
use Rattle.std.specs.Str.{all_ascii_digits}
use Rattle.std.proofs.lemmas.Bool.{both_ways, false≢true, false_from_ne_true}
use Rattle.mk_ast.specs.Tokens.{Token, begins_word, goes_on, IsWord, IsName, IsNumber, IsElement, symbols}
use Rattle.mk_parse.specs.declared.token.Written.{Written}
use Rattle.mk_parse.specs.declared.token.Written.TheVariants.{Name, Reserved, Number, Element, Symbol}
use Rattle.mk_parse.specs.Lexing.{IsOfKind}
use Rattle.mk_parse.specs.Reading.{is_name, number_text, element_text}
use Rattle.mk_parse.proofs.Decoding.{number_parts}
use Rattle.mk_parse.proofs.IndexPhrases.{digit_or_word}
use Rattle.mk_parse.proofs.Joined.{token_of}
use Rattle.mk_parse.proofs.Munching.{IsRun, run_goes_on, symbol_parts}
use Rattle.mk_parse.proofs.Terminals.{first_byte, name_sound, name_complete, number_by, number_begins, element_by, element_begins}

-- a word begins as words do
word_begins : (text : List ℕ) → IsWord text → begins_word (first_byte text) ≡ true
word_begins [] h = absurd h
word_begins (b ∷ bs) h = h.0

-- a word is no number
word_or_number : (text : List ℕ) → IsWord text → (n : ℕ) → IsNumber n text → ⊥
word_or_number text word n number = digit_or_word (first_byte text) (number_begins (token_of text) n number) (word_begins text word)

-- a word is no element
word_or_element : (text : List ℕ) → IsWord text → (v : ℕ) → IsElement v text → ⊥
word_or_element text word v element = false≢true (ap begins_word (sym (element_begins text v element)) ∙ word_begins text word)

-- a number is no element
number_or_element : (text : List ℕ) (n : ℕ) → IsNumber n text → (v : ℕ) → IsElement v text → ⊥
number_or_element text n number v element = false≢true (ap all_ascii_digits (sym element.4) ∙ (number_parts n text number).0)

-- a symbol is no word, no number and no element
symbol_or_run : (text : List ℕ) → Contains symbols text → IsRun text → ⊥
symbol_or_run [] symbol run = omega (arith, (run_goes_on [] run).0)
symbol_or_run (b ∷ bs) symbol run = both_ways (goes_on b) (symbol_parts b bs symbol).0 (run_goes_on (b ∷ bs) run).1.0

-- whether the tokens of a kind are names
abbrev pub is_name_kind : Written → Bool
is_name_kind Name = true
is_name_kind Reserved = false
is_name_kind (Number n) = false
is_name_kind (Element value) = false
is_name_kind Symbol = false

-- the number that the tokens of a kind write
abbrev pub number_kind : Written → Option ℕ
number_kind Name = None
number_kind Reserved = None
number_kind (Number n) = Some n
number_kind (Element value) = None
number_kind Symbol = None

-- the element that the tokens of a kind write
abbrev pub element_kind : Written → Option ℕ
element_kind Name = None
element_kind Reserved = None
element_kind (Number n) = None
element_kind (Element value) = Some value
element_kind Symbol = None

-- what is no name fails the test
no_name : (t : Token) → (IsName t.text → ⊥) → false ≡ is_name t
no_name t none = sym (false_from_ne_true (is_name t) (λ e. none (name_sound t e)))

-- the kind tells whether a token is a name
pub name_by_kind : (kind : Written) (t : Token) → IsOfKind kind t.text → is_name_kind kind ≡ is_name t
name_by_kind Name t h = sym (name_complete t h)
name_by_kind Reserved t h = no_name t (λ name. name.1 h.1)
name_by_kind (Number n) t h = no_name t (λ name. word_or_number t.text name.0 n h)
name_by_kind (Element value) t h = no_name t (λ name. word_or_element t.text name.0 value h)
name_by_kind Symbol t h = no_name t (λ name. symbol_or_run t.text h (inl name.0))

-- the kind tells which number a token is
pub number_by_kind : (kind : Written) (text : List ℕ) → IsOfKind kind text → number_kind kind ≡ number_text text
number_by_kind Name text h = number_by None text (λ n number. word_or_number text h.0 n number)
number_by_kind Reserved text h = number_by None text (λ n number. word_or_number text h.0 n number)
number_by_kind (Number n) text h = number_by (Some n) text h
number_by_kind (Element value) text h = number_by None text (λ n number. number_or_element text n number value h)
number_by_kind Symbol text h = number_by None text (λ n number. symbol_or_run text h (inr (inl (n, number))))

-- the kind tells which element a token is
pub element_by_kind : (kind : Written) (text : List ℕ) → IsOfKind kind text → element_kind kind ≡ element_text text
element_by_kind Name text h = element_by None text (λ v element. word_or_element text h.0 v element)
element_by_kind Reserved text h = element_by None text (λ v element. word_or_element text h.0 v element)
element_by_kind (Number n) text h = element_by None text (λ v element. number_or_element text n h v element)
element_by_kind (Element value) text h = element_by (Some value) text h
element_by_kind Symbol text h = element_by None text (λ v element. symbol_or_run text h (inr (inr (v, element))))

-- any other kind is that of no name
pub other_name : (kind : Written) → (kind ≡ Name → ⊥) → is_name_kind kind ≡ false
other_name Name other = absurd (other refl)
other_name Reserved other = refl
other_name (Number n) other = refl
other_name (Element value) other = refl
other_name Symbol other = refl

-- any other kind writes no number
pub other_number : (kind : Written) → ((n : ℕ) → kind ≡ Number n → ⊥) → number_kind kind ≡ None
other_number Name other = refl
other_number Reserved other = refl
other_number (Number n) other = absurd (other n refl)
other_number (Element value) other = refl
other_number Symbol other = refl

-- any other kind writes no element
pub other_element : (kind : Written) → ((value : ℕ) → kind ≡ Element value → ⊥) → element_kind kind ≡ None
other_element Name other = refl
other_element Reserved other = refl
other_element (Number n) other = refl
other_element (Element value) other = absurd (other value refl)
other_element Symbol other = refl
