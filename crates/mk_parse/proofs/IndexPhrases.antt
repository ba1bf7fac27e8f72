-- The readers of indexes read the phrases of indexes.
use Rattle.std.proofs.Common.{◌≡◌, ◌≢◌, ℕ, zero, suc, ◌<◌, Bool, true, false, ◌||◌, inl, inr, List, [], ◌∷◌, ◌++◌, length, Ok, refl, sym, ap, ◌∙◌, arith}
use Rattle.std.specs.Prelude.{codes, bytes_eq, ◌&&◌, not}
use Rattle.std.specs.Char.{is_ascii_digit}
use Rattle.std.proofs.lemmas.Bool.{false≢true, false_from_ne_true, or_right, or_parts}
use Rattle.std.proofs.lemmas.Bool.Decides.{nat_tests}
use Rattle.std.proofs.lemmas.Fmt.{decimal_digit}
use Rattle.mk_base.specs.declared.Place.{Place}
use Rattle.mk_ast.specs.declared.tree.Index.{Index}
use Rattle.mk_ast.specs.declared.tree.Index.TheVariants as index
use Rattle.mk_ast.specs.declared.tree.Link.{Link}
use Rattle.mk_ast.specs.declared.tree.Link.TheVariants as link
use Rattle.mk_ast.specs.Tokens.{Token, begins_word, IsName, IsNumber, reserved}
use Rattle.mk_ast.specs.Phrases.{Phrase, nothing, made, ◌or◌, after, until, several}
use Rattle.mk_ast.specs.Grammar.{name, number, size, index_factor, index_link, chained, index_product, index_sum_with, index_sum}
use Rattle.mk_parse.specs.Readers.{Reader, starts, says, never, fails, takes, makes, past, ended, chosen}
use Rattle.mk_parse.specs.Reading.{is_word, is_among, all_go_on, is_name, name_of, number_of, size_of, gives, index_factor_by, index_link_by, begins_link, index_product_by, index_sum_by, index_sum_at, index_inner}
use Rattle.mk_parse.proofs.ReaderLaws.{Stops, Reads, BeginsBy, reads_token, reads_made, says_is}
use Rattle.mk_parse.proofs.Joined.{token_of, reads_after, after_begins, reads_and}
use Rattle.mk_parse.proofs.Choices.{reads_same, reads_until, reads_or, reads_alone, stops_never, made_begins, one_begins, apart_by}
use Rattle.mk_parse.proofs.Many.{reads_many, reads_separated}
use Rattle.mk_parse.proofs.Loops.{shorter}
use Rattle.mk_parse.proofs.Terminals.{name_sound, name_complete, name_of_sound, name_of_complete, number_sound, number_complete, size_sound, size_complete, first_byte, name_begins, number_begins, gives_some, some_gives}

-- ---- tokens that exclude one another

-- a token of one word is not the other
pub says_other : (word other : List ℕ) (t : Token) → t.text ≡ word → bytes_eq word other ≡ false → says other t ≡ false
says_other word other t is e = ap (λ (l : List ℕ). bytes_eq l other) is ∙ e

-- no name is a word that isn't one
pub no_name : (word : List ℕ) (t : Token) → t.text ≡ word → (is_word word && not (is_among reserved word)) ≡ false → is_name t ≡ false
unfolding is_name
no_name word t is e = ap (λ (l : List ℕ). is_word l && not (is_among reserved l)) is ∙ e

-- a name is no word that is not a name
pub name_says : (word : List ℕ) (t : Token) → is_name t ≡ true → (is_word word && not (is_among reserved word)) ≡ false → says word t ≡ false
name_says word t is e = false_from_ne_true (says word t) (λ said. false≢true (sym (no_name word t (says_is word t said) e) ∙ is))

-- a digit begins no word
pub digit_or_word : (b : ℕ) → is_ascii_digit b ≡ true → begins_word b ≡ true → ⊥
digit_or_word b digit word = grind (arith, nat_tests)

-- a name is no number
pub name_no_number : (t : Token) → is_name t ≡ true → gives number_of t ≡ false
name_no_number t is = false_from_ne_true (gives number_of t) (λ some.
    let n = gives_some number_of t some in
    digit_or_word (first_byte t.text) (number_begins t n.0 (number_sound t n.0 n.1)) (name_begins t.text (name_sound t is)))

-- a word that begins with no digit is no number
pub word_no_number : (word : List ℕ) (t : Token) → t.text ≡ word → is_ascii_digit (first_byte word) ≡ false → gives number_of t ≡ false
word_no_number word t is e = false_from_ne_true (gives number_of t) (λ some.
    let n = gives_some number_of t some in
    false≢true (sym (ap (λ (l : List ℕ). is_ascii_digit (first_byte l)) is ∙ e) ∙ number_begins t n.0 (number_sound t n.0 n.1)))

-- ---- names, numbers and sizes

-- the reader of a name reads names
pub reads_name : Reads (takes name_of) name never
unfolding is_name all_go_on is_among
reads_name = reads_token name_of (λ t x. IsName t.text × (x ≡ (t.text, t.at))) name_of_sound name_of_complete (token_of (codes "a")) _
    (name_sound (token_of (codes "a")) refl, refl)

-- they begin with a token that is a name
pub name_is : BeginsBy is_name name
name_is = one_begins is_name _ (λ t x h. name_complete t h.0)

-- the reader of a number reads numbers
pub reads_number : Reads (takes number_of) number never
reads_number = reads_token number_of (λ t n. IsNumber n t.text) number_sound number_complete (token_of (48 ∷ [])) 0
    (sym (decimal_digit 0 (omega arith)), omega arith)

-- they begin with a token that is a number
pub number_is : BeginsBy (gives number_of) number
number_is = one_begins (gives number_of) _ (λ t n h. some_gives number_of t n (number_complete t n h))

-- the reader of a size reads sizes
pub reads_size : Reads (takes size_of) size never
reads_size = reads_token size_of (λ t n. IsNumber n t.text × (n ≢ 0)) size_sound size_complete (token_of (49 ∷ [])) 1
    ((sym (decimal_digit 1 (omega arith)), omega arith), λ e. omega (arith, e))

-- ---- indexes

-- the reader of a loop's turn
abbrev variable : Reader Index
variable = makes (λ x. index.Var x.0 x.1) (takes name_of)

-- the phrase of a loop's turn
abbrev variable_phrase : Phrase Index
variable_phrase = made (λ x. index.Var x.0 x.1) name

-- by what stands in parentheses
module _ (inner : Reader Index) (phrase : Phrase Index) (others : Reads (chosen is_name variable inner) (variable_phrase or phrase) never)
    (apart : (back : List Token) (i : Index) (rest : List Token) → phrase back i → starts (gives number_of) (back ++ rest) ≡ false) where
  -- no other factor begins with a number
  apart_number : (back : List Token) (i : Index) (rest : List Token) → (variable_phrase or phrase) back i → Stops never rest → starts (gives number_of) (back ++ rest) ≡ false
  apart_number back i rest (inl h) s = apart_by (gives number_of) is_name variable_phrase (made_begins is_name _ name name_is) name_no_number back i rest h
  apart_number back i rest (inr h) s = apart back i rest h

  -- the reader of factors reads factors
  pub reads_index_factor : Reads (index_factor_by inner) (index_factor phrase) never
  reads_index_factor = reads_or (gives number_of) never (reads_made index.Num reads_number) (made_begins (gives number_of) index.Num number number_is) (λ t e. refl)
      others apart_number (λ t e. refl)

  -- a link of a remainder begins with `%`
  percent_is : BeginsBy (says (codes "%")) (made link.Mod (after (codes "%") size))
  percent_is = made_begins (says (codes "%")) link.Mod (after (codes "%") size) (after_begins (codes "%") size)

  -- a link of a product begins with `*`
  times_is : BeginsBy (says (codes "*")) (made link.Times (after (codes "*") (index_factor phrase)))
  times_is = made_begins (says (codes "*")) link.Times (after (codes "*") (index_factor phrase)) (after_begins (codes "*") (index_factor phrase))

  -- the reader of links reads links
  pub reads_link : Reads (index_link_by inner) (index_link phrase) never
  reads_link = reads_or (says (codes "*")) never (reads_made link.Times (reads_after (codes "*") reads_index_factor)) times_is (λ t e. refl)
      (reads_made link.Mod (reads_after (codes "%") reads_size))
      (λ back l rest h s. apart_by (says (codes "*")) (says (codes "%")) _ percent_is (λ t e. says_other (codes "%") (codes "*") t (says_is (codes "%") t e) refl) back l rest h)
      (λ t e. refl)

  -- they begin with one of these
  link_is : BeginsBy begins_link (index_link phrase)
  link_is ts l (inl h) = let b = times_is ts l h in (b.0, b.1, b.2, rw b.3 refl)
  link_is ts l (inr h) = let b = percent_is ts l h in (b.0, b.1, b.2, or_right (says (codes "*") b.0) (says (codes "%") b.0) b.3)

  -- the reader of products reads products
  pub reads_index_product : Reads (index_product_by inner) (index_product phrase) begins_link
  reads_index_product = reads_made (λ (x : Index × List Link). chained x.0 x.1)
      (reads_and reads_index_factor (reads_many begins_link begins_link reads_link link_is (λ t e. refl) (λ t e. e) (λ t e. refl)) (λ back x rest h s. stops_never (back ++ rest)))

  -- what goes on with a sum
  abbrev pub more_index : Token → Bool
  more_index t = says (codes "+") t || begins_link t

  -- a plus begins no link
  plus_stops : (t : Token) → says (codes "+") t ≡ true → begins_link t ≡ false
  plus_stops t e = let is = says_is (codes "+") t e in rw (says_other (codes "+") (codes "*") t is refl, says_other (codes "+") (codes "%") t is refl) refl

  -- the reader of sums reads sums, by what stands in parentheses
  pub reads_index_sum_by : Reads (index_sum_by inner) (index_sum_with phrase) more_index
  reads_index_sum_by = reads_made (several index.Sum)
      (reads_separated (codes "+") more_index reads_index_product (λ t e. (or_parts (says (codes "+") t) (begins_link t) e).1) (λ t e. (or_parts (says (codes "+") t) (begins_link t) e).0) plus_stops)

-- in as many parentheses as may be opened
abbrev pub index_more : Token → Bool
index_more t = says (codes "+") t || begins_link t

-- no phrase begins with a number
no_inner : (back : List Token) (i : Index) (rest : List Token) → nothing back i → starts (gives number_of) (back ++ rest) ≡ false
no_inner back i rest h = absurd h

-- where parentheses may not be opened, only a name is left
none_to : (ts : List Token) (i : Index) → variable_phrase ts i → (variable_phrase or nothing) ts i
none_to ts i h = inl h

-- and the other way round
none_from : (ts : List Token) (i : Index) → (variable_phrase or nothing) ts i → variable_phrase ts i
none_from ts i (inl h) = h
none_from ts i (inr h) = absurd h

-- a loop's turn begins with a name
variable_is : BeginsBy is_name variable_phrase
variable_is = made_begins is_name (λ (x : List ℕ × Place). index.Var x.0 x.1) name name_is

-- the reader of a loop's turn reads it
reads_variable : Reads variable variable_phrase never
reads_variable = reads_made (λ (x : List ℕ × Place). index.Var x.0 x.1) reads_name

-- a closing parenthesis ends a sum
pub closing_stops : (t : Token) → t.text ≡ codes ")" → index_more t ≡ false
closing_stops t is = rw (says_other (codes ")") (codes "+") t is refl, says_other (codes ")") (codes "*") t is refl, says_other (codes ")") (codes "%") t is refl) refl

-- a closing square bracket does
pub square_stops : (t : Token) → t.text ≡ codes "]" → index_more t ≡ false
square_stops t is = rw (says_other (codes "]") (codes "+") t is refl, says_other (codes "]") (codes "*") t is refl, says_other (codes "]") (codes "%") t is refl) refl

-- an opening parenthesis is no name
pub open_no_name : (t : Token) → says (codes "(") t ≡ true → is_name t ≡ false
unfolding is_among all_go_on
open_no_name t e = no_name (codes "(") t (says_is (codes "(") t e) refl

-- the reader of sums reads sums, by the brackets that may still be opened
pub reads_index_sum : (brackets : ℕ) → Reads (index_sum_at brackets) (index_sum brackets) index_more
unfolding index_sum_at index_sum
reads_index_sum zero =
    reads_index_sum_by fails nothing (reads_same (reads_alone is_name never reads_variable variable_is (λ t e. refl)) none_to none_from) no_inner
reads_index_sum (suc brackets) =
    let opened = reads_after (codes "(") (reads_until (codes ")") (reads_index_sum brackets) closing_stops) in
    reads_index_sum_by (past (codes "(") (ended (codes ")") (index_sum_at brackets))) (after (codes "(") (until (codes ")") (index_sum brackets)))
    (reads_or is_name never reads_variable variable_is (λ t e. refl) opened
    (λ back i rest h s. apart_by is_name (says (codes "(")) _ (after_begins (codes "(") (until (codes ")") (index_sum brackets))) open_no_name back i rest h)
    (λ t e. refl))
    (λ back i rest h. apart_by (gives number_of) (says (codes "(")) _ (after_begins (codes "(") (until (codes ")") (index_sum brackets)))
    (λ t e. word_no_number (codes "(") t (says_is (codes "(") t e) refl) back i rest h)

-- ---- by the number of brackets that may still be opened

-- what stands in parentheses
abbrev inner_phrase : ℕ → Phrase Index
inner_phrase zero = nothing
inner_phrase (suc brackets) = after (codes "(") (until (codes ")") (index_sum brackets))

-- its reader reads it
opened_at : (brackets : ℕ) → Reads (past (codes "(") (ended (codes ")") (index_sum_at brackets))) (inner_phrase (suc brackets)) never
opened_at brackets = reads_after (codes "(") (reads_until (codes ")") (reads_index_sum brackets) closing_stops)

-- and so a name or parentheses
others_at : (brackets : ℕ) → Reads (chosen is_name variable (index_inner brackets)) (variable_phrase or inner_phrase brackets) never
others_at zero = reads_same (reads_alone is_name never reads_variable variable_is (λ t e. refl)) none_to none_from
others_at (suc brackets) =
    reads_or is_name never reads_variable variable_is (λ t e. refl) (opened_at brackets)
    (λ back i rest h s. apart_by is_name (says (codes "(")) _ (after_begins (codes "(") (until (codes ")") (index_sum brackets))) open_no_name back i rest h)
    (λ t e. refl)

-- parentheses begin with no number
apart_at : (brackets : ℕ) (back : List Token) (i : Index) (rest : List Token) → inner_phrase brackets back i → starts (gives number_of) (back ++ rest) ≡ false
apart_at zero back i rest h = absurd h
apart_at (suc brackets) back i rest h =
    apart_by (gives number_of) (says (codes "(")) _ (after_begins (codes "(") (until (codes ")") (index_sum brackets)))
    (λ t e. word_no_number (codes "(") t (says_is (codes "(") t e) refl) back i rest h

-- a link takes tokens, and so does what is added
pub link_shorter : (brackets : ℕ) (ts : List Token) (l : Link) (rest : List Token) → index_link_by (index_inner brackets) ts ≡ Ok (l, rest) → length rest < length ts
link_shorter brackets ts l rest e =
    shorter begins_link (reads_link (index_inner brackets) (inner_phrase brackets) (others_at brackets) (apart_at brackets))
    (link_is (index_inner brackets) (inner_phrase brackets) (others_at brackets) (apart_at brackets)) ts l rest e

-- what is added takes tokens
pub added_shorter : (brackets : ℕ) (ts : List Token) (i : Index) (rest : List Token) → past (codes "+") (index_product_by (index_inner brackets)) ts ≡ Ok (i, rest) → length rest < length ts
added_shorter brackets ts i rest e =
    shorter (says (codes "+")) (reads_after (codes "+") (reads_index_product (index_inner brackets) (inner_phrase brackets) (others_at brackets) (apart_at brackets)))
    (after_begins (codes "+") (index_product (inner_phrase brackets))) ts i rest e

-- the reader of sums, by what stands in parentheses
pub index_sum_is : (brackets : ℕ) (ts : List Token) → index_sum_at brackets ts ≡ index_sum_by (index_inner brackets) ts
unfolding index_sum_at
index_sum_is zero ts = refl
index_sum_is (suc brackets) ts = refl
