-- The readers of expressions read the phrases of expressions.
use Rattle.std.proofs.Common.{◌≡◌, ℕ, zero, suc, ◌<◌, Bool, true, false, ◌||◌, inl, inr, List, [], ◌∷◌, ◌++◌, length, Option, Some, None, Ok, refl, sym, ap, subst, ◌∙◌, arith}
use Rattle.std.specs.Prelude.{codes}
use Rattle.std.proofs.lemmas.Bool.{false≢true, false_from_ne_true, or_left, or_right, or_parts, or_cases}
use Rattle.mk_base.specs.declared.Place.{Place}
use Rattle.mk_ast.specs.declared.tree.Index.{Index}
use Rattle.mk_ast.specs.declared.tree.Expr.{Expr}
use Rattle.mk_ast.specs.declared.tree.Expr.TheVariants as expr
use Rattle.mk_ast.specs.Tokens.{Token, begins_word, IsElement}
use Rattle.mk_ast.specs.Phrases.{Phrase, nothing, made, ◌or◌, ◌and◌, after, until, optional, several}
use Rattle.mk_ast.specs.Grammar.{name, element, bracketed, index_sum, reference, factor, product, sum_with, sum}
use Rattle.mk_parse.specs.Readers.{Reader, starts, says, never, fails, takes, makes, past, ended, chosen}
use Rattle.mk_parse.specs.Reading.{is_among, all_go_on, is_name, element_of, element_text, gives, index_part, reference_of, reference_at, after_name, named, factor_by, product_by, sum_by, sum_at, sum_inner}
use Rattle.mk_parse.proofs.ReaderLaws.{Stops, Reads, BeginsBy, reads_token, reads_made, says_is}
use Rattle.mk_parse.proofs.Joined.{token_of, reads_after, after_begins, reads_and}
use Rattle.mk_parse.proofs.Choices.{empty, reads_empty, reads_same, reads_by, reads_before, reads_until, reads_or, reads_alone, reads_closed, stops_never, made_begins, and_begins, one_begins, apart_by}
use Rattle.mk_parse.proofs.Loops.{shorter}
use Rattle.mk_parse.proofs.Many.{reads_separated, reads_optional}
use Rattle.mk_parse.proofs.Terminals.{name_sound, element_sound, element_complete, first_byte, name_begins, element_begins, gives_some, some_gives}
use Rattle.mk_parse.proofs.IndexPhrases.{says_other, name_says, reads_name, name_is, reads_index_sum, square_stops, open_no_name}

-- ---- elements

-- the reader of an element reads elements
pub reads_element : Reads (takes element_of) element never
unfolding element_text
reads_element = reads_token element_of (λ t x. IsElement x.0 t.text × (x.1 ≡ t.at)) element_sound element_complete (token_of (codes "0x00")) (0, record { line = 1; column = 1 })
    ((48, 48, 0, 0, refl, refl, refl, refl), refl)

-- they begin with a token that is an element
pub element_is : BeginsBy (gives element_of) element
element_is = one_begins (gives element_of) _ (λ t x h. some_gives element_of t x (element_complete t x h))

-- a name is no element
name_no_element : (t : Token) → is_name t ≡ true → gives element_of t ≡ false
name_no_element t is = false_from_ne_true (gives element_of t) (λ some.
    let x = gives_some element_of t some in
    let zero_first : first_byte t.text ≡ 48 = element_begins t.text x.0.0 (element_sound t x.0 x.1).0 in
    let word = name_begins t.text (name_sound t is) in
    false≢true (ap begins_word (sym zero_first) ∙ word))

-- a word that does not begin with the digit 0 is no element
word_no_element : (word : List ℕ) (t : Token) → t.text ≡ word → (first_byte word ≡ 48 → ⊥) → gives element_of t ≡ false
word_no_element word t is other = false_from_ne_true (gives element_of t) (λ some.
    let x = gives_some element_of t some in
    other (ap first_byte (sym is) ∙ element_begins t.text x.0.0 (element_sound t x.0 x.1).0))

-- ---- references

-- where there is nothing, the test fails that stops what goes on
none_apart : (test : Token → Bool) → (A : Type 0) → (back : List Token) (o : Option A) (rest : List Token) → empty {A = Option A} None back o → Stops test rest → starts test (back ++ rest) ≡ false
none_apart test A back o rest h s = ap (λ (l : List Token). starts test (l ++ rest)) h.0 ∙ at rest s
  where
    at : (rest : List Token) → Stops test rest → starts test rest ≡ false
    at [] s = refl
    at (t ∷ ts) s = s

-- the brackets behind the name of an array, or nothing
abbrev index_phrase : ℕ → Phrase (Option Index)
index_phrase brackets = optional (bracketed (codes "[") (codes "]") index_sum brackets)

-- where no bracket may be opened, there is nothing
none_to : (ts : List Token) (o : Option Index) → empty {A = Option Index} None ts o → index_phrase zero ts o
none_to ts o h = subst (index_phrase zero ts) (sym h.1) h.0

-- and the other way round
none_from : (ts : List Token) (o : Option Index) → index_phrase zero ts o → empty {A = Option Index} None ts o
none_from ts None h = (h, refl)
none_from ts (Some i) h = absurd h

-- the reader of these brackets reads them
pub reads_index_part : (brackets : ℕ) → Reads (index_part brackets) (index_phrase brackets) (says (codes "["))
reads_index_part zero =
    reads_same (reads_by (λ ts. refl) (reads_closed (says (codes "[")) (reads_empty {A = Option Index} None (says (codes "["))) (none_apart (says (codes "[")) Index))) none_to none_from
reads_index_part (suc brackets) =
    reads_optional (says (codes "[")) (says (codes "[")) (reads_after (codes "[") (reads_until (codes "]") (reads_index_sum brackets) square_stops))
    (after_begins (codes "[") (until (codes "]") (index_sum brackets))) (λ t e. refl) (λ t e. e)

-- the reader of references reads references
pub reads_reference : (brackets : ℕ) → Reads (reference_at brackets) (reference brackets) (says (codes "["))
reads_reference brackets =
    reads_made (λ (x : (List ℕ × Place) × Option Index). reference_of x.0 x.1)
    (reads_and reads_name (reads_index_part brackets) (λ back o rest h s. stops_never (back ++ rest)))

-- they begin with a name
pub reference_is : (brackets : ℕ) → BeginsBy is_name (reference brackets)
reference_is brackets = made_begins is_name _ _ (and_begins is_name name (index_phrase brackets) name_is)

-- ---- factors

-- what goes on with a factor
abbrev pub opens : Token → Bool
opens t = says (codes "[") t || says (codes "(") t

-- what does not go on with a factor is no opening square bracket
opens_square : (t : Token) → opens t ≡ false → says (codes "[") t ≡ false
opens_square t e = (or_parts (says (codes "[") t) (says (codes "(") t) e).0

-- and no opening parenthesis
opens_round : (t : Token) → opens t ≡ false → says (codes "(") t ≡ false
opens_round t e = (or_parts (says (codes "[") t) (says (codes "(") t) e).1

-- the map's value of the name, at this argument
abbrev called : Expr → List ℕ × Place → Expr
called e n = expr.Apply n.0 n.1 e

-- the reference to the name, with this index
abbrev read_at : Option Index → List ℕ × Place → Expr
read_at i n = expr.Read (reference_of n i)

-- what follows a name: an argument in parentheses, or an index
abbrev tail_phrase : ℕ → Phrase Expr → Phrase (List ℕ × Place → Expr)
tail_phrase brackets phrase = made called phrase or made read_at (index_phrase brackets)

-- an index begins with no opening parenthesis
index_apart : (brackets : ℕ) (back : List Token) (o : Option Index) (rest : List Token) → index_phrase brackets back o → Stops opens rest → starts (says (codes "(")) (back ++ rest) ≡ false
index_apart brackets back None rest h s = ap (λ (l : List Token). starts (says (codes "(")) (l ++ rest)) h ∙ at rest s
  where
    at : (rest : List Token) → Stops opens rest → starts (says (codes "(")) rest ≡ false
    at [] s = refl
    at (t ∷ ts) s = opens_round t s
index_apart zero back (Some i) rest h s = absurd h
index_apart (suc brackets) back (Some i) rest h s =
    apart_by (says (codes "(")) (says (codes "[")) _ (after_begins (codes "[") (until (codes "]") (index_sum brackets)))
    (λ t e. says_other (codes "[") (codes "(") t (says_is (codes "[") t e) refl) back i rest h

-- the reader of an index behind a name reads it
reads_tail_index : (brackets : ℕ) → Reads (makes read_at (index_part brackets)) (made read_at (index_phrase brackets)) opens
reads_tail_index brackets = reads_before opens opens_square (reads_made read_at (reads_index_part brackets))

-- and what it reads begins with no opening parenthesis
tail_apart : (brackets : ℕ) (back : List Token) (f : List ℕ × Place → Expr) (rest : List Token) → made read_at (index_phrase brackets) back f → Stops opens rest → starts (says (codes "(")) (back ++ rest) ≡ false
tail_apart brackets back f rest h s = index_apart brackets back h.0 rest h.1 s

-- what stands in parentheses
abbrev inner_phrase : ℕ → Phrase Expr
inner_phrase zero = nothing
inner_phrase (suc brackets) = after (codes "(") (until (codes ")") (sum brackets))

-- it begins with an opening parenthesis
inner_is : (brackets : ℕ) → BeginsBy (says (codes "(")) (inner_phrase brackets)
inner_is zero ts e h = absurd h
inner_is (suc brackets) ts e h = after_begins (codes "(") (until (codes ")") (sum brackets)) ts e h

-- where no parenthesis may be opened, an index is all that follows a name
closed_to : (ts : List Token) (f : List ℕ × Place → Expr) → made read_at (index_phrase zero) ts f → tail_phrase zero nothing ts f
closed_to ts f h = inr h

-- and the other way round
closed_from : (ts : List Token) (f : List ℕ × Place → Expr) → tail_phrase zero nothing ts f → made read_at (index_phrase zero) ts f
closed_from ts f (inl h) = absurd h.1
closed_from ts f (inr h) = h

-- what follows a name is read where no parenthesis may be opened
reads_tail_closed : Reads (after_name zero fails) (tail_phrase zero nothing) opens
reads_tail_closed =
    reads_same (reads_by (λ ts. refl) (reads_closed (says (codes "(")) (reads_tail_index zero) (tail_apart zero))) closed_to closed_from

-- and where one may be
reads_tail_open : (brackets : ℕ) (inner : Reader Expr) → Reads inner (inner_phrase (suc brackets)) never → Reads (after_name (suc brackets) inner) (tail_phrase (suc brackets) (inner_phrase (suc brackets))) opens
reads_tail_open brackets inner reads =
    reads_or (says (codes "(")) opens (reads_made called reads) (made_begins (says (codes "(")) called _ (inner_is (suc brackets))) (λ t e. refl)
    (reads_tail_index (suc brackets)) (tail_apart (suc brackets)) (λ t e. e)

-- a name and what follows it
abbrev name_phrase : ℕ → Phrase Expr → Phrase Expr
name_phrase brackets phrase = made (λ x. expr.Apply x.0.0 x.0.1 x.1) (name and phrase) or made expr.Read (reference brackets)

-- a name and what follows it are a map's value or a reference
name_to : (brackets : ℕ) (phrase : Phrase Expr) (ts : List Token) (e : Expr) → made (λ (x : (List ℕ × Place) × (List ℕ × Place → Expr)). x.1 x.0) (name and tail_phrase brackets phrase) ts e → name_phrase brackets phrase ts e
name_to brackets phrase ts e (x, (front, back, parts, is_name, inl h), is) =
    inl ((x.0, h.0), (front, back, parts, is_name, h.1), is ∙ ap (λ (f : List ℕ × Place → Expr). f x.0) h.2)
name_to brackets phrase ts e (x, (front, back, parts, is_name, inr h), is) =
    inr (reference_of x.0 h.0, ((x.0, h.0), (front, back, parts, is_name, h.1), refl), is ∙ ap (λ (f : List ℕ × Place → Expr). f x.0) h.2)

-- and the other way round
name_from : (brackets : ℕ) (phrase : Phrase Expr) (ts : List Token) (e : Expr) → name_phrase brackets phrase ts e → made (λ (x : (List ℕ × Place) × (List ℕ × Place → Expr)). x.1 x.0) (name and tail_phrase brackets phrase) ts e
name_from brackets phrase ts e (inl (x, (front, back, parts, is_name, h), is)) =
    ((x.0, called x.1), (front, back, parts, is_name, inl (x.1, h, refl)), is)
name_from brackets phrase ts e (inr (r, (x, (front, back, parts, is_name, h), made_so), is)) =
    ((x.0, read_at x.1), (front, back, parts, is_name, inr (x.1, h, refl)), is ∙ ap expr.Read made_so)

-- the reader of a name and what follows it reads both
reads_named : (brackets : ℕ) (inner : Reader Expr) (phrase : Phrase Expr) → Reads (after_name brackets inner) (tail_phrase brackets phrase) opens → Reads (named brackets inner) (name_phrase brackets phrase) opens
reads_named brackets inner phrase reads =
    reads_same (reads_made (λ (x : (List ℕ × Place) × (List ℕ × Place → Expr)). x.1 x.0) (reads_and reads_name reads (λ back f rest h s. stops_never (back ++ rest))))
    (name_to brackets phrase) (name_from brackets phrase)

-- they begin with a name
named_is : (brackets : ℕ) (phrase : Phrase Expr) → BeginsBy is_name (name_phrase brackets phrase)
named_is brackets phrase ts e (inl h) = made_begins is_name _ _ (and_begins is_name name phrase name_is) ts e h
named_is brackets phrase ts e (inr h) = made_begins is_name expr.Read (reference brackets) (reference_is brackets) ts e h

-- a name with what follows it, or parentheses
abbrev bottom_phrase : ℕ → Phrase Expr → Phrase Expr
bottom_phrase brackets phrase = made (λ x. expr.Apply x.0.0 x.0.1 x.1) (name and phrase) or made expr.Read (reference brackets) or phrase

-- a choice of three, by the last two
regroup : (brackets : ℕ) (phrase : Phrase Expr) (ts : List Token) (e : Expr) → (name_phrase brackets phrase or phrase) ts e → bottom_phrase brackets phrase ts e
regroup brackets phrase ts e (inl (inl h)) = inl h
regroup brackets phrase ts e (inl (inr h)) = inr (inl h)
regroup brackets phrase ts e (inr h) = inr (inr h)

-- and the other way round
group : (brackets : ℕ) (phrase : Phrase Expr) (ts : List Token) (e : Expr) → bottom_phrase brackets phrase ts e → (name_phrase brackets phrase or phrase) ts e
group brackets phrase ts e (inl h) = inl (inl h)
group brackets phrase ts e (inr (inl h)) = inl (inr h)
group brackets phrase ts e (inr (inr h)) = inr h

-- where no parenthesis may be opened, a name is all that is left
only_named : (ts : List Token) (e : Expr) → bottom_phrase zero nothing ts e → name_phrase zero nothing ts e
only_named ts e (inl h) = inl h
only_named ts e (inr (inl h)) = inr h
only_named ts e (inr (inr h)) = absurd h

-- and the other way round
bottom_of_named : (ts : List Token) (e : Expr) → name_phrase zero nothing ts e → bottom_phrase zero nothing ts e
bottom_of_named ts e (inl h) = inl h
bottom_of_named ts e (inr h) = inr (inl h)

-- a name with what follows it is read where no parenthesis may be opened
reads_bottom_closed : Reads (chosen is_name (named zero fails) fails) (bottom_phrase zero nothing) opens
reads_bottom_closed =
    reads_same (reads_alone is_name opens (reads_named zero fails nothing reads_tail_closed) (named_is zero nothing) (λ t e. e)) bottom_of_named only_named

-- and it or parentheses are where one may be
reads_bottom_open : (brackets : ℕ) (inner : Reader Expr) → Reads inner (inner_phrase (suc brackets)) never → Reads (chosen is_name (named (suc brackets) inner) inner) (bottom_phrase (suc brackets) (inner_phrase (suc brackets))) opens
reads_bottom_open brackets inner reads =
    let phrase = inner_phrase (suc brackets) in
    reads_same
    (reads_or is_name opens (reads_named (suc brackets) inner phrase (reads_tail_open brackets inner reads)) (named_is (suc brackets) phrase) (λ t e. e)
    reads (λ back e rest h s. apart_by is_name (says (codes "(")) phrase (inner_is (suc brackets)) open_no_name back e rest h) (λ t e. refl))
    (regroup (suc brackets) phrase) (group (suc brackets) phrase)

-- such a factor begins with a name or a parenthesis
abbrev begins_bottom : Token → Bool
begins_bottom t = is_name t || says (codes "(") t

-- what begins by one test begins by any that passes more
wider : {A : Type 0} (test other : Token → Bool) (phrase : Phrase A) → BeginsBy test phrase → ((t : Token) → test t ≡ true → other t ≡ true) → BeginsBy other phrase
wider test other phrase begins more ts a h = let b = begins ts a h in (b.0, b.1, b.2, more b.0 b.3)

-- the phrase begins so
bottom_is : (brackets : ℕ) → BeginsBy begins_bottom (bottom_phrase brackets (inner_phrase brackets))
bottom_is brackets ts e h = elim (group brackets (inner_phrase brackets) ts e h) [
  | inl k ↦ wider is_name begins_bottom _ (named_is brackets (inner_phrase brackets)) (λ t e. or_left (is_name t) (says (codes "(") t) e) ts e k
  | inr k ↦ wider (says (codes "(")) begins_bottom _ (inner_is brackets) (λ t e. or_right (is_name t) (says (codes "(") t) e) ts e k
]

-- neither is `sq`
bottom_no_square : (t : Token) → begins_bottom t ≡ true → says (codes "sq") t ≡ false
unfolding is_among all_go_on
bottom_no_square t e = elim (or_cases (is_name t) (says (codes "(") t) e) [
  | inl h ↦ name_says (codes "sq") t h refl
  | inr h ↦ says_other (codes "(") (codes "sq") t (says_is (codes "(") t h) refl
]

-- neither is an element
bottom_no_element : (t : Token) → begins_bottom t ≡ true → gives element_of t ≡ false
bottom_no_element t e = elim (or_cases (is_name t) (says (codes "(") t) e) [
  | inl h ↦ name_no_element t h
  | inr h ↦ word_no_element (codes "(") t (says_is (codes "(") t h) (λ e. omega (arith, e))
]

-- a square, or one of these
abbrev square_phrase : ℕ → Phrase Expr → Phrase Expr
square_phrase brackets phrase = made expr.Sq (after (codes "sq") phrase) or bottom_phrase brackets phrase

-- it is read where no parenthesis may be opened
reads_square_closed : Reads (chosen (says (codes "sq")) fails (chosen is_name (named zero fails) fails)) (square_phrase zero nothing) opens
reads_square_closed =
    reads_same (reads_closed (says (codes "sq")) reads_bottom_closed (λ back e rest h s. apart_by (says (codes "sq")) begins_bottom _ (bottom_is zero) bottom_no_square back e rest h))
    (λ ts e h. inr h) from
  where
    from : (ts : List Token) (e : Expr) → square_phrase zero nothing ts e → bottom_phrase zero nothing ts e
    from ts e (inl h) = absurd h.1.4
    from ts e (inr h) = h

-- a square begins with `sq`
square_is : (brackets : ℕ) (phrase : Phrase Expr) → BeginsBy (says (codes "sq")) (made expr.Sq (after (codes "sq") phrase))
square_is brackets phrase = made_begins (says (codes "sq")) expr.Sq (after (codes "sq") phrase) (after_begins (codes "sq") phrase)

-- and where one may be
reads_square_open : (brackets : ℕ) (inner : Reader Expr) → Reads inner (inner_phrase (suc brackets)) never
    → Reads (chosen (says (codes "sq")) (makes expr.Sq (past (codes "sq") inner)) (chosen is_name (named (suc brackets) inner) inner)) (square_phrase (suc brackets) (inner_phrase (suc brackets))) opens
reads_square_open brackets inner reads =
    reads_or (says (codes "sq")) opens (reads_made expr.Sq (reads_after (codes "sq") reads)) (square_is (suc brackets) (inner_phrase (suc brackets))) (λ t e. refl)
    (reads_bottom_open brackets inner reads)
    (λ back e rest h s. apart_by (says (codes "sq")) begins_bottom _ (bottom_is (suc brackets)) bottom_no_square back e rest h) (λ t e. e)

-- none of these begins with an element
element_apart : (brackets : ℕ) (back : List Token) (e : Expr) (rest : List Token) → square_phrase brackets (inner_phrase brackets) back e → Stops opens rest → starts (gives element_of) (back ++ rest) ≡ false
element_apart brackets back e rest (inl h) s =
    apart_by (gives element_of) (says (codes "sq")) _ (square_is brackets (inner_phrase brackets)) (λ t e. word_no_element (codes "sq") t (says_is (codes "sq") t e) (λ e. omega (arith, e))) back e rest h
element_apart brackets back e rest (inr h) s =
    apart_by (gives element_of) begins_bottom _ (bottom_is brackets) bottom_no_element back e rest h

-- a literal begins with an element
literal_is : BeginsBy (gives element_of) (made (λ (x : ℕ × Place). expr.Lit x.0 x.1) element)
literal_is = made_begins (gives element_of) (λ (x : ℕ × Place). expr.Lit x.0 x.1) element element_is

-- the reader of factors reads factors where no parenthesis may be opened
pub reads_factor_closed : Reads (factor_by zero fails) (factor zero nothing) opens
reads_factor_closed =
    reads_or (gives element_of) opens (reads_made (λ (x : ℕ × Place). expr.Lit x.0 x.1) reads_element) literal_is (λ t e. refl)
    reads_square_closed (element_apart zero) (λ t e. e)

-- and where one may be
pub reads_factor_open : (brackets : ℕ) (inner : Reader Expr) → Reads inner (inner_phrase (suc brackets)) never → Reads (factor_by (suc brackets) inner) (factor (suc brackets) (inner_phrase (suc brackets))) opens
reads_factor_open brackets inner reads =
    reads_or (gives element_of) opens (reads_made (λ (x : ℕ × Place). expr.Lit x.0 x.1) reads_element) literal_is (λ t e. refl)
    (reads_square_open brackets inner reads) (element_apart (suc brackets)) (λ t e. e)

-- ---- products and sums

-- what goes on with a product
abbrev pub more_product : Token → Bool
more_product t = says (codes "*") t || opens t

-- what goes on with a sum
abbrev pub more_sum : Token → Bool
more_sum t = says (codes "+") t || more_product t

-- a star ends a factor
star_stops : (t : Token) → says (codes "*") t ≡ true → opens t ≡ false
star_stops t e = let is = says_is (codes "*") t e in rw (says_other (codes "*") (codes "[") t is refl, says_other (codes "*") (codes "(") t is refl) refl

-- a plus ends a product
plus_stops : (t : Token) → says (codes "+") t ≡ true → more_product t ≡ false
plus_stops t e =
    let is = says_is (codes "+") t e in
    rw (says_other (codes "+") (codes "*") t is refl, says_other (codes "+") (codes "[") t is refl, says_other (codes "+") (codes "(") t is refl) refl

-- the reader of products reads products
reads_product : (brackets : ℕ) (inner : Reader Expr) (phrase : Phrase Expr) → Reads (factor_by brackets inner) (factor brackets phrase) opens → Reads (product_by brackets inner) (product brackets phrase) more_product
reads_product brackets inner phrase reads = reads_made (several expr.Product)
    (reads_separated (codes "*") more_product reads (λ t e. (or_parts (says (codes "*") t) (opens t) e).1) (λ t e. (or_parts (says (codes "*") t) (opens t) e).0) star_stops)

-- the reader of sums reads sums, by what stands in parentheses
reads_sum_by : (brackets : ℕ) (inner : Reader Expr) (phrase : Phrase Expr) → Reads (factor_by brackets inner) (factor brackets phrase) opens → Reads (sum_by brackets inner) (sum_with brackets phrase) more_sum
reads_sum_by brackets inner phrase reads = reads_made (several expr.Sum)
    (reads_separated (codes "+") more_sum (reads_product brackets inner phrase reads) (λ t e. (or_parts (says (codes "+") t) (more_product t) e).1)
    (λ t e. (or_parts (says (codes "+") t) (more_product t) e).0) plus_stops)

-- a closing parenthesis ends a sum
closing_stops : (t : Token) → t.text ≡ codes ")" → more_sum t ≡ false
closing_stops t is =
    rw (says_other (codes ")") (codes "+") t is refl, says_other (codes ")") (codes "*") t is refl, says_other (codes ")") (codes "[") t is refl, says_other (codes ")") (codes "(") t is refl) refl

-- a semicolon does
pub semicolon_stops : (t : Token) → t.text ≡ codes ";" → more_sum t ≡ false
semicolon_stops t is =
    rw (says_other (codes ";") (codes "+") t is refl, says_other (codes ";") (codes "*") t is refl, says_other (codes ";") (codes "[") t is refl, says_other (codes ";") (codes "(") t is refl) refl

-- the reader of sums reads sums, by the brackets that may still be opened
pub reads_sum : (brackets : ℕ) → Reads (sum_at brackets) (sum brackets) more_sum
unfolding sum_at sum
reads_sum zero = reads_sum_by zero fails nothing reads_factor_closed
reads_sum (suc brackets) =
    let opened : Reads (past (codes "(") (ended (codes ")") (sum_at brackets))) (inner_phrase (suc brackets)) never =
    reads_after (codes "(") (reads_until (codes ")") (reads_sum brackets) closing_stops) in
    reads_sum_by (suc brackets) (past (codes "(") (ended (codes ")") (sum_at brackets))) (inner_phrase (suc brackets))
    (reads_factor_open brackets (past (codes "(") (ended (codes ")") (sum_at brackets))) opened)

-- ---- by the number of brackets that may still be opened

-- and so the reader of factors
pub reads_factor : (brackets : ℕ) → Reads (factor_by brackets (sum_inner brackets)) (factor brackets (inner_phrase brackets)) opens
reads_factor zero = reads_factor_closed
reads_factor (suc brackets) =
    reads_factor_open brackets (past (codes "(") (ended (codes ")") (sum_at brackets))) (reads_after (codes "(") (reads_until (codes ")") (reads_sum brackets) closing_stops))

-- what is multiplied or added takes tokens
pub multiplied_shorter : (brackets : ℕ) (ts : List Token) (e : Expr) (rest : List Token) → past (codes "*") (factor_by brackets (sum_inner brackets)) ts ≡ Ok (e, rest) → length rest < length ts
multiplied_shorter brackets ts e rest is =
    shorter (says (codes "*")) (reads_after (codes "*") (reads_factor brackets)) (after_begins (codes "*") (factor brackets (inner_phrase brackets))) ts e rest is

-- what is added takes tokens
pub added_shorter : (brackets : ℕ) (ts : List Token) (e : Expr) (rest : List Token) → past (codes "+") (product_by brackets (sum_inner brackets)) ts ≡ Ok (e, rest) → length rest < length ts
added_shorter brackets ts e rest is =
    shorter (says (codes "+")) (reads_after (codes "+") (reads_product brackets (sum_inner brackets) (inner_phrase brackets) (reads_factor brackets)))
    (after_begins (codes "+") (product brackets (inner_phrase brackets))) ts e rest is

-- the reader of sums, by what stands in parentheses
pub sum_is : (brackets : ℕ) (ts : List Token) → sum_at brackets ts ≡ sum_by brackets (sum_inner brackets) ts
unfolding sum_at
sum_is zero ts = refl
sum_is (suc brackets) ts = refl
