-- The readers of statements, declarations and programs read their phrases.
use Rattle.std.proofs.Common.{◌≡◌, ℕ, zero, suc, ◌<◌, Bool, true, false, ◌||◌, ◌⊎◌, inl, inr, List, [], ◌∷◌, ◌++◌, length, Option, Some, None, Ok, refl, sym, ap, subst, ◌∙◌, cond}
use Rattle.std.specs.Prelude.{codes, bytes_eq}
use Rattle.std.proofs.lemmas.Bool.{or_left, or_right, or_parts, or_cases}
use Rattle.mk_base.specs.declared.Place.{Place}
use Rattle.mk_field.specs.declared.field.FieldId.{FieldId}
use Rattle.mk_field.specs.declared.field.FieldId.TheVariants.{Gf2, Gf256}
use Rattle.mk_ast.specs.declared.tree.Program.{Program}
use Rattle.mk_ast.specs.declared.tree.Decl.{Decl}
use Rattle.mk_ast.specs.declared.tree.What.TheVariants as what
use Rattle.mk_ast.specs.declared.tree.Class.{Class}
use Rattle.mk_ast.specs.declared.tree.Class.TheVariants as class_
use Rattle.mk_ast.specs.declared.tree.Stmt.{Stmt}
use Rattle.mk_ast.specs.declared.tree.Stmt.TheVariants as stmt
use Rattle.mk_ast.specs.declared.tree.Ref.{Ref}
use Rattle.mk_ast.specs.declared.tree.Expr.{Expr}
use Rattle.mk_ast.specs.Tokens.{Token}
use Rattle.mk_ast.specs.Phrases.{Phrase, one, made, ◌or◌, ◌and◌, after, until, optional, many, separated}
use Rattle.mk_ast.specs.Grammar.{size, element, meaning, reference, sum, assignment, heading, statement, class, map_declaration, variable_declaration, declaration, most_brackets, program}
use Rattle.mk_parse.specs.Readers.{starts, says, never, takes, makes, past, chosen, parted}
use Rattle.mk_parse.specs.Reading.{is_among, all_go_on, is_name, element_of, assignment_at, heading_by, begins_statement, statement_at, loop_at, plain_class, local_class, class_by, image_by, map_by, size_part, variable_by, declaration_by, begins_declaration, field_of, program_by}
use Rattle.mk_parse.proofs.ReaderLaws.{Stops, Reads, BeginsBy, reads_token, reads_made, says_is, is_says}
use Rattle.mk_parse.proofs.Joined.{token_of, reads_after, after_begins, reads_and}
use Rattle.mk_parse.proofs.Choices.{reads_same, reads_until, reads_or, reads_closed, stops_never, made_begins, and_begins, one_begins, apart_by}
use Rattle.mk_parse.proofs.Loops.{shorter}
use Rattle.mk_parse.proofs.Many.{reads_many, reads_separated, reads_optional}
use Rattle.mk_parse.proofs.Terminals.{some_is}
use Rattle.mk_parse.proofs.IndexPhrases.{says_other, no_name, name_says, reads_name, reads_number, reads_size}
use Rattle.mk_parse.proofs.ExpressionPhrases.{reads_reference, reference_is, reads_sum, semicolon_stops, reads_element}

-- ---- statements

-- the reader of assignments reads assignments
reads_assignment : (brackets : ℕ) → Reads (assignment_at brackets) (assignment brackets) never
reads_assignment brackets =
    let value = reads_after (codes "=") (reads_until (codes ";") (reads_sum brackets) semicolon_stops) in
    reads_made (λ (x : Ref × Expr). stmt.Set x.0 x.1) (reads_and (reads_reference brackets) value equals_stops)
  where
    equals_stops : (back : List Token) (e : Expr) (rest : List Token) → after (codes "=") (until (codes ";") (sum brackets)) back e → Stops never rest → Stops (says (codes "[")) (back ++ rest)
    equals_stops back e rest h s = subst (λ (l : List Token). Stops (says (codes "[")) (l ++ rest)) (sym h.2) (says_other (codes "=") (codes "[") h.0 h.3 refl)

-- they begin with a name
assignment_is : (brackets : ℕ) → BeginsBy is_name (assignment brackets)
assignment_is brackets = made_begins is_name _ _ (and_begins is_name (reference brackets) _ (reference_is brackets))

-- the reader of a loop's heading reads it
reads_heading : Reads heading_by heading never
reads_heading =
    let bounds = reads_and reads_number (reads_after (codes "..") reads_number) (λ back n rest h s. stops_never (back ++ rest)) in
    reads_after (codes "for") (reads_and reads_name (reads_after (codes "in") bounds) (λ back n rest h s. stops_never (back ++ rest)))

-- a name is not `for`
name_no_loop : (t : Token) → is_name t ≡ true → says (codes "for") t ≡ false
unfolding is_among all_go_on
name_no_loop t e = name_says (codes "for") t e refl

-- a closing curly bracket begins no statement
closing_stops : (t : Token) → t.text ≡ codes "}" → begins_statement t ≡ false
unfolding is_among all_go_on
closing_stops t is = rw (says_other (codes "}") (codes "for") t is refl, no_name (codes "}") t is refl) refl

-- the loop of this heading and these statements
abbrev looped : ((List ℕ × Place) × (ℕ × ℕ)) × List Stmt → Stmt
looped x = stmt.Loop x.0.0.0 x.0.0.1 x.0.1.0 x.0.1.1 x.1

-- the phrase of a loop whose body may open so many brackets
abbrev loop : ℕ → Phrase Stmt
loop brackets = made looped (heading and after (codes "{") (until (codes "}") (many (statement brackets))))

-- it begins with `for`
loop_is : (brackets : ℕ) → BeginsBy (says (codes "for")) (loop brackets)
loop_is brackets = made_begins (says (codes "for")) looped _ (and_begins (says (codes "for")) heading _ (after_begins (codes "for") _))

-- a statement begins with `for` or a name
pub statement_is : (brackets : ℕ) → BeginsBy begins_statement (statement brackets)
unfolding statement
statement_is zero ts s h = let b = assignment_is zero ts s h in (b.0, b.1, b.2, or_right (says (codes "for") b.0) (is_name b.0) b.3)
statement_is (suc brackets) ts s (inl h) = let b = assignment_is (suc brackets) ts s h in (b.0, b.1, b.2, or_right (says (codes "for") b.0) (is_name b.0) b.3)
statement_is (suc brackets) ts s (inr h) = let b = loop_is brackets ts s h in (b.0, b.1, b.2, or_left (says (codes "for") b.0) (is_name b.0) b.3)

-- an assignment does not begin with `for`
assignment_apart : (brackets : ℕ) (back : List Token) (s : Stmt) (rest : List Token) → assignment brackets back s → Stops never rest → starts (says (codes "for")) (back ++ rest) ≡ false
assignment_apart brackets back s rest h stops = apart_by (says (codes "for")) is_name (assignment brackets) (assignment_is brackets) name_no_loop back s rest h

-- the reader of statements reads statements, by the brackets that may still be opened
pub reads_statement : (brackets : ℕ) → Reads (statement_at brackets) (statement brackets) never
unfolding statement_at statement
reads_statement zero = reads_closed (says (codes "for")) (reads_assignment zero) (assignment_apart zero)
reads_statement (suc brackets) =
    let body = reads_many begins_statement begins_statement (reads_statement brackets) (statement_is brackets) (λ t e. refl) (λ t e. e) (λ t e. refl) in
    let block = reads_after (codes "{") (reads_until (codes "}") body closing_stops) in
    let whole = reads_made looped (reads_and reads_heading block (λ back n rest h s. stops_never (back ++ rest))) in
    reads_same (reads_or (says (codes "for")) never whole (loop_is brackets) (λ t e. refl) (reads_assignment (suc brackets)) (assignment_apart (suc brackets)) (λ t e. e))
    (λ ts s h. turned ts s h) (λ ts s h. turned_back ts s h)
  where
    turned : (ts : List Token) (s : Stmt) → (loop brackets or assignment (suc brackets)) ts s → (assignment (suc brackets) or loop brackets) ts s
    turned ts s (inl h) = inr h
    turned ts s (inr h) = inl h

    turned_back : (ts : List Token) (s : Stmt) → (assignment (suc brackets) or loop brackets) ts s → (loop brackets or assignment (suc brackets)) ts s
    turned_back ts s (inl h) = inr h
    turned_back ts s (inr h) = inl h

-- ---- declarations

-- the token is this word, and stands for this value
abbrev Means : {A : Type 0} → List ℕ → A → Token → A → Type 0
Means word value t a = (t.text ≡ word) × (a ≡ value)

-- what a choice of words gives, its first word gives, or the others do
one_word : {A : Type 0} (word : List ℕ) (value : A) (t : Token) (others : Option A) (a : A) → cond (says word t) (Some value) others ≡ Some a
    → Means word value t a ⊎ (others ≡ Some a)
one_word word value t others a e = by (says word t) refl e
  where
    by : (b : Bool) → says word t ≡ b → cond b (Some value) others ≡ Some a → Means word value t a ⊎ (others ≡ Some a)
    by true is e = inl (says_is word t is, sym (some_is e))
    by false is e = inr e

-- a token that is this word, in a choice of words
word_here : {A : Type 0} (word : List ℕ) (value : A) (t : Token) (others : Option A) (a : A) → Means word value t a → cond (says word t) (Some value) others ≡ Some a
word_here word value t others a h = ap (λ (b : Bool). cond b (Some value) others) (is_says word t h.0) ∙ ap (λ (v : _). Some v) (sym h.1)

-- a token that is another word is among the others
word_there : {A : Type 0} (word other : List ℕ) (value : A) (t : Token) (others : Option A) → t.text ≡ other → bytes_eq other word ≡ false → cond (says word t) (Some value) others ≡ others
word_there word other value t others is e = ap (λ (b : Bool). cond b (Some value) others) (says_other other word t is e)

-- the classes without `local`, by their words
abbrev PlainClass : Token → Class → Type 0
PlainClass t c = Means (codes "secret") class_.Secret t c ⊎ (Means (codes "public") class_.Public t c ⊎ Means (codes "output") class_.Output t c)

-- the class that a token gives is its own
plain_sound : (t : Token) (c : Class) → plain_class t ≡ Some c → PlainClass t c
plain_sound t c e = elim (one_word (codes "secret") class_.Secret t _ c e) [
  | inl h ↦ inl h
  | inr k ↦ elim (one_word (codes "public") class_.Public t _ c k) [
    | inl h ↦ inr (inl h)
    | inr l ↦ elim (one_word (codes "output") class_.Output t None c l) [ inl h ↦ inr (inr h) | inr wrong ↦ absurd (let none = wrong in cc) ]
  ]
]

-- and a token gives its class
plain_complete : (t : Token) (c : Class) → PlainClass t c → plain_class t ≡ Some c
plain_complete t c (inl h) = word_here (codes "secret") class_.Secret t _ c h
plain_complete t c (inr (inl h)) =
    word_there (codes "secret") (codes "public") class_.Secret t _ h.0 refl ∙ word_here (codes "public") class_.Public t _ c h
plain_complete t c (inr (inr h)) =
    word_there (codes "secret") (codes "output") class_.Secret t _ h.0 refl ∙ word_there (codes "public") (codes "output") class_.Public t _ h.0 refl
    ∙ word_here (codes "output") class_.Output t None c h

-- the classes behind `local`, by their words
abbrev LocalClass : Token → Class → Type 0
LocalClass t c = Means (codes "secret") class_.LocalSecret t c ⊎ Means (codes "public") class_.LocalPublic t c

-- the class that a token gives is its own
local_sound : (t : Token) (c : Class) → local_class t ≡ Some c → LocalClass t c
local_sound t c e = elim (one_word (codes "secret") class_.LocalSecret t _ c e) [
  | inl h ↦ inl h
  | inr k ↦ elim (one_word (codes "public") class_.LocalPublic t None c k) [ inl h ↦ inr h | inr wrong ↦ absurd (let none = wrong in cc) ]
]

-- and a token gives its class
local_complete : (t : Token) (c : Class) → LocalClass t c → local_class t ≡ Some c
local_complete t c (inl h) = word_here (codes "secret") class_.LocalSecret t _ c h
local_complete t c (inr h) =
    word_there (codes "secret") (codes "public") class_.LocalSecret t _ h.0 refl ∙ word_here (codes "public") class_.LocalPublic t None c h

-- a class by its words is a class of the grammar
class_to : (ts : List Token) (c : Class) → (after (codes "local") (one LocalClass) or one PlainClass) ts c → class ts c
class_to ts c (inl (t, rest, parts, is, (u, one_token, inl h))) = inr (inr (inr (t, rest, parts, is, inl (u, one_token, h))))
class_to ts c (inl (t, rest, parts, is, (u, one_token, inr h))) = inr (inr (inr (t, rest, parts, is, inr (u, one_token, h))))
class_to ts c (inr (t, one_token, inl h)) = inl (t, one_token, h)
class_to ts c (inr (t, one_token, inr (inl h))) = inr (inl (t, one_token, h))
class_to ts c (inr (t, one_token, inr (inr h))) = inr (inr (inl (t, one_token, h)))

-- and the other way round
class_from : (ts : List Token) (c : Class) → class ts c → (after (codes "local") (one LocalClass) or one PlainClass) ts c
class_from ts c (inl (t, one_token, h)) = inr (t, one_token, inl h)
class_from ts c (inr (inl (t, one_token, h))) = inr (t, one_token, inr (inl h))
class_from ts c (inr (inr (inl (t, one_token, h)))) = inr (t, one_token, inr (inr h))
class_from ts c (inr (inr (inr (t, rest, parts, is, inl (u, one_token, h))))) = inl (t, rest, parts, is, (u, one_token, inl h))
class_from ts c (inr (inr (inr (t, rest, parts, is, inr (u, one_token, h))))) = inl (t, rest, parts, is, (u, one_token, inr h))

-- whether the token begins a class without `local`
abbrev begins_plain : Token → Bool
begins_plain t = says (codes "secret") t || (says (codes "public") t || says (codes "output") t)

-- such a class begins so
plain_is : BeginsBy begins_plain (one PlainClass)
plain_is = one_begins begins_plain PlainClass passes
  where
    passes : (t : Token) (c : Class) → PlainClass t c → begins_plain t ≡ true
    passes t c (inl h) = or_left (says (codes "secret") t) _ (is_says (codes "secret") t h.0)
    passes t c (inr (inl h)) = or_right (says (codes "secret") t) _ (or_left (says (codes "public") t) _ (is_says (codes "public") t h.0))
    passes t c (inr (inr h)) = or_right (says (codes "secret") t) _ (or_right (says (codes "public") t) _ (is_says (codes "output") t h.0))

-- and with none of the other words
plain_other : (word : List ℕ) (t : Token) → bytes_eq (codes "secret") word ≡ false → bytes_eq (codes "public") word ≡ false → bytes_eq (codes "output") word ≡ false
    → begins_plain t ≡ true → says word t ≡ false
plain_other word t p q r e = elim (or_cases (says (codes "secret") t) _ e) [
  | inl h ↦ says_other (codes "secret") word t (says_is (codes "secret") t h) p
  | inr k ↦ elim (or_cases (says (codes "public") t) _ k) [
    | inl h ↦ says_other (codes "public") word t (says_is (codes "public") t h) q
    | inr h ↦ says_other (codes "output") word t (says_is (codes "output") t h) r
  ]
]

-- the reader of classes reads classes
reads_class : Reads class_by class never
reads_class =
    let locals : Reads (takes local_class) (one LocalClass) never =
    reads_token local_class LocalClass local_sound local_complete (token_of (codes "secret")) class_.LocalSecret (inl (refl, refl)) in
    let plains : Reads (takes plain_class) (one PlainClass) never =
    reads_token plain_class PlainClass plain_sound plain_complete (token_of (codes "secret")) class_.Secret (inl (refl, refl)) in
    reads_same (reads_or (says (codes "local")) never (reads_after (codes "local") locals) (after_begins (codes "local") (one LocalClass)) (λ t e. refl) plains
    (λ back c rest h s. apart_by (says (codes "local")) begins_plain (one PlainClass) plain_is (λ t e. plain_other (codes "local") t refl refl refl e) back c rest h) (λ t e. e))
    class_to class_from

-- whether the token begins a class
abbrev begins_class : Token → Bool
begins_class t = says (codes "secret") t || (says (codes "public") t || (says (codes "output") t || says (codes "local") t))

-- a class begins so
class_is : BeginsBy begins_class class
class_is ts c h = by ts c (class_from ts c h)
  where
    plain : (t : Token) → begins_plain t ≡ true → begins_class t ≡ true
    plain t e = elim (or_cases (says (codes "secret") t) _ e) [
      | inl h ↦ or_left (says (codes "secret") t) _ h
      | inr k ↦ or_right (says (codes "secret") t) _ (elim (or_cases (says (codes "public") t) _ k) [
        | inl h ↦ or_left (says (codes "public") t) _ h
        | inr h ↦ or_right (says (codes "public") t) _ (or_left (says (codes "output") t) (says (codes "local") t) h)
      ])
    ]

    by : (ts : List Token) (c : Class) → (after (codes "local") (one LocalClass) or one PlainClass) ts c → (t : Token) × (rest : List Token) × (ts ≡ t ∷ rest) × (begins_class t ≡ true)
    by ts c (inl h) =
        (h.0, h.1, h.2, or_right (says (codes "secret") h.0) _ (or_right (says (codes "public") h.0) _ (or_right (says (codes "output") h.0) _ (is_says (codes "local") h.0 h.3))))
    by ts c (inr h) = let b = plain_is ts c h in (b.0, b.1, b.2, plain b.0 b.3)

-- and with none of the other words
class_other : (word : List ℕ) (t : Token) → bytes_eq (codes "secret") word ≡ false → bytes_eq (codes "public") word ≡ false → bytes_eq (codes "output") word ≡ false
    → bytes_eq (codes "local") word ≡ false → begins_class t ≡ true → says word t ≡ false
class_other word t p q r l e = elim (or_cases (says (codes "secret") t) _ e) [
  | inl h ↦ says_other (codes "secret") word t (says_is (codes "secret") t h) p
  | inr k ↦ elim (or_cases (says (codes "public") t) _ k) [
    | inl h ↦ says_other (codes "public") word t (says_is (codes "public") t h) q
    | inr k ↦ elim (or_cases (says (codes "output") t) _ k) [
      | inl h ↦ says_other (codes "output") word t (says_is (codes "output") t h) r
      | inr h ↦ says_other (codes "local") word t (says_is (codes "local") t h) l
    ]
  ]
]

-- the elements of a map
abbrev images : Phrase (List ℕ)
images = separated (codes ",") (made (λ (x : ℕ × Place). x.0) element)

-- their reader reads them
reads_images : Reads (parted (codes ",") (makes (λ (x : ℕ × Place). x.0) (takes element_of))) images (says (codes ","))
reads_images = reads_separated (codes ",") (says (codes ",")) (reads_made (λ (x : ℕ × Place). x.0) reads_element) (λ t e. refl) (λ t e. e) (λ t e. refl)

-- the declaration of a map of this name and these elements
abbrev map_made : (List ℕ × Place) × List ℕ → Decl
map_made x = record { name = x.0.0; at = x.0.1; what = what.Map x.1 }

-- the reader of maps reads maps
reads_map : Reads map_by map_declaration never
reads_map =
    let closed = reads_until (codes ";") reads_images (λ t is. says_other (codes ";") (codes ",") t is refl) in
    reads_made map_made (reads_after (codes "map") (reads_and reads_name (reads_after (codes "=") closed) (λ back n rest h s. stops_never (back ++ rest))))

-- they begin with `map`
map_is : BeginsBy (says (codes "map")) map_declaration
map_is = made_begins (says (codes "map")) map_made _ (after_begins (codes "map") _)

-- the size of an array, or nothing
abbrev size_phrase : Phrase (Option ℕ)
size_phrase = optional (after (codes "[") (until (codes "]") size))

-- its reader reads it
reads_size_part : Reads size_part size_phrase (says (codes "["))
reads_size_part =
    reads_optional (says (codes "[")) (says (codes "[")) (reads_after (codes "[") (reads_until (codes "]") reads_size (λ t is. refl)))
    (after_begins (codes "[") (until (codes "]") size)) (λ t e. refl) (λ t e. e)

-- the declaration of a variable of this class, name and size
abbrev variable_made : Class × ((List ℕ × Place) × Option ℕ) → Decl
variable_made x = record { name = x.1.0.0; at = x.1.0.1; what = what.Var x.0 x.1.1 }

-- the reader of variables reads variables
reads_variable : Reads variable_by variable_declaration never
reads_variable =
    let named = reads_and reads_name reads_size_part (λ back n rest h s. stops_never (back ++ rest)) in
    let closed = reads_until (codes ";") named (λ t is. says_other (codes ";") (codes "[") t is refl) in
    reads_made variable_made (reads_and reads_class closed (λ back n rest h s. stops_never (back ++ rest)))

-- they begin with a class
variable_is : BeginsBy begins_class variable_declaration
variable_is = made_begins begins_class variable_made _ (and_begins begins_class class _ class_is)

-- the reader of declarations reads declarations
pub reads_declaration : Reads declaration_by declaration never
reads_declaration =
    reads_or (says (codes "map")) never reads_map map_is (λ t e. refl) reads_variable
    (λ back d rest h s. apart_by (says (codes "map")) begins_class variable_declaration variable_is (λ t e. class_other (codes "map") t refl refl refl refl e) back d rest h)
    (λ t e. e)

-- they begin with `map` or a class
declaration_is : BeginsBy begins_declaration declaration
declaration_is ts d (inl h) = let b = map_is ts d h in (b.0, b.1, b.2, or_left (says (codes "map") b.0) (begins_class b.0) b.3)
declaration_is ts d (inr h) = let b = variable_is ts d h in (b.0, b.1, b.2, or_right (says (codes "map") b.0) (begins_class b.0) b.3)

-- ---- programs

-- the fields, by their words
abbrev FieldWord : Token → FieldId → Type 0
FieldWord t f = Means (codes "gf2") Gf2 t f ⊎ Means (codes "gf256") Gf256 t f

-- the field that a token gives is its own
field_sound : (t : Token) (f : FieldId) → field_of t ≡ Some f → FieldWord t f
field_sound t f e = elim (one_word (codes "gf2") Gf2 t _ f e) [
  | inl h ↦ inl h
  | inr k ↦ elim (one_word (codes "gf256") Gf256 t None f k) [ inl h ↦ inr h | inr wrong ↦ absurd (let none = wrong in cc) ]
]

-- and a token gives its field
field_complete : (t : Token) (f : FieldId) → FieldWord t f → field_of t ≡ Some f
field_complete t f (inl h) = word_here (codes "gf2") Gf2 t _ f h
field_complete t f (inr h) = word_there (codes "gf2") (codes "gf256") Gf2 t _ h.0 refl ∙ word_here (codes "gf256") Gf256 t None f h

-- a field of the grammar
abbrev field_phrase : Phrase FieldId
field_phrase = meaning (codes "gf2") Gf2 or meaning (codes "gf256") Gf256

-- the reader of fields reads fields
reads_field : Reads (takes field_of) field_phrase never
reads_field = reads_same (reads_token field_of FieldWord field_sound field_complete (token_of (codes "gf2")) Gf2 (inl (refl, refl))) to from
  where
    to : (ts : List Token) (f : FieldId) → one FieldWord ts f → field_phrase ts f
    to ts f (t, one_token, inl h) = inl (t, one_token, h)
    to ts f (t, one_token, inr h) = inr (t, one_token, h)

    from : (ts : List Token) (f : FieldId) → field_phrase ts f → one FieldWord ts f
    from ts f (inl (t, one_token, h)) = (t, one_token, inl h)
    from ts f (inr (t, one_token, h)) = (t, one_token, inr h)

-- what goes on with a program
abbrev pub more_program : Token → Bool
more_program t = begins_statement t || begins_declaration t

-- what begins a statement begins no declaration
declaration_or_not : (t : Token) → begins_statement t ≡ true → begins_declaration t ≡ false
unfolding is_among all_go_on
declaration_or_not t e = elim (or_cases (says (codes "for") t) (is_name t) e) [
  | inl h ↦ (
      let is = says_is (codes "for") t h in
      rw (
        says_other (codes "for") (codes "map") t is refl,
        says_other (codes "for") (codes "secret") t is refl,
        says_other (codes "for") (codes "public") t is refl,
        says_other (codes "for") (codes "output") t is refl,
        says_other (codes "for") (codes "local") t is refl,
      ) refl)
  | inr h ↦
      rw (name_says (codes "map") t h refl, name_says (codes "secret") t h refl, name_says (codes "public") t h refl, name_says (codes "output") t h refl, name_says (codes "local") t h refl) refl
]

-- so declarations end where statements follow
declarations_end : (back : List Token) (xs : List Stmt) (rest : List Token) → many (statement most_brackets) back xs → Stops more_program rest → Stops begins_declaration (back ++ rest)
declarations_end back [] rest h s = subst (λ (l : List Token). Stops begins_declaration (l ++ rest)) (sym h) (at rest s)
  where
    at : (rest : List Token) → Stops more_program rest → Stops begins_declaration rest
    at [] s = tt
    at (t ∷ ts) s = (or_parts (begins_statement t) (begins_declaration t) s).1
declarations_end back (x ∷ xs) rest h s =
    let b = statement_is most_brackets h.0 x h.3 in
    let same : back ≡ (b.0 ∷ b.1) ++ h.1 = h.2 ∙ ap (λ (l : List Token). l ++ h.1) b.2 in
    subst (λ (l : List Token). Stops begins_declaration (l ++ rest)) (sym same) (declaration_or_not b.0 b.3)

-- the program of these parts
abbrev program_made : FieldId × (List Decl × List Stmt) → Program
program_made x = record { field = x.0; decls = x.1.0; body = x.1.1 }

-- the reader of programs reads programs
pub reads_program : Reads program_by program more_program
reads_program =
    let head = reads_after (codes "field") (reads_until (codes ";") reads_field (λ t is. refl)) in
    let declarations = reads_many begins_declaration begins_declaration reads_declaration declaration_is (λ t e. refl) (λ t e. e) (λ t e. refl) in
    let body = reads_many begins_statement more_program (reads_statement most_brackets) (statement_is most_brackets) (λ t e. refl)
    (λ t e. (or_parts (begins_statement t) (begins_declaration t) e).0) (λ t e. refl) in
    reads_made program_made (reads_and head (reads_and declarations body declarations_end) (λ back n rest h s. stops_never (back ++ rest)))

-- ---- what the loops of the parser read takes tokens

-- a statement does
pub statement_shorter : (brackets : ℕ) (ts : List Token) (s : Stmt) (rest : List Token) → statement_at brackets ts ≡ Ok (s, rest) → length rest < length ts
statement_shorter brackets ts s rest e = shorter begins_statement (reads_statement brackets) (statement_is brackets) ts s rest e

-- a declaration does
pub declaration_shorter : (ts : List Token) (d : Decl) (rest : List Token) → declaration_by ts ≡ Ok (d, rest) → length rest < length ts
declaration_shorter ts d rest e = shorter begins_declaration reads_declaration declaration_is ts d rest e

-- an element behind a comma does
pub image_shorter : (ts : List Token) (n : ℕ) (rest : List Token) → past (codes ",") image_by ts ≡ Ok (n, rest) → length rest < length ts
image_shorter ts n rest e =
    shorter (says (codes ",")) (reads_after (codes ",") (reads_made (λ (x : ℕ × Place). x.0) reads_element)) (after_begins (codes ",") (made (λ (x : ℕ × Place). x.0) element)) ts n rest e

-- a statement is a loop or an assignment
pub statement_by : (brackets : ℕ) (ts : List Token) → statement_at brackets ts ≡ chosen (says (codes "for")) (loop_at brackets) (assignment_at brackets) ts
unfolding statement_at
statement_by zero ts = refl
statement_by (suc brackets) ts = refl
