-- The readers of the phrases of the grammar, each by the number of brackets that may still be opened.
use Rattle.std.specs.Prelude.{ℕ, zero, suc, ◌+◌, ◌*◌, Bool, true, false, ◌||◌, ◌&&◌, not, List, [], ◌∷◌, length, Option, Some, None, nat_lt, if◌then◌else◌, codes, decimal, bytes_eq}
use Rattle.mk_base.specs.declared.Place.{Place}
use Rattle.mk_field.specs.declared.field.FieldId.{FieldId}
use Rattle.mk_field.specs.declared.field.FieldId.TheVariants.{Gf2, Gf256}
use Rattle.mk_ast.specs.declared.tree.Program.{Program}
use Rattle.mk_ast.specs.declared.tree.Decl.{Decl}
use Rattle.mk_ast.specs.declared.tree.What.TheVariants as what
use Rattle.mk_ast.specs.declared.tree.Class.{Class}
use Rattle.mk_ast.specs.declared.tree.Class.TheVariants as class_
use Rattle.mk_ast.specs.declared.tree.Stmt.{Stmt}
use Rattle.mk_ast.specs.declared.tree.Stmt.TheVariants as stmt
use Rattle.mk_ast.specs.declared.tree.Ref.{Ref}
use Rattle.mk_ast.specs.declared.tree.Expr.{Expr}
use Rattle.mk_ast.specs.declared.tree.Expr.TheVariants as expr
use Rattle.mk_ast.specs.declared.tree.Index.{Index}
use Rattle.mk_ast.specs.declared.tree.Index.TheVariants as index
use Rattle.mk_ast.specs.declared.tree.Link.{Link}
use Rattle.mk_ast.specs.declared.TheConstants.{GREATEST_NUMBER}
use Rattle.mk_ast.specs.declared.tree.Link.TheVariants as link
use Rattle.mk_base.specs.Digits.{hex_value}
use Rattle.mk_ast.specs.Tokens.{Token, begins_word, goes_on, reserved}
use Rattle.mk_ast.specs.Phrases.{several}
use Rattle.mk_ast.specs.Grammar.{chained, most_brackets}
use Rattle.mk_parse.specs.Readers.{Reader, says, fails, takes, makes, ◌next◌, past, ended, chosen, perhaps, every, parted}

-- ---- words, numbers and elements

-- all of these are letters, digits and `_`
unfoldable pub all_go_on : List ℕ → Bool
all_go_on [] = true
all_go_on (b ∷ bs) = goes_on b && all_go_on bs

-- whether this is a word
abbrev pub is_word : List ℕ → Bool
is_word [] = false
is_word (b ∷ bs) = begins_word b && (all_go_on bs && nat_lt (length bs) 64)

-- whether this is one of the words
unfoldable pub is_among : List (List ℕ) → List ℕ → Bool
is_among [] text = false
is_among (w ∷ ws) text = bytes_eq w text || is_among ws text

-- whether this is a name
abbrev pub is_name_text : List ℕ → Bool
is_name_text text = is_word text && not (is_among reserved text)

-- the token is a name
unfoldable pub is_name : Token → Bool
is_name t = is_name_text t.text

-- the value where the test holds
abbrev pub where_true : {A : Type 0} → Bool → A → Option A
where_true b a = if b then Some a else None

-- the name that the token is, with its place
abbrev pub name_of : Token → Option (List ℕ × Place)
name_of t = where_true (is_name t) (t.text, t.at)

-- the greatest number below the bound that passes
unfoldable pub last_below : ℕ → (ℕ → Bool) → Option ℕ
last_below zero p = None
last_below (suc n) p = if p n then Some n else last_below n p

-- the number that this writes
unfoldable pub number_text : List ℕ → Option ℕ
number_text text = last_below (GREATEST_NUMBER + 1) (λ n. bytes_eq text (decimal n))

-- the number that the token is
abbrev pub number_of : Token → Option ℕ
number_of t = number_text t.text

-- a number other than 0
abbrev pub positive : Option ℕ → Option ℕ
positive None = None
positive (Some zero) = None
positive (Some (suc n)) = Some (suc n)

-- the size that the token is
abbrev pub size_of : Token → Option ℕ
size_of t = positive (number_of t)

-- the number of two hexadecimal digits
abbrev pub of_digits : Option ℕ → Option ℕ → Option ℕ
of_digits (Some high) (Some low) = Some (16 * high + low)
of_digits (Some high) None = None
of_digits None low = None

-- the element that this writes
unfoldable pub element_text : List ℕ → Option ℕ
element_text [] = None
element_text (a ∷ []) = None
element_text (a ∷ b ∷ []) = None
element_text (a ∷ b ∷ c ∷ []) = None
element_text (a ∷ b ∷ c ∷ d ∷ []) = if bytes_eq (a ∷ b ∷ []) (codes "0x") then of_digits (hex_value c) (hex_value d) else None
element_text (a ∷ b ∷ c ∷ d ∷ e ∷ rest) = None

-- a value with its place
abbrev pub with_place : Place → Option ℕ → Option (ℕ × Place)
with_place at None = None
with_place at (Some value) = Some (value, at)

-- the element that the token is, with its place
abbrev pub element_of : Token → Option (ℕ × Place)
element_of t = with_place t.at (element_text t.text)

-- whether the token gives a value
abbrev pub gives : {A : Type 0} → (Token → Option A) → Token → Bool
gives value t = elim (value t) as (λ _. Bool) [ None ↦ false | (Some a) ↦ true ]

-- ---- indexes

-- where no bracket may be opened, nothing fits
abbrev pub guarded : {A : Type 0} → ℕ → Reader A → Reader A
guarded zero reader = fails
guarded (suc brackets) reader = reader

-- number | name | "(" isum ")"
abbrev pub index_factor_by : Reader Index → Reader Index
index_factor_by inner =
    chosen (gives number_of) (makes index.Num (takes number_of))
    (chosen is_name (makes (λ x. index.Var x.0 x.1) (takes name_of)) inner)

-- "*" ifactor | "%" size
abbrev pub index_link_by : Reader Index → Reader Link
index_link_by inner =
    chosen (says (codes "*")) (makes link.Times (past (codes "*") (index_factor_by inner))) (makes link.Mod (past (codes "%") (takes size_of)))

-- whether the token begins a link
abbrev pub begins_link : Token → Bool
begins_link t = says (codes "*") t || says (codes "%") t

-- ifactor {"*" ifactor | "%" size}
abbrev pub index_product_by : Reader Index → Reader Index
index_product_by inner = makes (λ x. chained x.0 x.1) (index_factor_by inner next every begins_link (index_link_by inner))

-- iproduct {"+" iproduct}
abbrev pub index_sum_by : Reader Index → Reader Index
index_sum_by inner = makes (several index.Sum) (parted (codes "+") (index_product_by inner))

-- the same, by the number of brackets
unfoldable pub index_sum_at : ℕ → Reader Index
index_sum_at zero = index_sum_by fails
index_sum_at (suc brackets) = index_sum_by (past (codes "(") (ended (codes ")") (index_sum_at brackets)))

-- what stands in parentheses
abbrev pub index_inner : ℕ → Reader Index
index_inner zero = fails
index_inner (suc brackets) = past (codes "(") (ended (codes ")") (index_sum_at brackets))

-- ---- expressions

-- "[" isum "]"
abbrev pub index_brackets : ℕ → Reader Index
index_brackets zero = fails
index_brackets (suc brackets) = past (codes "[") (ended (codes "]") (index_sum_at brackets))

-- ["[" isum "]"]
abbrev pub index_part : ℕ → Reader (Option Index)
index_part brackets = perhaps (says (codes "[")) (index_brackets brackets)

-- a reference of this name and index
abbrev pub reference_of : List ℕ × Place → Option Index → Ref
reference_of name index = record { name = name.0; at = name.1; index = index }

-- name ["[" isum "]"]
abbrev pub reference_at : ℕ → Reader Ref
reference_at brackets = makes (λ x. reference_of x.0 x.1) (takes name_of next index_part brackets)

-- what follows a name
abbrev pub after_name : ℕ → Reader Expr → Reader (List ℕ × Place → Expr)
after_name brackets inner =
    chosen (says (codes "(")) (makes (λ e name. expr.Apply name.0 name.1 e) inner)
    (makes (λ i name. expr.Read (reference_of name i)) (index_part brackets))

-- name "(" sum ")" | name ["[" isum "]"]
abbrev pub named : ℕ → Reader Expr → Reader Expr
named brackets inner = makes (λ x. x.1 x.0) (takes name_of next after_name brackets inner)

-- element | "sq" "(" sum ")" | name "(" sum ")" | reference | "(" sum ")"
abbrev pub factor_by : ℕ → Reader Expr → Reader Expr
factor_by brackets inner =
    chosen (gives element_of) (makes (λ x. expr.Lit x.0 x.1) (takes element_of))
    (chosen (says (codes "sq")) (guarded brackets (makes expr.Sq (past (codes "sq") inner)))
    (chosen is_name (named brackets inner) inner))

-- factor {"*" factor}
abbrev pub product_by : ℕ → Reader Expr → Reader Expr
product_by brackets inner = makes (several expr.Product) (parted (codes "*") (factor_by brackets inner))

-- product {"+" product}
abbrev pub sum_by : ℕ → Reader Expr → Reader Expr
sum_by brackets inner = makes (several expr.Sum) (parted (codes "+") (product_by brackets inner))

-- the same, by the number of brackets
unfoldable pub sum_at : ℕ → Reader Expr
sum_at zero = sum_by zero fails
sum_at (suc brackets) = sum_by (suc brackets) (past (codes "(") (ended (codes ")") (sum_at brackets)))

-- "(" sum ")"
abbrev pub sum_inner : ℕ → Reader Expr
sum_inner zero = fails
sum_inner (suc brackets) = past (codes "(") (ended (codes ")") (sum_at brackets))

-- ---- statements

-- reference "=" sum ";"
abbrev pub assignment_at : ℕ → Reader Stmt
assignment_at brackets =
    makes (λ x. stmt.Set x.0 x.1) (reference_at brackets next past (codes "=") (ended (codes ";") (sum_at brackets)))

-- "for" name "in" number ".." number
abbrev pub heading_by : Reader ((List ℕ × Place) × (ℕ × ℕ))
heading_by = past (codes "for") (takes name_of next past (codes "in") (takes number_of next past (codes "..") (takes number_of)))

-- whether the token begins a statement
abbrev pub begins_statement : Token → Bool
begins_statement t = says (codes "for") t || is_name t

-- a loop or an assignment
unfoldable pub statement_at : ℕ → Reader Stmt
statement_at zero = chosen (says (codes "for")) fails (assignment_at zero)
statement_at (suc brackets) =
    chosen (says (codes "for"))
    (makes (λ x. stmt.Loop x.0.0.0 x.0.0.1 x.0.1.0 x.0.1.1 x.1)
    (heading_by next past (codes "{") (ended (codes "}") (every begins_statement (statement_at brackets)))))
    (assignment_at (suc brackets))

-- "for" name "in" number ".." number "{" {statement} "}"
abbrev pub loop_at : ℕ → Reader Stmt
loop_at zero = fails
loop_at (suc brackets) =
    makes (λ x. stmt.Loop x.0.0.0 x.0.0.1 x.0.1.0 x.0.1.1 x.1)
    (heading_by next past (codes "{") (ended (codes "}") (every begins_statement (statement_at brackets))))

-- ---- declarations and programs

-- "secret" | "public" | "output"
abbrev pub plain_class : Token → Option Class
plain_class t =
    if says (codes "secret") t then Some class_.Secret else (
    if says (codes "public") t then Some class_.Public else (
    if says (codes "output") t then Some class_.Output else None))

-- "secret" | "public", behind "local"
abbrev pub local_class : Token → Option Class
local_class t =
    if says (codes "secret") t then Some class_.LocalSecret else (
    if says (codes "public") t then Some class_.LocalPublic else None)

-- "secret" | "public" | "output" | "local" ("secret" | "public")
abbrev pub class_by : Reader Class
class_by = chosen (says (codes "local")) (past (codes "local") (takes local_class)) (takes plain_class)

-- element, as an image
abbrev pub image_by : Reader ℕ
image_by = makes (λ x. x.0) (takes element_of)

-- element {"," element}
abbrev pub images_by : Reader (List ℕ)
images_by = parted (codes ",") image_by

-- "map" name "=" element {"," element} ";"
abbrev pub map_by : Reader Decl
map_by =
    makes (λ x. record { name = x.0.0; at = x.0.1; what = what.Map x.1 })
    (past (codes "map") (takes name_of next past (codes "=") (ended (codes ";") images_by)))

-- ["[" size "]"]
abbrev pub size_part : Reader (Option ℕ)
size_part = perhaps (says (codes "[")) (past (codes "[") (ended (codes "]") (takes size_of)))

-- class name ["[" size "]"] ";"
abbrev pub variable_by : Reader Decl
variable_by =
    makes (λ x. record { name = x.1.0.0; at = x.1.0.1; what = what.Var x.0 x.1.1 })
    (class_by next ended (codes ";") (takes name_of next size_part))

-- a map or a variable
abbrev pub declaration_by : Reader Decl
declaration_by = chosen (says (codes "map")) map_by variable_by

-- whether the token begins a declaration
abbrev pub begins_declaration : Token → Bool
begins_declaration t =
    says (codes "map") t || (says (codes "secret") t || (says (codes "public") t || (says (codes "output") t || says (codes "local") t)))

-- "gf2" | "gf256"
abbrev pub field_of : Token → Option FieldId
field_of t = if says (codes "gf2") t then Some Gf2 else (if says (codes "gf256") t then Some Gf256 else None)

-- "field" ("gf2" | "gf256") ";" {declaration} {statement}
abbrev pub program_by : Reader Program
program_by =
    makes (λ x. record { field = x.0; decls = x.1.0; body = x.1.1 })
    (past (codes "field") (ended (codes ";") (takes field_of))
    next every begins_declaration declaration_by next every begins_statement (statement_at most_brackets))
