-- The grammar of the language, which is this project's own: docs/LANGUAGE.md. Each phrase goes by the
-- number of brackets that may still be opened: of `(`, `[` and `{` together at most 64 are open at any
-- place.
use Rattle.std.specs.Prelude.{◌≡◌, ◌≢◌, ℕ, zero, suc, List, [], ◌∷◌, codes}
use Rattle.mk_base.specs.declared.Place.{Place}
use Rattle.mk_field.specs.declared.field.FieldId.TheVariants.{Gf2, Gf256}
use Rattle.mk_ast.specs.declared.tree.Program.{Program}
use Rattle.mk_ast.specs.declared.tree.Decl.{Decl}
use Rattle.mk_ast.specs.declared.tree.What.TheVariants as what
use Rattle.mk_ast.specs.declared.tree.Class.{Class}
use Rattle.mk_ast.specs.declared.tree.Class.TheVariants as class_
use Rattle.mk_ast.specs.declared.tree.Stmt.{Stmt}
use Rattle.mk_ast.specs.declared.tree.Stmt.TheVariants as stmt
use Rattle.mk_ast.specs.declared.tree.Ref.{Ref}
use Rattle.mk_ast.specs.declared.tree.Expr.{Expr}
use Rattle.mk_ast.specs.declared.tree.Expr.TheVariants as expr
use Rattle.mk_ast.specs.declared.tree.Index.{Index}
use Rattle.mk_ast.specs.declared.tree.Index.TheVariants as index
use Rattle.mk_ast.specs.declared.tree.Link.{Link}
use Rattle.mk_ast.specs.declared.tree.Link.TheVariants as link
use Rattle.mk_ast.specs.Tokens.{IsName, IsNumber, IsElement}
use Rattle.mk_ast.specs.Phrases.{Phrase, nothing, one, made, ◌or◌, ◌and◌, after, until, optional, many, separated, several}

-- a name, with its place
abbrev pub name : Phrase (List ℕ × Place)
name = one (λ t x. IsName t.text × (x ≡ (t.text, t.at)))

-- a number
abbrev pub number : Phrase ℕ
number = one (λ t n. IsNumber n t.text)

-- a size is a number other than 0
abbrev pub size : Phrase ℕ
size = one (λ t n. IsNumber n t.text × (n ≢ 0))

-- an element, with its place
abbrev pub element : Phrase (ℕ × Place)
element = one (λ t x. IsElement x.0 t.text × (x.1 ≡ t.at))

-- a word that means this value
abbrev pub meaning : {A : Type 0} → List ℕ → A → Phrase A
meaning word value = one (λ t x. (t.text ≡ word) × (x ≡ value))

-- what stands in a pair of brackets, one of those that may still be opened
abbrev pub bracketed : {A : Type 0} → List ℕ → List ℕ → (ℕ → Phrase A) → ℕ → Phrase A
bracketed opening closing phrase zero = nothing
bracketed opening closing phrase (suc brackets) = after opening (until closing (phrase brackets))

-- ifactor = number | name | "(" isum ")"
abbrev pub index_factor : Phrase Index → Phrase Index
index_factor inner = made index.Num number or made (λ x. index.Var x.0 x.1) name or inner

-- {"*" ifactor | "%" size}
abbrev pub index_link : Phrase Index → Phrase Link
index_link inner = made link.Times (after (codes "*") (index_factor inner)) or made link.Mod (after (codes "%") size)

-- an index with its links, and an index without links as it is
abbrev pub chained : Index → List Link → Index
chained first [] = first
chained first (l ∷ links) = index.Chain first (l ∷ links)

-- iproduct = ifactor {"*" ifactor | "%" size}
abbrev pub index_product : Phrase Index → Phrase Index
index_product inner = made (λ x. chained x.0 x.1) (index_factor inner and many (index_link inner))

-- isum = iproduct {"+" iproduct}
abbrev pub index_sum_with : Phrase Index → Phrase Index
index_sum_with inner = made (several index.Sum) (separated (codes "+") (index_product inner))

-- the same, by the number of brackets that may still be opened
unfoldable pub index_sum : ℕ → Phrase Index
index_sum zero = index_sum_with nothing
index_sum (suc brackets) = index_sum_with (after (codes "(") (until (codes ")") (index_sum brackets)))

-- reference = name ["[" isum "]"]
abbrev pub reference : ℕ → Phrase Ref
reference brackets =
    made (λ x. record { name = x.0.0; at = x.0.1; index = x.1 })
    (name and optional (bracketed (codes "[") (codes "]") index_sum brackets))

-- factor = element | "sq" "(" sum ")" | name "(" sum ")" | reference | "(" sum ")"
abbrev pub factor : ℕ → Phrase Expr → Phrase Expr
factor brackets inner =
    made (λ x. expr.Lit x.0 x.1) element
    or made expr.Sq (after (codes "sq") inner)
    or made (λ x. expr.Apply x.0.0 x.0.1 x.1) (name and inner)
    or made expr.Read (reference brackets)
    or inner

-- product = factor {"*" factor}
abbrev pub product : ℕ → Phrase Expr → Phrase Expr
product brackets inner = made (several expr.Product) (separated (codes "*") (factor brackets inner))

-- sum = product {"+" product}
abbrev pub sum_with : ℕ → Phrase Expr → Phrase Expr
sum_with brackets inner = made (several expr.Sum) (separated (codes "+") (product brackets inner))

-- the same, by the number of brackets that may still be opened
unfoldable pub sum : ℕ → Phrase Expr
sum zero = sum_with zero nothing
sum (suc brackets) = sum_with (suc brackets) (after (codes "(") (until (codes ")") (sum brackets)))

-- reference "=" sum ";"
abbrev pub assignment : ℕ → Phrase Stmt
assignment brackets =
    made (λ x. stmt.Set x.0 x.1) (reference brackets and after (codes "=") (until (codes ";") (sum brackets)))

-- "for" name "in" number ".." number
abbrev pub heading : Phrase ((List ℕ × Place) × (ℕ × ℕ))
heading = after (codes "for") (name and after (codes "in") (number and after (codes "..") number))

-- statement = reference "=" sum ";" | "for" name "in" number ".." number "{" {statement} "}"
unfoldable pub statement : ℕ → Phrase Stmt
statement zero = assignment zero
statement (suc brackets) =
    assignment (suc brackets)
    or made (λ x. stmt.Loop x.0.0.0 x.0.0.1 x.0.1.0 x.0.1.1 x.1)
    (heading and after (codes "{") (until (codes "}") (many (statement brackets))))

-- class = "secret" | "public" | "output" | "local" ("secret" | "public")
abbrev pub class : Phrase Class
class =
    meaning (codes "secret") class_.Secret
    or meaning (codes "public") class_.Public
    or meaning (codes "output") class_.Output
    or after (codes "local") (meaning (codes "secret") class_.LocalSecret or meaning (codes "public") class_.LocalPublic)

-- "map" name "=" element {"," element} ";"
abbrev pub map_declaration : Phrase Decl
map_declaration =
    made (λ x. record { name = x.0.0; at = x.0.1; what = what.Map x.1 })
    (after (codes "map") (name and after (codes "=") (until (codes ";") (separated (codes ",") (made (λ x. x.0) element)))))

-- class name ["[" size "]"] ";"
abbrev pub variable_declaration : Phrase Decl
variable_declaration =
    made (λ x. record { name = x.1.0.0; at = x.1.0.1; what = what.Var x.0 x.1.1 })
    (class and until (codes ";") (name and optional (after (codes "[") (until (codes "]") size))))

-- declaration = "map" name "=" element {"," element} ";" | class name ["[" size "]"] ";"
abbrev pub declaration : Phrase Decl
declaration = map_declaration or variable_declaration

-- at most so many brackets are open at any place
abbrev pub most_brackets : ℕ
most_brackets = 64

-- program = "field" ("gf2" | "gf256") ";" {declaration} {statement}
abbrev pub program : Phrase Program
program =
    made (λ x. record { field = x.0; decls = x.1.0; body = x.1.1 })
    (after (codes "field") (until (codes ";") (meaning (codes "gf2") Gf2 or meaning (codes "gf256") Gf256))
    and many declaration and many (statement most_brackets))
