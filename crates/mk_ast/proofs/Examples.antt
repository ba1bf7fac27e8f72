-- The definitions on small texts.
use Rattle.std.proofs.Common.{◌≡◌, ℕ, inl, inr, ◌⊎◌, List, [], ◌∷◌, ◌++◌, None, refl, ap, ◌∙◌, codes, arith, lit<}
use Rattle.std.proofs.lemmas.Bool.{false≢true}
use Rattle.std.specs.Fmt.{digits}
use Rattle.mk_base.specs.declared.Place.{Place}
use Rattle.mk_field.specs.declared.field.FieldId.TheVariants.{Gf2}
use Rattle.mk_ast.specs.declared.tree.Program.{Program}
use Rattle.mk_ast.specs.declared.tree.Expr.{Expr}
use Rattle.mk_ast.specs.declared.tree.Expr.TheVariants as expr
use Rattle.mk_ast.specs.Tokens.{Token, place_of, IsGap, IsLastGap, IsName, IsNumber, IsElement, AreTokens}
use Rattle.mk_ast.specs.Grammar.{program}
use Rattle.mk_ast.specs.Spells.{Spells, CanGoOn, IsRefusedAt}
use Rattle.mk_ast.specs.Canonical.{canonical, expr_text}
use Rattle.mk_ast.proofs.Layers.{expr_text-Lit, expr_text-Read, expr_text-Sum, expr_text-Product}
use Rattle.mk_ast.proofs.TokenTexts.{is_semicolon, is_field, is_gf2, space_gap}

-- this place
abbrev place : ℕ → ℕ → Place
place line column = record { line = line; column = column }

-- ---- tokens

-- behind a line feed and a blank stands the second column of the second line
pub place-second_line : place_of (codes "ab" ++ 10 ∷ codes " c") (codes "c") ≡ place 2 2
place-second_line = refl

-- a blank, a comment and the line feed behind it are a gap
pub gap-comment : IsGap (codes " #;" ++ 10 ∷ [])
gap-comment = inl (refl, inr (refl, inr (omega arith, inl (refl, tt))))

-- a comment that no line feed ends is none
pub gap-open : IsGap (codes "#;") → ⊥
gap-open (inl blank) = false≢true blank.0
gap-open (inr (hash, inl feed)) = omega (arith, feed.0)
gap-open (inr (hash, inr comment)) = comment.1

-- but it may stand at the end of a text
pub gap-last : IsLastGap (codes "#;")
gap-last = inr (refl, inr (omega arith, inl (refl, tt)))

-- a reserved word is no name
pub name-reserved : IsName (codes "sq") → ⊥
name-reserved is = is.1 (10, lit< tt, refl)

-- the greatest number
pub number-greatest : IsNumber 65535 (codes "65535")
unfolding digits
number-greatest = (refl, omega arith)

-- an element, with digits of either case
pub element-upper : IsElement 31 (codes "0x1F")
element-upper = (49, 70, 1, 15, refl, refl, refl, refl)

-- the same in lower case
pub element-lower : IsElement 31 (codes "0x1f")
element-lower = (49, 102, 1, 15, refl, refl, refl, refl)

-- ---- the smallest program

-- it has no declarations and no statements
abbrev pub smallest : Program
smallest = record { field = Gf2; decls = []; body = [] }

-- its tokens, at their places in the text
abbrev pub smallest_tokens : List Token
smallest_tokens =
    record { text = codes "field"; at = place 1 1 } ∷ record { text = codes "gf2"; at = place 1 7 } ∷ record { text = codes ";"; at = place 1 10 } ∷ []

-- they are those of the text
pub smallest-tokens : AreTokens (codes "field gf2;") smallest_tokens
smallest-tokens = (
  [],
  (
    codes " gf2;",
    record { gap = []; is_gap = tt; parts = refl; is_token = inr (inl is_field, refl); place = refl },
    (
      codes ";",
      record { gap = codes " "; is_gap = space_gap; parts = refl; is_token = inr (inl is_gf2, refl); place = refl },
      ([], record { gap = []; is_gap = tt; parts = refl; is_token = inl is_semicolon; place = refl }, refl),
    ),
  ),
  inl (refl, tt),
)

-- the grammar derives it from them
pub smallest-derived : program smallest_tokens smallest
smallest-derived = (
  (Gf2, ([], [])),
  (smallest_tokens, [], refl, (_, _, refl, refl, (_ ∷ [], _, refl, refl, inl (_, refl, (refl, refl)))), ([], [], refl, refl, refl)),
  refl,
)

-- so the text spells it
pub smallest-spelled : Spells smallest (codes "field gf2;")
smallest-spelled = (smallest_tokens, smallest-tokens, smallest-derived)

-- its canonical text is one line
pub smallest-canonical : canonical smallest ≡ codes "field gf2;" ++ 10 ∷ []
smallest-canonical = refl

-- ---- where texts are refused

-- the tokens of a program begin with `field`
pub begins-field : (t : Token) (tokens : List Token) → CanGoOn (t ∷ tokens) → t.text ≡ codes "field"
begins-field t tokens h =
    let first = h.2.1.3 in
    let whole : t ∷ (tokens ++ h.0) ≡ first.0 ∷ (first.1 ++ h.2.1.1) = h.2.1.2 ∙ ap (λ front. front ++ h.2.1.1) first.2 in
    let same : t ≡ first.0 = cc in
    ap (λ (u : Token). u.text) same ∙ first.3

-- a text that begins otherwise is refused at its first token
pub refused-first : IsRefusedAt (codes ";") (place 1 1)
refused-first = record {
  tokens = [];
  gap = [];
  here = codes ";";
  before = refl;
  is_gap = inl tt;
  begins = refl;
  place = refl;
  goes_on = (smallest_tokens, smallest, smallest-derived);
  stuck = λ t rest parts is_token at goes_on.
      let whole : ◌≡◌ {A = List ℕ} (59 ∷ []) (codes "field" ++ rest) = parts ∙ ap (λ word. word ++ rest) (begins-field t [] goes_on) in
      let heads : ◌≡◌ {A = ℕ} 59 102 = cc in
      omega (arith, heads);
}

-- no tokens are no program
pub none-derived : (p : Program) → program [] p → ⊥
none-derived p h =
    let whole : [] ≡ h.1.3.0 ∷ (h.1.3.1 ++ h.1.1) = h.1.2 ∙ ap (λ front. front ++ h.1.1) h.1.3.2 in
    absurd cc

-- so the empty text is refused where it ends
pub refused-empty : IsRefusedAt [] (place 1 1)
refused-empty = record {
  tokens = [];
  gap = [];
  here = [];
  before = refl;
  is_gap = inl tt;
  begins = tt;
  place = refl;
  goes_on = (smallest_tokens, smallest, smallest-derived);
  stuck = none-derived;
}

-- behind the first token of a program comes the word of a field
pub begins-gf : (t u : Token) (tokens : List Token) → CanGoOn (t ∷ u ∷ tokens) → (u.text ≡ codes "gf2") ⊎ (u.text ≡ codes "gf256")
begins-gf t u tokens h =
    let first = h.2.1.3 in
    let named = first.4 in
    let same : (v : Token) → named.0 ≡ v ∷ [] → u ≡ v = λ v is.
    let rest : first.1 ≡ v ∷ named.1 ∷ [] = named.2 ∙ ap (λ front. front ++ named.1 ∷ []) is in
    let whole : t ∷ u ∷ (tokens ++ h.0) ≡ first.0 ∷ v ∷ named.1 ∷ h.2.1.1 =
    h.2.1.2 ∙ ap (λ front. front ++ h.2.1.1) first.2 ∙ ap (λ tail. first.0 ∷ (tail ++ h.2.1.1)) rest in
    cc in
    elim named.4 [
      | inl g ↦ inl (ap (λ (v : Token). v.text) (same g.0 g.1) ∙ g.2.0)
      | inr g ↦ inr (ap (λ (v : Token). v.text) (same g.0 g.1) ∙ g.2.0)
    ]

-- so a text is refused at another field
pub refused-gf : IsRefusedAt (codes "field gf3;") (place 1 7)
refused-gf = record {
  tokens = record { text = codes "field"; at = place 1 1 } ∷ [];
  gap = codes " ";
  here = codes "gf3;";
  before = (codes " gf3;", record { gap = []; is_gap = tt; parts = refl; is_token = inr (inl is_field, refl); place = refl }, refl);
  is_gap = inl space_gap;
  begins = refl;
  place = refl;
  goes_on = (record { text = codes "gf2"; at = place 1 7 } ∷ record { text = codes ";"; at = place 1 10 } ∷ [], smallest, smallest-derived);
  stuck = λ t rest parts is_token at goes_on. elim (begins-gf _ t [] goes_on) [ inl is ↦ other rest (parts ∙ ap (λ word. word ++ rest) is) | inr is ↦ other (codes "56" ++ rest) (parts ∙ ap (λ word. word ++ rest) is) ];
}
  where
    other : (rest : List ℕ) → codes "gf3;" ≡ codes "gf2" ++ rest → ⊥
    other rest is = let digits : ◌≡◌ {A = ℕ} 51 50 = cc in omega (arith, digits)

-- ---- canonical texts

-- a name that is read
abbrev read : List ℕ → Expr
read name = expr.Read (record { name = name; at = place 1 1; index = None })

-- a sum in a product stands in parentheses
pub sum-in-product : expr_text (expr.Product (expr.Sum (read (codes "a") ∷ read (codes "b") ∷ []) ∷ expr.Lit 27 (place 1 1) ∷ [])) ≡ codes "(a + b) * 0x1b"
sum-in-product = rw expr_text-Product (rw expr_text-Sum (rw expr_text-Read (rw expr_text-Read (rw expr_text-Lit refl))))

-- a product in a sum does not
pub product-in-sum : expr_text (expr.Sum (expr.Product (read (codes "a") ∷ read (codes "b") ∷ []) ∷ read (codes "c") ∷ [])) ≡ codes "a * b + c"
product-in-sum = rw expr_text-Sum (rw expr_text-Product (rw expr_text-Read (rw expr_text-Read (rw expr_text-Read refl))))
