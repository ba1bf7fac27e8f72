-- Polynomials over a field in some variables, whose exponents are reduced: since an element raised to the
-- size of the field is itself, no exponent is as great as the size. They are reduced polynomials in the
-- sense of Lidl and Niederreiter, Finite Fields.
use Rattle.std.specs.Prelude.{◌≢◌, ℕ, ◌+◌, ◌-◌, ◌<◌, List, [], ◌∷◌, map, fold, nat_eq, nat_lt, if◌then◌else◌, bit_xor}
use Rattle.std.specs.List.{AllByRecursion, flat_map}
use Rattle.std.specs.Str.{bytes_eq}
use Rattle.mk_field.specs.declared.field.FieldId.{FieldId}
use Rattle.mk_field.specs.Field.{size, product, raised}
use Rattle.mk_code.specs.Counting.{Elements}
use Rattle.mk_pad.specs.declared.term.Term.{Term}

-- the reduced exponent that gives the same power, for the sum of two reduced ones
abbrev pub reduced : FieldId → ℕ → ℕ
reduced field e = if nat_lt e (size field) then e else e - (size field - 1)

-- the product of the variables at these elements, each raised to its exponent
unfoldable pub monomial_at : FieldId → List ℕ → List ℕ → ℕ
monomial_at field [] xs = 1
monomial_at field (e ∷ es) [] = 0
monomial_at field (e ∷ es) (x ∷ xs) = product field (raised field x e) (monomial_at field es xs)

-- the value of a term at these elements
abbrev pub term_at : FieldId → Term → List ℕ → ℕ
term_at field t xs = product field t.coefficient (monomial_at field t.exponents xs)

-- the value of a polynomial at these elements: the sum of those of its terms
unfoldable pub value : FieldId → List Term → List ℕ → ℕ
value field [] xs = 0
value field (t ∷ ts) xs = bit_xor (term_at field t xs) (value field ts xs)

-- the coefficient of a polynomial at these exponents: 0 where it has no such term
unfoldable pub coefficient_at : List ℕ → List Term → ℕ
coefficient_at es [] = 0
coefficient_at es (t ∷ ts) = bit_xor (if bytes_eq t.exponents es then t.coefficient else 0) (coefficient_at es ts)

-- a term in n variables: the exponents are reduced, and the coefficient isn't 0
pub record IsTerm (field : FieldId) (n : ℕ) (t : Term) : Type 0 where
  pub exponents : Elements (size field) n t.exponents
  pub element : t.coefficient < size field
  pub nonzero : t.coefficient ≢ 0

-- no two terms have the same exponents
unfoldable pub AllDiffer : List Term → Type 0
AllDiffer [] = Unit {0}
AllDiffer (t ∷ ts) = AllByRecursion (λ u. t.exponents ≢ u.exponents) ts × AllDiffer ts

-- a polynomial in n variables: its terms are combined
pub record IsPolynomial (field : FieldId) (n : ℕ) (ts : List Term) : Type 0 where
  pub terms : AllByRecursion (IsTerm field n) ts
  pub differ : AllDiffer ts

-- the term with another coefficient, in front of others; none where that is 0
abbrev pub with_coefficient : Term → ℕ → List Term → List Term
with_coefficient t c ts = if nat_eq c 0 then ts else record t { coefficient = c } ∷ ts

-- one term more: the coefficients of two terms with the same exponents are added
unfoldable pub with_term : List Term → Term → List Term
with_term [] t = t ∷ []
with_term (u ∷ us) t =
    if bytes_eq u.exponents t.exponents then with_coefficient u (bit_xor u.coefficient t.coefficient) us else u ∷ with_term us t

-- some terms more: the sum of two polynomials
abbrev pub plus : List Term → List Term → List Term
plus ps qs = fold with_term ps qs

-- the sums of exponents, variable by variable
unfoldable pub exponents_sum : FieldId → List ℕ → List ℕ → List ℕ
exponents_sum field [] ys = []
exponents_sum field (x ∷ xs) [] = []
exponents_sum field (x ∷ xs) (y ∷ ys) = reduced field (x + y) ∷ exponents_sum field xs ys

-- the product of two terms
abbrev pub term_product : FieldId → Term → Term → Term
term_product field t u = record {
  exponents = exponents_sum field t.exponents u.exponents;
  coefficient = product field t.coefficient u.coefficient;
}

-- the product of two polynomials
abbrev pub times : FieldId → List Term → List Term → List Term
times field ps qs = plus [] (flat_map (λ p. map (term_product field p) qs) ps)

-- the square of a polynomial: the squares of its terms, the characteristic being 2
abbrev pub squared : FieldId → List Term → List Term
squared field ps = plus [] (map (λ p. term_product field p p) ps)
