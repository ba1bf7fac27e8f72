-- Values of polynomials.
use Rattle.std.proofs.Common.{◌≡◌, ℕ, ◌+◌, ◌<◌, List, [], ◌∷◌, ◌++◌, length, map, bit_xor, refl, sym, ◌∙◌, ap, arith, inl, inr}
use Rattle.std.specs.List.{AllByRecursion, flat_map}
use Rattle.std.proofs.lemmas.Bool.{cases_eq, ne_eqb}
use Rattle.mk_field.specs.declared.field.FieldId.{FieldId}
use Rattle.mk_field.specs.Field.{size, product, square, raised}
use Rattle.mk_field.proofs.Sum.{zero-element, sum-assoc, sum-comm, sum-zero_left, sum-zero_right, sum-in_field}
use Rattle.mk_field.proofs.Product.{product-in_field, product-zero_left, product-zero_right, product-one_left, product-sum_left, product-sum_right, square-sum}
use Rattle.mk_code.specs.Counting.{AllBelow}
use Rattle.mk_pad.specs.declared.term.Term.{Term}
use Rattle.mk_pad.specs.Polynomial.{monomial_at, term_at, value, IsTerm, IsPolynomial, with_coefficient, with_term, plus, exponents_sum, term_product, times, squared}
use Rattle.mk_field.proofs.Raised.{one-element, product-interchange, raised-in_field, raised-sum}
use Rattle.mk_pad.proofs.Raised.{raised-reduced}
use Rattle.mk_pad.proofs.Combining.{with_term-same, with_term-other, exponents-cases, terms-with_term, products-fit, squares-fit}

-- the value of a monomial is an element
pub monomial-in_field : (field : FieldId) (es xs : List ℕ) → AllBelow (size field) xs → monomial_at field es xs < size field
unfolding monomial_at AllBelow
monomial-in_field field [] xs below = one-element field
monomial-in_field field (e ∷ es) [] below = zero-element field
monomial-in_field field (e ∷ es) (x ∷ xs) below = product-in_field field (raised field x e) (monomial_at field es xs) (raised-in_field field x e below.0)

-- that of a polynomial too
pub value-in_field : (field : FieldId) (n : ℕ) (ts : List Term) (xs : List ℕ) → AllByRecursion (IsTerm field n) ts
    → value field ts xs < size field
unfolding value
value-in_field field n [] xs fit = zero-element field
value-in_field field n (t ∷ ts) xs fit =
    sum-in_field field (term_at field t xs) (value field ts xs)
    (product-in_field field t.coefficient (monomial_at field t.exponents xs) fit.0.element) (value-in_field field n ts xs fit.1)

-- the sums of the exponents give the product
monomial-product : (field : FieldId) (es fs xs : List ℕ) → length es ≡ length fs → AllBelow (size field) xs
    → monomial_at field (exponents_sum field es fs) xs ≡ product field (monomial_at field es xs) (monomial_at field fs xs)
unfolding monomial_at exponents_sum AllBelow
monomial-product field [] [] xs same below = sym (product-one_left field 1 (one-element field))
monomial-product field [] (f ∷ fs) xs same below = absurd (omega arith)
monomial-product field (e ∷ es) [] xs same below = absurd (omega arith)
monomial-product field (e ∷ es) (f ∷ fs) [] same below = sym (product-zero_left field 0)
monomial-product field (e ∷ es) (f ∷ fs) (x ∷ xs) same below =
    ap (λ (y : ℕ). product field y (monomial_at field (exponents_sum field es fs) xs)) (raised-reduced field x (e + f) below.0 ∙ raised-sum field x e f below.0)
    ∙ ap (product field (product field (raised field x e) (raised field x f))) (monomial-product field es fs xs (omega arith) below.1)
    ∙ product-interchange field (raised field x e) (raised field x f) (monomial_at field es xs) (monomial_at field fs xs)
    (raised-in_field field x e below.0) (raised-in_field field x f below.0) (monomial-in_field field es xs below.1) (monomial-in_field field fs xs below.1)

-- the value of a product of terms
pub term_product-at : (field : FieldId) (n : ℕ) (t u : Term) (xs : List ℕ) → IsTerm field n t → IsTerm field n u → AllBelow (size field) xs
    → term_at field (term_product field t u) xs ≡ product field (term_at field t xs) (term_at field u xs)
term_product-at field n t u xs left right below =
    ap (product field (product field t.coefficient u.coefficient))
    (monomial-product field t.exponents u.exponents xs (left.exponents.count ∙ sym right.exponents.count) below)
    ∙ product-interchange field t.coefficient u.coefficient (monomial_at field t.exponents xs) (monomial_at field u.exponents xs)
    left.element right.element (monomial-in_field field t.exponents xs below) (monomial-in_field field u.exponents xs below)

-- the value with another coefficient
value-with_coefficient : (field : FieldId) (u : Term) (c : ℕ) (us : List Term) (xs : List ℕ)
    → value field (with_coefficient u c us) xs ≡ bit_xor (product field c (monomial_at field u.exponents xs)) (value field us xs)
unfolding value
value-with_coefficient field u c us xs = elim (cases_eq c 0) [
  | inl is_zero ↦
      rw (is_zero) (sym (ap (λ (x : ℕ). bit_xor x (value field us xs)) (product-zero_left field (monomial_at field u.exponents xs))
      ∙ sum-zero_left (value field us xs)))
  | inr nonzero ↦ rw (ne_eqb c 0 nonzero) refl
]

-- the value with one term more
pub value-with_term : (field : FieldId) (n : ℕ) (us : List Term) (t : Term) (xs : List ℕ) → AllByRecursion (IsTerm field n) us → IsTerm field n t
    → value field (with_term us t) xs ≡ bit_xor (value field us xs) (term_at field t xs)
unfolding value with_term
value-with_term field n [] t xs front last = sum-comm (term_at field t xs) 0
value-with_term field n (u ∷ us) t xs front last = elim (exponents-cases u.exponents t.exponents) [
  | inl same ↦
      let m : ℕ = monomial_at field u.exponents xs in
      let c : ℕ = bit_xor u.coefficient t.coefficient in
      ap (λ (ts : List Term). value field ts xs) (with_term-same u t us same)
      ∙ value-with_coefficient field u c us xs
      ∙ ap (λ (x : ℕ). bit_xor x (value field us xs)) (product-sum_left field u.coefficient t.coefficient m front.0.element last.element)
      ∙ sum-assoc (product field u.coefficient m) (product field t.coefficient m) (value field us xs)
      ∙ ap (bit_xor (product field u.coefficient m)) (sum-comm (product field t.coefficient m) (value field us xs))
      ∙ sym (sum-assoc (product field u.coefficient m) (value field us xs) (product field t.coefficient m))
      ∙ ap (λ (es : List ℕ). bit_xor (bit_xor (product field u.coefficient m) (value field us xs)) (product field t.coefficient (monomial_at field es xs))) same
  | inr differ ↦
      ap (λ (ts : List Term). value field ts xs) (with_term-other u t us differ)
      ∙ ap (bit_xor (term_at field u xs)) (value-with_term field n us t xs front.1 last)
      ∙ sym (sum-assoc (term_at field u xs) (value field us xs) (term_at field t xs))
]

-- the value of a sum
pub value-plus : (field : FieldId) (n : ℕ) (us ts : List Term) (xs : List ℕ) → AllByRecursion (IsTerm field n) us → AllByRecursion (IsTerm field n) ts
    → value field (plus us ts) xs ≡ bit_xor (value field us xs) (value field ts xs)
unfolding value
value-plus field n us [] xs front more = sym (sum-zero_right (value field us xs))
value-plus field n us (t ∷ ts) xs front more =
    value-plus field n (with_term us t) ts xs (terms-with_term field n t us front more.0) more.1
    ∙ ap (λ (x : ℕ). bit_xor x (value field ts xs)) (value-with_term field n us t xs front more.0)
    ∙ sum-assoc (value field us xs) (term_at field t xs) (value field ts xs)

-- the value of terms, and then others
value-append : (field : FieldId) (ps qs : List Term) (xs : List ℕ)
    → value field (ps ++ qs) xs ≡ bit_xor (value field ps xs) (value field qs xs)
unfolding value
value-append field [] qs xs = sym (sum-zero_left (value field qs xs))
value-append field (p ∷ ps) qs xs =
    ap (bit_xor (term_at field p xs)) (value-append field ps qs xs) ∙ sym (sum-assoc (term_at field p xs) (value field ps xs) (value field qs xs))

-- a term times a polynomial
value-products_with : (field : FieldId) (n : ℕ) (p : Term) (qs : List Term) (xs : List ℕ) → IsTerm field n p → AllByRecursion (IsTerm field n) qs
    → AllBelow (size field) xs
    → value field (map (term_product field p) qs) xs ≡ product field (term_at field p xs) (value field qs xs)
unfolding value
value-products_with field n p [] xs here right below = sym (product-zero_right field (term_at field p xs))
value-products_with field n p (q ∷ qs) xs here right below =
    ap (λ (x : ℕ). bit_xor x (value field (map (term_product field p) qs) xs)) (term_product-at field n p q xs here right.0 below)
    ∙ ap (bit_xor (product field (term_at field p xs) (term_at field q xs))) (value-products_with field n p qs xs here right.1 below)
    ∙ sym (product-sum_right field (term_at field p xs) (term_at field q xs) (value field qs xs))

-- the value of all products is the product of the values
value-products : (field : FieldId) (n : ℕ) (ps qs : List Term) (xs : List ℕ) → AllByRecursion (IsTerm field n) ps → AllByRecursion (IsTerm field n) qs
    → AllBelow (size field) xs
    → value field (flat_map (λ p. map (term_product field p) qs) ps) xs ≡ product field (value field ps xs) (value field qs xs)
unfolding value
value-products field n [] qs xs left right below = sym (product-zero_left field (value field qs xs))
value-products field n (p ∷ ps) qs xs left right below =
    value-append field (map (term_product field p) qs) (flat_map (λ r. map (term_product field r) qs) ps) xs
    ∙ ap (λ (x : ℕ). bit_xor x (value field (flat_map (λ r. map (term_product field r) qs) ps) xs)) (value-products_with field n p qs xs left.0 right below)
    ∙ ap (bit_xor (product field (term_at field p xs) (value field qs xs))) (value-products field n ps qs xs left.1 right below)
    ∙ sym (product-sum_left field (term_at field p xs) (value field ps xs) (value field qs xs)
    (product-in_field field p.coefficient (monomial_at field p.exponents xs) left.0.element) (value-in_field field n ps xs left.1))

-- the value of a product
pub value-times : (field : FieldId) (n : ℕ) (ps qs : List Term) (xs : List ℕ) → IsPolynomial field n ps → IsPolynomial field n qs
    → AllBelow (size field) xs
    → value field (times field ps qs) xs ≡ product field (value field ps xs) (value field qs xs)
unfolding value
value-times field n ps qs xs left right below =
    let all : List Term = flat_map (λ p. map (term_product field p) qs) ps in
    value-plus field n [] all xs tt (products-fit field n ps qs left.terms right.terms)
    ∙ sum-zero_left (value field all xs)
    ∙ value-products field n ps qs xs left.terms right.terms below

-- the value of all squares is the square of the value
value-squares : (field : FieldId) (n : ℕ) (ps : List Term) (xs : List ℕ) → AllByRecursion (IsTerm field n) ps → AllBelow (size field) xs
    → value field (map (λ p. term_product field p p) ps) xs ≡ square field (value field ps xs)
unfolding value
value-squares field n [] xs here below = sym (product-zero_left field 0)
value-squares field n (p ∷ ps) xs here below =
    ap (λ (x : ℕ). bit_xor x (value field (map (λ r. term_product field r r) ps) xs)) (term_product-at field n p p xs here.0 here.0 below)
    ∙ ap (bit_xor (square field (term_at field p xs))) (value-squares field n ps xs here.1 below)
    ∙ sym (square-sum field (term_at field p xs) (value field ps xs)
    (product-in_field field p.coefficient (monomial_at field p.exponents xs) here.0.element) (value-in_field field n ps xs here.1))

-- the value of a square
pub value-squared : (field : FieldId) (n : ℕ) (ps : List Term) (xs : List ℕ) → IsPolynomial field n ps → AllBelow (size field) xs
    → value field (squared field ps) xs ≡ square field (value field ps xs)
unfolding value
value-squared field n ps xs here below =
    let all : List Term = map (λ p. term_product field p p) ps in
    value-plus field n [] all xs tt (squares-fit field n ps here.terms)
    ∙ sum-zero_left (value field all xs)
    ∙ value-squares field n ps xs here.terms below
