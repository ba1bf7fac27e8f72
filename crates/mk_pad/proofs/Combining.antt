-- Combined terms: what holds of the exponents of all terms is kept, and a polynomial stays one.
use Rattle.std.proofs.Common.{◌≡◌, ◌≢◌, ◌⊎◌, ℕ, suc, ◌+◌, ◌<◌, List, [], ◌∷◌, ◌++◌, length, map, bit_xor, refl, sym, ◌∙◌, ap, arith, inl, inr, subst, drop, slice_index, ◌≤◌}
use Rattle.std.specs.List.{AllByRecursion, flat_map}
use Rattle.std.specs.Str.{bytes_eq}
use Rattle.std.proofs.lemmas.Bool.{cases_Bool, cases_eq, eq-eqb, ne_eqb, false≢true}
use Rattle.std.proofs.lemmas.List.{append_assoc, append-nil, drop_more, drop_all}
use Rattle.std.proofs.lemmas.Slice.Eq.{bytes_eq-Decides}
use Rattle.mk_field.specs.declared.field.FieldId.{FieldId}
use Rattle.mk_field.specs.Field.{size}
use Rattle.mk_field.proofs.Sum.{sum-in_field}
use Rattle.mk_field.proofs.Product.{product-in_field}
use Rattle.mk_code.specs.Counting.{AllBelow}
use Rattle.mk_pad.specs.declared.term.Term.{Term}
use Rattle.mk_pad.specs.Polynomial.{IsTerm, IsPolynomial, AllDiffer, with_coefficient, with_term, plus, exponents_sum, reduced, term_product, times, squared}
use Rattle.mk_field.proofs.Raised.{zero-product}
use Rattle.mk_pad.proofs.Raised.{reduced-below}

-- how one term goes into others
pub with_term-same : (u t : Term) (us : List Term) → u.exponents ≡ t.exponents
    → with_term (u ∷ us) t ≡ with_coefficient u (bit_xor u.coefficient t.coefficient) us
unfolding with_term
with_term-same u t us same =
    rw ((bytes_eq-Decides u.exponents t.exponents).1 same) refl

-- and with other exponents it stays
pub with_term-other : (u t : Term) (us : List Term) → u.exponents ≢ t.exponents → with_term (u ∷ us) t ≡ u ∷ with_term us t
unfolding with_term
with_term-other u t us differ = elim (cases_Bool (bytes_eq u.exponents t.exponents)) [
  | inl same ↦ absurd (differ ((bytes_eq-Decides u.exponents t.exponents).0 same))
  | inr other ↦ rw other refl
]

-- exponents are the same or not
pub exponents-cases : (es fs : List ℕ) → (es ≡ fs) ⊎ (es ≢ fs)
exponents-cases es fs = elim (cases_Bool (bytes_eq es fs)) [
  | inl same ↦ inl ((bytes_eq-Decides es fs).0 same)
  | inr other ↦ inr (λ e. false≢true (sym other ∙ (bytes_eq-Decides es fs).1 e))
]

-- what holds of terms, with another coefficient too, is kept
all-with_coefficient : (P : Term → Type 0) (u : Term) (c : ℕ) (us : List Term) → (c ≢ 0 → P (record u { coefficient = c })) → AllByRecursion P us
    → AllByRecursion P (with_coefficient u c us)
all-with_coefficient P u c us here rest = elim (cases_eq c 0) [
  | inl is_zero ↦ rw (eq-eqb c 0 is_zero) rest
  | inr nonzero ↦ rw (ne_eqb c 0 nonzero) (here nonzero, rest)
]

-- what holds of all terms, and of one with the same exponents, holds with one term more
pub all-with_term : (P : Term → Type 0) (t : Term) (us : List Term)
    → ((u : Term) (c : ℕ) → P u → P t → u.exponents ≡ t.exponents → c ≡ bit_xor u.coefficient t.coefficient → c ≢ 0 → P (record u { coefficient = c }))
    → AllByRecursion P us → P t → AllByRecursion P (with_term us t)
unfolding with_term
all-with_term P t [] kept front last = (last, tt)
all-with_term P t (u ∷ us) kept front last = elim (exponents-cases u.exponents t.exponents) [
  | inl same ↦
      let c : ℕ = bit_xor u.coefficient t.coefficient in
      subst (AllByRecursion P) (sym (with_term-same u t us same))
      (all-with_coefficient P u c us (λ nonzero. kept u c front.0 last same refl nonzero) front.1)
  | inr differ ↦ subst (AllByRecursion P) (sym (with_term-other u t us differ)) (front.0, all-with_term P t us kept front.1 last)
]

-- what holds of the exponents of terms is kept
all-exponents : (Q : List ℕ → Type 0) (t : Term) (us : List Term)
    → AllByRecursion (λ u. Q u.exponents) us → Q t.exponents → AllByRecursion (λ u. Q u.exponents) (with_term us t)
all-exponents Q t us front last = all-with_term (λ u. Q u.exponents) t us (λ u c here there same sum nonzero. here) front last

-- the terms fit
pub terms-with_term : (field : FieldId) (n : ℕ) (t : Term) (us : List Term)
    → AllByRecursion (IsTerm field n) us → IsTerm field n t → AllByRecursion (IsTerm field n) (with_term us t)
terms-with_term field n t us front last =
    all-with_term (IsTerm field n) t us
    (λ u c here there same sum nonzero. record {
      exponents = here.exponents;
      element = subst (λ (x : ℕ). x < size field) (sym sum) (sum-in_field field u.coefficient t.coefficient here.element there.element);
      nonzero = nonzero;
    })
    front last

-- they differ
differ-with_term : (t : Term) (us : List Term) → AllDiffer us → AllDiffer (with_term us t)
unfolding AllDiffer with_term
differ-with_term t [] differ = (tt, tt)
differ-with_term t (u ∷ us) differ = elim (exponents-cases u.exponents t.exponents) [
  | inl same ↦
      let c : ℕ = bit_xor u.coefficient t.coefficient in
      subst AllDiffer (sym (with_term-same u t us same))
      (elim (cases_eq c 0) [
        | inl is_zero ↦ rw (eq-eqb c 0 is_zero) differ.1
        | inr nonzero ↦ rw (ne_eqb c 0 nonzero) differ
      ])
  | inr other ↦
      subst AllDiffer (sym (with_term-other u t us other))
      (all-exponents (λ es. u.exponents ≢ es) t us differ.0 other, differ-with_term t us differ.1)
]

-- a polynomial with one term more
pub polynomial-with_term : (field : FieldId) (n : ℕ) (t : Term) (us : List Term)
    → IsPolynomial field n us → IsTerm field n t → IsPolynomial field n (with_term us t)
polynomial-with_term field n t us front last = record {
  terms = terms-with_term field n t us front.terms last;
  differ = differ-with_term t us front.differ;
}

-- with some more
pub polynomial-plus : (field : FieldId) (n : ℕ) (us ts : List Term)
    → IsPolynomial field n us → AllByRecursion (IsTerm field n) ts → IsPolynomial field n (plus us ts)
polynomial-plus field n us [] front more = front
polynomial-plus field n us (t ∷ ts) front more =
    polynomial-plus field n (with_term us t) ts (polynomial-with_term field n t us front more.0) more.1

-- no terms
pub polynomial-nil : (field : FieldId) (n : ℕ) → IsPolynomial field n []
unfolding AllDiffer
polynomial-nil field n = record { terms = tt; differ = tt }

-- one term
pub polynomial-one : (field : FieldId) (n : ℕ) (t : Term) → IsTerm field n t → IsPolynomial field n (t ∷ [])
unfolding AllDiffer
polynomial-one field n t here = record { terms = (here, tt); differ = (tt, tt) }

-- sums of exponents are reduced
exponents_sum-below : (field : FieldId) (xs ys : List ℕ) → AllBelow (size field) xs → AllBelow (size field) ys
    → AllBelow (size field) (exponents_sum field xs ys)
unfolding exponents_sum AllBelow
exponents_sum-below field [] ys left right = tt
exponents_sum-below field (x ∷ xs) [] left right = tt
exponents_sum-below field (x ∷ xs) (y ∷ ys) left right =
    (reduced-below field x y left.0 right.0, exponents_sum-below field xs ys left.1 right.1)

-- sums of exponents are as many
pub exponents_sum-length : (field : FieldId) (xs ys : List ℕ) → length xs ≡ length ys → length (exponents_sum field xs ys) ≡ length xs
unfolding exponents_sum
exponents_sum-length field [] ys same = refl
exponents_sum-length field (x ∷ xs) [] same = absurd (omega arith)
exponents_sum-length field (x ∷ xs) (y ∷ ys) same = ap suc (exponents_sum-length field xs ys (omega arith))

-- the product of two terms is one
pub term_product-fits : (field : FieldId) (n : ℕ) (t u : Term) → IsTerm field n t → IsTerm field n u → IsTerm field n (term_product field t u)
term_product-fits field n t u left right = record {
  exponents = record {
    count = exponents_sum-length field t.exponents u.exponents (left.exponents.count ∙ sym right.exponents.count) ∙ left.exponents.count;
    below = exponents_sum-below field t.exponents u.exponents left.exponents.below right.exponents.below;
  };
  element = product-in_field field t.coefficient u.coefficient left.element;
  nonzero = λ e. right.nonzero (zero-product field t.coefficient u.coefficient left.element right.element left.nonzero e);
}

-- two lists of terms, one behind the other
pub all-append : {A : Type 0} (P : A → Type 0) (xs ys : List A) → AllByRecursion P xs → AllByRecursion P ys → AllByRecursion P (xs ++ ys)
all-append P [] ys left right = right
all-append P (x ∷ xs) ys left right = (left.0, all-append P xs ys left.1 right)

-- a term times all terms of a polynomial
products-with : (field : FieldId) (n : ℕ) (p : Term) (qs : List Term) → IsTerm field n p → AllByRecursion (IsTerm field n) qs
    → AllByRecursion (IsTerm field n) (map (term_product field p) qs)
products-with field n p [] here right = tt
products-with field n p (q ∷ qs) here right = (term_product-fits field n p q here right.0, products-with field n p qs here right.1)

-- the products of all terms are terms
pub products-fit : (field : FieldId) (n : ℕ) (ps qs : List Term) → AllByRecursion (IsTerm field n) ps → AllByRecursion (IsTerm field n) qs
    → AllByRecursion (IsTerm field n) (flat_map (λ p. map (term_product field p) qs) ps)
products-fit field n [] qs left right = tt
products-fit field n (p ∷ ps) qs left right =
    all-append (IsTerm field n) (map (term_product field p) qs) (flat_map (λ r. map (term_product field r) qs) ps)
    (products-with field n p qs left.0 right) (products-fit field n ps qs left.1 right)

-- the product of two polynomials is one
pub polynomial-times : (field : FieldId) (n : ℕ) (ps qs : List Term) → IsPolynomial field n ps → IsPolynomial field n qs
    → IsPolynomial field n (times field ps qs)
polynomial-times field n ps qs left right =
    polynomial-plus field n [] (flat_map (λ p. map (term_product field p) qs) ps) (polynomial-nil field n) (products-fit field n ps qs left.terms right.terms)

-- and so are the squares
pub squares-fit : (field : FieldId) (n : ℕ) (ps : List Term) → AllByRecursion (IsTerm field n) ps
    → AllByRecursion (IsTerm field n) (map (λ p. term_product field p p) ps)
squares-fit field n [] here = tt
squares-fit field n (p ∷ ps) here = (term_product-fits field n p p here.0 here.0, squares-fit field n ps here.1)

-- the square of a polynomial is one
pub polynomial-squared : (field : FieldId) (n : ℕ) (ps : List Term) → IsPolynomial field n ps → IsPolynomial field n (squared field ps)
polynomial-squared field n ps here =
    polynomial-plus field n [] (map (λ p. term_product field p p) ps) (polynomial-nil field n) (squares-fit field n ps here.terms)

-- exponents summed up from the first on, one more of them
pub exponents_sum-more : (field : FieldId) (first second sums : List ℕ) (i : ℕ) (total : List ℕ) → i < length first → length first ≡ length second
    → sums ++ exponents_sum field (drop i first) (drop i second) ≡ total
    → (sums ++ reduced field (slice_index first i + slice_index second i) ∷ []) ++ exponents_sum field (drop (i + 1) first) (drop (i + 1) second) ≡ total
unfolding exponents_sum
exponents_sum-more field first second sums i total within same so_far =
    append_assoc sums (reduced field (slice_index first i + slice_index second i) ∷ []) (exponents_sum field (drop (i + 1) first) (drop (i + 1) second))
    ∙ ap (λ (es : List ℕ). sums ++ exponents_sum field es (slice_index second i ∷ drop (i + 1) second)) (sym (drop_more first i 0 within))
    ∙ ap (λ (es : List ℕ). sums ++ exponents_sum field (drop i first) es) (sym (drop_more second i 0 (omega arith)))
    ∙ so_far

-- none is left
pub exponents_sum-all : (field : FieldId) (first second sums : List ℕ) (i : ℕ) (total : List ℕ) → length first ≤ i
    → sums ++ exponents_sum field (drop i first) (drop i second) ≡ total → sums ≡ total
unfolding exponents_sum
exponents_sum-all field first second sums i total past so_far =
    sym (append-nil sums) ∙ ap (λ (es : List ℕ). sums ++ exponents_sum field es (drop i second)) (sym (drop_all i first past)) ∙ so_far
