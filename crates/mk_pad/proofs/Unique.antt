-- A polynomial that is 0 at all elements has no terms.
use Rattle.std.proofs.Common.{◌≡◌, ◌≢◌, ℕ, zero, suc, ◌<◌, true, false, ◌&&◌, nat_eq, if◌then◌else◌, List, [], ◌∷◌, drop, slice_index, bit_xor, refl, sym, ◌∙◌, ap, arith, inl, inr}
use Rattle.std.specs.List.{AllByRecursion}
use Rattle.std.specs.Str.{bytes_eq}
use Rattle.std.proofs.lemmas.Bool.{cases_eq, eq-eqb, ne_eqb, cases_Bool}
use Rattle.std.proofs.lemmas.Slice.Eq.{bytes_eq-Decides}
use Rattle.mk_field.specs.declared.field.FieldId.{FieldId}
use Rattle.mk_field.specs.Field.{size, product, raised}
use Rattle.mk_field.proofs.Sum.{zero-element, sum-assoc, sum-comm, sum-zero_left, sum-zero_right}
use Rattle.mk_field.proofs.Product.{product-comm, product-assoc, product-in_field}
use Rattle.mk_code.specs.Counting.{AllBelow, Elements}
use Rattle.mk_code.proofs.Totals.{Elements-cons}
use Rattle.mk_pad.specs.declared.term.Term.{Term}
use Rattle.mk_pad.specs.Polynomial.{monomial_at, term_at, value, coefficient_at, IsTerm, IsPolynomial, AllDiffer, with_coefficient, with_term, plus}
use Rattle.mk_field.proofs.Raised.{product-one_right, raised-in_field}
use Rattle.mk_pad.proofs.Combining.{with_term-same, with_term-other, exponents-cases}
use Rattle.mk_pad.proofs.Values.{monomial-in_field, value-in_field}
use Rattle.mk_pad.proofs.Roots.{horner, horner-same, horner-sum, horner-zeros, horner-single, all-zero}

-- a term without its first variable
abbrev without : Term → Term
without t = record t { exponents = drop 1 t.exponents }

-- the terms in which the first variable has the exponent k, without it
unfoldable part : ℕ → List Term → List Term
part k [] = []
part k (t ∷ ts) = if nat_eq (slice_index t.exponents 0) k then without t ∷ part k ts else part k ts

-- the first of some elements, and the others
elements-head : (q n : ℕ) (es : List ℕ) → Elements q (suc n) es → slice_index es 0 < q
unfolding AllBelow
elements-head q n [] here = absurd (omega (arith, here.count))
elements-head q n (e ∷ es) here = here.below.0

-- the other exponents
elements-tail : (q n : ℕ) (es : List ℕ) → Elements q (suc n) es → Elements q n (drop 1 es)
unfolding AllBelow
elements-tail q n [] here = absurd (omega (arith, here.count))
elements-tail q n (e ∷ es) here = record { count = omega (arith, here.count); below = here.below.1 }

-- a term without its first variable is a term
without-fits : (field : FieldId) (n : ℕ) (t : Term) → IsTerm field (suc n) t → IsTerm field n (without t)
without-fits field n t here = record { exponents = elements-tail (size field) n t.exponents here.exponents; element = here.element; nonzero = here.nonzero }

-- so are those of one exponent of the first variable
part-fits : (field : FieldId) (n k : ℕ) (ts : List Term) → AllByRecursion (IsTerm field (suc n)) ts → AllByRecursion (IsTerm field n) (part k ts)
unfolding part
part-fits field n k [] here = tt
part-fits field n k (t ∷ ts) here = elim (cases_eq (slice_index t.exponents 0) k) [
  | inl same ↦ rw (eq-eqb (slice_index t.exponents 0) k same) (without-fits field n t here.0, part-fits field n k ts here.1)
  | inr differ ↦ rw (ne_eqb (slice_index t.exponents 0) k differ) (part-fits field n k ts here.1)
]

-- the first variable's power is a factor of the monomial
monomial-split : (field : FieldId) (q n : ℕ) (es : List ℕ) (x : ℕ) (xs : List ℕ) → Elements q (suc n) es
    → monomial_at field es (x ∷ xs) ≡ product field (raised field x (slice_index es 0)) (monomial_at field (drop 1 es) xs)
unfolding monomial_at
monomial-split field q n [] x xs here = absurd (omega (arith, here.count))
monomial-split field q n (e ∷ es) x xs here = refl

-- a term is a power of the first variable times the rest
term-split : (field : FieldId) (n : ℕ) (t : Term) (x : ℕ) (xs : List ℕ) → IsTerm field (suc n) t → x < size field → AllBelow (size field) xs
    → product field (term_at field (without t) xs) (raised field x (slice_index t.exponents 0)) ≡ term_at field t (x ∷ xs)
term-split field n t x xs here small below =
    let m : ℕ = monomial_at field (drop 1 t.exponents) xs in
    let p : ℕ = raised field x (slice_index t.exponents 0) in
    let first : m < size field = monomial-in_field field (drop 1 t.exponents) xs below in
    let second : p < size field = raised-in_field field x (slice_index t.exponents 0) small in
    product-assoc field t.coefficient m p here.element first second
    ∙ ap (product field t.coefficient) (product-comm field m p first second ∙ sym (monomial-split field (size field) n t.exponents x xs here.exponents))

-- the value of a part of one term more
value-part : (field : FieldId) (k : ℕ) (t : Term) (ts : List Term) (xs : List ℕ)
    → value field (part k (t ∷ ts)) xs ≡ bit_xor (if nat_eq (slice_index t.exponents 0) k then term_at field (without t) xs else 0) (value field (part k ts) xs)
unfolding value part
value-part field k t ts xs = elim (cases_eq (slice_index t.exponents 0) k) [
  | inl same ↦ rw (eq-eqb (slice_index t.exponents 0) k same) refl
  | inr differ ↦ rw (ne_eqb (slice_index t.exponents 0) k differ) (sym (sum-zero_left (value field (part k ts) xs)))
]

-- the coefficient that a term gives is an element
single-element : (field : FieldId) (j k v : ℕ) → v < size field → (if nat_eq j k then v else 0) < size field
single-element field j k v below = elim (cases_eq j k) [
  | inl same ↦ rw (eq-eqb j k same) below
  | inr differ ↦ rw (ne_eqb j k differ) (zero-element field)
]

-- the value by the powers of the first variable
parts-value : (field : FieldId) (n : ℕ) (ts : List Term) (x : ℕ) (xs : List ℕ) → AllByRecursion (IsTerm field (suc n)) ts
    → x < size field → AllBelow (size field) xs
    → horner field (size field) (λ k. value field (part k ts) xs) x ≡ value field ts (x ∷ xs)
unfolding value part
parts-value field n [] x xs here small below = horner-zeros field (size field) (λ k. 0) x (λ k lt. refl)
parts-value field n (t ∷ ts) x xs here small below =
    let j : ℕ = slice_index t.exponents 0 in
    let v : ℕ = term_at field (without t) xs in
    let c : ℕ → ℕ = λ k. if nat_eq j k then v else 0 in
    let d : ℕ → ℕ = λ k. value field (part k ts) xs in
    let small_v : v < size field = product-in_field field t.coefficient (monomial_at field (drop 1 t.exponents) xs) here.0.element in
    horner-same field (size field) (λ k. value field (part k (t ∷ ts)) xs) (λ k. bit_xor (c k) (d k)) x (λ k. value-part field k t ts xs)
    ∙ horner-sum field (size field) c d x (λ k. single-element field j k v small_v) (λ k. value-in_field field n (part k ts) xs (part-fits field n k ts here.1)) small
    ∙ ap (λ (y : ℕ). bit_xor y (horner field (size field) d x))
    (horner-single field (size field) j v x (elements-head (size field) n t.exponents here.0.exponents) small_v small ∙ term-split field n t x xs here.0 small below)
    ∙ ap (bit_xor (term_at field t (x ∷ xs))) (parts-value field n ts x xs here.1 small below)

-- exponents are compared variable by variable
bytes_eq-split : (q n : ℕ) (hs : List ℕ) (e : ℕ) (es : List ℕ) → Elements q (suc n) hs
    → bytes_eq hs (e ∷ es) ≡ (nat_eq (slice_index hs 0) e && bytes_eq (drop 1 hs) es)
bytes_eq-split q n [] e es here = absurd (omega (arith, here.count))
bytes_eq-split q n (h ∷ hs) e es here = refl

-- the coefficient is that of a part
coefficient-part : (field : FieldId) (n e : ℕ) (es : List ℕ) (ts : List Term) → AllByRecursion (IsTerm field (suc n)) ts
    → coefficient_at (e ∷ es) ts ≡ coefficient_at es (part e ts)
unfolding coefficient_at part
coefficient-part field n e es [] here = refl
coefficient-part field n e es (t ∷ ts) here =
    let split = bytes_eq-split (size field) n t.exponents e es here.0.exponents in
    let rest = coefficient-part field n e es ts here.1 in
    elim (cases_eq (slice_index t.exponents 0) e) [
      | inl same ↦ rw (split, eq-eqb (slice_index t.exponents 0) e same, rest) refl
      | inr differ ↦ rw (split, ne_eqb (slice_index t.exponents 0) e differ, rest) (sum-zero_left (coefficient_at es (part e ts)))
    ]

-- there are none of no elements
pub no-elements : (q : ℕ) (es : List ℕ) → Elements q 0 es → es ≡ []
no-elements q [] here = refl
no-elements q (e ∷ es) here = absurd (omega (arith, here.count))

-- with no variables there is one coefficient, which is the value
constant-value : (field : FieldId) (ts : List Term) → AllByRecursion (IsTerm field 0) ts → value field ts [] ≡ coefficient_at [] ts
unfolding value coefficient_at monomial_at
constant-value field [] here = refl
constant-value field (t ∷ ts) here =
    let none : t.exponents ≡ [] = no-elements (size field) t.exponents here.0.exponents in
    rw (none, constant-value field ts here.1) (ap (λ (x : ℕ). bit_xor x (coefficient_at [] ts)) (product-one_right field t.coefficient here.0.element))

-- where a polynomial is 0 at all elements, each coefficient is 0
pub coefficients-zero : (field : FieldId) (n : ℕ) (ts : List Term) → AllByRecursion (IsTerm field n) ts
    → ((xs : List ℕ) → Elements (size field) n xs → value field ts xs ≡ 0)
    → (es : List ℕ) → Elements (size field) n es → coefficient_at es ts ≡ 0
unfolding AllBelow
coefficients-zero field zero ts fit zeros [] here =
    sym (constant-value field ts fit) ∙ zeros [] (record { count = refl; below = tt })
coefficients-zero field zero ts fit zeros (e ∷ es) here = absurd (omega (arith, here.count))
coefficients-zero field (suc n) ts fit zeros [] here = absurd (omega (arith, here.count))
coefficients-zero field (suc n) ts fit zeros (e ∷ es) here =
    coefficient-part field n e es ts fit
    ∙ coefficients-zero field n (part e ts) (part-fits field n e ts fit)
    (λ xs there. all-zero field (size field) (λ k. value field (part k ts) xs) (λ k. value-in_field field n (part k ts) xs (part-fits field n k ts fit))
    (omega arith) (λ a below. parts-value field n ts a xs fit below there.below ∙ zeros (a ∷ xs) (Elements-cons (size field) n a xs below there))
    e here.below.0)
    es (record { count = omega (arith, here.count); below = here.below.1 })

-- no term has these exponents
coefficient-absent : (es : List ℕ) (ts : List Term) → AllByRecursion (λ u. es ≢ u.exponents) ts → coefficient_at es ts ≡ 0
unfolding coefficient_at
coefficient-absent es [] absent = refl
coefficient-absent es (t ∷ ts) absent = elim (cases_Bool (bytes_eq t.exponents es)) [
  | inl same ↦ absurd (absent.0 (sym ((bytes_eq-Decides t.exponents es).0 same)))
  | inr other ↦ rw (other, coefficient-absent es ts absent.1) refl
]

-- a polynomial whose coefficients are 0 has no terms
pub no-terms : (field : FieldId) (n : ℕ) (ts : List Term) → IsPolynomial field n ts
    → ((es : List ℕ) → Elements (size field) n es → coefficient_at es ts ≡ 0) → ts ≡ []
unfolding coefficient_at AllDiffer
no-terms field n [] here zeros = refl
no-terms field n (t ∷ ts) here zeros =
    let same : bytes_eq t.exponents t.exponents ≡ true = (bytes_eq-Decides t.exponents t.exponents).1 refl in
    let is_zero : coefficient_at t.exponents (t ∷ ts) ≡ 0 = zeros t.exponents here.terms.0.exponents in
    let is_it : coefficient_at t.exponents (t ∷ ts) ≡ t.coefficient =
    rw (same, coefficient-absent t.exponents ts here.differ.0) (sum-zero_right t.coefficient) in
    absurd (here.terms.0.nonzero (sym is_it ∙ is_zero))

-- the coefficients with another coefficient
coefficient-with_coefficient : (es : List ℕ) (u : Term) (c : ℕ) (us : List Term)
    → coefficient_at es (with_coefficient u c us) ≡ bit_xor (if bytes_eq u.exponents es then c else 0) (coefficient_at es us)
unfolding coefficient_at
coefficient-with_coefficient es u c us = elim (cases_eq c 0) [
  | inl is_zero ↦ elim (cases_Bool (bytes_eq u.exponents es)) [
    | inl same ↦ rw (is_zero, same) (sym (sum-zero_left (coefficient_at es us)))
    | inr other ↦ rw (is_zero, other) (sym (sum-zero_left (coefficient_at es us)))
  ]
  | inr nonzero ↦ rw (ne_eqb c 0 nonzero) refl
]

-- two coefficients at the same exponents
coefficient-joined : (es fs gs : List ℕ) (c d r : ℕ) → fs ≡ gs
    → bit_xor (if bytes_eq fs es then bit_xor c d else 0) r
    ≡ bit_xor (bit_xor (if bytes_eq fs es then c else 0) r) (if bytes_eq gs es then d else 0)
coefficient-joined es fs gs c d r same = elim (cases_Bool (bytes_eq fs es)) [
  | inl here ↦
      let there : bytes_eq gs es ≡ true = ap (λ (hs : List ℕ). bytes_eq hs es) (sym same) ∙ here in
      rw (here, there) (sum-assoc c d r ∙ ap (bit_xor c) (sum-comm d r) ∙ sym (sum-assoc c r d))
  | inr here ↦
      let there : bytes_eq gs es ≡ false = ap (λ (hs : List ℕ). bytes_eq hs es) (sym same) ∙ here in
      rw (here, there) (sym (sum-zero_right (bit_xor 0 r)))
]

-- the coefficients with one term more
coefficient-with_term : (es : List ℕ) (us : List Term) (t : Term)
    → coefficient_at es (with_term us t) ≡ bit_xor (coefficient_at es us) (if bytes_eq t.exponents es then t.coefficient else 0)
unfolding coefficient_at with_term
coefficient-with_term es [] t = sum-comm (if bytes_eq t.exponents es then t.coefficient else 0) 0
coefficient-with_term es (u ∷ us) t = elim (exponents-cases u.exponents t.exponents) [
  | inl same ↦
      ap (coefficient_at es) (with_term-same u t us same)
      ∙ coefficient-with_coefficient es u (bit_xor u.coefficient t.coefficient) us
      ∙ coefficient-joined es u.exponents t.exponents u.coefficient t.coefficient (coefficient_at es us) same
  | inr differ ↦
      ap (coefficient_at es) (with_term-other u t us differ)
      ∙ ap (bit_xor (if bytes_eq u.exponents es then u.coefficient else 0)) (coefficient-with_term es us t)
      ∙ sym (sum-assoc (if bytes_eq u.exponents es then u.coefficient else 0) (coefficient_at es us) (if bytes_eq t.exponents es then t.coefficient else 0))
]

-- the coefficients of a sum
pub coefficient-plus : (es : List ℕ) (us ts : List Term)
    → coefficient_at es (plus us ts) ≡ bit_xor (coefficient_at es us) (coefficient_at es ts)
unfolding coefficient_at
coefficient-plus es us [] = sym (sum-zero_right (coefficient_at es us))
coefficient-plus es us (t ∷ ts) =
    coefficient-plus es (with_term us t) ts
    ∙ ap (λ (x : ℕ). bit_xor x (coefficient_at es ts)) (coefficient-with_term es us t)
    ∙ sum-assoc (coefficient_at es us) (if bytes_eq t.exponents es then t.coefficient else 0) (coefficient_at es ts)
