-- The polynomials of positions: each is one, and its value is the entry of the run.
use Rattle.std.proofs.Common.{◌≡◌, ℕ, zero, suc, ◌+◌, ◌<◌, ◌≤◌, List, [], ◌∷◌, ◌++◌, length, map, replicate, drop, slice_index, slice_set, bit_xor, refl, sym, ◌∙◌, ap, arith, inl, inr, length-append, subst}
use Rattle.std.specs.List.{AllByRecursion}
use Rattle.std.proofs.lemmas.Bool.{cases_eq, eq-eqb, ne_eqb}
use Rattle.std.proofs.lemmas.List.{length-replicate, length-set, get_or-map, map-append, drop-drop}
use Rattle.mk_field.specs.declared.field.FieldId.{FieldId}
use Rattle.mk_field.specs.Field.{size, product, square, raised}
use Rattle.mk_field.proofs.Sum.{sum-zero_right}
use Rattle.mk_field.proofs.Product.{product-one_left, product-in_field}
use Rattle.mk_code.specs.declared.instr.Instr.{Instr}
use Rattle.mk_code.specs.declared.instr.Instr.TheVariants.{Rnd, Const, Copy, Add, Mul, Sq, Map}
use Rattle.mk_code.specs.Counting.{AllBelow, Elements}
use Rattle.mk_code.specs.Listing.{FitsAt, AllFit}
use Rattle.mk_code.specs.Trace.{takes, entry, randoms, run}
use Rattle.mk_code.proofs.Runs.{index-drop}
use Rattle.mk_code.proofs.Steps.{AllBelow-at}
use Rattle.mk_pad.specs.declared.term.Term.{Term}
use Rattle.mk_pad.specs.Polynomial.{monomial_at, value, IsPolynomial}
use Rattle.mk_pad.specs.Positions.{variable, constant, polynomial_at, next_polynomial, polynomials_from}
use Rattle.mk_field.proofs.Raised.{one-element, product-one_right}
use Rattle.mk_pad.proofs.Combining.{polynomial-nil, polynomial-one, polynomial-plus, polynomial-times, polynomial-squared}
use Rattle.mk_pad.proofs.Values.{monomial-in_field, value-plus, value-times, value-squared}

-- zeros, with a 1 among them
zeros-below : (q n : ℕ) → 1 < q → AllBelow q (replicate n 0)
unfolding AllBelow
zeros-below q zero least = tt
zeros-below q (suc n) least = (omega arith, zeros-below q n least)

-- and with a 1 among them they are small too
unit-below : (q n v : ℕ) → 1 < q → AllBelow q (slice_set (replicate n 0) v 1)
unfolding AllBelow
unit-below q zero v least = tt
unit-below q (suc n) zero least = (least, zeros-below q n least)
unit-below q (suc n) (suc v) least = (omega arith, unit-below q n v least)

-- where all exponents are 0 the monomial is 1
zeros-at : (field : FieldId) (xs : List ℕ) → AllBelow (size field) xs → monomial_at field (replicate (length xs) 0) xs ≡ 1
unfolding monomial_at raised AllBelow
zeros-at field [] below = refl
zeros-at field (x ∷ xs) below = ap (product field 1) (zeros-at field xs below.1) ∙ product-one_left field 1 (one-element field)

-- where one of them is 1 the monomial is that variable
unit-at : (field : FieldId) (xs : List ℕ) (v : ℕ) → AllBelow (size field) xs → v < length xs
    → monomial_at field (slice_set (replicate (length xs) 0) v 1) xs ≡ slice_index xs v
unfolding monomial_at raised AllBelow
unit-at field [] v below within = absurd (omega arith)
unit-at field (x ∷ xs) zero below within =
    ap (product field (product field x 1)) (zeros-at field xs below.1)
    ∙ product-one_right field (product field x 1) (product-in_field field x 1 below.0) ∙ product-one_right field x below.0
unit-at field (x ∷ xs) (suc v) below within =
    product-one_left field (monomial_at field (slice_set (replicate (length xs) 0) v 1) xs)
    (monomial-in_field field (slice_set (replicate (length xs) 0) v 1) xs below.1)
    ∙ unit-at field xs v below.1 (omega arith)

-- an element of a slice of elements
pub element-of : (q n : ℕ) (es xs : List ℕ) (v : ℕ) → Elements q n es → xs ≡ es → v < length xs → slice_index xs v < q
element-of q n es xs v here same within = AllBelow-at q xs v (subst (AllBelow q) (sym same) here.below) within

-- a variable is a polynomial
pub variable-fits : (field : FieldId) (n v : ℕ) → IsPolynomial field n (variable n v)
variable-fits field n v = polynomial-one field n (record { exponents = slice_set (replicate n 0) v 1; coefficient = 1 }) (record {
  exponents = record {
    count = length-set (replicate n 0) v 1 ∙ length-replicate n 0;
    below = unit-below (size field) n v (one-element field);
  };
  element = one-element field;
  nonzero = λ e. absurd (omega arith);
})

-- whose value is the element
pub variable-at : (field : FieldId) (n v : ℕ) (xs : List ℕ) → Elements (size field) n xs → v < n → value field (variable n v) xs ≡ slice_index xs v
unfolding value
variable-at field n v xs here within =
    let long : n ≡ length xs = sym here.count in
    let inside : v < length xs = omega (arith, here.count) in
    let is_it : monomial_at field (slice_set (replicate n 0) v 1) xs ≡ slice_index xs v =
    ap (λ (k : ℕ). monomial_at field (slice_set (replicate k 0) v 1) xs) long ∙ unit-at field xs v here.below inside in
    ap (λ (x : ℕ). bit_xor (product field 1 x) 0) is_it
    ∙ sum-zero_right (product field 1 (slice_index xs v))
    ∙ product-one_left field (slice_index xs v) (AllBelow-at (size field) xs v here.below inside)

-- a constant is a polynomial
pub constant-fits : (field : FieldId) (n c : ℕ) → c < size field → IsPolynomial field n (constant n c)
constant-fits field n c below = elim (cases_eq c 0) [
  | inl is_zero ↦ rw (eq-eqb c 0 is_zero) (polynomial-nil field n)
  | inr nonzero ↦
      rw (ne_eqb c 0 nonzero) (polynomial-one field n (record { exponents = replicate n 0; coefficient = c }) (record {
        exponents = record { count = length-replicate n 0; below = zeros-below (size field) n (one-element field) };
        element = below;
        nonzero = nonzero;
      }))
]

-- whose value it is
constant-at : (field : FieldId) (n c : ℕ) (xs : List ℕ) → Elements (size field) n xs → c < size field → value field (constant n c) xs ≡ c
unfolding value
constant-at field n c xs here below = elim (cases_eq c 0) [
  | inl is_zero ↦ rw (eq-eqb c 0 is_zero) (sym is_zero)
  | inr nonzero ↦
      rw (ne_eqb c 0 nonzero)
      (ap (λ (k : ℕ). bit_xor (product field c (monomial_at field (replicate k 0) xs)) 0) (sym here.count)
      ∙ ap (λ (x : ℕ). bit_xor (product field c x) 0) (zeros-at field xs here.below)
      ∙ sum-zero_right (product field c 1) ∙ product-one_right field c below)
]

-- a polynomial of a list of them
pub polynomial_at-fits : (field : FieldId) (n : ℕ) (positions : List (List Term)) (p : ℕ) → AllByRecursion (IsPolynomial field n) positions
    → IsPolynomial field n (polynomial_at positions p)
polynomial_at-fits field n [] p fit = polynomial-nil field n
polynomial_at-fits field n (ps ∷ positions) zero fit = fit.0
polynomial_at-fits field n (ps ∷ positions) (suc p) fit = polynomial_at-fits field n positions p fit.1

-- the polynomial of an instruction is one
pub next_polynomial-fits : (field : FieldId) (n len : ℕ) (i : Instr) (next : ℕ) (positions : List (List Term)) → FitsAt field 0 len i
    → AllByRecursion (IsPolynomial field n) positions → IsPolynomial field n (next_polynomial field n i next positions)
next_polynomial-fits field n len Rnd next positions here fit = variable-fits field n next
next_polynomial-fits field n len (Const c) next positions here fit = constant-fits field n c here
next_polynomial-fits field n len (Copy from) next positions here fit = polynomial_at-fits field n positions from fit
next_polynomial-fits field n len (Add left right) next positions here fit =
    polynomial-plus field n (polynomial_at positions left) (polynomial_at positions right)
    (polynomial_at-fits field n positions left fit) (polynomial_at-fits field n positions right fit).terms
next_polynomial-fits field n len (Mul left right) next positions here fit =
    polynomial-times field n (polynomial_at positions left) (polynomial_at positions right)
    (polynomial_at-fits field n positions left fit) (polynomial_at-fits field n positions right fit)
next_polynomial-fits field n len (Sq from) next positions here fit =
    polynomial-squared field n (polynomial_at positions from) (polynomial_at-fits field n positions from fit)
next_polynomial-fits field n len (Map map from) next positions here fit = absurd (omega (arith, here.0))

-- the value of a position
pub value-at : (field : FieldId) (xs : List ℕ) (positions : List (List Term)) (p : ℕ) → p < length positions
    → value field (polynomial_at positions p) xs ≡ slice_index (map (λ ps. value field ps xs) positions) p
value-at field xs positions p within = sym (get_or-map (λ ps. value field ps xs) positions p [] 0 within)

-- the value of the polynomial of an instruction is its entry
next_polynomial-at : (field : FieldId) (n : ℕ) (i : Instr) (next : ℕ) (positions : List (List Term)) (xs : List ℕ)
    → FitsAt field 0 (length positions) i → AllByRecursion (IsPolynomial field n) positions → Elements (size field) n xs → next + takes i ≤ n
    → value field (next_polynomial field n i next positions) xs ≡ entry field [] i (slice_index xs next) (map (λ ps. value field ps xs) positions)
unfolding value
next_polynomial-at field n Rnd next positions xs here fit elements room = variable-at field n next xs elements (omega arith)
next_polynomial-at field n (Const c) next positions xs here fit elements room = constant-at field n c xs elements here
next_polynomial-at field n (Copy from) next positions xs here fit elements room = value-at field xs positions from here
next_polynomial-at field n (Add left right) next positions xs here fit elements room =
    value-plus field n (polynomial_at positions left) (polynomial_at positions right) xs
    (polynomial_at-fits field n positions left fit).terms (polynomial_at-fits field n positions right fit).terms
    ∙ ap (λ (y : ℕ). bit_xor y (value field (polynomial_at positions right) xs)) (value-at field xs positions left here.0)
    ∙ ap (bit_xor (slice_index (map (λ ps. value field ps xs) positions) left)) (value-at field xs positions right here.1)
next_polynomial-at field n (Mul left right) next positions xs here fit elements room =
    value-times field n (polynomial_at positions left) (polynomial_at positions right) xs
    (polynomial_at-fits field n positions left fit) (polynomial_at-fits field n positions right fit) elements.below
    ∙ ap (λ (y : ℕ). product field y (value field (polynomial_at positions right) xs)) (value-at field xs positions left here.0)
    ∙ ap (product field (slice_index (map (λ ps. value field ps xs) positions) left)) (value-at field xs positions right here.1)
next_polynomial-at field n (Sq from) next positions xs here fit elements room =
    value-squared field n (polynomial_at positions from) xs (polynomial_at-fits field n positions from fit) elements.below
    ∙ ap (square field) (value-at field xs positions from here)
next_polynomial-at field n (Map map from) next positions xs here fit elements room = absurd (omega (arith, here.0))

-- polynomials, and one more
pub fit-push : (field : FieldId) (n : ℕ) (positions : List (List Term)) (ps : List Term) → AllByRecursion (IsPolynomial field n) positions → IsPolynomial field n ps
    → AllByRecursion (IsPolynomial field n) (positions ++ ps ∷ [])
fit-push field n [] ps front last = (last, tt)
fit-push field n (qs ∷ positions) ps front last = (front.0, fit-push field n positions ps front.1 last)

-- the polynomials of all positions fit
pub polynomials_from-fit : (field : FieldId) (n : ℕ) (is : List Instr) (next : ℕ) (positions : List (List Term)) → AllFit field 0 (length positions) is
    → AllByRecursion (IsPolynomial field n) positions → AllByRecursion (IsPolynomial field n) (polynomials_from field n is next positions)
unfolding polynomials_from
polynomials_from-fit field n [] next positions here fit = fit
polynomials_from-fit field n (i ∷ is) next positions here fit =
    let ps : List Term = next_polynomial field n i next positions in
    polynomials_from-fit field n is (next + takes i) (positions ++ ps ∷ [])
    (subst (λ (len : ℕ). AllFit field 0 len is) (sym (length-append positions (ps ∷ []))) here.1)
    (fit-push field n positions ps fit (next_polynomial-fits field n (length positions) i next positions here.0 fit))

-- the values of the polynomials are the entries of the run
pub values-run : (field : FieldId) (n : ℕ) (is : List Instr) (next : ℕ) (positions : List (List Term)) (xs : List ℕ)
    → AllFit field 0 (length positions) is → AllByRecursion (IsPolynomial field n) positions → Elements (size field) n xs → next + randoms is ≤ n
    → map (λ ps. value field ps xs) (polynomials_from field n is next positions)
    ≡ run field [] is (drop next xs) (map (λ ps. value field ps xs) positions)
unfolding polynomials_from run randoms
values-run field n [] next positions xs here fit elements room = refl
values-run field n (i ∷ is) next positions xs here fit elements room =
    let ps : List Term = next_polynomial field n i next positions in
    let entries : List ℕ = map (λ qs. value field qs xs) positions in
    let one : value field ps xs ≡ entry field [] i (slice_index (drop next xs) 0) entries =
    next_polynomial-at field n i next positions xs here.0 fit elements (omega arith)
    ∙ ap (λ (word : ℕ). entry field [] i word entries) (sym (index-drop next xs)) in
    values-run field n is (next + takes i) (positions ++ ps ∷ []) xs
    (subst (λ (len : ℕ). AllFit field 0 len is) (sym (length-append positions (ps ∷ []))) here.1)
    (fit-push field n positions ps fit (next_polynomial-fits field n (length positions) i next positions here.0 fit))
    elements (omega arith)
    ∙ ap (run field [] is (drop (next + takes i) xs)) (map-append (λ qs. value field qs xs) positions (ps ∷ []))
    ∙ ap (λ (x : ℕ). run field [] is (drop (next + takes i) xs) (entries ++ x ∷ [])) one
    ∙ ap (λ (rest : List ℕ). run field [] is rest (entries ++ entry field [] i (slice_index (drop next xs) 0) entries ∷ [])) (sym (drop-drop (takes i) next xs))
