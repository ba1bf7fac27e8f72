-- A gadget is right exactly where the sum of the polynomials of its outs and of the wanted one has no terms.
use Rattle.std.proofs.Common.{◌≡◌, ◌≢◌, ◌⊎◌, ◌↔◌, ℕ, zero, suc, ◌+◌, ◌*◌, ◌<◌, ◌≤◌, Bool, IsTrue, All, List, [], ◌∷◌, ◌++◌, length, map, fold, drop, take, slice_index, bit_xor, refl, sym, ◌∙◌, ap, arith, inl, inr, subst, sum}
use Rattle.std.specs.List.{AllByRecursion, range_with_len}
use Rattle.std.proofs.lemmas.Bool.{cases_lt, cases_eq}
use Rattle.std.proofs.lemmas.List.{length-map, length-append, take-map, drop-map, take_at, drop_at, take-append-drop, drop_more}
use Rattle.std.proofs.lemmas.List.Sums.{sum_by-cons}
use Rattle.std.proofs.lemmas.List.FromFn.{length-range_with_len}
use Rattle.std.proofs.lemmas.List.Elements.{All-from_recursion, All-tail}
use Rattle.mk_field.specs.declared.field.FieldId.{FieldId}
use Rattle.mk_field.specs.Field.{size, product}
use Rattle.mk_field.specs.Sharing.{field_sum}
use Rattle.mk_field.proofs.Sum.{sum-assoc, sum-self, sum-zero_left, sum-zero_right}
use Rattle.mk_code.specs.declared.instr.Instr.{Instr}
use Rattle.mk_code.specs.Counting.{AllBelow, Elements}
use Rattle.mk_code.specs.Listing.{AllFit}
use Rattle.mk_code.specs.Private.{observation}
use Rattle.mk_code.specs.Trace.{takes, randoms, run}
use Rattle.mk_code.proofs.Instrs.{randoms-le}
use Rattle.mk_code.proofs.Runs.{take-run}
use Rattle.mk_code.proofs.Totals.{Elements-nil, Elements-cons, Elements-append, Elements-take, Elements-drop}
use Rattle.mk_pad.specs.declared.kind.GadgetKind.{GadgetKind}
use Rattle.mk_pad.specs.declared.kind.GadgetKind.TheVariants.{Mul, Refresh}
use Rattle.mk_pad.specs.declared.term.Term.{Term}
use Rattle.mk_pad.specs.Form.{GadgetForm, IsGadget, operands, share_count, position_count}
use Rattle.mk_pad.specs.Polynomial.{value, IsPolynomial, plus}
use Rattle.mk_pad.specs.Positions.{variable_count, variable, polynomial_at, next_polynomial, polynomials_from, variables, polynomials}
use Rattle.mk_pad.specs.Laws.{PositionsLaw}
use Rattle.mk_pad.specs.Value.{wanted_value, IsRightAt, HasRightValue, HasWrongValue, sum_all, wanted_polynomial, outs_polynomial, HasRightPolynomials}
use Rattle.mk_pad.proofs.Combining.{polynomial-nil, polynomial-plus, polynomial-times}
use Rattle.mk_pad.proofs.Values.{value-plus, value-times}
use Rattle.mk_pad.proofs.Unique.{no-elements, coefficients-zero, no-terms}
use Rattle.mk_pad.proofs.Equal.{same-of_zero, coefficients-of_none, none-of_coefficients}
use Rattle.mk_pad.proofs.Entries.{variable-fits, variable-at, polynomial_at-fits, polynomials_from-fit, values-run, value-at}

-- variables are polynomials
pub variables-fit : (field : FieldId) (n : ℕ) (vs : List ℕ) → AllByRecursion (IsPolynomial field n) (map (variable n) vs)
variables-fit field n [] = tt
variables-fit field n (v ∷ vs) = (variable-fits field n v, variables-fit field n vs)

-- their values are elements one after the other
variables-at : (field : FieldId) (n k m : ℕ) (xs : List ℕ) → Elements (size field) n xs → k + m ≤ n
    → map (λ ps. value field ps xs) (map (variable n) (range_with_len k m)) ≡ take m (drop k xs)
variables-at field n k zero xs here room = refl
variables-at field n k (suc m) xs here room =
    ap (λ (x : ℕ). x ∷ map (λ ps. value field ps xs) (map (variable n) (range_with_len (k + 1) m))) (variable-at field n k xs here (omega arith))
    ∙ ap (λ (ys : List ℕ). slice_index xs k ∷ ys) (variables-at field n (k + 1) m xs here (omega arith))
    ∙ ap (take (suc m)) (sym (drop_more xs k 0 (omega (arith, here.count))))

-- the polynomials of all positions are polynomials
pub shares-length : (n shares : ℕ) → length (variables n shares) ≡ shares
shares-length n shares = length-map (range_with_len 0 shares) (variable n) ∙ length-range_with_len 0 shares

-- the instructions fit behind the shares
pub shares-fit : (g : GadgetForm) → IsGadget g → AllFit g.field 0 (length (variables (variable_count g) (share_count g))) g.instrs
shares-fit g here = subst (λ (len : ℕ). AllFit g.field 0 len g.instrs) (sym (shares-length (variable_count g) (share_count g))) here.fit

-- all positions have polynomials
pub polynomials-fit : (g : GadgetForm) → IsGadget g → AllByRecursion (IsPolynomial g.field (variable_count g)) (polynomials g)
polynomials-fit g here =
    polynomials_from-fit g.field (variable_count g) g.instrs (share_count g) (variables (variable_count g) (share_count g)) (shares-fit g here)
    (variables-fit g.field (variable_count g) (range_with_len 0 (share_count g)))

-- one position for each share and each instruction
length-polynomials_from : (field : FieldId) (n : ℕ) (is : List Instr) (next : ℕ) (positions : List (List Term))
    → length (polynomials_from field n is next positions) ≡ length positions + length is
unfolding polynomials_from
length-polynomials_from field n [] next positions = omega arith
length-polynomials_from field n (i ∷ is) next positions =
    omega (
      arith,
      length-polynomials_from field n is (next + takes i) (positions ++ next_polynomial field n i next positions ∷ []),
      length-append positions (next_polynomial field n i next positions ∷ []),
    )

-- one for each position
pub polynomials-length : (g : GadgetForm) → length (polynomials g) ≡ position_count g
polynomials-length g =
    length-polynomials_from g.field (variable_count g) g.instrs (share_count g) (variables (variable_count g) (share_count g)) ∙ ap (λ (k : ℕ). k + length g.instrs) (shares-length (variable_count g) (share_count g))

-- the values of the polynomials are the entries of the run
pub polynomials-run : (g : GadgetForm) (shares tape : List ℕ) → IsGadget g → Elements (size g.field) (share_count g) shares
    → Elements (size g.field) (randoms g.instrs) tape
    → map (λ ps. value g.field ps (shares ++ tape)) (polynomials g) ≡ run g.field [] g.instrs tape shares
polynomials-run g shares tape here first second =
    let xs : List ℕ = shares ++ tape in
    let all : Elements (size g.field) (variable_count g) xs = Elements-append (size g.field) (share_count g) (randoms g.instrs) shares tape first second in
    values-run g.field (variable_count g) g.instrs (share_count g) (variables (variable_count g) (share_count g)) xs (shares-fit g here)
    (variables-fit g.field (variable_count g) (range_with_len 0 (share_count g))) all (omega arith)
    ∙ ap (λ (rest : List ℕ). run g.field [] g.instrs rest (map (λ ps. value g.field ps xs) (variables (variable_count g) (share_count g)))) (drop_at shares tape (share_count g) first.count)
    ∙ ap (run g.field [] g.instrs tape)
    (variables-at g.field (variable_count g) 0 (share_count g) xs all (omega arith) ∙ take_at shares tape (share_count g) first.count)

-- the sum of polynomials is one
pub sum_from-fits : (field : FieldId) (n : ℕ) (acc : List Term) (positions : List (List Term)) → IsPolynomial field n acc
    → AllByRecursion (IsPolynomial field n) positions → IsPolynomial field n (fold plus acc positions)
sum_from-fits field n acc [] front fit = front
sum_from-fits field n acc (ps ∷ positions) front fit = sum_from-fits field n (plus acc ps) positions (polynomial-plus field n acc ps front fit.0.terms) fit.1

-- the sum of all polynomials is one
pub sum_all-fits : (field : FieldId) (n : ℕ) (positions : List (List Term)) → AllByRecursion (IsPolynomial field n) positions → IsPolynomial field n (sum_all positions)
sum_all-fits field n positions fit = sum_from-fits field n [] positions (polynomial-nil field n) fit

-- its value is the sum of theirs
sum_from-at : (field : FieldId) (n : ℕ) (acc : List Term) (positions : List (List Term)) (xs : List ℕ) → IsPolynomial field n acc
    → AllByRecursion (IsPolynomial field n) positions
    → value field (fold plus acc positions) xs ≡ bit_xor (value field acc xs) (field_sum (map (λ ps. value field ps xs) positions))
unfolding field_sum
sum_from-at field n acc [] xs front fit = sym (sum-zero_right (value field acc xs))
sum_from-at field n acc (ps ∷ positions) xs front fit =
    sum_from-at field n (plus acc ps) positions xs (polynomial-plus field n acc ps front fit.0.terms) fit.1
    ∙ ap (λ (x : ℕ). bit_xor x (field_sum (map (λ qs. value field qs xs) positions))) (value-plus field n acc ps xs front.terms fit.0.terms)
    ∙ sum-assoc (value field acc xs) (value field ps xs) (field_sum (map (λ qs. value field qs xs) positions))

-- its value is the sum of their values
pub sum_all-at : (field : FieldId) (n : ℕ) (positions : List (List Term)) (xs : List ℕ) → AllByRecursion (IsPolynomial field n) positions
    → value field (sum_all positions) xs ≡ field_sum (map (λ ps. value field ps xs) positions)
unfolding value
sum_all-at field n positions xs fit =
    sum_from-at field n [] positions xs (polynomial-nil field n) fit ∙ sum-zero_left (field_sum (map (λ ps. value field ps xs) positions))

-- the first and the last of what all hold for
pub all-take : (P : List Term → Type 0) (m : ℕ) (positions : List (List Term)) → AllByRecursion P positions → AllByRecursion P (take m positions)
all-take P zero positions fit = tt
all-take P (suc m) [] fit = tt
all-take P (suc m) (ps ∷ positions) fit = (fit.0, all-take P m positions fit.1)

-- what holds of each holds of each from a place on
pub all-drop : (P : List Term → Type 0) (m : ℕ) (positions : List (List Term)) → AllByRecursion P positions → AllByRecursion P (drop m positions)
all-drop P zero positions fit = fit
all-drop P (suc m) [] fit = tt
all-drop P (suc m) (ps ∷ positions) fit = all-drop P m positions fit.1

-- the wanted polynomial is one, and its value is the wanted value
pub wanted-fits : (field : FieldId) (kind : GadgetKind) (n m : ℕ) (positions : List (List Term)) → AllByRecursion (IsPolynomial field n) positions
    → IsPolynomial field n (wanted_polynomial field kind m positions)
wanted-fits field Mul n m positions fit =
    polynomial-times field n (sum_all (take m positions)) (sum_all (drop m positions))
    (sum_all-fits field n (take m positions) (all-take (IsPolynomial field n) m positions fit))
    (sum_all-fits field n (drop m positions) (all-drop (IsPolynomial field n) m positions fit))
wanted-fits field Refresh n m positions fit = sum_all-fits field n positions fit

-- the value of the wanted polynomial is the wanted value
wanted-at : (field : FieldId) (kind : GadgetKind) (n m : ℕ) (positions : List (List Term)) (xs : List ℕ) → AllByRecursion (IsPolynomial field n) positions
    → AllBelow (size field) xs
    → value field (wanted_polynomial field kind m positions) xs ≡ wanted_value field kind m (map (λ ps. value field ps xs) positions)
wanted-at field Mul n m positions xs fit below =
    let v : List Term → ℕ = λ ps. value field ps xs in
    let first = all-take (IsPolynomial field n) m positions fit in
    let second = all-drop (IsPolynomial field n) m positions fit in
    value-times field n (sum_all (take m positions)) (sum_all (drop m positions)) xs
    (sum_all-fits field n (take m positions) first) (sum_all-fits field n (drop m positions) second) below
    ∙ ap (λ (x : ℕ). product field x (value field (sum_all (drop m positions)) xs))
    (sum_all-at field n (take m positions) xs first ∙ ap field_sum (sym (take-map v m positions)))
    ∙ ap (product field (field_sum (take m (map v positions))))
    (sum_all-at field n (drop m positions) xs second ∙ ap field_sum (sym (drop-map v m positions)))
wanted-at field Refresh n m positions xs fit below = sum_all-at field n positions xs fit

-- the polynomials at some positions
pub observed-fit : (field : FieldId) (n : ℕ) (positions : List (List Term)) (outs : List ℕ) → AllByRecursion (IsPolynomial field n) positions
    → AllByRecursion (IsPolynomial field n) (map (polynomial_at positions) outs)
observed-fit field n positions [] fit = tt
observed-fit field n positions (p ∷ outs) fit = (polynomial_at-fits field n positions p fit, observed-fit field n positions outs fit)

-- the values of the polynomials of the outs are what is observed
observed-at : (field : FieldId) (positions : List (List Term)) (outs xs : List ℕ) → All (λ p. p < length positions) outs
    → map (λ ps. value field ps xs) (map (polynomial_at positions) outs) ≡ observation outs (map (λ ps. value field ps xs) positions)
observed-at field positions [] xs within = refl
observed-at field positions (p ∷ outs) xs within =
    let v : List Term → ℕ = λ ps. value field ps xs in
    ap (λ (x : ℕ). x ∷ map v (map (polynomial_at positions) outs)) (value-at field xs positions p (within 0 p (omega arith)))
    ∙ ap (λ (ys : List ℕ). slice_index (map v positions) p ∷ ys)
    (observed-at field positions outs xs (All-tail (λ r. r < length positions) p outs within))

-- the sum of both polynomials
abbrev pub difference : GadgetForm → List Term
difference g = plus (outs_polynomial g) (wanted_polynomial g.field g.kind (g.order + 1) (take (share_count g) (polynomials g)))

-- the sum of the polynomials of the outs is a polynomial
pub outs-fit : (g : GadgetForm) → IsGadget g → IsPolynomial g.field (variable_count g) (outs_polynomial g)
outs-fit g here =
    sum_all-fits g.field (variable_count g) (map (polynomial_at (polynomials g)) g.outs)
    (observed-fit g.field (variable_count g) (polynomials g) g.outs (polynomials-fit g here))

-- and so is the wanted one
pub wanted_of-fit : (g : GadgetForm) → IsGadget g
    → IsPolynomial g.field (variable_count g) (wanted_polynomial g.field g.kind (g.order + 1) (take (share_count g) (polynomials g)))
wanted_of-fit g here =
    wanted-fits g.field g.kind (variable_count g) (g.order + 1) (take (share_count g) (polynomials g))
    (all-take (IsPolynomial g.field (variable_count g)) (share_count g) (polynomials g) (polynomials-fit g here))

-- and the sum of the two
difference-fits : (g : GadgetForm) → IsGadget g → IsPolynomial g.field (variable_count g) (difference g)
difference-fits g here =
    polynomial-plus g.field (variable_count g) (outs_polynomial g) (wanted_polynomial g.field g.kind (g.order + 1) (take (share_count g) (polynomials g)))
    (outs-fit g here) (wanted_of-fit g here).terms

-- its value is the sum of what the outs share and what they should
difference-at : (g : GadgetForm) (shares tape : List ℕ) → IsGadget g → Elements (size g.field) (share_count g) shares
    → Elements (size g.field) (randoms g.instrs) tape
    → value g.field (difference g) (shares ++ tape)
    ≡ bit_xor (field_sum (observation g.outs (run g.field [] g.instrs tape shares))) (wanted_value g.field g.kind (g.order + 1) shares)
difference-at g shares tape here first second =
    let xs : List ℕ = shares ++ tape in
    let v : List Term → ℕ = λ ps. value g.field ps xs in
    let n : ℕ = variable_count g in
    let all : Elements (size g.field) n xs = Elements-append (size g.field) (share_count g) (randoms g.instrs) shares tape first second in
    let entries : map v (polynomials g) ≡ run g.field [] g.instrs tape shares = polynomials-run g shares tape here first second in
    let wanted : List Term = wanted_polynomial g.field g.kind (g.order + 1) (take (share_count g) (polynomials g)) in
    let within : All (λ p. p < length (polynomials g)) g.outs =
    λ k d below. omega (arith, All-from_recursion (λ p. (share_count g ≤ p) × (p < position_count g)) g.outs here.outs.within k d below, polynomials-length g) in
    let left : v (outs_polynomial g) ≡ field_sum (observation g.outs (run g.field [] g.instrs tape shares)) =
    sum_all-at g.field n (map (polynomial_at (polynomials g)) g.outs) xs (observed-fit g.field n (polynomials g) g.outs (polynomials-fit g here))
    ∙ ap field_sum (observed-at g.field (polynomials g) g.outs xs within ∙ ap (observation g.outs) entries) in
    let front : map v (take (share_count g) (polynomials g)) ≡ shares =
    sym (take-map v (share_count g) (polynomials g)) ∙ ap (take (share_count g)) entries
    ∙ ap (λ (k : ℕ). take k (run g.field [] g.instrs tape shares)) (sym first.count) ∙ take-run g.field [] g.instrs tape shares in
    let right : v wanted ≡ wanted_value g.field g.kind (g.order + 1) shares =
    wanted-at g.field g.kind n (g.order + 1) (take (share_count g) (polynomials g)) xs
    (all-take (IsPolynomial g.field n) (share_count g) (polynomials g) (polynomials-fit g here)) all.below
    ∙ ap (wanted_value g.field g.kind (g.order + 1)) front in
    value-plus g.field n (outs_polynomial g) wanted xs (outs-fit g here).terms (wanted_of-fit g here).terms
    ∙ ap (λ (x : ℕ). bit_xor x (v wanted)) left
    ∙ ap (bit_xor (field_sum (observation g.outs (run g.field [] g.instrs tape shares)))) right

-- right at some shares and tape, where the difference is 0 there, and nowhere else
right-at : (g : GadgetForm) (shares tape : List ℕ) → IsGadget g → Elements (size g.field) (share_count g) shares
    → Elements (size g.field) (randoms g.instrs) tape → value g.field (difference g) (shares ++ tape) ≡ 0 → IsRightAt g shares tape
right-at g shares tape here first second is_zero = record {
  count = length-map g.outs (λ p. slice_index (run g.field [] g.instrs tape shares) p) ∙ here.outs.count;
  sum = same-of_zero (field_sum (observation g.outs (run g.field [] g.instrs tape shares))) (wanted_value g.field g.kind (g.order + 1) shares)
      (sym (difference-at g shares tape here first second) ∙ is_zero);
}

-- where the outs are right, the sum of the two is 0
zero-at : (g : GadgetForm) (shares tape : List ℕ) → IsGadget g → Elements (size g.field) (share_count g) shares
    → Elements (size g.field) (randoms g.instrs) tape → IsRightAt g shares tape → value g.field (difference g) (shares ++ tape) ≡ 0
zero-at g shares tape here first second right =
    difference-at g shares tape here first second
    ∙ ap (λ (x : ℕ). bit_xor x (wanted_value g.field g.kind (g.order + 1) shares)) right.sum
    ∙ sum-self (wanted_value g.field g.kind (g.order + 1) shares)

-- a function of an element is 0 at all of them, or not 0 at one
search_below : (m : ℕ) (P Q : ℕ → Type 0) → ((a : ℕ) → a < m → P a ⊎ Q a) → ((a : ℕ) → a < m → P a) ⊎ ((a : ℕ) × (a < m) × Q a)
search_below zero P Q each = inl (λ a below. absurd (omega arith))
search_below (suc m) P Q each = elim (search_below m P Q (λ a below. each a (omega arith))) [
  | inl front ↦ elim (each m (omega arith)) [
    | inl last ↦ inl (λ a below. elim (cases_lt a m) [
      | inl less ↦ front a less
      | inr same ↦ (let e : m ≡ a = omega arith in subst P e last)
    ])
    | inr last ↦ inr (m, (omega arith), last)
  ]
  | inr found ↦ inr (found.0, (omega arith), found.2)
]

-- a function that is 0 with each first element
zero_all : (q n : ℕ) (f : List ℕ → ℕ) → ((a : ℕ) → a < q → (xs : List ℕ) → Elements q n xs → f (a ∷ xs) ≡ 0)
    → (xs : List ℕ) → Elements q (suc n) xs → f xs ≡ 0
unfolding AllBelow
zero_all q n f each [] here = absurd (omega (arith, here.count))
zero_all q n f each (a ∷ xs) here = each a here.below.0 xs (record { count = omega (arith, here.count); below = here.below.1 })

-- a function of n elements is 0 at all of them, or not 0 at some
search_elements : (q n : ℕ) (f : List ℕ → ℕ)
    → ((xs : List ℕ) → Elements q n xs → f xs ≡ 0) ⊎ ((xs : List ℕ) × Elements q n xs × (f xs ≢ 0))
search_elements q zero f = elim (cases_eq (f []) 0) [
  | inl is_zero ↦ inl (λ xs here. ap f (no-elements q xs here) ∙ is_zero)
  | inr nonzero ↦ inr ([], Elements-nil q, nonzero)
]
search_elements q (suc n) f =
    let P : ℕ → Type 0 = λ a. (xs : List ℕ) → Elements q n xs → f (a ∷ xs) ≡ 0 in
    let Q : ℕ → Type 0 = λ a. (xs : List ℕ) × Elements q n xs × (f (a ∷ xs) ≢ 0) in
    elim (search_below q P Q (λ a below. search_elements q n (λ xs. f (a ∷ xs)))) [
      | inl all ↦ inl (zero_all q n f all)
      | inr found ↦ inr (found.0 ∷ found.2.0, Elements-cons q n found.0 found.2.0 found.1 found.2.1, found.2.2)
    ]

-- where there is no difference, the value is right
right-from_none : (g : GadgetForm) → IsGadget g → difference g ≡ [] → HasRightValue g
unfolding value
right-from_none g here none shares tape first second =
    right-at g shares tape here first second (ap (λ (ts : List Term). value g.field ts (shares ++ tape)) none)

-- where the value is right, there is none
none-from_right : (g : GadgetForm) → IsGadget g → HasRightValue g → difference g ≡ []
none-from_right g here right =
    let q : ℕ = size g.field in
    let b : ℕ = share_count g in
    let r : ℕ = randoms g.instrs in
    let fit = difference-fits g here in
    no-terms g.field (variable_count g) (difference g) fit
    (coefficients-zero g.field (variable_count g) (difference g) fit.terms
    (λ xs there. ap (value g.field (difference g)) (sym (take-append-drop b xs))
    ∙ zero-at g (take b xs) (drop b xs) here (Elements-take q b r xs there) (Elements-drop q b r xs there)
    (right (take b xs) (drop b xs) (Elements-take q b r xs there) (Elements-drop q b r xs there))))

-- where there is one, the value is wrong
wrong-from_some : (g : GadgetForm) → IsGadget g → difference g ≢ [] → HasWrongValue g
wrong-from_some g here some =
    let q : ℕ = size g.field in
    let b : ℕ = share_count g in
    let r : ℕ = randoms g.instrs in
    let fit = difference-fits g here in
    elim (search_elements q (variable_count g) (value g.field (difference g))) [
      | inl all ↦ absurd (some (no-terms g.field (variable_count g) (difference g) fit
          (coefficients-zero g.field (variable_count g) (difference g) fit.terms all)))
      | inr found ↦
          let xs : List ℕ = found.0 in (
            take b xs,
            drop b xs,
            Elements-take q b r xs found.1,
            Elements-drop q b r xs found.1,
            λ right. found.2 (ap (value g.field (difference g)) (sym (take-append-drop b xs))
                ∙ zero-at g (take b xs) (drop b xs) here (Elements-take q b r xs found.1) (Elements-drop q b r xs found.1) right),
          )
    ]

-- a test whether there is a difference says whether the polynomials are right
pub tests-polynomials : (g : GadgetForm) (r : Bool) → IsGadget g → (IsTrue r ↔ (difference g ≡ [])) → IsTrue r ↔ HasRightPolynomials g
tests-polynomials g r here test =
    let wanted : List Term = wanted_polynomial g.field g.kind (g.order + 1) (take (share_count g) (polynomials g)) in (
      λ t. coefficients-of_none (outs_polynomial g) wanted (test.0 t),
      λ same. test.1 (none-of_coefficients g.field (variable_count g) (outs_polynomial g) wanted (outs-fit g here) (wanted_of-fit g here) same),
    )

-- whether the value is right
pub tests-right : (g : GadgetForm) (r : Bool) → IsGadget g → (IsTrue r ↔ (difference g ≡ [])) → IsTrue r ↔ HasRightValue g
tests-right g r here test = (λ t. right-from_none g here (test.0 t), λ right. test.1 (none-from_right g here right))

-- and whether it is wrong
pub tests-wrong : (g : GadgetForm) (r : Bool) → IsGadget g → (IsTrue r ↔ (difference g ≡ [])) → (IsTrue r → ⊥) ↔ HasWrongValue g
tests-wrong g r here test = (
  λ no. wrong-from_some g here (λ none. no (test.1 none)),
  λ wrong. λ t. wrong.4 (right-from_none g here (test.0 t) wrong.0 wrong.1 wrong.2 wrong.3),
)

-- how many random elements the instructions take together
pub randoms-sum : (is : List Instr) → sum (map takes is) ≡ randoms is
unfolding randoms
randoms-sum [] = refl
randoms-sum (i ∷ is) = sum_by-cons (λ k. k) (takes i) (map takes is) ∙ ap (λ (k : ℕ). takes i + k) (randoms-sum is)

-- a gadget has few variables
operands-few : (kind : GadgetKind) (m : ℕ) → operands kind * m ≤ 2 * m
operands-few Mul m = omega arith
operands-few Refresh m = omega arith

-- there are few variables
pub variables-few : (g : GadgetForm) → IsGadget g → variable_count g < 1000
variables-few g here = omega (arith, operands-few g.kind (g.order + 1), here.order.1, here.few, randoms-le g.instrs)

-- there are few positions
pub positions-few : (g : GadgetForm) → IsGadget g → position_count g < 1000
positions-few g here = omega (arith, operands-few g.kind (g.order + 1), here.order.1, here.few)

-- the number of variables, as the code counts it
pub own-variables : (g : GadgetForm) (shares count : ℕ) (is : List Instr) → shares ≡ share_count g → is ≡ g.instrs → count ≡ sum (map takes is)
    → shares + count ≡ variable_count g
own-variables g shares count is same own counted = rw (same, counted, own) (ap (λ (k : ℕ). share_count g + k) (randoms-sum g.instrs))

-- the test that the code makes
pub tests-empty : (g : GadgetForm) (positions : List (List Term)) (p : List Term) (r : Bool) → positions ≡ polynomials g
    → p ≡ plus (sum_all (map (polynomial_at positions) g.outs)) (wanted_polynomial g.field g.kind (g.order + 1) (take (share_count g) positions))
    → (IsTrue r ↔ (p ≡ [])) → IsTrue r ↔ (difference g ≡ [])
tests-empty g positions p r same is test =
    let whole : p ≡ difference g =
    is ∙ ap (λ (qs : List (List Term)). plus (sum_all (map (polynomial_at qs) g.outs)) (wanted_polynomial g.field g.kind (g.order + 1) (take (share_count g) qs))) same in
    subst (λ (ts : List Term). IsTrue r ↔ (ts ≡ [])) whole test

-- the law of a gadget's positions holds
pub positions_law-holds : (g : GadgetForm) → IsGadget g → PositionsLaw g
positions_law-holds g here = record { fit = polynomials-fit g here; values = λ shares tape first second. polynomials-run g shares tape here first second }

-- they are polynomials over its field in its variables
pub own-polynomial-list : (g : GadgetForm) (field : FieldId) (n : ℕ) (positions : List (List Term)) → IsGadget g → field ≡ g.field → n ≡ variable_count g
    → positions ≡ polynomials g → AllByRecursion (IsPolynomial field n) positions
own-polynomial-list g field n positions here same all is = rw (same, all, is) (polynomials-fit g here)
