-- Polynomials in one variable with fewer coefficients than there are elements: one that is 0 at all elements
-- has no coefficient but 0.
use Rattle.std.proofs.Common.{◌≡◌, ℕ, zero, suc, ◌<◌, ◌≤◌, nat_eq, if◌then◌else◌, bit_xor, refl, sym, ◌∙◌, ap, arith, inl, inr}
use Rattle.std.proofs.lemmas.Bool.{cases_eq, eq-eqb, ne_eqb}
use Rattle.mk_field.specs.declared.field.FieldId.{FieldId}
use Rattle.mk_field.specs.Field.{size, product, raised}
use Rattle.mk_field.proofs.Sum.{zero-element, sum-assoc, sum-comm, sum-zero_left, sum-zero_right, sum-in_field, sum-interchange, sum-cancel, sum-cancel_right}
use Rattle.mk_field.proofs.Product.{product-in_field, product-zero_right, product-sum_left, product-sum_right}
use Rattle.mk_pad.specs.Polynomial.{}
use Rattle.mk_field.proofs.Raised.{product-one_right, product-left_comm, raised-in_field, zero-product}

-- c 0 + c 1 a + ... , the first n of them
unfoldable pub horner : FieldId → ℕ → (ℕ → ℕ) → ℕ → ℕ
horner field zero c a = 0
horner field (suc n) c a = bit_xor (c 0) (product field a (horner field n (λ k. c (suc k)) a))

-- coefficients are elements
abbrev pub AreElements : FieldId → (ℕ → ℕ) → Type 0
AreElements field c = (k : ℕ) → c k < size field

-- the value of a polynomial in one variable is an element
pub horner-in_field : (field : FieldId) (n : ℕ) (c : ℕ → ℕ) (a : ℕ) → AreElements field c → a < size field → horner field n c a < size field
unfolding horner
horner-in_field field zero c a elements below = zero-element field
horner-in_field field (suc n) c a elements below =
    sum-in_field field (c 0) (product field a (horner field n (λ k. c (suc k)) a)) (elements 0) (product-in_field field a (horner field n (λ k. c (suc k)) a) below)

-- the coefficients of the quotient by the difference to r
unfoldable quotient : FieldId → ℕ → ℕ → (ℕ → ℕ) → ℕ → ℕ
quotient field r zero c j = 0
quotient field r (suc n) c zero = horner field (suc n) c r
quotient field r (suc n) c (suc j) = quotient field r n (λ k. c (suc k)) j

-- the coefficients of a quotient are elements
quotient-elements : (field : FieldId) (r n : ℕ) (c : ℕ → ℕ) → AreElements field c → r < size field → AreElements field (quotient field r n c)
unfolding quotient
quotient-elements field r zero c elements below j = zero-element field
quotient-elements field r (suc n) c elements below zero = horner-in_field field (suc n) c r elements below
quotient-elements field r (suc n) c elements below (suc j) = quotient-elements field r n (λ k. c (suc k)) (λ k. elements (suc k)) below j

-- what a quotient is for: the value is that at r, plus the difference to r times the quotient
divided : (field : FieldId) (n : ℕ) (c : ℕ → ℕ) (r a : ℕ) → AreElements field c → r < size field → a < size field
    → horner field (suc n) c a ≡ bit_xor (horner field (suc n) c r) (product field (bit_xor a r) (horner field n (quotient field r n (λ k. c (suc k))) a))
unfolding horner quotient
divided field zero c r a elements small below =
    ap (bit_xor (c 0)) (product-zero_right field a ∙ sym (product-zero_right field r))
    ∙ sym (sum-zero_right (bit_xor (c 0) (product field r 0)))
    ∙ ap (bit_xor (bit_xor (c 0) (product field r 0))) (sym (product-zero_right field (bit_xor a r)))
divided field (suc n) c r a elements small below =
    let d : ℕ → ℕ = λ k. c (suc k) in
    let at_r : ℕ = horner field (suc n) d r in
    let rest : ℕ = horner field n (quotient field r n (λ k. d (suc k))) a in
    let first : at_r < size field = horner-in_field field (suc n) d r (λ k. elements (suc k)) small in
    let second : rest < size field = horner-in_field field n (quotient field r n (λ k. d (suc k))) a
    (quotient-elements field r n (λ k. d (suc k)) (λ k. elements (suc (suc k))) small) below in
    let both : bit_xor a r < size field = sum-in_field field a r below small in
    let whole : product field a (horner field (suc n) d a) ≡ bit_xor (product field r at_r) (product field (bit_xor a r) (bit_xor at_r (product field a rest))) =
    ap (product field a) (divided field n d r a (λ k. elements (suc k)) small below)
    ∙ product-sum_right field a at_r (product field (bit_xor a r) rest)
    ∙ ap (bit_xor (product field a at_r)) (product-left_comm field a (bit_xor a r) rest below both second)
    ∙ ap (λ (x : ℕ). bit_xor (product field x at_r) (product field (bit_xor a r) (product field a rest))) (sym (sum-cancel r a) ∙ ap (bit_xor r) (sum-comm r a))
    ∙ ap (λ (x : ℕ). bit_xor x (product field (bit_xor a r) (product field a rest))) (product-sum_left field r (bit_xor a r) at_r small both)
    ∙ sum-assoc (product field r at_r) (product field (bit_xor a r) at_r) (product field (bit_xor a r) (product field a rest))
    ∙ ap (bit_xor (product field r at_r)) (sym (product-sum_right field (bit_xor a r) at_r (product field a rest))) in
    ap (bit_xor (c 0)) whole
    ∙ sym (sum-assoc (c 0) (product field r at_r) (product field (bit_xor a r) (bit_xor at_r (product field a rest))))

-- where coefficients are equal, so are values
pub horner-same : (field : FieldId) (n : ℕ) (c d : ℕ → ℕ) (a : ℕ) → ((k : ℕ) → c k ≡ d k) → horner field n c a ≡ horner field n d a
unfolding horner
horner-same field zero c d a same = refl
horner-same field (suc n) c d a same =
    ap (λ (x : ℕ). bit_xor x (product field a (horner field n (λ k. c (suc k)) a))) (same 0)
    ∙ ap (λ (x : ℕ). bit_xor (d 0) (product field a x)) (horner-same field n (λ k. c (suc k)) (λ k. d (suc k)) a (λ k. same (suc k)))

-- the value of a sum
pub horner-sum : (field : FieldId) (n : ℕ) (c d : ℕ → ℕ) (a : ℕ) → AreElements field c → AreElements field d → a < size field
    → horner field n (λ k. bit_xor (c k) (d k)) a ≡ bit_xor (horner field n c a) (horner field n d a)
unfolding horner
horner-sum field zero c d a left right below = refl
horner-sum field (suc n) c d a left right below =
    let u : ℕ = horner field n (λ k. c (suc k)) a in
    let v : ℕ = horner field n (λ k. d (suc k)) a in
    ap (λ (x : ℕ). bit_xor (bit_xor (c 0) (d 0)) (product field a x)) (horner-sum field n (λ k. c (suc k)) (λ k. d (suc k)) a (λ k. left (suc k)) (λ k. right (suc k)) below)
    ∙ ap (bit_xor (bit_xor (c 0) (d 0))) (product-sum_right field a u v)
    ∙ sum-interchange (c 0) (d 0) (product field a u) (product field a v)

-- no coefficient but 0
pub horner-zeros : (field : FieldId) (n : ℕ) (c : ℕ → ℕ) (a : ℕ) → ((k : ℕ) → k < n → c k ≡ 0) → horner field n c a ≡ 0
unfolding horner
horner-zeros field zero c a zeros = refl
horner-zeros field (suc n) c a zeros =
    ap (λ (x : ℕ). bit_xor x (product field a (horner field n (λ k. c (suc k)) a))) (zeros 0 (omega arith))
    ∙ sum-zero_left (product field a (horner field n (λ k. c (suc k)) a))
    ∙ ap (product field a) (horner-zeros field n (λ k. c (suc k)) a (λ k below. zeros (suc k) (omega arith)))
    ∙ product-zero_right field a

-- a test one number further
shifted : (v j k : ℕ) → (if nat_eq (suc j) (suc k) then v else 0) ≡ (if nat_eq j k then v else 0)
shifted v j k = elim (cases_eq j k) [
  | inl same ↦ rw (eq-eqb j k same, eq-eqb (suc j) (suc k) (ap suc same)) refl
  | inr differs ↦ rw (ne_eqb j k differs, ne_eqb (suc j) (suc k) (λ e. differs (omega arith))) refl
]

-- one coefficient that isn't 0
pub horner-single : (field : FieldId) (n j v a : ℕ) → j < n → v < size field → a < size field
    → horner field n (λ k. if nat_eq j k then v else 0) a ≡ product field v (raised field a j)
unfolding horner raised
horner-single field zero j v a within small below = absurd (omega arith)
horner-single field (suc n) zero v a within small below =
    ap (λ (x : ℕ). bit_xor v (product field a x)) (horner-zeros field n (λ k. if nat_eq 0 (suc k) then v else 0) a (λ k lt. rw (ne_eqb 0 (suc k) (λ e. absurd (omega arith))) refl))
    ∙ ap (bit_xor v) (product-zero_right field a)
    ∙ sum-zero_right v ∙ sym (product-one_right field v small)
horner-single field (suc n) (suc j) v a within small below =
    let rest : ℕ = horner field n (λ k. if nat_eq (suc j) (suc k) then v else 0) a in
    let first : (if nat_eq (suc j) 0 then v else 0) ≡ 0 = rw (ne_eqb (suc j) 0 (λ e. absurd (omega arith))) refl in
    ap (λ (x : ℕ). bit_xor x (product field a rest)) first
    ∙ sum-zero_left (product field a rest)
    ∙ ap (product field a) (horner-same field n (λ k. if nat_eq (suc j) (suc k) then v else 0) (λ k. if nat_eq j k then v else 0) a (λ k. shifted v j k)
    ∙ horner-single field n j v a (omega arith) small below)
    ∙ product-left_comm field a v (raised field a j) below small (raised-in_field field a j below)

-- where the quotient has no coefficient but 0, the polynomial has none but the first
tail-zero : (field : FieldId) (r n : ℕ) (c : ℕ → ℕ) → ((j : ℕ) → j < suc n → quotient field r (suc n) c j ≡ 0)
    → horner field n (λ k. c (suc k)) r ≡ 0
unfolding quotient horner
tail-zero field r zero c zeros = refl
tail-zero field r (suc n) c zeros = zeros 1 (omega arith)

-- where the quotient is 0, so are the coefficients
quotient-zero : (field : FieldId) (r n : ℕ) (c : ℕ → ℕ) → ((j : ℕ) → j < n → quotient field r n c j ≡ 0) → (k : ℕ) → k < n → c k ≡ 0
unfolding quotient horner
quotient-zero field r zero c zeros k within = absurd (omega arith)
quotient-zero field r (suc n) c zeros zero within =
    let rest : ℕ = horner field n (λ k. c (suc k)) r in
    let after : product field r rest ≡ 0 = ap (product field r) (tail-zero field r n c zeros) ∙ product-zero_right field r in
    let here : bit_xor (c 0) (product field r rest) ≡ 0 = zeros 0 (omega arith) in
    sym (sum-zero_right (c 0)) ∙ ap (bit_xor (c 0)) (sym after) ∙ here
quotient-zero field r (suc n) c zeros (suc k) within =
    quotient-zero field r n (λ j. c (suc j)) (λ j below. zeros (suc j) (omega arith)) k (omega arith)

-- a number isn't one below it
differ : {n : ℕ} (a : ℕ) → a < n → a ≡ n → ⊥
differ a below same = absurd (omega arith)

-- the first coefficient, and those behind it
at_each : (n : ℕ) (c : ℕ → ℕ) (k : ℕ) → k < suc n → c 0 ≡ 0 → ((j : ℕ) → j < n → c (suc j) ≡ 0) → c k ≡ 0
at_each n c zero within first tails = first
at_each n c (suc k) within first tails = tails k (omega arith)

-- a polynomial that is 0 at as many elements as it has coefficients has no coefficient but 0
pub all-zero : (field : FieldId) (n : ℕ) (c : ℕ → ℕ) → AreElements field c → n ≤ size field → ((a : ℕ) → a < n → horner field n c a ≡ 0)
    → (k : ℕ) → k < n → c k ≡ 0
unfolding horner
all-zero field zero c elements few zeros k within = absurd (omega arith)
all-zero field (suc n) c elements few zeros k within =
    let d : ℕ → ℕ = λ j. c (suc j) in
    let small : n < size field = omega arith in
    let least : horner field (suc n) c n ≡ 0 = zeros n (omega arith) in
    let q : ℕ → ℕ = quotient field n n d in
    let fine : AreElements field q = quotient-elements field n n d (λ j. elements (suc j)) small in
    let others : (a : ℕ) → a < n → horner field n q a ≡ 0 = λ a below.
    zero-product field (bit_xor a n) (horner field n q a) (sum-in_field field a n (omega arith) small)
    (horner-in_field field n q a fine (omega arith))
    (λ e. absurd (differ a below (sym (sum-cancel_right a n) ∙ ap (λ (x : ℕ). bit_xor x n) e ∙ sum-zero_left n)))
    (sym (sum-zero_left (product field (bit_xor a n) (horner field n q a)))
    ∙ ap (λ (x : ℕ). bit_xor x (product field (bit_xor a n) (horner field n q a))) (sym least)
    ∙ sym (divided field n c n a elements small (omega arith)) ∙ zeros a (omega arith)) in
    let tails : (j : ℕ) → j < n → d j ≡ 0 = quotient-zero field n n d (all-zero field n q fine (omega arith) others) in
    let first : c 0 ≡ 0 =
    sym (sum-zero_right (c 0)) ∙ ap (bit_xor (c 0)) (sym (ap (product field n) (horner-zeros field n d n tails) ∙ product-zero_right field n)) ∙ least in
    at_each n c k within first tails
