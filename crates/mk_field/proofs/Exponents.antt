-- The powers of 03, and tables of them.
use Rattle.std.proofs.Common.{◌≡◌, ℕ, zero, suc, ◌+◌, ◌<◌, ◌^◌, true, Bool, ◌&&◌, nat_eq, nat_lt, List, [], ◌∷◌, length, slice_index, sym, ◌∙◌, ap, arith}
use Rattle.std.proofs.lemmas.Bool.{and_parts, eqb-true, ltb-true}
use Rattle.mk_field.specs.Field.{byte_product}
use Rattle.mk_field.specs.Powers.{power}
use Rattle.mk_field.proofs.Bytes.{byte_product-below, byte_product-assoc, byte_product-one_right}

-- a power of 03 is a byte
pub power-below : (n : ℕ) → power n < 2 ^ 8
unfolding power
power-below zero = omega arith
power-below (suc n) = byte_product-below (power n) 3 (power-below n)

-- the exponents of a product add up
pub power-sum : (m n : ℕ) → power (m + n) ≡ byte_product (power m) (power n)
unfolding power
power-sum m zero = let e : m + 0 ≡ m = omega arith in ap power e ∙ sym (byte_product-one_right (power m))
power-sum m (suc n) =
    let e : m + suc n ≡ suc (m + n) = omega arith in
    ap power e ∙ ap (λ (x : ℕ). byte_product x 3) (power-sum m n)
    ∙ byte_product-assoc (power m) (power n) 3 (power-below m) (power-below n) (omega arith)

-- the list begins with x, and each element is the one before times 03
unfoldable pub are_powers : ℕ → List ℕ → Bool
are_powers x [] = true
are_powers x (y ∷ ys) = nat_eq y x && are_powers (byte_product x 3) ys

-- an element of a list of powers
pub are_powers-at : (k : ℕ) (ys : List ℕ) (i : ℕ) → are_powers (power k) ys ≡ true → i < length ys → slice_index ys i ≡ power (k + i)
unfolding are_powers power
are_powers-at k [] i test within = absurd (omega arith)
are_powers-at k (y ∷ ys) zero test within =
    let e : k + 0 ≡ k = omega arith in
    eqb-true y (power k) (and_parts (nat_eq y (power k)) (are_powers (power (suc k)) ys) test).0 ∙ ap power (sym e)
are_powers-at k (y ∷ ys) (suc i) test within =
    let e : suc k + i ≡ k + suc i = omega arith in
    are_powers-at (suc k) ys i (and_parts (nat_eq y (power k)) (are_powers (power (suc k)) ys) test).1 (omega arith) ∙ ap power e

-- each element of the list is the exponent below 255 of the next byte, the first byte being a
unfoldable pub are_exponents : List ℕ → ℕ → List ℕ → Bool
are_exponents powers a [] = true
are_exponents powers a (e ∷ es) = nat_lt e 255 && (nat_eq (slice_index powers e) a && are_exponents powers (suc a) es)

-- an element of a list of exponents
pub are_exponents-at : (powers : List ℕ) (a : ℕ) (es : List ℕ) (i : ℕ) → are_exponents powers a es ≡ true → i < length es
    → (slice_index es i < 255) × (slice_index powers (slice_index es i) ≡ a + i)
unfolding are_exponents
are_exponents-at powers a [] i test within = absurd (omega arith)
are_exponents-at powers a (e ∷ es) zero test within =
    let outer = and_parts (nat_lt e 255) (nat_eq (slice_index powers e) a && are_exponents powers (suc a) es) test in
    let inner = and_parts (nat_eq (slice_index powers e) a) (are_exponents powers (suc a) es) outer.1 in
    let same : a ≡ a + 0 = omega arith in
    (ltb-true e 255 outer.0, eqb-true (slice_index powers e) a inner.0 ∙ same)
are_exponents-at powers a (e ∷ es) (suc i) test within =
    let outer = and_parts (nat_lt e 255) (nat_eq (slice_index powers e) a && are_exponents powers (suc a) es) test in
    let inner = and_parts (nat_eq (slice_index powers e) a) (are_exponents powers (suc a) es) outer.1 in
    let rest = are_exponents-at powers (suc a) es i inner.1 (omega arith) in
    let same : suc a + i ≡ a + suc i = omega arith in
    (rest.0, rest.1 ∙ same)
