-- Powers of elements, and products that are 0.
use Rattle.std.proofs.Common.{◌≡◌, ◌≢◌, ℕ, zero, suc, ◌+◌, ◌-◌, ◌<◌, nat_eq, nat_lt, true, ◌||◌, refl, sym, ◌∙◌, ap, arith, inl, inr, lit<, zero-add, suc-add}
use Rattle.std.proofs.lemmas.Bool.{cases_lt, cond-true, cond-false, lt-ltb, le-ltb, agree_below_at, eqb-true, or_cases, cases_eq}
use Rattle.mk_field.specs.declared.field.FieldId.{FieldId}
use Rattle.mk_field.specs.declared.field.FieldId.TheVariants.{Gf2, Gf256}
use Rattle.mk_field.specs.Field.{size, product, byte_product, sum_bits, raised}
use Rattle.mk_field.proofs.Product.{product-comm, product-assoc, product-in_field, product-one_left, product-zero_left, product-zero_right}

-- 1 is an element
pub one-element : (field : FieldId) → 1 < size field
one-element Gf2 = lit< tt
one-element Gf256 = lit< tt

-- an element is a byte
pub element-byte : (field : FieldId) (a : ℕ) → a < size field → a < 256
element-byte Gf2 a below = omega (arith, below)
element-byte Gf256 a below = below

-- an element times 1
pub product-one_right : (field : FieldId) (a : ℕ) → a < size field → product field a 1 ≡ a
product-one_right field a below = product-comm field a 1 below (one-element field) ∙ product-one_left field a below

-- the first two of three factors change places
pub product-left_comm : (field : FieldId) (a b c : ℕ) → a < size field → b < size field → c < size field
    → product field a (product field b c) ≡ product field b (product field a c)
product-left_comm field a b c first second third =
    sym (product-assoc field a b c first second third)
    ∙ ap (λ (x : ℕ). product field x c) (product-comm field a b first second)
    ∙ product-assoc field b a c second first third

-- the middle two of four factors change places
pub product-interchange : (field : FieldId) (a b c d : ℕ) → a < size field → b < size field → c < size field → d < size field
    → product field (product field a b) (product field c d) ≡ product field (product field a c) (product field b d)
product-interchange field a b c d first second third fourth =
    product-assoc field a b (product field c d) first second (product-in_field field c d third)
    ∙ ap (product field a) (product-left_comm field b c d second third fourth)
    ∙ sym (product-assoc field a c (product field b d) first third (product-in_field field b d second))

-- a power of an element is an element
pub raised-in_field : (field : FieldId) (a e : ℕ) → a < size field → raised field a e < size field
unfolding raised
raised-in_field field a zero below = one-element field
raised-in_field field a (suc e) below = product-in_field field a (raised field a e) below

-- the exponents of a product add up
pub raised-sum : (field : FieldId) (a m n : ℕ) → a < size field → raised field a (m + n) ≡ product field (raised field a m) (raised field a n)
unfolding raised
raised-sum field a zero n below = ap (raised field a) (zero-add n) ∙ sym (product-one_left field (raised field a n) (raised-in_field field a n below))
raised-sum field a (suc m) n below =
    ap (raised field a) (suc-add m n) ∙ ap (product field a) (raised-sum field a m n below)
    ∙ sym (product-assoc field a (raised field a m) (raised field a n) below (raised-in_field field a m below) (raised-in_field field a n below))

-- one more square and one more factor
abbrev step : ℕ → ℕ → ℕ
step a b = byte_product (byte_product b b) a

-- a byte to the exponent 255, by seven such steps
abbrev top_power : ℕ → ℕ
top_power a = step a (step a (step a (step a (step a (step a (step a a))))))

-- which is 1 where the byte isn't 0
top_power-one : (a : ℕ) → a < 256 → a ≢ 0 → top_power a ≡ 1
unfolding sum_bits
top_power-one a below nonzero = elim (or_cases (nat_eq a 0) (nat_eq (top_power a) 1) (agree_below_at (λ x. nat_eq x 0 || nat_eq (top_power x) 1) (λ x. true) 256 a refl below)) [
  | inl is_zero ↦ absurd (nonzero (eqb-true a 0 is_zero))
  | inr is_one ↦ eqb-true (top_power a) 1 is_one
]

-- the exponent twice and one more
raised-step : (a e b : ℕ) → a < 256 → raised Gf256 a e ≡ b → raised Gf256 a (e + e + 1) ≡ step a b
unfolding raised
raised-step a e b below is =
    raised-sum Gf256 a (e + e) 1 below
    ∙ ap (product Gf256 (raised Gf256 a (e + e))) (product-one_right Gf256 a below)
    ∙ ap (λ (x : ℕ). byte_product x a) (raised-sum Gf256 a e e below ∙ ap (λ (x : ℕ). byte_product x x) is)

-- a byte that isn't 0, raised to 255, is 1
raised-top : (a : ℕ) → a < 256 → a ≢ 0 → raised Gf256 a 255 ≡ 1
unfolding raised
raised-top a below nonzero =
    let s = step a in
    let one : raised Gf256 a 1 ≡ a = product-one_right Gf256 a below in
    let first : raised Gf256 a 3 ≡ s a = raised-step a 1 a below one in
    let second : raised Gf256 a 7 ≡ s (s a) = raised-step a 3 (s a) below first in
    let third : raised Gf256 a 15 ≡ s (s (s a)) = raised-step a 7 (s (s a)) below second in
    let fourth : raised Gf256 a 31 ≡ s (s (s (s a))) = raised-step a 15 (s (s (s a))) below third in
    let fifth : raised Gf256 a 63 ≡ s (s (s (s (s a)))) = raised-step a 31 (s (s (s (s a)))) below fourth in
    let sixth : raised Gf256 a 127 ≡ s (s (s (s (s (s a))))) = raised-step a 63 (s (s (s (s (s a))))) below fifth in
    raised-step a 127 (s (s (s (s (s (s a)))))) below sixth ∙ top_power-one a below nonzero

-- an element raised to the size of the field is itself
pub raised-size : (field : FieldId) (a : ℕ) → a < size field → raised field a (size field) ≡ a
unfolding raised
raised-size Gf2 zero below = refl
raised-size Gf2 (suc zero) below = refl
raised-size Gf2 (suc (suc a)) below = absurd (omega arith)
raised-size Gf256 a below = elim (cases_eq a 0) [
  | inl is_zero ↦ rw is_zero (product-zero_left Gf256 (raised Gf256 0 255))
  | inr nonzero ↦ ap (product Gf256 a) (raised-top a below nonzero) ∙ product-one_right Gf256 a below
]

-- an element that isn't 0 has an inverse
pub inverse : (field : FieldId) (a : ℕ) → a < size field → a ≢ 0 → (b : ℕ) × (b < size field) × (product field b a ≡ 1)
unfolding raised
inverse Gf2 zero below nonzero = absurd (nonzero refl)
inverse Gf2 (suc zero) below nonzero = (1, below, refl)
inverse Gf2 (suc (suc a)) below nonzero = absurd (omega arith)
inverse Gf256 a below nonzero =
    let b : ℕ = raised Gf256 a 254 in
    let small : b < 256 = raised-in_field Gf256 a 254 below in
    (b, small, product-comm Gf256 b a small below ∙ raised-top a below nonzero)

-- where a product is 0 and the first factor isn't, the second is
pub zero-product : (field : FieldId) (a b : ℕ) → a < size field → b < size field → a ≢ 0 → product field a b ≡ 0 → b ≡ 0
zero-product field a b left right nonzero is_zero =
    let c = inverse field a left nonzero in
    sym (product-one_left field b right)
    ∙ ap (λ (x : ℕ). product field x b) (sym c.2)
    ∙ product-assoc field c.0 a b c.1 left right
    ∙ ap (product field c.0) is_zero
    ∙ product-zero_right field c.0
