-- Powers with reduced exponents.
use Rattle.std.proofs.Common.{◌≡◌, ℕ, suc, ◌+◌, ◌-◌, ◌<◌, nat_lt, sym, ◌∙◌, ap, arith, inl, inr}
use Rattle.std.proofs.lemmas.Bool.{cases_lt, cond-true, cond-false, lt-ltb, le-ltb}
use Rattle.mk_field.specs.declared.field.FieldId.{FieldId}
use Rattle.mk_field.specs.Field.{size, product, raised}
use Rattle.mk_field.proofs.Product.{product-comm}
use Rattle.mk_field.proofs.Raised.{one-element, raised-in_field, raised-sum, raised-size}
use Rattle.mk_pad.specs.Polynomial.{reduced}

-- a reduced exponent gives the same power
pub raised-reduced : (field : FieldId) (a e : ℕ) → a < size field → raised field a (reduced field e) ≡ raised field a e
unfolding raised
raised-reduced field a e below = elim (cases_lt e (size field)) [
  | inl small ↦ ap (raised field a) (cond-true (nat_lt e (size field)) e (e - (size field - 1)) (lt-ltb e (size field) small))
  | inr great ↦
      let rest : ℕ = e - size field in
      let least : 1 < size field = one-element field in
      let after : e - (size field - 1) ≡ suc rest = omega arith in
      let before : e ≡ rest + size field = omega arith in
      ap (raised field a) (cond-false (nat_lt e (size field)) e (e - (size field - 1)) (le-ltb e (size field) great) ∙ after)
      ∙ product-comm field a (raised field a rest) below (raised-in_field field a rest below)
      ∙ ap (product field (raised field a rest)) (sym (raised-size field a below))
      ∙ sym (raised-sum field a rest (size field) below) ∙ ap (raised field a) (sym before)
]

-- the sum of two reduced exponents, reduced
pub reduced-below : (field : FieldId) (x y : ℕ) → x < size field → y < size field → reduced field (x + y) < size field
reduced-below field x y left right = elim (cases_lt (x + y) (size field)) [
  | inl small ↦ rw (cond-true (nat_lt (x + y) (size field)) (x + y) (x + y - (size field - 1)) (lt-ltb (x + y) (size field) small)) small
  | inr great ↦
      rw (cond-false (nat_lt (x + y) (size field)) (x + y) (x + y - (size field - 1)) (le-ltb (x + y) (size field) great))
      (omega (arith, one-element field))
]
