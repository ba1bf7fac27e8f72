-- How many products stand before a block: it tells the products from one another.
use Rattle.std.proofs.Common.{◌≡◌, ℕ, zero, suc, ◌+◌, ◌<◌, ◌≤◌, Some, List, [], ◌∷◌, slice_get, refl, ap, arith, inl, inr}
use Rattle.std.proofs.lemmas.Bool.{cases_order}
use Rattle.std.proofs.lemmas.Option.{same_Some}
use Rattle.mk_ssa.specs.declared.Op.{Op}
use Rattle.mk_ssa.specs.declared.Op.TheVariants.{Mul}
use Rattle.mk_ssa.specs.Kinds.{Strong, kind}
use Rattle.mk_ssa.specs.Operators.{Operator, operator}
use Rattle.mk_rules.specs.Products.{one_product, products_before}

-- a product is one
pub product-one : (op : Op) → operator op ≡ Operator.Mul → one_product op ≡ 1
product-one (Mul left right) is = refl
product-one _ is = absurd (cc (is))

-- it is strong
pub product-strong : (op : Op) → operator op ≡ Operator.Mul → kind op ≡ Strong
product-strong (Mul left right) is = refl
product-strong _ is = absurd (cc (is))

-- another operator is none
pub product-none : (op : Op) → (operator op ≡ Operator.Mul → ⊥) → one_product op ≡ 0
product-none (Mul left right) other = absurd (other refl)
product-none _ other = refl

-- a product counts for the blocks behind it
pub products-next : (ops : List Op) (i : ℕ) (op : Op) → slice_get ops i ≡ Some op → products_before ops (suc i) ≡ one_product op + products_before ops i
unfolding products_before
products-next [] i op there = absurd (cc)
products-next (x ∷ ops) zero op there = omega (arith, ap (λ (y : Op). one_product y) (same_Some x op there))
products-next (x ∷ ops) (suc i) op there = omega (arith, products-next ops i op there)

-- before a later block stand no fewer
pub products-up : (ops : List Op) (i j : ℕ) → i ≤ j → products_before ops i ≤ products_before ops j
unfolding products_before
products-up ops zero j before = omega arith
products-up ops (suc i) zero before = absurd (omega (arith, before))
products-up [] (suc i) (suc j) before = omega arith
products-up (x ∷ ops) (suc i) (suc j) before = omega (arith, products-up ops i j (omega (arith, before)))

-- before a block behind a product stand more than before the product
pub products-more : (ops : List Op) (i j : ℕ) (op : Op) → slice_get ops i ≡ Some op → operator op ≡ Operator.Mul → i < j → products_before ops i < products_before ops j
products-more ops i j op there product before =
    omega (arith, products-next ops i op there, product-one op product, products-up ops (suc i) j (omega (arith, before)))

-- before two products stand different numbers of them
pub products-once : (ops : List Op) (i j : ℕ) (x y : Op) → slice_get ops i ≡ Some x → operator x ≡ Operator.Mul → slice_get ops j ≡ Some y → operator y ≡ Operator.Mul
    → products_before ops i ≡ products_before ops j → i ≡ j
products-once ops i j x y there product also other same = elim (cases_order i j) [
  | inl equal ↦ equal
  | inr (inl below) ↦ absurd (omega (arith, same, products-more ops i j x there product below))
  | inr (inr above) ↦ absurd (omega (arith, same, products-more ops j i y also other above))
]
