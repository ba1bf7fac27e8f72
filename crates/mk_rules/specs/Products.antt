-- Products among blocks, counted from 0. A refresh is none.
use Rattle.std.specs.Prelude.{◌≡◌, ℕ, zero, suc, ◌+◌, ◌≤◌, List, [], ◌∷◌, length, slice_index, refl}
use Rattle.mk_ssa.specs.declared.Op.{Op}
use Rattle.mk_ssa.specs.declared.Op.TheVariants.{Mul, Refresh}
use Rattle.mk_ssa.specs.declared.Operand.TheVariants.{Secret}

-- 1 for a product
abbrev pub one_product : Op → ℕ
one_product (Mul left right) = 1
one_product op = 0

-- how many products stand before block i
unfoldable pub products_before : List Op → ℕ → ℕ
products_before ops zero = 0
products_before [] (suc i) = 0
products_before (op ∷ ops) (suc i) = one_product op + products_before ops i

-- these are the numbers of products before each block, and before the end
abbrev pub AreNumbers : List Op → List ℕ → Type 0
AreNumbers ops numbers = (i : ℕ) → i ≤ length ops → slice_index numbers i ≡ products_before ops i

-- before the end of a product, a refresh and a product stand two
pub products_before-3 : products_before (Mul (Secret 0) (Secret 1) ∷ Refresh (Secret 0) ∷ Mul (Secret 1) (Secret 1) ∷ []) 3 ≡ 2
unfolding products_before
products_before-3 = refl
