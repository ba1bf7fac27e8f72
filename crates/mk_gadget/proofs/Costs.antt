-- What the product and the refresh cost, by the number of pairs.
use Rattle.std.proofs.Common.{arith, ◌≡◌, ℕ, zero, suc, ◌-◌, ◌*◌, ◌/◌, length, ap}
use Rattle.mk_gadget.specs.Pairs.{pairs}
use Rattle.mk_gadget.specs.CostLaw.{CostLaw}
use Rattle.mk_gadget.proofs.Pairs.{twice-pairs}
use Rattle.mk_gadget.proofs.RefreshRun.{length-refresh, randoms-refresh}
use Rattle.mk_gadget.proofs.ProductRows.{length-product, randoms-product}

-- how many pairs there are
pub count-pairs : (n : ℕ) → length (pairs n) ≡ n * (n - 1) / 2
count-pairs zero = omega (arith, twice-pairs 0 0 (omega arith))
count-pairs (suc m) =
    let rest : suc m - 1 ≡ m = omega arith in
    let less : suc m * (suc m - 1) ≡ suc m * m = ap (λ (k : ℕ). suc m * k) rest in
    omega (arith, twice-pairs (suc m) (suc m) (omega arith), less)

-- the law holds
pub CostLaw-holds : (n : ℕ) → CostLaw n
CostLaw-holds n = record {
  product = omega (arith, length-product n, count-pairs n);
  product_randoms = omega (arith, randoms-product n, count-pairs n);
  refresh = omega (arith, length-refresh n, count-pairs n);
  refresh_randoms = omega (arith, randoms-refresh n, count-pairs n);
}
