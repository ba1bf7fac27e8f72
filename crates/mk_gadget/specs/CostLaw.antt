-- What the product and the refresh cost.
use Rattle.std.specs.Prelude.{◌≡◌, ℕ, ◌+◌, ◌-◌, ◌*◌, ◌/◌, length}
use Rattle.mk_code.specs.Trace.{randoms}
use Rattle.mk_gadget.specs.Product.{product_gadget}
use Rattle.mk_gadget.specs.Refresh.{refresh_gadget}

-- each pair of shares takes a random element and five instructions in the product, and three in the refresh;
-- the rows of the product have as many instructions each as there are shares
pub record CostLaw (n : ℕ) : Type 0 where
  pub product : length (product_gadget n).instrs ≡ n * n + 5 * (n * (n - 1) / 2)
  pub product_randoms : randoms (product_gadget n).instrs ≡ n * (n - 1) / 2
  pub refresh : length (refresh_gadget n).instrs ≡ 3 * (n * (n - 1) / 2)
  pub refresh_randoms : randoms (refresh_gadget n).instrs ≡ n * (n - 1) / 2
