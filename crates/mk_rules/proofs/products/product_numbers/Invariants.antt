-- The products so far are counted.
use Rattle.std.proofs.Common.{◌≡◌, ◌<◌, ◌≤◌, ℕ, length, slice_index}
use Rattle.mk_rules.specs.Products.{products_before}
use Rattle.mk_rules.proofs.products.product_numbers.Given as goal

abbrev pub invariant-loop-at : goal.invariant-loop-at
invariant-loop-at l =
    (length l.numbers.items ≡ l.at)
    × ((i : ℕ) → i < l.at → slice_index l.numbers.items i ≡ products_before l.ops i)
    × (l.count ≡ products_before l.ops l.at)
    × (l.count ≤ l.at)
