-- The products among the blocks so far are listed.
use Rattle.std.proofs.Common.{◌≡◌, ◌<◌, ℕ, Some, length, slice_get}
use Rattle.mk_rules.specs.Products.{products_before}
use Rattle.mk_report.specs.Reached.{IsProduct}
use Rattle.mk_report.proofs.reached.products_of.Given as goal

abbrev pub invariant-loop-block : goal.invariant-loop-block
invariant-loop-block l =
    (length l.products.items ≡ products_before l.blocks l.block)
    × ((b : ℕ) → b < l.block → IsProduct l.blocks b → slice_get l.products.items (products_before l.blocks b) ≡ Some b)
