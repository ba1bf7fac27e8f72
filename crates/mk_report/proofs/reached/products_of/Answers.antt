-- Each product is listed behind those before it.
use Rattle.std.proofs.Common.{◌≡◌, ◌+◌, ◌<◌, ℕ, List, Some, length, slice_get, sym, ◌∙◌, ap, subst, arith}
use Rattle.std.proofs.lemmas.Option.{slice_get_within}
use Rattle.mk_ssa.specs.declared.Op.{Op}
use Rattle.mk_ssa.specs.Operators.{Operator, operator}
use Rattle.mk_ssa.proofs.Lists.{IsSomeAnd-value}
use Rattle.mk_rules.specs.Products.{products_before}
use Rattle.mk_report.specs.Reached.{IsProduct}
use Rattle.mk_report.proofs.Turning.{listed-more, listed-still}
use Rattle.mk_report.proofs.reached.products_of.Goals as goal
use Rattle.mk_report.proofs.reached.products_of.Goals.{then-is_product+in_ok-push, else-is_product}

-- the products before a block are listed
abbrev AreListed : List Op → ℕ → List ℕ → Type 0
AreListed blocks n products =
    (length products ≡ products_before blocks n)
    × ((b : ℕ) → b < n → IsProduct blocks b → slice_get products (products_before blocks b) ≡ Some b)

pub loop-block-init : goal.loop-block-init
unfolding products_before
loop-block-init c = (ap (λ (xs : List ℕ). length xs) c.new-products.ensures.items, λ b below is. absurd (omega (arith, below)))

pub loop-block-preserved : goal.loop-block-preserved
loop-block-preserved c =
    let blocks : List Op = c.args.blocks.now in
    let at : ℕ = c.loop-block.block in
    elim c.if-is_product.branch [
      | then-is_product+in_ok-push w ↦
          subst (AreListed blocks (at + 1)) (sym (ap (λ (v : _). v.items) w.products-is ∙ w.in_ok-push.ensures.items))
          (listed-more blocks c.loop-block.products.items at c.loop-block-test.true (c.is_product.ensures.0 w.if-is_product.true)
          c.loop-block.invariant.0 c.loop-block.invariant.1)
      | else-is_product w ↦
          subst (AreListed blocks (at + 1)) (sym (ap (λ (v : _). v.items) w.products-is))
          (listed-still blocks c.loop-block.products.items at c.loop-block-test.true
          (λ is. absurd (cc (c.is_product.ensures.1 is, w.if-is_product.false))) c.loop-block.invariant.0 c.loop-block.invariant.1)
    ]

pub returns : goal.returns
returns c = λ b is.
    let product : (op : Op) × (slice_get c.args.blocks.now b ≡ Some op) × (operator op ≡ Operator.Mul) =
    IsSomeAnd-value (slice_get c.args.blocks.now b) (λ op. operator op ≡ Operator.Mul) is in
    c.loop-block.invariant.1 b (omega (arith, slice_get_within c.args.blocks.now b product.0 product.1, c.loop-block-test.false)) is
