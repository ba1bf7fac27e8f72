-- Each product counts for the values behind it.
use Rattle.std.proofs.Common.{◌≡◌, ◌+◌, ◌<◌, ◌≤◌, ◌∷◌, ◌++◌, ℕ, suc, [], List, length, slice_index, slice_index_or, sym, ◌∙◌, ap, arith, inl, inr}
use Rattle.std.proofs.lemmas.Bool.{cases_lt}
use Rattle.std.proofs.lemmas.List.{length-append, get_or_append_left, get_or_push}
use Rattle.std.proofs.lemmas.Option.{slice_get-get_or}
use Rattle.mk_ssa.specs.declared.Op.{Op}
use Rattle.mk_ssa.specs.declared.Op.TheVariants.{Const}
use Rattle.mk_rules.specs.Products.{one_product, products_before}
use Rattle.mk_rules.proofs.Counting.{product-none, product-one, products-next}
use Rattle.mk_rules.proofs.products.product_numbers.Goals as goal
use Rattle.mk_rules.proofs.products.product_numbers.Goals.{then-is_product, else-is_product}

-- one number more
one-more : (ops : List Op) (numbers : List ℕ) (at n : ℕ) → length numbers ≡ at → ((i : ℕ) → i < at → slice_index numbers i ≡ products_before ops i)
    → n ≡ products_before ops at → (i : ℕ) → i < at + 1 → slice_index (numbers ++ n ∷ []) i ≡ products_before ops i
one-more ops numbers at n long each is i below = elim (cases_lt i at) [
  | inl before ↦ get_or_append_left numbers (n ∷ []) 0 i (omega (arith, long, before)) ∙ each i before
  | inr last ↦
      let e : i ≡ at = omega (arith, below, last) in
      ap (slice_index (numbers ++ n ∷ [])) e ∙ get_or_push numbers n 0 at long ∙ is ∙ ap (products_before ops) (sym e)
]

pub loop-at-init : goal.loop-at-init
unfolding products_before
loop-at-init c = (ap (λ (xs : List ℕ). length xs) c.in_ok-numbers.ensures.items, λ i below. absurd (omega (arith, below)), omega arith, omega arith)

pub loop-at-preserved : goal.loop-at-preserved
loop-at-preserved c =
    let ops : List Op = c.args.ops.now in
    let i : ℕ = c.loop-at.at in
    let op : Op = slice_index_or ops i (Const 0) in
    let next : products_before ops (suc i) ≡ one_product op + products_before ops i =
    products-next ops i op (slice_get-get_or ops i (Const 0) (omega (arith, c.loop-at-test.true))) in
    let up : suc i ≡ i + 1 = omega arith in
    let more : products_before ops (i + 1) ≡ one_product op + products_before ops i = ap (products_before ops) (sym up) ∙ next in
    let count : (c.if-is_product.count ≡ products_before ops (i + 1)) × (c.if-is_product.count ≤ i + 1) = elim c.if-is_product.branch [
      | then-is_product w ↦ (
        omega (arith, more, product-one op (c.is_product.ensures.0 w.if-is_product.true), c.loop-at.invariant.2, w.count-is),
        omega (arith, c.loop-at.invariant.3, w.count-is),
      )
      | else-is_product w ↦ (
        omega (arith, more, product-none op (λ is. absurd (cc (c.is_product.ensures.1 is, w.if-is_product.false))), c.loop-at.invariant.2, w.count-is),
        omega (arith, c.loop-at.invariant.3, w.count-is),
      )
    ] in (
      ap (λ (xs : List ℕ). length xs) c.in_ok-push.ensures.items ∙ omega (arith, length-append c.loop-at.numbers.items (c.loop-at.count ∷ []), c.loop-at.invariant.0),
      λ j below. ap (λ (xs : List ℕ). slice_index xs j) c.in_ok-push.ensures.items
          ∙ one-more ops c.loop-at.numbers.items i c.loop-at.count c.loop-at.invariant.0 c.loop-at.invariant.1 c.loop-at.invariant.2 j below,
      count.0,
      count.1,
    )
