-- A new code has room for a product, and its first places are shares.
use Rattle.std.proofs.Common.{rules, arith, ◌≡◌, ◌≤◌, ◌+◌, ◌-◌, ◌*◌, ℕ, length, sym, ap, subst}
use Rattle.std.proofs.Math.Nat.{mul-le-mul_left}
use Rattle.mk_code.specs.Counting.{AllBelow}
use Rattle.mk_code.specs.Draft.{Draft, draft_len}
use Rattle.mk_gadget.specs.Product.{product_gadget}
use Rattle.mk_gadget.proofs.Ranges.{AllBelow-range}
use Rattle.mk_layer_rows.proofs.gadgets.built_product.Goals as goal

pub emit_mul-requires : goal.emit_mul-requires
emit_mul-requires g c =
    let n : ℕ = g.row.N in
    let d = c.new-builder.result in
    let below : n ≤ 9 = c.requires.most in
    let less : n - 1 ≤ 9 = omega arith in
    let order : d.order + 1 ≡ n = omega (arith, ap (λ (e : Draft). e.order) c.new-builder.ensures, c.requires.least) in
    let none : length d.instrs ≡ 0 = ap (λ (e : Draft). length e.instrs) c.new-builder.ensures in
    let inputs : draft_len d ≡ 2 * n = omega (arith, ap draft_len c.new-builder.ensures, c.requires.least) in
    let few : length d.instrs + length (product_gadget n).instrs ≤ 8388608 =
    omega (arith, none, (c.cost_law.ensures n).product, mul-le-mul_left n below, mul-le-mul_left n less) in (
      search rules,
      (
        c.requires.least,
        (
          order,
          (
            few,
            (
              subst (AllBelow (draft_len d)) (sym c.from_first-x.ensures) (AllBelow-range (draft_len d) 0 n (omega (arith, inputs))),
              subst (AllBelow (draft_len d)) (sym c.from_first-y.ensures) (AllBelow-range (draft_len d) n n (omega (arith, inputs))),
            ),
          ),
        ),
      ),
    )
