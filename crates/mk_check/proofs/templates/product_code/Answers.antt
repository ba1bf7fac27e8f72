-- The product is placed in a code of its own.
use Rattle.std.proofs.Common.{arith, rules, ℕ, ◌≡◌, ◌+◌, ◌-◌, ◌*◌, [], ◌++◌, length, ap, subst, ◌∙◌}
use Rattle.mk_field.specs.declared.field.FieldId.TheVariants.{Gf2}
use Rattle.mk_code.specs.Counting.{AllBelow}
use Rattle.mk_code.specs.Listing.{Listing}
use Rattle.mk_gadget.specs.Product.{product_gadget}
use Rattle.mk_rules.proofs.BuiltIn.{product-template}
use Rattle.mk_check.proofs.Alone.{IsFresh, fresh-from, alone-instrs, alone-outs, alone-whole, product-few, two-ranges, bank-below}
use Rattle.mk_check.proofs.templates.product_code.Goals as goal

pub emit_mul-requires : goal.emit_mul-requires
emit_mul-requires g c =
    let n : ℕ = g.row.N in
    let fresh : IsFresh c.new-builder.result n (2 * n) =
    fresh-from c.new-builder.result n 2 (n - 1) c.new-builder.result.spare c.new.result c.new-builder.ensures (omega (arith, c.requires.shares.0)) in
    (search rules, (c.requires.shares.0, (fresh.order, (omega (arith, ap length fresh.none, product-few n c.requires.shares.1), (bank-below _ 0 n c.from_first.result.regs c.from_first.ensures (omega (arith, fresh.len)), bank-below _ n n c.from_first-2.result.regs c.from_first-2.ensures (omega (arith, fresh.len)))))))

pub finish-requires : goal.finish-requires
finish-requires g c =
    let n : ℕ = g.row.N in
    let fresh : IsFresh c.new-builder.result n (2 * n) =
    fresh-from c.new-builder.result n 2 (n - 1) c.new-builder.result.spare c.new.result c.new-builder.ensures (omega (arith, c.requires.shares.0)) in
    let size : n * 2 ≡ 2 * n = omega arith in
    alone-whole c.new-builder.result c.emit_mul.new.builder n (2 * n) (c.from_first.result.regs ++ c.from_first-2.result.regs) c.in_ok-bank.bank.regs (product_gadget n) fresh (two-ranges n c.from_first.result.regs c.from_first-2.result.regs c.from_first.ensures c.from_first-2.ensures) c.in_ok-bank.ensures.emitted
    c.requires.shares.0 c.requires.shares.1
    (subst (λ (b : ℕ). AllBelow (b + length (product_gadget n).instrs) (product_gadget n).outs) size (product-template Gf2 [] n).within)
    (product-template Gf2 [] n).count c.from_vec.result (c.from_vec.ensures ∙ c.in_ok-outs.ensures.items)

pub returns-clause-instrs : goal.returns-clause-instrs
returns-clause-instrs g c =
    let n : ℕ = g.row.N in
    let fresh : IsFresh c.new-builder.result n (2 * n) =
    fresh-from c.new-builder.result n 2 (n - 1) c.new-builder.result.spare c.new.result c.new-builder.ensures (omega (arith, c.requires.shares.0)) in
    ap (λ (code : Listing). code.instrs) c.finish.ensures
    ∙ alone-instrs c.new-builder.result c.emit_mul.new.builder n (2 * n) (c.from_first.result.regs ++ c.from_first-2.result.regs) c.in_ok-bank.bank.regs (product_gadget n) fresh (two-ranges n c.from_first.result.regs c.from_first-2.result.regs c.from_first.ensures c.from_first-2.ensures) c.in_ok-bank.ensures.emitted

pub returns-clause-outs : goal.returns-clause-outs
returns-clause-outs g c =
    let n : ℕ = g.row.N in
    let fresh : IsFresh c.new-builder.result n (2 * n) =
    fresh-from c.new-builder.result n 2 (n - 1) c.new-builder.result.spare c.new.result c.new-builder.ensures (omega (arith, c.requires.shares.0)) in
    ap (λ (code : Listing). code.outs) c.finish.ensures
    ∙ c.from_vec.ensures ∙ c.in_ok-outs.ensures.items
    ∙ alone-outs c.new-builder.result c.emit_mul.new.builder n (2 * n) (c.from_first.result.regs ++ c.from_first-2.result.regs) c.in_ok-bank.bank.regs (product_gadget n) fresh (two-ranges n c.from_first.result.regs c.from_first-2.result.regs c.from_first.ensures c.from_first-2.ensures) c.in_ok-bank.ensures.emitted
