-- The refresh is placed in a code of its own.
use Rattle.std.proofs.Common.{arith, rules, ℕ, ◌≡◌, ◌+◌, ◌-◌, ◌*◌, [], length, ap, subst, ◌∙◌}
use Rattle.mk_field.specs.declared.field.FieldId.TheVariants.{Gf2}
use Rattle.mk_code.specs.Counting.{AllBelow}
use Rattle.mk_code.specs.Listing.{Listing}
use Rattle.mk_gadget.specs.Refresh.{refresh_gadget}
use Rattle.mk_rules.proofs.BuiltIn.{refresh-template}
use Rattle.mk_check.proofs.Alone.{IsFresh, fresh-from, alone-instrs, alone-outs, alone-whole, refresh-few, one-range, bank-below}
use Rattle.mk_check.proofs.templates.refresh_code.Goals as goal

pub emit_refresh-requires : goal.emit_refresh-requires
emit_refresh-requires g c =
    let n : ℕ = g.row.N in
    let fresh : IsFresh c.new-builder.result n (1 * n) =
    fresh-from c.new-builder.result n 1 (n - 1) c.new-builder.result.spare c.new.result c.new-builder.ensures (omega (arith, c.requires.shares.0)) in
    (search rules, (c.requires.shares.0, (fresh.order, (omega (arith, ap length fresh.none, refresh-few n c.requires.shares.1), bank-below _ 0 n c.from_first.result.regs c.from_first.ensures (omega (arith, fresh.len))))))

pub finish-requires : goal.finish-requires
finish-requires g c =
    let n : ℕ = g.row.N in
    let fresh : IsFresh c.new-builder.result n (1 * n) =
    fresh-from c.new-builder.result n 1 (n - 1) c.new-builder.result.spare c.new.result c.new-builder.ensures (omega (arith, c.requires.shares.0)) in
    let size : n * 1 ≡ 1 * n = omega arith in
    alone-whole c.new-builder.result c.emit_refresh.new.builder n (1 * n) c.from_first.result.regs c.in_ok-bank.bank.regs (refresh_gadget n) fresh (one-range n c.from_first.result.regs c.from_first.ensures) c.in_ok-bank.ensures.emitted
    c.requires.shares.0 c.requires.shares.1
    (subst (λ (b : ℕ). AllBelow (b + length (refresh_gadget n).instrs) (refresh_gadget n).outs) size (refresh-template Gf2 [] n).within)
    (refresh-template Gf2 [] n).count c.from_vec.result (c.from_vec.ensures ∙ c.in_ok-outs.ensures.items)

pub returns-clause-instrs : goal.returns-clause-instrs
returns-clause-instrs g c =
    let n : ℕ = g.row.N in
    let fresh : IsFresh c.new-builder.result n (1 * n) =
    fresh-from c.new-builder.result n 1 (n - 1) c.new-builder.result.spare c.new.result c.new-builder.ensures (omega (arith, c.requires.shares.0)) in
    ap (λ (code : Listing). code.instrs) c.finish.ensures
    ∙ alone-instrs c.new-builder.result c.emit_refresh.new.builder n (1 * n) c.from_first.result.regs c.in_ok-bank.bank.regs (refresh_gadget n) fresh (one-range n c.from_first.result.regs c.from_first.ensures) c.in_ok-bank.ensures.emitted

pub returns-clause-outs : goal.returns-clause-outs
returns-clause-outs g c =
    let n : ℕ = g.row.N in
    let fresh : IsFresh c.new-builder.result n (1 * n) =
    fresh-from c.new-builder.result n 1 (n - 1) c.new-builder.result.spare c.new.result c.new-builder.ensures (omega (arith, c.requires.shares.0)) in
    ap (λ (code : Listing). code.outs) c.finish.ensures
    ∙ c.from_vec.ensures ∙ c.in_ok-outs.ensures.items
    ∙ alone-outs c.new-builder.result c.emit_refresh.new.builder n (1 * n) c.from_first.result.regs c.in_ok-bank.bank.regs (refresh_gadget n) fresh (one-range n c.from_first.result.regs c.from_first.ensures) c.in_ok-bank.ensures.emitted
