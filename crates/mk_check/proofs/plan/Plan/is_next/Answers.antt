-- The next instruction is that of the template.
use Rattle.std.proofs.Common.{◌≡◌, ◌-◌, ℕ, slice_get, Some, sym, ap, ◌∙◌}
use Rattle.std.proofs.lemmas.Option.{same_Some}
use Rattle.mk_code.specs.declared.instr.Instr.{Instr}
use Rattle.mk_check.specs.Outlines.{outlined}
use Rattle.mk_check.specs.Plans.{laid_len}
use Rattle.mk_check.proofs.Lists.{found-at}
use Rattle.mk_check.proofs.Planned.{next-is, next-there}
use Rattle.mk_check.proofs.plan.Plan.is_next.Goals as goal

pub returns-in-Some-instr : goal.returns-in-Some-instr
returns-in-Some-instr c =
    let there : slice_get c.args.self.now.cert.blocks c.args.block ≡ Some c.in-Some.op.now =
    found-at c.args.self.now.cert.blocks c.as_slice.result.now c.args.block c.in-Some.op.now (c.as_slice.ensures.items ∙ c.blocks-2.ensures) c.in-Some.ensures.lookup.0 c.in-Some.ensures.lookup.1 in
    let next : c.from.result - c.start.result ≡ c.args.count - laid_len (outlined c.args.self.now.outline) c.args.self.now.templates c.args.self.now.cert.blocks c.args.block =
    ap (λ (m : ℕ). m - c.start.result) c.from.ensures ∙ ap (λ (m : ℕ). c.args.count - m) c.start.ensures.value in
    let laid =
    next-is c.args.self.now c.requires.plan c.args.block c.args.count (c.from.result - c.start.result) c.in-Some.op.now c.in-Some-instr.instr there c.requires.block next
    (sym c.instr.ensures ∙ c.in-Some-instr.is) in (
      λ same. laid ∙ ap (λ (i : Instr). Some i) (sym (c.is_instr.ensures.0 same)),
      λ is. c.is_instr.ensures.1 (same_Some c.args.found _ (sym is ∙ laid)),
    )

pub returns-in-None : goal.returns-in-None
returns-in-None c =
    let there : slice_get c.args.self.now.cert.blocks c.args.block ≡ Some c.in-Some.op.now =
    found-at c.args.self.now.cert.blocks c.as_slice.result.now c.args.block c.in-Some.op.now (c.as_slice.ensures.items ∙ c.blocks-2.ensures) c.in-Some.ensures.lookup.0 c.in-Some.ensures.lookup.1 in
    let next : c.from.result - c.start.result ≡ c.args.count - laid_len (outlined c.args.self.now.outline) c.args.self.now.templates c.args.self.now.cert.blocks c.args.block =
    ap (λ (m : ℕ). m - c.start.result) c.from.ensures ∙ ap (λ (m : ℕ). c.args.count - m) c.start.ensures.value in
    absurd (next-there c.args.self.now c.requires.plan c.args.block c.args.count (c.from.result - c.start.result) c.in-Some.op.now there c.requires.block next
    (sym c.instr.ensures ∙ c.in-None.is))
