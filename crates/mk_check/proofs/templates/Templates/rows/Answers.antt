-- The rows of a linear operator.
use Rattle.std.proofs.Common.{◌≡◌, length, ap, subst, sym, ◌∙◌}
use Rattle.mk_gadget.specs.Gadget.{Gadget}
use Rattle.mk_gadget.specs.Template.{built_in}
use Rattle.mk_check.specs.Gadgets.{Gadgets}
use Rattle.mk_check.proofs.Rows.{linear-long, weak-same}
use Rattle.mk_check.proofs.templates.Templates.rows.Goals as goal

pub returns-else-is_public-clause-rows : goal.returns-else-is_public-clause-rows
returns-else-is_public-clause-rows c = λ weak.
    subst (λ (gadget : Gadget). (c.self.inside.shares ≡ length gadget.instrs) × (c.self.inside.shares ≡ length gadget.outs))
    (ap (λ (gadgets : Gadgets). built_in gadgets.shares c.args.op.now) c.self.view_is ∙ weak-same c.args.self.now c.args.op.now weak)
    (linear-long c.self.inside.shares c.args.op.now c.self.invariant.0 (sym c.if-is_public.ensures) weak)
