-- A position of an out bank, or none behind it.
use Rattle.std.proofs.Common.{◌≡◌, ◌≢◌, ◌+◌, ◌<◌, ℕ, length, slice_get, Some, sym, ap, ◌∙◌, arith}
use Rattle.std.proofs.lemmas.Option.{slice_get_past}
use Rattle.mk_ssa.specs.Kinds.{Strong, kind}
use Rattle.mk_gadget.specs.Gadget.{Gadget}
use Rattle.mk_gadget.specs.Template.{built_in}
use Rattle.mk_check.specs.Gadgets.{Gadgets, template_of}
use Rattle.mk_check.proofs.Rows.{positions_before, out-at, weak-from, weak-same}
use Rattle.mk_check.proofs.templates.Templates.share_position.Goals as goal

pub returns-in_default : goal.returns-in_default
returns-in_default c =
    let weak : kind c.args.op.now ≢ Strong = weak-from c.args.op.now c.in_default.not-Mul c.in_default.not-Refresh in
    let same : built_in c.args.self.now.shares c.args.op.now ≡ template_of c.args.self.now c.args.op.now = weak-same c.args.self.now c.args.op.now weak in
    let within : c.args.k < length (built_in c.args.self.now.shares c.args.op.now).outs =
    omega (arith, c.if-k-rows.true, (c.rows.ensures.rows weak).1, ap (λ (gadget : Gadget). length gadget.outs) same) in
    ap (λ (p : ℕ). Some (p + c.args.k)) c.operands.ensures
    ∙ ap (λ (gadgets : Gadgets). Some (positions_before gadgets.shares c.args.op.now + c.args.k)) c.self.view_is
    ∙ sym (out-at c.args.self.now.shares c.args.k c.args.op.now weak within)
    ∙ ap (λ (gadget : Gadget). slice_get gadget.outs c.args.k) same

pub returns-in_default-2 : goal.returns-in_default-2
returns-in_default-2 c =
    let weak : kind c.args.op.now ≢ Strong = weak-from c.args.op.now c.in_default.not-Mul c.in_default.not-Refresh in
    sym (slice_get_past (template_of c.args.self.now c.args.op.now).outs c.args.k (omega (arith, c.if-k-rows.false, (c.rows.ensures.rows weak).1)))
