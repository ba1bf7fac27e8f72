-- Where the bank of a block is.
use Rattle.std.proofs.Common.{◌≡◌, ◌+◌, ◌-◌, ◌*◌, ℕ, length, slice_get, Some, sym, ap, ◌∙◌, arith}
use Rattle.mk_ssa.specs.Kinds.{shared_operands, public_operands}
use Rattle.mk_check.specs.Gadgets.{template_of}
use Rattle.mk_check.proofs.Lists.{found-at, none-at}
use Rattle.mk_check.proofs.Planned.{plan-own, no-block, no-share, block-share as share-of}
use Rattle.mk_check.proofs.plan.Plan.block_share.Goals as goal

pub returns-in_default : goal.returns-in_default
returns-in_default c =
    no-block c.args.self.now c.requires.plan c.requires.wired c.args.block c.args.k
    (none-at c.args.self.now.cert.blocks c.as_slice.result.now c.args.block (c.as_slice.ensures.items ∙ c.blocks-2.ensures) c.in_default.ensures.lookup.0)

pub returns-in_default-share_position : goal.returns-in_default-share_position
returns-in_default-share_position c =
    no-share c.args.self.now c.requires.plan c.requires.wired c.args.block c.args.k c.in-Some.op.now
    (found-at c.args.self.now.cert.blocks c.as_slice.result.now c.args.block c.in-Some.op.now (c.as_slice.ensures.items ∙ c.blocks-2.ensures) c.in-Some.ensures.lookup.0 c.in-Some.ensures.lookup.1)
    (sym c.share_position.ensures ∙ c.in_default-share_position.is)

pub overflow_sub-own : goal.overflow_sub-own
overflow_sub-own c =
    let at : slice_get (template_of c.args.self.now.templates c.in-Some.op.now).outs c.args.k ≡ Some c.in-Some-share_position.out = sym c.share_position.ensures ∙ c.in-Some-share_position.is in
    let places : c.operands.result ≡ (c.args.self.now.outline.order + 1) * length (shared_operands c.in-Some.op.now) + length (public_operands c.in-Some.op.now) =
    c.operands.ensures ∙ ap (λ (n : ℕ). n * length (shared_operands c.in-Some.op.now) + length (public_operands c.in-Some.op.now)) c.shares.ensures in
    omega (arith, places, plan-own c.args.self.now c.requires.plan c.in-Some.op.now c.args.k c.in-Some-share_position.out at)

pub returns : goal.returns
returns c =
    share-of c.args.self.now c.requires.plan c.requires.wired c.args.block c.args.k c.in-Some-share_position.out c.base.result c.from.result c.in-Some.op.now
    (found-at c.args.self.now.cert.blocks c.as_slice.result.now c.args.block c.in-Some.op.now (c.as_slice.ensures.items ∙ c.blocks-2.ensures) c.in-Some.ensures.lookup.0 c.in-Some.ensures.lookup.1)
    (sym c.share_position.ensures ∙ c.in-Some-share_position.is) c.base.ensures.value
    (c.from.ensures ∙ ap (λ (m : ℕ). c.in-Some-share_position.out - m)
    (c.operands.ensures ∙ ap (λ (n : ℕ). n * length (shared_operands c.in-Some.op.now) + length (public_operands c.in-Some.op.now)) c.shares.ensures))
