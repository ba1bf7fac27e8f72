-- The operator fits, and is the one of the definitions.
use Rattle.std.proofs.Common.{sym, ap, subst, ◌∙◌}
use Rattle.mk_ssa.specs.declared.Op.{Op}
use Rattle.mk_ssa.specs.Values.{Fits}
use Rattle.mk_unroll.specs.Joints.{joint_op}
use Rattle.mk_unroll.specs.Kept.{Gives}
use Rattle.mk_unroll.specs.Unrolled.{is_shared_operand, appended}
use Rattle.mk_unroll.proofs.Keeping.{shared_is, shared_or_public, fits_joint, gives_pushed}
use Rattle.mk_unroll.proofs.operators.join.Goals as goal

pub push-requires : goal.push-requires
push-requires c =
    let d = c.args.values.now in
    subst (Fits d) (sym c.joint_op-op.ensures)
    (fits_joint d c.args.left c.is_shared-left_is_shared.result
    (shared_or_public d c.args.left c.requires.left c.is_shared-left_is_shared.result c.is_shared-left_is_shared.ensures)
    c.args.joint c.args.right c.is_shared-right_is_shared.result
    (shared_or_public d c.args.right c.requires.right c.is_shared-right_is_shared.result c.is_shared-right_is_shared.ensures))

pub returns-clause-given : goal.returns-clause-given
returns-clause-given c =
    let d = c.args.values.now in
    let p = shared_is d c.args.left c.requires.left c.is_shared-left_is_shared.result c.is_shared-left_is_shared.ensures in
    let q = shared_is d c.args.right c.requires.right c.is_shared-right_is_shared.result c.is_shared-right_is_shared.ensures in
    subst (λ (op : Op). Gives d (appended d.values op) c.push.new.self c.in_ok-push.field-0)
    (c.joint_op-op.ensures
    ∙ ap (λ b. joint_op c.args.joint b c.is_shared-right_is_shared.result c.args.left c.args.right) p
    ∙ ap (λ b. joint_op c.args.joint (is_shared_operand d.values c.args.left) b c.args.left c.args.right) q)
    (gives_pushed d c.push.new.self c.joint_op-op.result c.in_ok-push.field-0 c.in_ok-push.ensures.ok c.in_ok-push.ensures.place)
