-- The operands of each operator are there, and stand before what is emitted.
use Rattle.std.proofs.Common.{rules, arith, ◌≤◌, ◌+◌, length, subst, slice_get, ap}
use Rattle.mk_ssa.specs.declared.Op.{Op}
use Rattle.mk_ssa.specs.Kinds.{kind, shared_operands, public_operands}
use Rattle.mk_gadget.specs.Template.{built_in}
use Rattle.mk_compile.specs.Positions.{HasMap}
use Rattle.mk_compile.proofs.Banks.{shared-before, public-before, shared-at, public-at, linear-len}
use Rattle.mk_compile.proofs.emit.emit_shared.Goals as goal

pub emit_lift-requires : goal.emit_lift-requires
emit_lift-requires g c = (search rules, (c.requires.shares.0, (c.requires.order, (omega (arith, c.requires.few, linear-len g.row.N (omega (arith, c.requires.shares.0)) c.args.op (ap kind c.in-Lift.is)), public-before c.args.builder.now c.args.inputs.secrets c.args.inputs.publics c.args.blocks.now c.requires.order c.requires.secrets c.requires.publics c.requires.before c.in-Lift.arg c.public_position.result (public-at c.args.inputs.secrets c.args.inputs.publics (length c.args.builder.now.maps) c.args.blocks.now c.args.op c.requires.there 0 c.in-Lift.arg (ap (λ (o : Op). slice_get (public_operands o) 0) c.in-Lift.is)) c.public_position.ensures))))

pub shared_bank-requires : goal.shared_bank-requires
shared_bank-requires g c = (search rules, (search rules, (c.requires.shares.1, (c.requires.inputs.0, shared-at c.args.inputs.secrets c.args.inputs.publics (length c.args.builder.now.maps) c.args.blocks.now c.args.op c.requires.there 0 c.in-Add.left (ap (λ (o : Op). slice_get (shared_operands o) 0) c.in-Add.is)))))

pub shared_bank-requires-in-Add : goal.shared_bank-requires-in-Add
shared_bank-requires-in-Add g c = (search rules, (search rules, (c.requires.shares.1, (c.requires.inputs.0, shared-at c.args.inputs.secrets c.args.inputs.publics (length c.args.builder.now.maps) c.args.blocks.now c.args.op c.requires.there 1 c.in-Add.right (ap (λ (o : Op). slice_get (shared_operands o) 1) c.in-Add.is)))))

pub emit_add-requires : goal.emit_add-requires
emit_add-requires g c = (search rules, (c.requires.shares.0, (c.requires.order, (omega (arith, c.requires.few, linear-len g.row.N (omega (arith, c.requires.shares.0)) c.args.op (ap kind c.in-Add.is)), (shared-before c.args.builder.now c.args.inputs.secrets c.args.inputs.publics c.args.blocks.now c.requires.order c.requires.secrets c.requires.publics c.requires.before c.in-Add.left c.shared_bank.result.regs (shared-at c.args.inputs.secrets c.args.inputs.publics (length c.args.builder.now.maps) c.args.blocks.now c.args.op c.requires.there 0 c.in-Add.left (ap (λ (o : Op). slice_get (shared_operands o) 0) c.in-Add.is)) c.shared_bank.ensures.bank, shared-before c.args.builder.now c.args.inputs.secrets c.args.inputs.publics c.args.blocks.now c.requires.order c.requires.secrets c.requires.publics c.requires.before c.in-Add.right c.shared_bank-in-Add.result.regs (shared-at c.args.inputs.secrets c.args.inputs.publics (length c.args.builder.now.maps) c.args.blocks.now c.args.op c.requires.there 1 c.in-Add.right (ap (λ (o : Op). slice_get (shared_operands o) 1) c.in-Add.is)) c.shared_bank-in-Add.ensures.bank)))))

pub shared_bank-requires-in-AddPub : goal.shared_bank-requires-in-AddPub
shared_bank-requires-in-AddPub g c = (search rules, (search rules, (c.requires.shares.1, (c.requires.inputs.0, shared-at c.args.inputs.secrets c.args.inputs.publics (length c.args.builder.now.maps) c.args.blocks.now c.args.op c.requires.there 0 c.in-AddPub.left (ap (λ (o : Op). slice_get (shared_operands o) 0) c.in-AddPub.is)))))

pub public_position-requires-in-AddPub : goal.public_position-requires-in-AddPub
public_position-requires-in-AddPub g c = (search rules, (c.requires.shares.1, (c.requires.inputs.0, (c.requires.inputs.1, public-at c.args.inputs.secrets c.args.inputs.publics (length c.args.builder.now.maps) c.args.blocks.now c.args.op c.requires.there 0 c.in-AddPub.right (ap (λ (o : Op). slice_get (public_operands o) 0) c.in-AddPub.is)))))

pub emit_add_public-requires : goal.emit_add_public-requires
emit_add_public-requires g c = (search rules, (c.requires.shares.0, (c.requires.order, (omega (arith, c.requires.few, linear-len g.row.N (omega (arith, c.requires.shares.0)) c.args.op (ap kind c.in-AddPub.is)), (shared-before c.args.builder.now c.args.inputs.secrets c.args.inputs.publics c.args.blocks.now c.requires.order c.requires.secrets c.requires.publics c.requires.before c.in-AddPub.left c.shared_bank-in-AddPub.result.regs (shared-at c.args.inputs.secrets c.args.inputs.publics (length c.args.builder.now.maps) c.args.blocks.now c.args.op c.requires.there 0 c.in-AddPub.left (ap (λ (o : Op). slice_get (shared_operands o) 0) c.in-AddPub.is)) c.shared_bank-in-AddPub.ensures.bank, public-before c.args.builder.now c.args.inputs.secrets c.args.inputs.publics c.args.blocks.now c.requires.order c.requires.secrets c.requires.publics c.requires.before c.in-AddPub.right c.public_position-in-AddPub.result (public-at c.args.inputs.secrets c.args.inputs.publics (length c.args.builder.now.maps) c.args.blocks.now c.args.op c.requires.there 0 c.in-AddPub.right (ap (λ (o : Op). slice_get (public_operands o) 0) c.in-AddPub.is)) c.public_position-in-AddPub.ensures)))))

pub shared_bank-requires-in-Scale : goal.shared_bank-requires-in-Scale
shared_bank-requires-in-Scale g c = (search rules, (search rules, (c.requires.shares.1, (c.requires.inputs.0, shared-at c.args.inputs.secrets c.args.inputs.publics (length c.args.builder.now.maps) c.args.blocks.now c.args.op c.requires.there 0 c.in-Scale.left (ap (λ (o : Op). slice_get (shared_operands o) 0) c.in-Scale.is)))))

pub public_position-requires-in-Scale : goal.public_position-requires-in-Scale
public_position-requires-in-Scale g c = (search rules, (c.requires.shares.1, (c.requires.inputs.0, (c.requires.inputs.1, public-at c.args.inputs.secrets c.args.inputs.publics (length c.args.builder.now.maps) c.args.blocks.now c.args.op c.requires.there 0 c.in-Scale.right (ap (λ (o : Op). slice_get (public_operands o) 0) c.in-Scale.is)))))

pub emit_scale_public-requires : goal.emit_scale_public-requires
emit_scale_public-requires g c = (search rules, (c.requires.shares.0, (c.requires.order, (omega (arith, c.requires.few, linear-len g.row.N (omega (arith, c.requires.shares.0)) c.args.op (ap kind c.in-Scale.is)), (shared-before c.args.builder.now c.args.inputs.secrets c.args.inputs.publics c.args.blocks.now c.requires.order c.requires.secrets c.requires.publics c.requires.before c.in-Scale.left c.shared_bank-in-Scale.result.regs (shared-at c.args.inputs.secrets c.args.inputs.publics (length c.args.builder.now.maps) c.args.blocks.now c.args.op c.requires.there 0 c.in-Scale.left (ap (λ (o : Op). slice_get (shared_operands o) 0) c.in-Scale.is)) c.shared_bank-in-Scale.ensures.bank, public-before c.args.builder.now c.args.inputs.secrets c.args.inputs.publics c.args.blocks.now c.requires.order c.requires.secrets c.requires.publics c.requires.before c.in-Scale.right c.public_position-in-Scale.result (public-at c.args.inputs.secrets c.args.inputs.publics (length c.args.builder.now.maps) c.args.blocks.now c.args.op c.requires.there 0 c.in-Scale.right (ap (λ (o : Op). slice_get (public_operands o) 0) c.in-Scale.is)) c.public_position-in-Scale.ensures)))))

pub shared_bank-requires-in-Sq : goal.shared_bank-requires-in-Sq
shared_bank-requires-in-Sq g c = (search rules, (search rules, (c.requires.shares.1, (c.requires.inputs.0, shared-at c.args.inputs.secrets c.args.inputs.publics (length c.args.builder.now.maps) c.args.blocks.now c.args.op c.requires.there 0 c.in-Sq.arg (ap (λ (o : Op). slice_get (shared_operands o) 0) c.in-Sq.is)))))

pub emit_sq-requires : goal.emit_sq-requires
emit_sq-requires g c = (search rules, (c.requires.shares.0, (c.requires.order, (omega (arith, c.requires.few, linear-len g.row.N (omega (arith, c.requires.shares.0)) c.args.op (ap kind c.in-Sq.is)), shared-before c.args.builder.now c.args.inputs.secrets c.args.inputs.publics c.args.blocks.now c.requires.order c.requires.secrets c.requires.publics c.requires.before c.in-Sq.arg c.shared_bank-in-Sq.result.regs (shared-at c.args.inputs.secrets c.args.inputs.publics (length c.args.builder.now.maps) c.args.blocks.now c.args.op c.requires.there 0 c.in-Sq.arg (ap (λ (o : Op). slice_get (shared_operands o) 0) c.in-Sq.is)) c.shared_bank-in-Sq.ensures.bank))))

pub shared_bank-requires-in-Map : goal.shared_bank-requires-in-Map
shared_bank-requires-in-Map g c = (search rules, (search rules, (c.requires.shares.1, (c.requires.inputs.0, shared-at c.args.inputs.secrets c.args.inputs.publics (length c.args.builder.now.maps) c.args.blocks.now c.args.op c.requires.there 0 c.in-Map.arg (ap (λ (o : Op). slice_get (shared_operands o) 0) c.in-Map.is)))))

pub emit_map-requires : goal.emit_map-requires
emit_map-requires g c = (search rules, (c.requires.shares.0, (c.requires.order, (omega (arith, c.requires.few, linear-len g.row.N (omega (arith, c.requires.shares.0)) c.args.op (ap kind c.in-Map.is)), (subst (HasMap (length c.args.builder.now.maps)) c.in-Map.is c.requires.there.map, shared-before c.args.builder.now c.args.inputs.secrets c.args.inputs.publics c.args.blocks.now c.requires.order c.requires.secrets c.requires.publics c.requires.before c.in-Map.arg c.shared_bank-in-Map.result.regs (shared-at c.args.inputs.secrets c.args.inputs.publics (length c.args.builder.now.maps) c.args.blocks.now c.args.op c.requires.there 0 c.in-Map.arg (ap (λ (o : Op). slice_get (shared_operands o) 0) c.in-Map.is)) c.shared_bank-in-Map.ensures.bank)))))

pub shared_bank-requires-in-Mul : goal.shared_bank-requires-in-Mul
shared_bank-requires-in-Mul g c = (search rules, (search rules, (c.requires.shares.1, (c.requires.inputs.0, shared-at c.args.inputs.secrets c.args.inputs.publics (length c.args.builder.now.maps) c.args.blocks.now c.args.op c.requires.there 0 c.in-Mul.left (ap (λ (o : Op). slice_get (shared_operands o) 0) c.in-Mul.is)))))

pub shared_bank-requires-in-Mul-2 : goal.shared_bank-requires-in-Mul-2
shared_bank-requires-in-Mul-2 g c = (search rules, (search rules, (c.requires.shares.1, (c.requires.inputs.0, shared-at c.args.inputs.secrets c.args.inputs.publics (length c.args.builder.now.maps) c.args.blocks.now c.args.op c.requires.there 1 c.in-Mul.right (ap (λ (o : Op). slice_get (shared_operands o) 1) c.in-Mul.is)))))

pub emit_mul-requires : goal.emit_mul-requires
emit_mul-requires g c = (search rules, (c.requires.shares.0, (c.requires.order, (subst (λ (o : Op). length c.args.builder.now.instrs + length (built_in g.row.N o).instrs ≤ 8388608) c.in-Mul.is c.requires.few, (shared-before c.args.builder.now c.args.inputs.secrets c.args.inputs.publics c.args.blocks.now c.requires.order c.requires.secrets c.requires.publics c.requires.before c.in-Mul.left c.shared_bank-in-Mul.result.regs (shared-at c.args.inputs.secrets c.args.inputs.publics (length c.args.builder.now.maps) c.args.blocks.now c.args.op c.requires.there 0 c.in-Mul.left (ap (λ (o : Op). slice_get (shared_operands o) 0) c.in-Mul.is)) c.shared_bank-in-Mul.ensures.bank, shared-before c.args.builder.now c.args.inputs.secrets c.args.inputs.publics c.args.blocks.now c.requires.order c.requires.secrets c.requires.publics c.requires.before c.in-Mul.right c.shared_bank-in-Mul-2.result.regs (shared-at c.args.inputs.secrets c.args.inputs.publics (length c.args.builder.now.maps) c.args.blocks.now c.args.op c.requires.there 1 c.in-Mul.right (ap (λ (o : Op). slice_get (shared_operands o) 1) c.in-Mul.is)) c.shared_bank-in-Mul-2.ensures.bank)))))

pub shared_bank-requires-in-Refresh : goal.shared_bank-requires-in-Refresh
shared_bank-requires-in-Refresh g c = (search rules, (search rules, (c.requires.shares.1, (c.requires.inputs.0, shared-at c.args.inputs.secrets c.args.inputs.publics (length c.args.builder.now.maps) c.args.blocks.now c.args.op c.requires.there 0 c.in-Refresh.arg (ap (λ (o : Op). slice_get (shared_operands o) 0) c.in-Refresh.is)))))

pub emit_refresh-requires : goal.emit_refresh-requires
emit_refresh-requires g c = (search rules, (c.requires.shares.0, (c.requires.order, (subst (λ (o : Op). length c.args.builder.now.instrs + length (built_in g.row.N o).instrs ≤ 8388608) c.in-Refresh.is c.requires.few, shared-before c.args.builder.now c.args.inputs.secrets c.args.inputs.publics c.args.blocks.now c.requires.order c.requires.secrets c.requires.publics c.requires.before c.in-Refresh.arg c.shared_bank-in-Refresh.result.regs (shared-at c.args.inputs.secrets c.args.inputs.publics (length c.args.builder.now.maps) c.args.blocks.now c.args.op c.requires.there 0 c.in-Refresh.arg (ap (λ (o : Op). slice_get (shared_operands o) 0) c.in-Refresh.is)) c.shared_bank-in-Refresh.ensures.bank))))
