-- The rows, share by share.
use Rattle.std.proofs.Common.{◌+◌, arith}
use Rattle.std.proofs.lemmas.List.FromFn.{length-map-range_with_len}
use Rattle.mk_code.specs.declared.instr.Instr.TheVariants as instr
use Rattle.mk_ssa.specs.declared.Op.TheVariants.{Lift, Add, AddPub, Scale, Sq, Map}
use Rattle.mk_check.proofs.Rows.{row-at, lift-at, there-at, added-at}
use Rattle.mk_check.proofs.templates.row.Goals as goal

pub overflow_add-result : goal.overflow_add-result
overflow_add-result c =
    omega (
      arith,
      there-at c.args.shares c.args.k c.args.op.now (Add c.in-Add.left c.in-Add.right) c.in-Add.is c.requires.there,
      c.requires.shares,
      length-map-range_with_len (λ i. instr.Add i (c.args.shares + i)) 0 c.args.shares,
    )

pub returns-in-Lift-2 : goal.returns-in-Lift-2
returns-in-Lift-2 c =
    rw (c.in-Lift-2.is) (lift-at c.args.shares c.args.k c.if-k-eq0.false (there-at c.args.shares c.args.k c.args.op.now (Lift c.in-Lift-2.arg) c.in-Lift-2.is c.requires.there))

pub returns-in-Add : goal.returns-in-Add
returns-in-Add c =
    rw (c.in-Add.is) (row-at (λ i. instr.Add i (c.args.shares + i)) c.args.shares c.args.k
    (there-at c.args.shares c.args.k c.args.op.now (Add c.in-Add.left c.in-Add.right) c.in-Add.is c.requires.there))

pub returns-in-AddPub-2 : goal.returns-in-AddPub-2
returns-in-AddPub-2 c =
    rw (c.in-AddPub-2.is) (added-at c.args.shares c.args.k c.in-AddPub-2.left c.in-AddPub-2.right c.if-k-eq0-2.false
    (there-at c.args.shares c.args.k c.args.op.now (AddPub c.in-AddPub-2.left c.in-AddPub-2.right) c.in-AddPub-2.is c.requires.there))

pub returns-in-Scale : goal.returns-in-Scale
returns-in-Scale c =
    rw (c.in-Scale.is) (row-at (λ i. instr.Mul i c.args.shares) c.args.shares c.args.k
    (there-at c.args.shares c.args.k c.args.op.now (Scale c.in-Scale.left c.in-Scale.right) c.in-Scale.is c.requires.there))

pub returns-in-Sq : goal.returns-in-Sq
returns-in-Sq c =
    rw (c.in-Sq.is) (row-at (λ i. instr.Sq i) c.args.shares c.args.k
    (there-at c.args.shares c.args.k c.args.op.now (Sq c.in-Sq.arg) c.in-Sq.is c.requires.there))

pub returns-in-Map : goal.returns-in-Map
returns-in-Map c =
    rw (c.in-Map.is) (row-at (λ i. instr.Map c.in-Map.map i) c.args.shares c.args.k
    (there-at c.args.shares c.args.k c.args.op.now (Map c.in-Map.map c.in-Map.arg) c.in-Map.is c.requires.there))
