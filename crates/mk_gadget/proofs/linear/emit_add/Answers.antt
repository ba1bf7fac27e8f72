-- One more sum was appended.
use Rattle.std.proofs.Common.{arith, ◌*◌, ◌++◌, slice_index}
use Rattle.std.proofs.lemmas.List.{length-replicate}
use Rattle.mk_code.specs.declared.instr.Instr.TheVariants as instr
use Rattle.mk_code.specs.Draft.{draft_len}
use Rattle.mk_gadget.specs.Template.{addition}
use Rattle.mk_code.proofs.Steps.{AllBelow-at}
use Rattle.mk_gadget.proofs.Emitting.{Emitting-start, Emitting-length, Emitting-fits, Emitting-more, Emitting-all}
use Rattle.mk_gadget.proofs.Values.{addition-row, addition-placed, addition-gives, outs-behind, two-banks}
use Rattle.mk_gadget.proofs.Steady.{addition-steady}
use Rattle.mk_gadget.proofs.linear.emit_add.Goals as goal

pub loop-share-init : goal.loop-share-init
loop-share-init g c =
    Emitting-start c.args.builder.now c.reserve.new.self (addition-row c.args.x.now.regs c.args.y.now.regs) g.row.N _ c.in_ok-reserve.ensures.same c.in_ok-reserve.ensures.ok (length-replicate g.row.N 0)

pub push-requires-clause-room : goal.push-requires-clause-room
push-requires-clause-room g c = omega (arith, c.loop-share.invariant.room)

pub push-requires-clause-few : goal.push-requires-clause-few
push-requires-clause-few g c = omega (arith, Emitting-length c.args.builder.now c.loop-share.builder (addition-row c.args.x.now.regs c.args.y.now.regs) g.row.N c.loop-share.share c.loop-share.regs c.loop-share.invariant, c.requires.few)

pub push-requires-clause-fits : goal.push-requires-clause-fits
push-requires-clause-fits g c =
    Emitting-fits g.F.Field.ID c.args.builder.now c.loop-share.builder (addition-row c.args.x.now.regs c.args.y.now.regs) g.row.N c.loop-share.share c.loop-share.regs (instr.Add (slice_index c.args.x.now.regs c.loop-share.share) (slice_index c.args.y.now.regs c.loop-share.share)) c.loop-share.invariant
    (AllBelow-at (draft_len c.args.builder.now) c.args.x.now.regs c.loop-share.share c.requires.left (omega (arith, c.loop-share-test.true)), AllBelow-at (draft_len c.args.builder.now) c.args.y.now.regs c.loop-share.share c.requires.right (omega (arith, c.loop-share-test.true)))

pub loop-share-preserved : goal.loop-share-preserved
loop-share-preserved g c =
    Emitting-more c.args.builder.now c.loop-share.builder c.push.new.self (addition-row c.args.x.now.regs c.args.y.now.regs) g.row.N c.loop-share.share c.loop-share.regs c.push.result c.loop-share.invariant
    (omega arith) c.push.ensures.pushed c.push.ensures.position

pub returns-clause-emitted : goal.returns-clause-emitted
returns-clause-emitted g c =
    Emitting-all c.args.builder.now c.loop-share.builder (addition-row c.args.x.now.regs c.args.y.now.regs) g.row.N c.loop-share.share c.loop-share.regs (c.args.x.now.regs ++ c.args.y.now.regs) (addition g.row.N) c.loop-share.invariant
    (omega (arith, c.loop-share.auto.share-end, c.loop-share-test.false))
    (addition-placed g.row.N (draft_len c.args.builder.now) c.args.x.now.regs c.args.y.now.regs (omega arith) (omega arith))
    (outs-behind (c.args.x.now.regs ++ c.args.y.now.regs) (draft_len c.args.builder.now) (2 * g.row.N) g.row.N (two-banks c.args.x.now.regs c.args.y.now.regs g.row.N (omega arith) (omega arith)))

pub returns-clause-value : goal.returns-clause-value
returns-clause-value g c = addition-gives _ _ g.row.N _ c.args.x.now.regs c.args.y.now.regs (omega arith) (omega arith) c.requires.left c.requires.right

pub returns-clause-steady : goal.returns-clause-steady
returns-clause-steady g c = λ maps. addition-steady _ maps g.row.N

pub returns-in_err-reserve-clause-steady : goal.returns-in_err-reserve-clause-steady
returns-in_err-reserve-clause-steady g c = λ maps. addition-steady _ maps g.row.N
