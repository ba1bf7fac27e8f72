-- One more image was appended.
use Rattle.std.proofs.Common.{arith, slice_index}
use Rattle.std.proofs.lemmas.List.{length-replicate}
use Rattle.mk_code.specs.declared.instr.Instr.TheVariants as instr
use Rattle.mk_code.specs.Draft.{draft_len}
use Rattle.mk_gadget.specs.Template.{mapping}
use Rattle.mk_code.proofs.Steps.{AllBelow-at}
use Rattle.mk_gadget.proofs.Emitting.{Emitting-start, Emitting-length, Emitting-fits, Emitting-more, Emitting-all}
use Rattle.mk_gadget.proofs.Values.{mapping-row, mapping-placed, mapping-gives, outs-behind}
use Rattle.mk_gadget.proofs.Steady.{mapping-steady}
use Rattle.mk_gadget.proofs.linear.emit_map.Goals as goal

pub loop-share-init : goal.loop-share-init
loop-share-init g c =
    Emitting-start c.args.builder.now c.reserve.new.self (mapping-row c.args.map c.args.x.now.regs) g.row.N _ c.in_ok-reserve.ensures.same c.in_ok-reserve.ensures.ok (length-replicate g.row.N 0)

pub push-requires-clause-room : goal.push-requires-clause-room
push-requires-clause-room g c = omega (arith, c.loop-share.invariant.room)

pub push-requires-clause-few : goal.push-requires-clause-few
push-requires-clause-few g c = omega (arith, Emitting-length c.args.builder.now c.loop-share.builder (mapping-row c.args.map c.args.x.now.regs) g.row.N c.loop-share.share c.loop-share.regs c.loop-share.invariant, c.requires.few)

pub push-requires-clause-fits : goal.push-requires-clause-fits
push-requires-clause-fits g c =
    Emitting-fits g.F.Field.ID c.args.builder.now c.loop-share.builder (mapping-row c.args.map c.args.x.now.regs) g.row.N c.loop-share.share c.loop-share.regs (instr.Map c.args.map (slice_index c.args.x.now.regs c.loop-share.share)) c.loop-share.invariant
    (c.requires.map, AllBelow-at (draft_len c.args.builder.now) c.args.x.now.regs c.loop-share.share c.requires.shared (omega (arith, c.loop-share-test.true)))

pub loop-share-preserved : goal.loop-share-preserved
loop-share-preserved g c =
    Emitting-more c.args.builder.now c.loop-share.builder c.push.new.self (mapping-row c.args.map c.args.x.now.regs) g.row.N c.loop-share.share c.loop-share.regs c.push.result c.loop-share.invariant
    (omega arith) c.push.ensures.pushed c.push.ensures.position

pub returns-clause-emitted : goal.returns-clause-emitted
returns-clause-emitted g c =
    Emitting-all c.args.builder.now c.loop-share.builder (mapping-row c.args.map c.args.x.now.regs) g.row.N c.loop-share.share c.loop-share.regs c.args.x.now.regs (mapping g.row.N c.args.map) c.loop-share.invariant
    (omega (arith, c.loop-share.auto.share-end, c.loop-share-test.false))
    (mapping-placed g.row.N (draft_len c.args.builder.now) c.args.map c.args.x.now.regs (omega arith))
    (outs-behind c.args.x.now.regs (draft_len c.args.builder.now) g.row.N g.row.N (omega arith))

pub returns-clause-value : goal.returns-clause-value
returns-clause-value g c = mapping-gives _ _ g.row.N _ c.args.map c.args.x.now.regs c.requires.map (omega arith) c.requires.shared

pub returns-clause-steady : goal.returns-clause-steady
returns-clause-steady g c = λ maps. mapping-steady _ maps g.row.N c.args.map

pub returns-in_err-reserve-clause-steady : goal.returns-in_err-reserve-clause-steady
returns-in_err-reserve-clause-steady g c = λ maps. mapping-steady _ maps g.row.N c.args.map
