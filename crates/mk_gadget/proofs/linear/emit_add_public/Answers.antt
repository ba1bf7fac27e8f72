-- One more share was copied.
use Rattle.std.proofs.Common.{arith, ◌≡◌, ◌+◌, ◌-◌, ◌<◌, [], ◌∷◌, ◌++◌, slice_index, ap, ◌∙◌}
use Rattle.std.proofs.lemmas.List.{length-replicate}
use Rattle.mk_code.specs.declared.instr.Instr.{Instr}
use Rattle.mk_code.specs.declared.instr.Instr.TheVariants as instr
use Rattle.mk_code.specs.Draft.{draft_len}
use Rattle.mk_gadget.specs.Template.{public_addition}
use Rattle.mk_code.proofs.Steps.{AllBelow-at}
use Rattle.mk_gadget.proofs.Emitting.{Emitting-start, Emitting-length, Emitting-fits, Emitting-more, Emitting-all}
use Rattle.mk_gadget.proofs.Values.{public_addition-row, public_addition-placed, public_addition-gives, outs-behind, bank-and-one, public_addition-later}
use Rattle.mk_gadget.proofs.Steady.{public_addition-steady}
use Rattle.mk_gadget.proofs.linear.emit_add_public.Goals as goal

pub loop-share-init : goal.loop-share-init
loop-share-init g c =
    Emitting-more c.args.builder.now c.reserve.new.self c.push.new.self (public_addition-row c.args.x.now.regs c.args.p) g.row.N 0 _ c.push.result
    (Emitting-start c.args.builder.now c.reserve.new.self (public_addition-row c.args.x.now.regs c.args.p) g.row.N _ c.in_ok-reserve.ensures.same c.in_ok-reserve.ensures.ok (length-replicate g.row.N 0))
    (omega (arith, c.requires.least)) c.push.ensures.pushed c.push.ensures.position

pub push-requires-in-loop-share-clause-room : goal.push-requires-in-loop-share-clause-room
push-requires-in-loop-share-clause-room g c = omega (arith, c.loop-share.invariant.room)

pub push-requires-in-loop-share-clause-few : goal.push-requires-in-loop-share-clause-few
push-requires-in-loop-share-clause-few g c = omega (arith, Emitting-length c.args.builder.now c.loop-share.builder (public_addition-row c.args.x.now.regs c.args.p) g.row.N c.loop-share.share c.loop-share.regs c.loop-share.invariant, c.requires.few)

pub push-requires-in-loop-share-clause-fits : goal.push-requires-in-loop-share-clause-fits
push-requires-in-loop-share-clause-fits g c =
    Emitting-fits g.F.Field.ID c.args.builder.now c.loop-share.builder (public_addition-row c.args.x.now.regs c.args.p) g.row.N c.loop-share.share c.loop-share.regs (instr.Copy (slice_index c.args.x.now.regs c.loop-share.share)) c.loop-share.invariant
    (AllBelow-at (draft_len c.args.builder.now) c.args.x.now.regs c.loop-share.share c.requires.shared (omega (arith, c.loop-share-test.true)))

pub loop-share-preserved : goal.loop-share-preserved
loop-share-preserved g c =
    let one : instr.Copy (slice_index c.args.x.now.regs c.loop-share.share) ≡ public_addition-row c.args.x.now.regs c.args.p c.loop-share.share = public_addition-later c.args.x.now.regs c.args.p c.loop-share.share (omega arith) in
    Emitting-more c.args.builder.now c.loop-share.builder c.push-in-loop-share.new.self (public_addition-row c.args.x.now.regs c.args.p) g.row.N c.loop-share.share c.loop-share.regs c.push-in-loop-share.result c.loop-share.invariant
    (omega arith)
    (c.push-in-loop-share.ensures.pushed ∙ ap (λ (i : Instr). record c.loop-share.builder { instrs = c.loop-share.builder.instrs ++ i ∷ []; spare = c.loop-share.builder.spare - 1 }) one)
    c.push-in-loop-share.ensures.position

pub returns-clause-emitted : goal.returns-clause-emitted
returns-clause-emitted g c =
    Emitting-all c.args.builder.now c.loop-share.builder (public_addition-row c.args.x.now.regs c.args.p) g.row.N c.loop-share.share c.loop-share.regs (c.args.x.now.regs ++ c.args.p ∷ []) (public_addition g.row.N) c.loop-share.invariant
    (omega (arith, c.loop-share.auto.share-end, c.loop-share-test.false))
    (public_addition-placed g.row.N (draft_len c.args.builder.now) c.args.x.now.regs c.args.p (omega arith))
    (outs-behind (c.args.x.now.regs ++ c.args.p ∷ []) (draft_len c.args.builder.now) (g.row.N + 1) g.row.N (bank-and-one c.args.x.now.regs c.args.p g.row.N (omega arith)))

pub returns-clause-value : goal.returns-clause-value
returns-clause-value g c = public_addition-gives _ _ g.row.N _ c.args.x.now.regs c.args.p (omega (arith, c.requires.least)) (omega arith) c.requires.shared c.requires.public

pub push-requires-clause-fits : goal.push-requires-clause-fits
push-requires-clause-fits g c =
    let here : slice_index c.args.x.now.regs 0 < draft_len c.args.builder.now =
    AllBelow-at (draft_len c.args.builder.now) c.args.x.now.regs 0 c.requires.shared (omega (arith, c.requires.least)) in
    let len : draft_len c.reserve.new.self ≡ draft_len c.args.builder.now = ap draft_len c.in_ok-reserve.ensures.same in
    (omega (arith, here, len), omega (arith, c.requires.public, len))

pub returns-clause-steady : goal.returns-clause-steady
returns-clause-steady g c = λ maps. public_addition-steady _ maps g.row.N

pub returns-in_err-reserve-clause-steady : goal.returns-in_err-reserve-clause-steady
returns-in_err-reserve-clause-steady g c = λ maps. public_addition-steady _ maps g.row.N
