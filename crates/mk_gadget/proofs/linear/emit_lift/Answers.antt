-- One more zero was appended.
use Rattle.std.proofs.Common.{arith, ◌≡◌, ◌-◌, [], ◌∷◌, ◌++◌, refl, ap, ◌∙◌}
use Rattle.std.proofs.lemmas.List.{length-replicate}
use Rattle.mk_code.specs.declared.instr.Instr.{Instr}
use Rattle.mk_code.specs.declared.instr.Instr.TheVariants as instr
use Rattle.mk_code.specs.Draft.{draft_len}
use Rattle.mk_gadget.specs.Template.{lift}
use Rattle.mk_gadget.proofs.Emitting.{Emitting-start, Emitting-length, Emitting-more, Emitting-all}
use Rattle.mk_gadget.proofs.Values.{lift-row, lift-placed, lift-gives, outs-behind, lift-later}
use Rattle.mk_gadget.proofs.Steady.{unshared-steady}
use Rattle.mk_gadget.proofs.linear.emit_lift.Goals as goal

pub loop-share-init : goal.loop-share-init
loop-share-init g c =
    Emitting-more c.args.builder.now c.reserve.new.self c.push.new.self (lift-row c.args.p) g.row.N 0 _ c.push.result
    (Emitting-start c.args.builder.now c.reserve.new.self (lift-row c.args.p) g.row.N _ c.in_ok-reserve.ensures.same c.in_ok-reserve.ensures.ok (length-replicate g.row.N 0))
    (omega (arith, c.requires.least)) c.push.ensures.pushed c.push.ensures.position

pub push-requires-in-loop-share-clause-room : goal.push-requires-in-loop-share-clause-room
push-requires-in-loop-share-clause-room g c = omega (arith, c.loop-share.invariant.room)

pub push-requires-in-loop-share-clause-few : goal.push-requires-in-loop-share-clause-few
push-requires-in-loop-share-clause-few g c = omega (arith, Emitting-length c.args.builder.now c.loop-share.builder (lift-row c.args.p) g.row.N c.loop-share.share c.loop-share.regs c.loop-share.invariant, c.requires.few)

pub loop-share-preserved : goal.loop-share-preserved
loop-share-preserved g c =
    let one : instr.Const 0 ≡ lift-row c.args.p c.loop-share.share = lift-later c.args.p c.loop-share.share (omega arith) in
    Emitting-more c.args.builder.now c.loop-share.builder c.push-in-loop-share.new.self (lift-row c.args.p) g.row.N c.loop-share.share c.loop-share.regs c.push-in-loop-share.result c.loop-share.invariant
    (omega arith)
    (c.push-in-loop-share.ensures.pushed ∙ ap (λ (i : Instr). record c.loop-share.builder { instrs = c.loop-share.builder.instrs ++ i ∷ []; spare = c.loop-share.builder.spare - 1 }) one)
    c.push-in-loop-share.ensures.position

pub returns-clause-emitted : goal.returns-clause-emitted
returns-clause-emitted g c =
    Emitting-all c.args.builder.now c.loop-share.builder (lift-row c.args.p) g.row.N c.loop-share.share c.loop-share.regs (c.args.p ∷ []) (lift g.row.N) c.loop-share.invariant
    (omega (arith, c.loop-share.auto.share-end, c.loop-share-test.false))
    (lift-placed g.row.N (draft_len c.args.builder.now) c.args.p (omega (arith, c.requires.least)))
    (outs-behind (c.args.p ∷ []) (draft_len c.args.builder.now) 1 g.row.N refl)

pub returns-clause-value : goal.returns-clause-value
returns-clause-value g c = lift-gives _ _ g.row.N _ c.args.p (omega (arith, c.requires.least)) c.requires.public

pub returns-clause-steady : goal.returns-clause-steady
returns-clause-steady g c = λ maps. unshared-steady _ maps g.row.N 1 (lift g.row.N)

pub returns-in_err-reserve-clause-steady : goal.returns-in_err-reserve-clause-steady
returns-in_err-reserve-clause-steady g c = λ maps. unshared-steady _ maps g.row.N 1 (lift g.row.N)
