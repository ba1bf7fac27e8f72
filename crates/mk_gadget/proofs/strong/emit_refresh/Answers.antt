-- One more pair was appended.
use Rattle.std.proofs.Common.{arith, ◌≡◌, ◌≤◌, length, slice_index, slice_set}
use Rattle.std.proofs.lemmas.List.{get_or-set_other}
use Rattle.mk_code.specs.declared.instr.Instr.TheVariants as instr
use Rattle.mk_gadget.specs.Refresh.{refresh_gadget}
use Rattle.mk_gadget.proofs.RefreshRun.{length-refresh}
use Rattle.mk_gadget.proofs.StrongValues.{refresh-gives}
use Rattle.mk_gadget.proofs.Placing.{few-shares, HasPushed, pushed-numbers}
use Rattle.mk_gadget.proofs.RefreshEmitting.{Refreshing-start, Refreshing-first, Refreshing-next, Refreshing-room, HasRoom, Refreshing-before, AreBefore, Refreshing-more, Refreshing-all}
use Rattle.mk_gadget.proofs.RefreshStrong.{refresh-strong}
use Rattle.mk_gadget.proofs.strong.emit_refresh.Goals as goal

pub pairs_before-requires-clause-most : goal.pairs_before-requires-clause-most
pairs_before-requires-clause-most g c = few-shares g.row.N (length (refresh_gadget g.row.N).instrs) (omega (arith, length-refresh g.row.N)) (omega (arith, c.requires.few))

pub overflow_cast-pairs_before : goal.overflow_cast-pairs_before
overflow_cast-pairs_before g c = omega (arith, c.pairs_before.ensures, length-refresh g.row.N, c.requires.few)

pub overflow_mul-pairs_before : goal.overflow_mul-pairs_before
overflow_mul-pairs_before g c = omega (arith, c.pairs_before.ensures, length-refresh g.row.N, c.requires.few)

pub loop-i-init : goal.loop-i-init
loop-i-init g c =
    Refreshing-start c.args.builder.now c.reserve.new.self c.args.x.now.regs g.row.N c.in_ok-reserve.ensures.same
    (omega (arith, c.in_ok-reserve.ensures.ok, c.pairs_before.ensures)) c.law.ensures

pub loop-j-init : goal.loop-j-init
loop-j-init g c = Refreshing-first c.args.builder.now c.loop-i.builder c.args.x.now.regs c.loop-i.regs g.row.N c.loop-i.i c.loop-i.invariant

pub push-random-requires-clause-room : goal.push-random-requires-clause-room
push-random-requires-clause-room g c =
    let room : HasRoom c.args.builder.now c.loop-j.builder g.row.N =
    Refreshing-room c.args.builder.now c.loop-j.builder c.args.x.now.regs c.loop-j.regs g.row.N c.loop-i.i c.loop-j.j c.loop-j.invariant (omega (arith, c.loop-j.auto.j)) (omega (arith, c.loop-j-test.true)) in
    omega (arith, room.spare)

pub push-random-requires-clause-few : goal.push-random-requires-clause-few
push-random-requires-clause-few g c =
    let room : HasRoom c.args.builder.now c.loop-j.builder g.row.N =
    Refreshing-room c.args.builder.now c.loop-j.builder c.args.x.now.regs c.loop-j.regs g.row.N c.loop-i.i c.loop-j.j c.loop-j.invariant (omega (arith, c.loop-j.auto.j)) (omega (arith, c.loop-j-test.true)) in
    omega (arith, room.few, c.requires.few)

pub push-requires-clause-room : goal.push-requires-clause-room
push-requires-clause-room g c =
    let room : HasRoom c.args.builder.now c.loop-j.builder g.row.N =
    Refreshing-room c.args.builder.now c.loop-j.builder c.args.x.now.regs c.loop-j.regs g.row.N c.loop-i.i c.loop-j.j c.loop-j.invariant (omega (arith, c.loop-j.auto.j)) (omega (arith, c.loop-j-test.true)) in
    let one : HasPushed c.loop-j.builder c.push-random.new.self = pushed-numbers c.loop-j.builder c.push-random.new.self instr.Rnd c.push-random.ensures.pushed in
    omega (arith, room.spare, one.spare)

pub push-requires-clause-few : goal.push-requires-clause-few
push-requires-clause-few g c =
    let room : HasRoom c.args.builder.now c.loop-j.builder g.row.N =
    Refreshing-room c.args.builder.now c.loop-j.builder c.args.x.now.regs c.loop-j.regs g.row.N c.loop-i.i c.loop-j.j c.loop-j.invariant (omega (arith, c.loop-j.auto.j)) (omega (arith, c.loop-j-test.true)) in
    let one : HasPushed c.loop-j.builder c.push-random.new.self = pushed-numbers c.loop-j.builder c.push-random.new.self instr.Rnd c.push-random.ensures.pushed in
    omega (arith, room.few, one.count, c.requires.few)

pub push-requires-clause-fits : goal.push-requires-clause-fits
push-requires-clause-fits g c =
    let positions : AreBefore c.loop-j.builder c.loop-j.regs c.loop-i.i c.loop-j.j =
    Refreshing-before c.args.builder.now c.loop-j.builder c.args.x.now.regs c.loop-j.regs g.row.N c.loop-i.i c.loop-j.j c.loop-j.invariant (omega (arith, c.loop-j.auto.j)) (omega (arith, c.loop-j-test.true)) c.law.ensures c.requires.shared in
    let one : HasPushed c.loop-j.builder c.push-random.new.self = pushed-numbers c.loop-j.builder c.push-random.new.self instr.Rnd c.push-random.ensures.pushed in
    (omega (arith, positions.first, one.len), omega (arith, c.push-random.ensures.position, one.len))

pub push-requires-in-loop-j-clause-room : goal.push-requires-in-loop-j-clause-room
push-requires-in-loop-j-clause-room g c =
    let room : HasRoom c.args.builder.now c.loop-j.builder g.row.N =
    Refreshing-room c.args.builder.now c.loop-j.builder c.args.x.now.regs c.loop-j.regs g.row.N c.loop-i.i c.loop-j.j c.loop-j.invariant (omega (arith, c.loop-j.auto.j)) (omega (arith, c.loop-j-test.true)) in
    let one : HasPushed c.loop-j.builder c.push-random.new.self = pushed-numbers c.loop-j.builder c.push-random.new.self instr.Rnd c.push-random.ensures.pushed in
    let two : HasPushed c.push-random.new.self c.push.new.self =
    pushed-numbers c.push-random.new.self c.push.new.self (instr.Add (slice_index c.loop-j.regs c.loop-i.i) c.push-random.result) c.push.ensures.pushed in
    omega (arith, room.spare, one.spare, two.spare)

pub push-requires-in-loop-j-clause-few : goal.push-requires-in-loop-j-clause-few
push-requires-in-loop-j-clause-few g c =
    let room : HasRoom c.args.builder.now c.loop-j.builder g.row.N =
    Refreshing-room c.args.builder.now c.loop-j.builder c.args.x.now.regs c.loop-j.regs g.row.N c.loop-i.i c.loop-j.j c.loop-j.invariant (omega (arith, c.loop-j.auto.j)) (omega (arith, c.loop-j-test.true)) in
    let one : HasPushed c.loop-j.builder c.push-random.new.self = pushed-numbers c.loop-j.builder c.push-random.new.self instr.Rnd c.push-random.ensures.pushed in
    let two : HasPushed c.push-random.new.self c.push.new.self =
    pushed-numbers c.push-random.new.self c.push.new.self (instr.Add (slice_index c.loop-j.regs c.loop-i.i) c.push-random.result) c.push.ensures.pushed in
    omega (arith, room.few, one.count, two.count, c.requires.few)

pub push-requires-in-loop-j-clause-fits : goal.push-requires-in-loop-j-clause-fits
push-requires-in-loop-j-clause-fits g c =
    let positions : AreBefore c.loop-j.builder c.loop-j.regs c.loop-i.i c.loop-j.j =
    Refreshing-before c.args.builder.now c.loop-j.builder c.args.x.now.regs c.loop-j.regs g.row.N c.loop-i.i c.loop-j.j c.loop-j.invariant (omega (arith, c.loop-j.auto.j)) (omega (arith, c.loop-j-test.true)) c.law.ensures c.requires.shared in
    let one : HasPushed c.loop-j.builder c.push-random.new.self = pushed-numbers c.loop-j.builder c.push-random.new.self instr.Rnd c.push-random.ensures.pushed in
    let two : HasPushed c.push-random.new.self c.push.new.self =
    pushed-numbers c.push-random.new.self c.push.new.self (instr.Add (slice_index c.loop-j.regs c.loop-i.i) c.push-random.result) c.push.ensures.pushed in
    let kept : slice_index (slice_set c.loop-j.regs c.loop-i.i c.push.result) c.loop-j.j ≡ slice_index c.loop-j.regs c.loop-j.j =
    get_or-set_other c.loop-j.regs c.loop-i.i c.loop-j.j c.push.result 0 (λ e. omega (arith, e, c.loop-j.auto.j)) in
    (omega (arith, kept, positions.second, one.len, two.len), omega (arith, c.push-random.ensures.position, one.len, two.len))

pub loop-j-preserved : goal.loop-j-preserved
loop-j-preserved g c =
    Refreshing-more c.args.builder.now c.loop-j.builder c.push-random.new.self c.push.new.self c.push-in-loop-j.new.self c.args.x.now.regs c.loop-j.regs
    g.row.N c.loop-i.i c.loop-j.j c.push-random.result c.push.result c.push-in-loop-j.result c.loop-j.invariant
    (record {
      one_is = c.push-random.ensures.pushed;
      random_is = c.push-random.ensures.position;
      two_is = c.push.ensures.pushed;
      first_is = c.push.ensures.position;
      three_is = c.push-in-loop-j.ensures.pushed;
      second_is = c.push-in-loop-j.ensures.position;
    })
    (omega (arith, c.loop-j.auto.j)) (omega (arith, c.loop-j-test.true)) c.law.ensures

pub loop-i-preserved : goal.loop-i-preserved
loop-i-preserved g c =
    Refreshing-next c.args.builder.now c.loop-j.builder c.args.x.now.regs c.loop-j.regs g.row.N c.loop-i.i c.loop-j.j c.loop-j.invariant
    (omega (arith, c.loop-i-test.true))
    (let le : c.loop-j.j ≤ g.row.N = c.loop-j.auto.j-end (omega (arith, c.loop-i-test.true)) in omega (arith, le, c.loop-j-test.false))

pub returns-clause-emitted : goal.returns-clause-emitted
returns-clause-emitted g c =
    Refreshing-all c.args.builder.now c.loop-i.builder c.args.x.now.regs c.loop-i.regs g.row.N c.loop-i.i c.loop-i.invariant
    (omega (arith, c.loop-i.auto.i-end, c.loop-i-test.false))

pub returns-clause-value : goal.returns-clause-value
returns-clause-value g c = refresh-gives _ _ g.row.N _ c.args.x.now.regs c.law.ensures c.requires.shared

pub returns-clause-strong : goal.returns-clause-strong
returns-clause-strong g c = λ maps. refresh-strong _ maps g.row.N

pub returns-in_err-reserve-clause-strong : goal.returns-in_err-reserve-clause-strong
returns-in_err-reserve-clause-strong g c = λ maps. refresh-strong _ maps g.row.N
