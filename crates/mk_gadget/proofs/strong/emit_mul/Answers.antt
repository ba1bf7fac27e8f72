-- One more pair was appended, or one more sum of a row.
use Rattle.std.proofs.Common.{arith, ◌≡◌, ℕ, ◌≤◌, ◌+◌, length, slice_index, sym, ap, subst}
use Rattle.mk_code.specs.declared.instr.Instr.TheVariants as instr
use Rattle.mk_code.specs.Draft.{Draft, draft_len}
use Rattle.mk_gadget.specs.Product.{product_gadget}
use Rattle.mk_code.proofs.Steps.{AllBelow-at}
use Rattle.mk_gadget.proofs.ProductRun.{cell_position-below}
use Rattle.mk_gadget.proofs.ProductRows.{length-product}
use Rattle.mk_gadget.proofs.StrongValues.{product-gives}
use Rattle.mk_gadget.proofs.Placing.{few-shares, HasPushed, pushed-numbers}
use Rattle.mk_gadget.proofs.ProductEmitting.{Crossing-start, Crossing-first, Crossing-next, Crossing-len, HasRoomFor, Crossing-room, Crossing-more, Rowing-start, Rowing-len, Rowing-room, Columning, Columning-start, Columning-room, Columning-len, sum-at, cell-at, Columning-more, Columning-same, Rowing-more, Rowing-all}
use Rattle.mk_gadget.proofs.ProductStrong.{product-strong}
use Rattle.mk_gadget.proofs.strong.emit_mul.Goals as goal
use Rattle.mk_gadget.proofs.strong.emit_mul.Goals.{then-column-row, else-column-row}

pub pairs_before-requires-clause-most : goal.pairs_before-requires-clause-most
pairs_before-requires-clause-most g c =
    few-shares g.row.N (length (product_gadget g.row.N).instrs) (omega (arith, length-product g.row.N)) (omega (arith, c.requires.few))

pub overflow_cast-pairs_before : goal.overflow_cast-pairs_before
overflow_cast-pairs_before g c = omega (arith, c.pairs_before.ensures, length-product g.row.N, c.requires.few)

pub overflow_mul-pairs_before : goal.overflow_mul-pairs_before
overflow_mul-pairs_before g c = omega (arith, c.pairs_before.ensures, length-product g.row.N, c.requires.few)

pub overflow_mul-reserve : goal.overflow_mul-reserve
overflow_mul-reserve g c = omega (arith, c.pairs_before.ensures, length-product g.row.N, c.requires.few)

pub overflow_cast-reserve : goal.overflow_cast-reserve
overflow_cast-reserve g c = omega (arith, c.pairs_before.ensures, length-product g.row.N, c.requires.few)

pub overflow_add-pairs_before : goal.overflow_add-pairs_before
overflow_add-pairs_before g c = omega (arith, c.pairs_before.ensures, length-product g.row.N, c.requires.few)

pub loop-low-init : goal.loop-low-init
loop-low-init g c =
    Crossing-start c.args.builder.now c.reserve.new.self c.args.x.now.regs c.args.y.now.regs g.row.N c.in_ok-reserve.ensures.same (omega (arith, c.in_ok-reserve.ensures.ok, c.pairs_before.ensures))

pub loop-high-init : goal.loop-high-init
loop-high-init g c = Crossing-first c.args.builder.now c.loop-low.builder c.args.x.now.regs c.args.y.now.regs g.row.N c.loop-low.low c.loop-low.invariant

pub push-sum-requires-clause-room : goal.push-sum-requires-clause-room
push-sum-requires-clause-room g c =
    let room : HasRoomFor c.args.builder.now c.loop-high.builder g.row.N 5 =
    Crossing-room c.args.builder.now c.loop-high.builder c.args.x.now.regs c.args.y.now.regs g.row.N c.loop-low.low c.loop-high.high c.loop-high.invariant (omega (arith, c.loop-high.auto.high)) (omega (arith, c.loop-high-test.true)) in
    omega (arith, room.spare)

pub push-sum-requires-clause-few : goal.push-sum-requires-clause-few
push-sum-requires-clause-few g c =
    let room : HasRoomFor c.args.builder.now c.loop-high.builder g.row.N 5 =
    Crossing-room c.args.builder.now c.loop-high.builder c.args.x.now.regs c.args.y.now.regs g.row.N c.loop-low.low c.loop-high.high c.loop-high.invariant (omega (arith, c.loop-high.auto.high)) (omega (arith, c.loop-high-test.true)) in
    omega (arith, room.few, c.requires.few)

pub push-product-requires-clause-room : goal.push-product-requires-clause-room
push-product-requires-clause-room g c =
    let room : HasRoomFor c.args.builder.now c.loop-high.builder g.row.N 5 =
    Crossing-room c.args.builder.now c.loop-high.builder c.args.x.now.regs c.args.y.now.regs g.row.N c.loop-low.low c.loop-high.high c.loop-high.invariant (omega (arith, c.loop-high.auto.high)) (omega (arith, c.loop-high-test.true)) in
    let one : HasPushed c.loop-high.builder c.push-sum.new.self = pushed-numbers c.loop-high.builder c.push-sum.new.self instr.Rnd c.push-sum.ensures.pushed in
    omega (arith, room.spare, one.spare)

pub push-product-requires-clause-few : goal.push-product-requires-clause-few
push-product-requires-clause-few g c =
    let room : HasRoomFor c.args.builder.now c.loop-high.builder g.row.N 5 =
    Crossing-room c.args.builder.now c.loop-high.builder c.args.x.now.regs c.args.y.now.regs g.row.N c.loop-low.low c.loop-high.high c.loop-high.invariant (omega (arith, c.loop-high.auto.high)) (omega (arith, c.loop-high-test.true)) in
    let one : HasPushed c.loop-high.builder c.push-sum.new.self = pushed-numbers c.loop-high.builder c.push-sum.new.self instr.Rnd c.push-sum.ensures.pushed in
    omega (arith, room.few, one.count, c.requires.few)

pub push-product-requires-clause-fits : goal.push-product-requires-clause-fits
push-product-requires-clause-fits g c =
    let one : HasPushed c.loop-high.builder c.push-sum.new.self = pushed-numbers c.loop-high.builder c.push-sum.new.self instr.Rnd c.push-sum.ensures.pushed in
    let len : draft_len c.args.builder.now ≤ draft_len c.loop-high.builder = omega (arith, Crossing-len c.args.builder.now c.loop-high.builder c.args.x.now.regs c.args.y.now.regs g.row.N c.loop-low.low c.loop-high.high c.loop-high.invariant (omega (arith, c.loop-high.auto.high))) in (
      omega (arith, AllBelow-at (draft_len c.args.builder.now) c.args.x.now.regs c.loop-low.low c.requires.left (omega (arith, c.loop-low-test.true, c.law.ensures, c.law-2.ensures)), len, one.len),
      omega (arith, AllBelow-at (draft_len c.args.builder.now) c.args.y.now.regs c.loop-high.high c.requires.right (omega (arith, c.loop-high-test.true, c.law.ensures, c.law-2.ensures)), len, one.len),
    )

pub push-sum-requires-in-loop-high-clause-room : goal.push-sum-requires-in-loop-high-clause-room
push-sum-requires-in-loop-high-clause-room g c =
    let room : HasRoomFor c.args.builder.now c.loop-high.builder g.row.N 5 =
    Crossing-room c.args.builder.now c.loop-high.builder c.args.x.now.regs c.args.y.now.regs g.row.N c.loop-low.low c.loop-high.high c.loop-high.invariant (omega (arith, c.loop-high.auto.high)) (omega (arith, c.loop-high-test.true)) in
    let one : HasPushed c.loop-high.builder c.push-sum.new.self = pushed-numbers c.loop-high.builder c.push-sum.new.self instr.Rnd c.push-sum.ensures.pushed in
    let two : HasPushed c.push-sum.new.self c.push-product.new.self = pushed-numbers c.push-sum.new.self c.push-product.new.self (instr.Mul (slice_index c.args.x.now.regs c.loop-low.low) (slice_index c.args.y.now.regs c.loop-high.high)) c.push-product.ensures.pushed in
    omega (arith, room.spare, one.spare, two.spare)

pub push-sum-requires-in-loop-high-clause-few : goal.push-sum-requires-in-loop-high-clause-few
push-sum-requires-in-loop-high-clause-few g c =
    let room : HasRoomFor c.args.builder.now c.loop-high.builder g.row.N 5 =
    Crossing-room c.args.builder.now c.loop-high.builder c.args.x.now.regs c.args.y.now.regs g.row.N c.loop-low.low c.loop-high.high c.loop-high.invariant (omega (arith, c.loop-high.auto.high)) (omega (arith, c.loop-high-test.true)) in
    let one : HasPushed c.loop-high.builder c.push-sum.new.self = pushed-numbers c.loop-high.builder c.push-sum.new.self instr.Rnd c.push-sum.ensures.pushed in
    let two : HasPushed c.push-sum.new.self c.push-product.new.self = pushed-numbers c.push-sum.new.self c.push-product.new.self (instr.Mul (slice_index c.args.x.now.regs c.loop-low.low) (slice_index c.args.y.now.regs c.loop-high.high)) c.push-product.ensures.pushed in
    omega (arith, room.few, one.count, two.count, c.requires.few)

pub push-other-requires-clause-room : goal.push-other-requires-clause-room
push-other-requires-clause-room g c =
    let room : HasRoomFor c.args.builder.now c.loop-high.builder g.row.N 5 =
    Crossing-room c.args.builder.now c.loop-high.builder c.args.x.now.regs c.args.y.now.regs g.row.N c.loop-low.low c.loop-high.high c.loop-high.invariant (omega (arith, c.loop-high.auto.high)) (omega (arith, c.loop-high-test.true)) in
    let one : HasPushed c.loop-high.builder c.push-sum.new.self = pushed-numbers c.loop-high.builder c.push-sum.new.self instr.Rnd c.push-sum.ensures.pushed in
    let two : HasPushed c.push-sum.new.self c.push-product.new.self = pushed-numbers c.push-sum.new.self c.push-product.new.self (instr.Mul (slice_index c.args.x.now.regs c.loop-low.low) (slice_index c.args.y.now.regs c.loop-high.high)) c.push-product.ensures.pushed in
    let three : HasPushed c.push-product.new.self c.push-sum-in-loop-high.new.self = pushed-numbers c.push-product.new.self c.push-sum-in-loop-high.new.self (instr.Add c.push-sum.result c.push-product.result) c.push-sum-in-loop-high.ensures.pushed in
    omega (arith, room.spare, one.spare, two.spare, three.spare)

pub push-other-requires-clause-few : goal.push-other-requires-clause-few
push-other-requires-clause-few g c =
    let room : HasRoomFor c.args.builder.now c.loop-high.builder g.row.N 5 =
    Crossing-room c.args.builder.now c.loop-high.builder c.args.x.now.regs c.args.y.now.regs g.row.N c.loop-low.low c.loop-high.high c.loop-high.invariant (omega (arith, c.loop-high.auto.high)) (omega (arith, c.loop-high-test.true)) in
    let one : HasPushed c.loop-high.builder c.push-sum.new.self = pushed-numbers c.loop-high.builder c.push-sum.new.self instr.Rnd c.push-sum.ensures.pushed in
    let two : HasPushed c.push-sum.new.self c.push-product.new.self = pushed-numbers c.push-sum.new.self c.push-product.new.self (instr.Mul (slice_index c.args.x.now.regs c.loop-low.low) (slice_index c.args.y.now.regs c.loop-high.high)) c.push-product.ensures.pushed in
    let three : HasPushed c.push-product.new.self c.push-sum-in-loop-high.new.self = pushed-numbers c.push-product.new.self c.push-sum-in-loop-high.new.self (instr.Add c.push-sum.result c.push-product.result) c.push-sum-in-loop-high.ensures.pushed in
    omega (arith, room.few, one.count, two.count, three.count, c.requires.few)

pub push-other-requires-clause-fits : goal.push-other-requires-clause-fits
push-other-requires-clause-fits g c =
    let one : HasPushed c.loop-high.builder c.push-sum.new.self = pushed-numbers c.loop-high.builder c.push-sum.new.self instr.Rnd c.push-sum.ensures.pushed in
    let two : HasPushed c.push-sum.new.self c.push-product.new.self = pushed-numbers c.push-sum.new.self c.push-product.new.self (instr.Mul (slice_index c.args.x.now.regs c.loop-low.low) (slice_index c.args.y.now.regs c.loop-high.high)) c.push-product.ensures.pushed in
    let three : HasPushed c.push-product.new.self c.push-sum-in-loop-high.new.self = pushed-numbers c.push-product.new.self c.push-sum-in-loop-high.new.self (instr.Add c.push-sum.result c.push-product.result) c.push-sum-in-loop-high.ensures.pushed in
    let len : draft_len c.args.builder.now ≤ draft_len c.loop-high.builder = omega (arith, Crossing-len c.args.builder.now c.loop-high.builder c.args.x.now.regs c.args.y.now.regs g.row.N c.loop-low.low c.loop-high.high c.loop-high.invariant (omega (arith, c.loop-high.auto.high))) in (
      omega (arith, AllBelow-at (draft_len c.args.builder.now) c.args.x.now.regs c.loop-high.high c.requires.left (omega (arith, c.loop-high-test.true, c.law.ensures, c.law-2.ensures)), len, one.len, two.len, three.len),
      omega (arith, AllBelow-at (draft_len c.args.builder.now) c.args.y.now.regs c.loop-low.low c.requires.right (omega (arith, c.loop-low-test.true, c.law.ensures, c.law-2.ensures)), len, one.len, two.len, three.len),
    )

pub push-sum-requires-in-loop-high-2-clause-room : goal.push-sum-requires-in-loop-high-2-clause-room
push-sum-requires-in-loop-high-2-clause-room g c =
    let room : HasRoomFor c.args.builder.now c.loop-high.builder g.row.N 5 =
    Crossing-room c.args.builder.now c.loop-high.builder c.args.x.now.regs c.args.y.now.regs g.row.N c.loop-low.low c.loop-high.high c.loop-high.invariant (omega (arith, c.loop-high.auto.high)) (omega (arith, c.loop-high-test.true)) in
    let one : HasPushed c.loop-high.builder c.push-sum.new.self = pushed-numbers c.loop-high.builder c.push-sum.new.self instr.Rnd c.push-sum.ensures.pushed in
    let two : HasPushed c.push-sum.new.self c.push-product.new.self = pushed-numbers c.push-sum.new.self c.push-product.new.self (instr.Mul (slice_index c.args.x.now.regs c.loop-low.low) (slice_index c.args.y.now.regs c.loop-high.high)) c.push-product.ensures.pushed in
    let three : HasPushed c.push-product.new.self c.push-sum-in-loop-high.new.self = pushed-numbers c.push-product.new.self c.push-sum-in-loop-high.new.self (instr.Add c.push-sum.result c.push-product.result) c.push-sum-in-loop-high.ensures.pushed in
    let four : HasPushed c.push-sum-in-loop-high.new.self c.push-other.new.self = pushed-numbers c.push-sum-in-loop-high.new.self c.push-other.new.self (instr.Mul (slice_index c.args.x.now.regs c.loop-high.high) (slice_index c.args.y.now.regs c.loop-low.low)) c.push-other.ensures.pushed in
    omega (arith, room.spare, one.spare, two.spare, three.spare, four.spare)

pub push-sum-requires-in-loop-high-2-clause-few : goal.push-sum-requires-in-loop-high-2-clause-few
push-sum-requires-in-loop-high-2-clause-few g c =
    let room : HasRoomFor c.args.builder.now c.loop-high.builder g.row.N 5 =
    Crossing-room c.args.builder.now c.loop-high.builder c.args.x.now.regs c.args.y.now.regs g.row.N c.loop-low.low c.loop-high.high c.loop-high.invariant (omega (arith, c.loop-high.auto.high)) (omega (arith, c.loop-high-test.true)) in
    let one : HasPushed c.loop-high.builder c.push-sum.new.self = pushed-numbers c.loop-high.builder c.push-sum.new.self instr.Rnd c.push-sum.ensures.pushed in
    let two : HasPushed c.push-sum.new.self c.push-product.new.self = pushed-numbers c.push-sum.new.self c.push-product.new.self (instr.Mul (slice_index c.args.x.now.regs c.loop-low.low) (slice_index c.args.y.now.regs c.loop-high.high)) c.push-product.ensures.pushed in
    let three : HasPushed c.push-product.new.self c.push-sum-in-loop-high.new.self = pushed-numbers c.push-product.new.self c.push-sum-in-loop-high.new.self (instr.Add c.push-sum.result c.push-product.result) c.push-sum-in-loop-high.ensures.pushed in
    let four : HasPushed c.push-sum-in-loop-high.new.self c.push-other.new.self = pushed-numbers c.push-sum-in-loop-high.new.self c.push-other.new.self (instr.Mul (slice_index c.args.x.now.regs c.loop-high.high) (slice_index c.args.y.now.regs c.loop-low.low)) c.push-other.ensures.pushed in
    omega (arith, room.few, one.count, two.count, three.count, four.count, c.requires.few)

pub loop-high-preserved : goal.loop-high-preserved
loop-high-preserved g c =
    Crossing-more c.args.builder.now c.loop-high.builder c.push-sum.new.self c.push-product.new.self c.push-sum-in-loop-high.new.self c.push-other.new.self c.push-sum-in-loop-high-2.new.self c.args.x.now.regs c.args.y.now.regs g.row.N c.loop-low.low c.loop-high.high
    c.push-sum.result c.push-product.result c.push-sum-in-loop-high.result c.push-other.result c.loop-high.invariant
    (record {
      one_is = c.push-sum.ensures.pushed;
      random_is = c.push-sum.ensures.position;
      two_is = c.push-product.ensures.pushed;
      first_is = c.push-product.ensures.position;
      three_is = c.push-sum-in-loop-high.ensures.pushed;
      half_is = c.push-sum-in-loop-high.ensures.position;
      four_is = c.push-other.ensures.pushed;
      second_is = c.push-other.ensures.position;
      five_is = c.push-sum-in-loop-high-2.ensures.pushed;
    })
    (omega (arith, c.loop-high.auto.high)) (omega (arith, c.loop-high-test.true)) c.law.ensures c.law-2.ensures

pub loop-low-preserved : goal.loop-low-preserved
loop-low-preserved g c =
    let le : c.loop-high.high ≤ g.row.N = c.loop-high.auto.high-end (omega (arith, c.loop-low-test.true)) in
    Crossing-next c.args.builder.now c.loop-high.builder c.args.x.now.regs c.args.y.now.regs g.row.N c.loop-low.low c.loop-high.high c.loop-high.invariant (omega (arith, le, c.loop-high-test.false))

pub loop-row-init : goal.loop-row-init
loop-row-init g c =
    Rowing-start c.args.builder.now c.loop-low.builder c.args.x.now.regs c.args.y.now.regs g.row.N c.loop-low.low c.loop-low.invariant (omega (arith, c.loop-low.auto.low-end, c.loop-low-test.false))

pub push-sum-requires-in-loop-row-clause-room : goal.push-sum-requires-in-loop-row-clause-room
push-sum-requires-in-loop-row-clause-room g c =
    let room : HasRoomFor c.args.builder.now c.loop-row.builder g.row.N 1 =
    Rowing-room c.args.builder.now c.loop-row.builder c.args.x.now.regs c.args.y.now.regs c.loop-row.regs g.row.N c.loop-row.row c.loop-row.invariant (omega (arith, c.loop-row-test.true)) in
    omega (arith, room.spare)

pub push-sum-requires-in-loop-row-clause-few : goal.push-sum-requires-in-loop-row-clause-few
push-sum-requires-in-loop-row-clause-few g c =
    let room : HasRoomFor c.args.builder.now c.loop-row.builder g.row.N 1 =
    Rowing-room c.args.builder.now c.loop-row.builder c.args.x.now.regs c.args.y.now.regs c.loop-row.regs g.row.N c.loop-row.row c.loop-row.invariant (omega (arith, c.loop-row-test.true)) in
    omega (arith, room.few, c.requires.few)

pub push-sum-requires-in-loop-row-clause-fits : goal.push-sum-requires-in-loop-row-clause-fits
push-sum-requires-in-loop-row-clause-fits g c =
    let len : draft_len c.args.builder.now ≤ draft_len c.loop-row.builder = omega (arith, Rowing-len c.args.builder.now c.loop-row.builder c.args.x.now.regs c.args.y.now.regs c.loop-row.regs g.row.N c.loop-row.row c.loop-row.invariant (omega (arith, c.loop-row-test.true))) in (
      omega (arith, AllBelow-at (draft_len c.args.builder.now) c.args.x.now.regs c.loop-row.row c.requires.left (omega (arith, c.loop-row-test.true, c.law.ensures)), len),
      omega (arith, AllBelow-at (draft_len c.args.builder.now) c.args.y.now.regs c.loop-row.row c.requires.right (omega (arith, c.loop-row-test.true, c.law-2.ensures)), len),
    )

pub loop-column-init : goal.loop-column-init
loop-column-init g c =
    Columning-start c.args.builder.now c.loop-row.builder c.push-sum-in-loop-row.new.self c.args.x.now.regs c.args.y.now.regs c.loop-row.regs g.row.N c.loop-row.row c.push-sum-in-loop-row.result
    c.loop-row.invariant (omega (arith, c.loop-row-test.true)) c.law.ensures c.law-2.ensures c.push-sum-in-loop-row.ensures.pushed c.push-sum-in-loop-row.ensures.position

pub cell_position-requires-clause-most : goal.cell_position-requires-clause-most
cell_position-requires-clause-most g c =
    few-shares g.row.N (length (product_gadget g.row.N).instrs) (omega (arith, length-product g.row.N)) (omega (arith, c.requires.few))

pub cell_position-requires-clause-fits : goal.cell_position-requires-clause-fits
cell_position-requires-clause-fits g c =
    let base : draft_len c.reserve.new.self ≡ draft_len c.args.builder.now = ap draft_len c.in_ok-reserve.ensures.same in
    omega (
      arith,
      base,
      c.len-first.ensures,
      c.push-sum-in-loop-row.type_inv,
      c.push-sum-in-loop-row.ensures.position,
      Rowing-len c.args.builder.now c.loop-row.builder c.args.x.now.regs c.args.y.now.regs c.loop-row.regs g.row.N c.loop-row.row c.loop-row.invariant (omega (arith, c.loop-row-test.true)),
    )

pub push-sum-requires-then-column-row-clause-room : goal.push-sum-requires-then-column-row-clause-room
push-sum-requires-then-column-row-clause-room g c =
    let room : HasRoomFor c.args.builder.now c.loop-column.builder g.row.N 1 =
    Columning-room c.args.builder.now c.loop-column.builder c.args.x.now.regs c.args.y.now.regs g.row.N c.loop-row.row c.loop-column.column c.loop-column.sum c.loop-column.invariant (omega (arith, c.loop-row-test.true)) (omega (arith, c.loop-column-test.true)) (λ e. c.if-column-row.true (sym e)) in
    omega (arith, room.spare)

pub push-sum-requires-then-column-row-clause-few : goal.push-sum-requires-then-column-row-clause-few
push-sum-requires-then-column-row-clause-few g c =
    let room : HasRoomFor c.args.builder.now c.loop-column.builder g.row.N 1 =
    Columning-room c.args.builder.now c.loop-column.builder c.args.x.now.regs c.args.y.now.regs g.row.N c.loop-row.row c.loop-column.column c.loop-column.sum c.loop-column.invariant (omega (arith, c.loop-row-test.true)) (omega (arith, c.loop-column-test.true)) (λ e. c.if-column-row.true (sym e)) in
    omega (arith, room.few, c.requires.few)

pub push-sum-requires-then-column-row-clause-fits : goal.push-sum-requires-then-column-row-clause-fits
push-sum-requires-then-column-row-clause-fits g c =
    let base : draft_len c.reserve.new.self ≡ draft_len c.args.builder.now = ap draft_len c.in_ok-reserve.ensures.same in
    let len : draft_len c.loop-column.builder ≡ _ = Columning-len c.args.builder.now c.loop-column.builder c.args.x.now.regs c.args.y.now.regs g.row.N c.loop-row.row c.loop-column.column c.loop-column.sum c.loop-column.invariant (omega (arith, c.loop-row-test.true)) in (
      omega (arith, sum-at c.args.builder.now c.args.x.now.regs c.args.y.now.regs g.row.N c.loop-row.row c.loop-column.column c.law.ensures c.law-2.ensures, c.loop-column.invariant.last, len),
      omega (
        arith,
        c.cell_position.ensures,
        base,
        c.len-first.ensures,
        len,
        cell_position-below g.row.N c.loop-row.row c.loop-column.column (omega (arith, c.loop-row-test.true)) (omega (arith, c.loop-column-test.true)) (λ e. c.if-column-row.true (sym e)),
      ),
    )

pub loop-column-preserved : goal.loop-column-preserved
loop-column-preserved g c =
    let base : draft_len c.reserve.new.self ≡ draft_len c.args.builder.now = ap draft_len c.in_ok-reserve.ensures.same in
    elim c.if-column-row.branch [
      | then-column-row w ↦
          let other : (c.loop-row.row ≡ c.loop-column.column → ⊥) = λ e. w.if-column-row.true (sym e) in
          subst (λ (d : Draft). Columning c.args.builder.now d c.args.x.now.regs c.args.y.now.regs g.row.N c.loop-row.row (c.loop-column.column + 1) c.if-column-row.sum) (sym w.builder-is)
          (subst (λ (s : ℕ). Columning c.args.builder.now w.push-sum-then-column-row.new.self c.args.x.now.regs c.args.y.now.regs g.row.N c.loop-row.row (c.loop-column.column + 1) s) (sym w.sum-is)
          (Columning-more c.args.builder.now c.loop-column.builder w.push-sum-then-column-row.new.self c.args.x.now.regs c.args.y.now.regs g.row.N c.loop-row.row c.loop-column.column c.loop-column.sum
          w.cell_position.result w.push-sum-then-column-row.result c.loop-column.invariant (omega (arith, c.loop-row-test.true)) (omega (arith, c.loop-column-test.true)) other
          c.law.ensures c.law-2.ensures
          (cell-at c.args.builder.now c.args.x.now.regs c.args.y.now.regs g.row.N c.loop-row.row c.loop-column.column w.cell_position.result c.law.ensures c.law-2.ensures other
          (omega (arith, w.cell_position.ensures, base, c.len-first.ensures)))
          w.push-sum-then-column-row.ensures.pushed w.push-sum-then-column-row.ensures.position))
      | else-column-row w ↦
          subst (λ (d : Draft). Columning c.args.builder.now d c.args.x.now.regs c.args.y.now.regs g.row.N c.loop-row.row (c.loop-column.column + 1) c.if-column-row.sum) (sym w.builder-is)
          (subst (λ (s : ℕ). Columning c.args.builder.now c.loop-column.builder c.args.x.now.regs c.args.y.now.regs g.row.N c.loop-row.row (c.loop-column.column + 1) s) (sym w.sum-is)
          (Columning-same c.args.builder.now c.loop-column.builder c.args.x.now.regs c.args.y.now.regs g.row.N c.loop-row.row c.loop-column.column c.loop-column.sum c.loop-column.invariant
          (omega (arith, w.if-column-row.false))))
    ]

pub loop-row-preserved : goal.loop-row-preserved
loop-row-preserved g c =
    Rowing-more c.args.builder.now c.loop-row.builder c.loop-column.builder c.args.x.now.regs c.args.y.now.regs c.loop-row.regs g.row.N c.loop-row.row c.loop-column.column c.loop-column.sum
    c.loop-row.invariant c.loop-column.invariant (omega (arith, c.loop-row-test.true)) (omega (arith, c.loop-column.auto.column-end, c.loop-column-test.false))

pub returns-clause-emitted : goal.returns-clause-emitted
returns-clause-emitted g c =
    Rowing-all c.args.builder.now c.loop-row.builder c.args.x.now.regs c.args.y.now.regs c.loop-row.regs g.row.N c.loop-row.row c.loop-row.invariant (omega (arith, c.loop-row.auto.row-end, c.loop-row-test.false))

pub returns-clause-value : goal.returns-clause-value
returns-clause-value g c = product-gives _ _ g.row.N _ c.args.x.now.regs c.args.y.now.regs c.law.ensures c.law-2.ensures c.requires.left c.requires.right

pub returns-clause-strong : goal.returns-clause-strong
returns-clause-strong g c = λ maps. product-strong _ maps g.row.N

pub returns-in_err-reserve-clause-strong : goal.returns-in_err-reserve-clause-strong
returns-in_err-reserve-clause-strong g c = λ maps. product-strong _ maps g.row.N
