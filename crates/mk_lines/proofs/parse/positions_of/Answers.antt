-- Position after position.
use Rattle.std.proofs.Common.{◌≡◌, ◌+◌, ◌-◌, ◌++◌, ℕ, suc, List, Some, arith, sym, subst}
use Rattle.mk_lines.specs.Parsing.{◌>>=◌, positions_of}
use Rattle.mk_lines.proofs.Steps.{some_bytes, no_bytes}
use Rattle.mk_lines.proofs.Loops.{position_more, position_no_space, position_no_number, position_high, positions_done, positions_behind}
use Rattle.mk_lines.proofs.parse.positions_of.Goals as goal

pub returns-in_default : goal.returns-in_default
returns-in_default c =
    let more : c.args.count - c.loop.counter ≡ suc (c.args.count - (c.loop.counter + 1)) = omega arith in
    position_no_space c.loop.positions _ _ c.args.len c.loop.rest.now _ more c.in_default.ensures c.loop.invariant

pub returns-in_default-number_at : goal.returns-in_default-number_at
returns-in_default-number_at c =
    let more : c.args.count - c.loop.counter ≡ suc (c.args.count - (c.loop.counter + 1)) = omega arith in
    position_no_number c.loop.positions _ _ c.args.len c.loop.rest.now c.in-Some.word.now _ more c.in-Some.ensures c.in_default-number_at.ensures c.loop.invariant

pub returns-then-from-len : goal.returns-then-from-len
returns-then-from-len c =
    let more : c.args.count - c.loop.counter ≡ suc (c.args.count - (c.loop.counter + 1)) = omega arith in
    position_high c.loop.positions _ _ c.args.len c.loop.rest.now c.in-Some.word.now c.in-Some-number_at.behind.now c.in-Some-number_at.position _ more c.in-Some.ensures c.in-Some-number_at.ensures (omega arith) c.loop.invariant

pub loop-preserved : goal.loop-preserved
loop-preserved c =
    let more : c.args.count - c.loop.counter ≡ suc (c.args.count - (c.loop.counter + 1)) = omega arith in
    subst (λ (done : List ℕ). (positions_of (c.args.count - (c.loop.counter + 1)) c.args.len c.in-Some-number_at.behind.now >>= λ ps. Some (done ++ ps)) ≡ positions_of c.args.count c.args.len c.args.words.now) (sym c.in_ok-push.ensures.ok)
    (position_more c.loop.positions _ _ c.args.len c.loop.rest.now c.in-Some.word.now c.in-Some-number_at.behind.now c.in-Some-number_at.position _ more c.in-Some.ensures c.in-Some-number_at.ensures (omega arith) c.loop.invariant)

pub returns-then-not-is_empty : goal.returns-then-not-is_empty
returns-then-not-is_empty c =
    let none : c.args.count - c.loop.counter ≡ 0 = omega arith in
    positions_behind c.loop.positions _ c.args.len c.loop.rest.now _ none (some_bytes c.loop.rest.now c.is_empty.result c.is_empty.ensures c.if-not-is_empty.true) c.loop.invariant

pub returns : goal.returns
returns c =
    let none : c.args.count - c.loop.counter ≡ 0 = omega arith in
    positions_done c.loop.positions _ c.args.len c.loop.rest.now _ none (no_bytes c.loop.rest.now c.is_empty.result c.is_empty.ensures c.if-not-is_empty.false) c.loop.invariant
