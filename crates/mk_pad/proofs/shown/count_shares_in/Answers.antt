-- One index more.
use Rattle.std.proofs.Common.{arith, sym, ◌∙◌, ap, ℕ, ◌+◌, ◌*◌, ◌≡◌}
use Rattle.std.specs.List.{list_any}
use Rattle.mk_pad.specs.Shown.{occurs, occurs_in, polynomial_of}
use Rattle.mk_pad.proofs.Taking.{passed-range, failed-range, counted-few}
use Rattle.mk_pad.proofs.shown.count_shares_in.Goals as goal
use Rattle.mk_pad.proofs.shown.count_shares_in.Goals.{then-occurs_among, else-occurs_among}

pub overflow_add-count : goal.overflow_add-count
overflow_add-count c =
    omega (arith, c.loop-index.invariant, counted-few (occurs_in c.args.gadget.now c.args.rest.now c.args.operand) c.loop-index.index, c.loop-index-test.true)

pub loop-index-preserved : goal.loop-index-preserved
loop-index-preserved c =
    let g = c.args.gadget.now in
    let tells : occurs_in g c.args.rest.now c.args.operand c.loop-index.index ≡ c.occurs_among.result =
    sym (c.occurs_among.ensures
    ∙ ap (λ (n : ℕ). list_any (λ q. occurs ((n + 1) * c.args.operand + c.loop-index.index) (polynomial_of g q)) c.args.rest.now) (c.from-shares.ensures ∙ c.order.ensures)) in
    elim c.if-occurs_among.branch [
      | then-occurs_among w ↦
          passed-range (occurs_in c.args.gadget.now c.args.rest.now c.args.operand) c.loop-index.index c.loop-index.count c.if-occurs_among.count c.loop-index.invariant
          (tells ∙ w.if-occurs_among.true) w.count-is
      | else-occurs_among w ↦
          failed-range (occurs_in c.args.gadget.now c.args.rest.now c.args.operand) c.loop-index.index c.loop-index.count c.if-occurs_among.count c.loop-index.invariant
          (tells ∙ w.if-occurs_among.false) w.count-is
    ]
