-- One position more.
use Rattle.std.proofs.Common.{◌≡◌, sym, ◌∙◌, ap, ℕ, not, List, slice_index_or, nat_eq}
use Rattle.std.specs.List.{list_any}
use Rattle.mk_pad.specs.Shown.{is_in}
use Rattle.mk_pad.proofs.Taking.{passed-list, failed-list, found-in}
use Rattle.mk_pad.proofs.shown.count_inner.Goals as goal
use Rattle.mk_pad.proofs.shown.count_inner.Goals.{then-not-contains, else-not-contains}

pub loop-position-preserved : goal.loop-position-preserved
loop-position-preserved c =
    let p : ℕ = slice_index_or c.args.set.now c.loop-position.position-index 0 in
    let found : is_in c.args.gadget.now.outs p ≡ c.contains.result =
    sym (c.contains.ensures.value ∙ ap (λ (xs : List ℕ). list_any (λ y. nat_eq y p) xs) (c.as_slice.ensures.items ∙ c.outs.ensures) ∙ found-in c.args.gadget.now.outs p) in
    elim c.if-not-contains.branch [
      | then-not-contains w ↦
          passed-list (λ q. not (is_in c.args.gadget.now.outs q)) c.args.set.now c.loop-position.position-index c.loop-position.count c.if-not-contains.count
          c.loop-position-test.true c.loop-position.invariant (ap not (found ∙ w.if-not-contains.true)) w.count-is
      | else-not-contains w ↦
          failed-list (λ q. not (is_in c.args.gadget.now.outs q)) c.args.set.now c.loop-position.position-index c.loop-position.count c.if-not-contains.count
          c.loop-position-test.true c.loop-position.invariant (ap not (found ∙ w.if-not-contains.false)) w.count-is
    ]
