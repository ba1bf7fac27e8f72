-- The next line is passed on.
use Rattle.std.proofs.Common.{◌≡◌, ℕ, ◌+◌, ◌++◌, List, take, drop, flat_map, arith, sym, ◌∙◌, subst}
use Rattle.mk_bundle.specs.Passing.{Sends, Breaks}
use Rattle.mk_bundle.proofs.Sending.{sends_more, breaks_later, breaks_sooner, on_err, flat_map-next, flat_map-parts, all-next}
use Rattle.mk_bundle.proofs.write.put_all.Goals as goal

pub returns-in_err-put-clause-breaks : goal.returns-in_err-put-clause-breaks
returns-in_err-put-clause-breaks g c =
    let spelled = g.T.Spell.spelled in
    let items = c.args.items.now in
    let i = c.loop-item.item-index in
    let item = c.item-item.result in
    let next : c.as_str.result.now ≡ spelled item = c.as_str.ensures.value ∙ c.spell.ensures.text in
    let broken : Breaks (g.O.Sink.taken c.loop-item.out) c.loop-item.piece.bytes (spelled item) (g.O.Sink.taken c.put.new.out) =
    subst (λ (w : List ℕ). Breaks (g.O.Sink.taken c.loop-item.out) c.loop-item.piece.bytes w (g.O.Sink.taken c.put.new.out)) next c.in_err-put.ensures.breaks in
    on_err c.from_residual.result
    (subst (λ (w : List ℕ). Breaks (g.O.Sink.taken c.args.out.now) c.args.piece.now.bytes w (g.O.Sink.taken c.put.new.out)) (sym (flat_map-parts spelled items i item c.loop-item-test.true c.item-item.is))
    (breaks_sooner _ _ _ (flat_map spelled (take i items) ++ spelled item) (flat_map spelled (drop (i + 1) items)) (breaks_later _ _ _ _ _ (flat_map spelled (take i items)) (spelled item) c.loop-item.invariant.sends broken)))

pub loop-item-preserved : goal.loop-item-preserved
loop-item-preserved g c =
    let spelled = g.T.Spell.spelled in
    let items = c.args.items.now in
    let i = c.loop-item.item-index in
    let item = c.item-item.result in
    let next : c.as_str.result.now ≡ spelled item = c.as_str.ensures.value ∙ c.spell.ensures.text in
    let sent : Sends (g.O.Sink.taken c.loop-item.out) c.loop-item.piece.bytes (spelled item) (g.O.Sink.taken c.put.new.out) c.put.new.piece.bytes =
    subst (λ (w : List ℕ). Sends (g.O.Sink.taken c.loop-item.out) c.loop-item.piece.bytes w (g.O.Sink.taken c.put.new.out) c.put.new.piece.bytes) next c.in_ok-put.ensures.sends
    in record {
      sends = subst (λ (w : List ℕ). Sends (g.O.Sink.taken c.args.out.now) c.args.piece.now.bytes w (g.O.Sink.taken c.put.new.out) c.put.new.piece.bytes) (sym (flat_map-next spelled items i item c.loop-item-test.true c.item-item.is))
          (sends_more _ _ _ _ _ _ (flat_map spelled (take i items)) (spelled item) c.loop-item.invariant.sends sent);
      fits = all-next g.T.Spell.fits items i item c.loop-item-test.true c.item-item.is c.loop-item.invariant.fits c.spell.ensures.fits;
      falls = omega (arith, c.loop-item.invariant.falls, c.put.ensures.never_falls);
    }
