-- The first loop of the name is found.
use Rattle.std.proofs.Common.{map, sym, ap, ◌∙◌}
use Rattle.std.proofs.lemmas.List.{take_more}
use Rattle.mk_unroll.specs.declared.turns.Turn.{Turn}
use Rattle.mk_unroll.proofs.Finding.{turn, number_first, number_none, none_more}
use Rattle.mk_unroll.proofs.turns.Turns.number.Goals as goal

pub returns-then-eq : goal.returns-then-eq
returns-then-eq c =
    let items = c.as_slice-turn-items.result.now in
    number_first (λ (t : Turn). t.name.now) (λ (t : Turn). t.number) c.args.name.now items c.loop-turn.turn-index _
    (take_more items c.loop-turn.turn-index _ c.loop-turn-test.true) c.loop-turn.invariant (sym c.eq.ensures ∙ c.if-eq.true)
    c.args.self.now
    (ap (map (turn (λ (t : Turn). t.name.now) (λ (t : Turn). t.number) c.args.name.now)) c.as_slice-turn-items.ensures.value ∙ c.self.view_is)

pub loop-turn-preserved : goal.loop-turn-preserved
loop-turn-preserved c =
    let items = c.as_slice-turn-items.result.now in
    none_more (λ (t : Turn). t.name.now) (λ (t : Turn). t.number) c.args.name.now items c.loop-turn.turn-index _
    (take_more items c.loop-turn.turn-index _ c.loop-turn-test.true) c.loop-turn.invariant (sym c.eq.ensures ∙ c.if-eq.false)

pub returns : goal.returns
returns c =
    let items = c.as_slice-turn-items.result.now in
    number_none (λ (t : Turn). t.name.now) (λ (t : Turn). t.number) c.args.name.now items c.loop-turn.turn-index c.loop-turn-test.false c.loop-turn.invariant
    c.args.self.now
    (ap (map (turn (λ (t : Turn). t.name.now) (λ (t : Turn). t.number) c.args.name.now)) c.as_slice-turn-items.ensures.value ∙ c.self.view_is)
