-- What stops in a part stops in the whole.
use Rattle.std.proofs.Common.{refl, sym, ap, subst, ◌∙◌, ◌∷◌, [], ◌++◌, take, map}
use Rattle.std.proofs.lemmas.List.{take_more, append-nil, take_all}
use Rattle.mk_ast.specs.declared.refusal.SourceRefusal.TheVariants as refusal_
use Rattle.mk_ast.specs.declared.tree.Index.{Index}
use Rattle.mk_types.specs.Units.{sum_of_parts, plus_part, evaluated, linked}
use Rattle.mk_unroll.specs.Counted.{counted, Halts}
use Rattle.mk_unroll.specs.Walked.{given, added_parts, linked_parts}
use Rattle.mk_unroll.proofs.Counting.{step_halts, plus_halts, sum_first_halts, sum_rest_halts, sum_value, sum_count, chain_first_halts, told}
use Rattle.mk_unroll.proofs.indexes.+index.Goals as goal

pub follow_links-returns-in_err-number-clause-halted : goal.follow_links-returns-in_err-number-clause-halted
follow_links-returns-in_err-number-clause-halted t c =
    let links = c.args.links.now in
    let i = c.loop-link.link-index in
    let more = take_more links i c.link-item.result c.loop-link-test.true ∙ ap (λ x. take i links ++ x ∷ []) (sym c.link-item.is) in
    told c.from_residual.result c.in_err-number.field-0.0 (counted c.args.meter.now (linked_parts c.args.at c.args.turns.now c.args.first links).units) c.from_residual.ensures.1
    (step_halts c.in_err-number.field-0.0 c.args.meter.now c.loop-link.meter (linked c.args.at c.args.turns.now) (given c.args.first) links i c.link-item.result
    c.loop-link.number (linked c.args.at c.args.turns.now c.link-item.result c.loop-link.number).units []
    more c.loop-link.invariant.number c.loop-link.invariant.meter (sym (append-nil _)) c.in_err-number.ensures.halted)

pub number_of-returns-in_err-value-in-Chain-clause-halted : goal.number_of-returns-in_err-value-in-Chain-clause-halted
number_of-returns-in_err-value-in-Chain-clause-halted t c =
    let chain = c.in-Chain in
    let e = c.in_err-value-in-Chain.field-0.0 in
    let m = c.args.meter.now in
    let at = c.args.at in
    let turns = c.args.turns.now in
    told c.from_residual.result e (counted m (evaluated at turns c.args.index.now).units) c.from_residual.ensures.1
    (subst (λ (x : Index). Halts e (counted m (evaluated at turns x).units)) (sym chain.is)
    (chain_first_halts e m m at turns chain.first chain.rest
    (subst (λ (x : Index). Halts e (counted m (evaluated at turns x).units)) c.get.ensures c.in_err-value-in-Chain.ensures.halted)))

pub sum_of-returns-in_err-sum-clause-halted : goal.sum_of-returns-in_err-sum-clause-halted
sum_of-returns-in_err-sum-clause-halted t c =
    told c.from_residual.result c.in_err-sum.field-0.0 (counted c.args.meter.now (sum_of_parts c.args.at (map (evaluated c.args.at c.args.turns.now) c.args.parts.now)).units) c.from_residual.ensures.1
    (sum_first_halts c.in_err-sum.field-0.0 c.args.meter.now c.args.meter.now c.args.at c.args.turns.now c.args.parts.now c.in-Some.rest.now c.in-Some.first.now
    c.in-Some.ensures.cases.0 c.in_err-sum.ensures.halted)

pub sum_of-returns-in_err-value-clause-halted : goal.sum_of-returns-in_err-value-clause-halted
sum_of-returns-in_err-value-clause-halted t c =
    let rest = c.in-Some.rest.now in
    let i = c.loop-part.part-index in
    let e = c.in_err-value.field-0.0 in
    let at = c.args.at in
    let turns = c.args.turns.now in
    let more = take_more rest i c.part-item.result c.loop-part-test.true ∙ ap (λ x. take i rest ++ x ∷ []) (sym c.part-item.is) in
    told c.from_residual-in_err-value.result e (counted c.args.meter.now (sum_of_parts at (map (evaluated at turns) c.args.parts.now)).units) c.from_residual-in_err-value.ensures.1
    (sum_rest_halts e c.args.meter.now c.number_of.new.meter at turns c.args.parts.now rest c.in-Some.first.now c.in-Some.ensures.cases.0
    c.in_ok-sum.sum c.in_ok-sum.ensures.value c.in_ok-sum.ensures.ok
    (step_halts e c.number_of.new.meter c.loop-part.meter (λ part. plus_part at (evaluated at turns part)) (given c.in_ok-sum.sum) rest i c.part-item.result
    c.loop-part.sum (evaluated at turns c.part-item.result).units _
    more c.loop-part.invariant.sum c.loop-part.invariant.meter refl c.in_err-value.ensures.halted))

pub sum_of-returns-in_err-sum-2-clause-halted : goal.sum_of-returns-in_err-sum-2-clause-halted
sum_of-returns-in_err-sum-2-clause-halted t c =
    let rest = c.in-Some.rest.now in
    let i = c.loop-part.part-index in
    let e = c.in_err-sum-2.field-0.0 in
    let at = c.args.at in
    let turns = c.args.turns.now in
    let part = evaluated at turns c.part-item.result in
    let more = take_more rest i c.part-item.result c.loop-part-test.true ∙ ap (λ x. take i rest ++ x ∷ []) (sym c.part-item.is) in
    told c.from_residual-in_err-sum-2.result e (counted c.args.meter.now (sum_of_parts at (map (evaluated at turns) c.args.parts.now)).units)
    c.from_residual-in_err-sum-2.ensures.1
    (sum_rest_halts e c.args.meter.now c.number_of.new.meter at turns c.args.parts.now rest c.in-Some.first.now c.in-Some.ensures.cases.0
    c.in_ok-sum.sum c.in_ok-sum.ensures.value c.in_ok-sum.ensures.ok
    (step_halts e c.number_of.new.meter c.loop-part.meter (λ part. plus_part at (evaluated at turns part)) (given c.in_ok-sum.sum) rest i c.part-item.result
    c.loop-part.sum (plus_part at part c.loop-part.sum).units []
    more c.loop-part.invariant.sum c.loop-part.invariant.meter (sym (append-nil _))
    (plus_halts e c.loop-part.meter c.number_of-in-loop-part.new.meter at part c.loop-part.sum c.in_ok-value.value c.in_ok-value.ensures.value
    c.in_ok-value.ensures.ok c.in_err-sum-2.ensures.halted)))

pub sum_of-returns-clause-value : goal.sum_of-returns-clause-value
sum_of-returns-clause-value t c =
    let rest = c.in-Some.rest.now in
    c.loop-part.invariant.sum
    ∙ ap (λ ps. (added_parts c.args.at c.args.turns.now c.in_ok-sum.sum ps).value) (take_all c.loop-part.part-index rest c.loop-part-test.false)
    ∙ sum_value refusal_.Memory c.args.meter.now c.number_of.new.meter c.args.at c.args.turns.now c.args.parts.now rest c.in-Some.first.now c.in-Some.ensures.cases.0
    c.in_ok-sum.sum c.in_ok-sum.ensures.value c.in_ok-sum.ensures.ok

pub sum_of-returns-clause-ok : goal.sum_of-returns-clause-ok
sum_of-returns-clause-ok t c =
    let rest = c.in-Some.rest.now in
    c.loop-part.invariant.meter
    ∙ ap (λ ps. counted c.number_of.new.meter (added_parts c.args.at c.args.turns.now c.in_ok-sum.sum ps).units) (take_all c.loop-part.part-index rest c.loop-part-test.false)
    ∙ sum_count refusal_.Memory c.args.meter.now c.number_of.new.meter c.args.at c.args.turns.now c.args.parts.now rest c.in-Some.first.now c.in-Some.ensures.cases.0
    c.in_ok-sum.sum c.in_ok-sum.ensures.value c.in_ok-sum.ensures.ok
