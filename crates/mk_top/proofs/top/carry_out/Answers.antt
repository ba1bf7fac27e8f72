-- The text was put, or there is none.
use Rattle.std.proofs.Common.{Result, IfErr, sym, subst}
use Rattle.std.proofs.lemmas.Result.{err_from_is_err_and}
use Rattle.mk_top.specs.declared.fault.Fault.{Fault}
use Rattle.mk_top.specs.Seen.{seen}
use Rattle.mk_top.specs.Running.{Stopped}
use Rattle.mk_top.proofs.Ends.{put-finished, put-stopped, unmade-stopped}
use Rattle.mk_top.proofs.top.carry_out.Goals as goal

pub returns-clause-finished : goal.returns-clause-finished
returns-clause-finished g c =
    let input = seen g.S.Source.left g.S.Source.faults c.args.src.now c.answer_asked.new.src in
    let output = seen g.O.Sink.taken g.O.Sink.faults c.args.out.now c.write.new.out in
    put-finished c.args.words.now input output c.in_ok-answer.answer c.write.result (c.in_ok-answer.ensures).made c.write.ensures.whole

pub returns-clause-stopped : goal.returns-clause-stopped
returns-clause-stopped g c =
    let input = seen g.S.Source.left g.S.Source.faults c.args.src.now c.answer_asked.new.src in
    let output = seen g.O.Sink.taken g.O.Sink.faults c.args.out.now c.write.new.out in
    put-stopped c.args.words.now input output c.in_ok-answer.answer c.write.result (c.in_ok-answer.ensures).made c.write.ensures.fault c.write.ensures.cut
    c.write.ensures.rose

pub returns-in_err-answer-clause-stopped : goal.returns-in_err-answer-clause-stopped
returns-in_err-answer-clause-stopped g c =
    let p = err_from_is_err_and c.from_residual.result c.from_residual.ensures.1 in
    let input = seen g.S.Source.left g.S.Source.faults c.args.src.now c.answer_asked.new.src in
    let output = seen g.O.Sink.taken g.O.Sink.faults c.args.out.now c.args.out.now in
    subst (λ (r : Result (Unit {0}) Fault). IfErr r (Stopped c.args.words.now input output)) (sym p.1)
    (subst (Stopped c.args.words.now input output) (sym p.2)
    (unmade-stopped c.args.words.now input output c.in_err-answer.field-0.0 (c.in_err-answer.ensures).unmade))
