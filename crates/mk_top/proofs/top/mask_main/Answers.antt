-- Each way that a run ends has one answer.
use Rattle.std.proofs.Common.{IfSome, sym, ◌∙◌, subst}
use Rattle.mk_bundle.proofs.Versions.{read_once}
use Rattle.mk_words.specs.Words.{Compile, Eval, Run, Count, Report, Gen, Trial, Table, Gadget, Regs}
use Rattle.mk_words.specs.declared.status.Status.{Status}
use Rattle.mk_top.specs.Decided.{Decides}
use Rattle.mk_top.specs.Seen.{seen}
use Rattle.mk_top.specs.Because.{IsOrMemory, answer_status, input_of, IsAnswerOf, ReadsToEnd}
use Rattle.mk_top.proofs.Ends.{finished-at, stopped-at, stopped-cut, stopped-because, stopped-read, stopped-decided, stopped-answer, finished-decided, left-unread}
use Rattle.mk_top.proofs.top.mask_main.Goals as goal

pub returns-in-Ok-clause-compiled : goal.returns-in-Ok-clause-compiled
returns-in-Ok-clause-compiled g c order asks done =
    let at = finished-at _ (Compile order) _ _ c.in-Ok.ensures.finished asks in
    (at.written, at.made.makes.0, at.whole)

pub returns-in-Ok-clause-made : goal.returns-in-Ok-clause-made
returns-in-Ok-clause-made g c order asks done =
    let at = finished-at _ (Compile order) _ _ c.in-Ok.ensures.finished asks in
    (at.written, at.made.makes, at.whole)

pub returns-in-Ok-clause-evaluated : goal.returns-in-Ok-clause-evaluated
returns-in-Ok-clause-evaluated g c publics secrets asks done =
    let at = finished-at _ (Eval publics secrets) _ _ c.in-Ok.ensures.finished asks in
    (at.written, at.made.makes, at.whole)

pub returns-in-Ok-clause-ran : goal.returns-in-Ok-clause-ran
returns-in-Ok-clause-ran g c publics secrets tape asks done =
    let at = finished-at _ (Run publics secrets tape) _ _ c.in-Ok.ensures.finished asks in
    (at.written, at.made.makes, at.whole)

pub returns-in-Ok-clause-counted : goal.returns-in-Ok-clause-counted
returns-in-Ok-clause-counted g c publics first second probes asks done =
    let at = finished-at _ (Count publics first second probes) _ _ c.in-Ok.ensures.finished asks in
    (at.written, at.made.makes, at.whole)

pub returns-in-Ok-clause-reported : goal.returns-in-Ok-clause-reported
returns-in-Ok-clause-reported g c asks done =
    let at = finished-at _ Report _ _ c.in-Ok.ensures.finished asks in
    (at.written, at.made.makes, at.whole)

pub returns-in-Ok-clause-generated : goal.returns-in-Ok-clause-generated
returns-in-Ok-clause-generated g c turns asks done =
    let at = finished-at _ (Gen turns) (seen g.S.Source.left g.S.Source.faults c.args.src.now c.carry_out.new.src) _ c.in-Ok.ensures.finished asks in
    (at.written, at.made.makes, at.whole)

pub returns-in-Ok-clause-tried : goal.returns-in-Ok-clause-tried
returns-in-Ok-clause-tried g c turns order asks done =
    let at = finished-at _ (Trial turns order) (seen g.S.Source.left g.S.Source.faults c.args.src.now c.carry_out.new.src) _ c.in-Ok.ensures.finished asks in
    (at.written, at.made.makes, at.whole)

pub returns-in-Ok-clause-tabulated : goal.returns-in-Ok-clause-tabulated
returns-in-Ok-clause-tabulated g c asks done =
    let at = finished-at _ Table _ _ c.in-Ok.ensures.finished asks in
    (at.written, at.made.makes, at.whole)

pub returns-in-Ok-clause-judged : goal.returns-in-Ok-clause-judged
returns-in-Ok-clause-judged g c asks done =
    let at = finished-at _ Gadget _ _ c.in-Ok.ensures.finished asks in
    (at.written, at.made.makes, at.whole)

pub returns-in-Ok-clause-allocated : goal.returns-in-Ok-clause-allocated
returns-in-Ok-clause-allocated g c asks done =
    let at = finished-at _ Regs _ _ c.in-Ok.ensures.finished asks in
    (at.written, at.made.makes, at.whole)

pub returns-in-Ok-clause-unread : goal.returns-in-Ok-clause-unread
returns-in-Ok-clause-unread g c command asks unread = left-unread _ command _ c.carry_out.ensures.leaves asks unread

pub returns-in-Err-clause-unread : goal.returns-in-Err-clause-unread
returns-in-Err-clause-unread g c command asks unread = left-unread _ command _ c.carry_out.ensures.leaves asks unread

pub returns-in-Ok-clause-decided : goal.returns-in-Ok-clause-decided
returns-in-Ok-clause-decided g c command answer asks calm still =
    finished-decided read_once _ command _ _ answer (finished-at _ command _ _ c.in-Ok.ensures.finished asks) asks

pub returns-in-Err-clause-cut : goal.returns-in-Err-clause-cut
returns-in-Err-clause-cut g c command asks is =
    let at = stopped-at _ _ _ command c.in-Err.fault asks c.in-Err.ensures.stopped in
    stopped-cut command _ _ c.in-Err.fault at (sym c.status.ensures ∙ is)

pub returns-in-Err-clause-because : goal.returns-in-Err-clause-because
returns-in-Err-clause-because g c command asks done =
    let at = stopped-at _ _ _ command c.in-Err.fault asks c.in-Err.ensures.stopped in
    (c.in-Err.fault, sym c.status.ensures, stopped-because command _ _ c.in-Err.fault at, (c.tell.ensures.line, c.tell.ensures.whole))

pub returns-in-Err-clause-decided : goal.returns-in-Err-clause-decided
returns-in-Err-clause-decided g c command answer asks calm still =
    let at = stopped-at _ _ _ command c.in-Err.fault asks c.in-Err.ensures.stopped in
    subst (λ (s : Status). IfSome (input_of command (g.S.Source.left c.args.src.now)) (λ bytes. Decides command bytes answer → IsOrMemory s (answer_status answer))) (sym c.status.ensures)
    (stopped-decided read_once _ command _ _ c.in-Err.fault answer asks at calm still)

pub returns-in-Err-clause-answers : goal.returns-in-Err-clause-answers
returns-in-Err-clause-answers g c command asks =
    let at = stopped-at _ _ _ command c.in-Err.fault asks c.in-Err.ensures.stopped in
    subst (IsAnswerOf command) (sym c.status.ensures) (stopped-answer command _ _ c.in-Err.fault at)

pub returns-in-Err-clause-read : goal.returns-in-Err-clause-read
returns-in-Err-clause-read g c command asks ends =
    let at = stopped-at _ _ _ command c.in-Err.fault asks c.in-Err.ensures.stopped in
    stopped-read command _ _ c.in-Err.fault at (subst ReadsToEnd c.status.ensures ends)
