-- One event more was answered, or the text refused.
use Rattle.std.proofs.Common.{List, ℕ, Option, Result, Err, IfErr, sym, subst, ap}
use Rattle.std.proofs.lemmas.Result.{err_from_is_err_and}
use Rattle.mk_bundle.specs.declared.event.Event.{Event}
use Rattle.mk_bundle.specs.Reads.{Denies}
use Rattle.mk_top.specs.declared.fault.Fault.{Fault}
use Rattle.mk_top.specs.Running.{NoBundle}
use Rattle.mk_top.proofs.Progress.{reading-next, reading-whole, reading-denied, rose-earlier}
use Rattle.mk_top.proofs.bundle.next_event.Goals as goal

pub returns-clause-read : goal.returns-clause-read
returns-clause-read g c before events r =
    reading-next before (g.S.Source.left c.args.src.now) (g.S.Source.left c.next.new.src) c.args.reader.now c.next.new.self c.in_ok-next.field-0 events r
    c.next.ensures.limit (c.in_ok-next.ensures.next r.taken events r.read)

pub returns-clause-first : goal.returns-clause-first
returns-clause-first g c before events r = (c.in_ok-next.ensures.next r.taken events r.read).follows.first

pub returns-clause-whole : goal.returns-clause-whole
returns-clause-whole g c before events r is =
    reading-whole before (g.S.Source.left c.args.src.now) (g.S.Source.left c.next.new.src) c.args.reader.now c.next.new.self c.in_ok-next.field-0 events r
    c.next.ensures.limit (c.in_ok-next.ensures.next r.taken events r.read) is

pub returns-in_err-next-clause-fault : goal.returns-in_err-next-clause-fault
returns-in_err-next-clause-fault g c input events at r =
    let p = err_from_is_err_and c.from_residual.result c.from_residual.ensures.1 in
    let why = c.in_err-next.field-0.0 in
    subst (λ (x : Result Event Fault). IfErr x (NoBundle input)) (sym p.1)
    (subst (NoBundle input) (sym p.2)
    (reading-denied input (g.S.Source.left c.args.src.now) c.args.reader.now c.next.new.self events why r c.next.ensures.limit
    (subst (λ (o : Option (List ℕ)). Denies why c.next.new.self.limit r.taken (g.S.Source.left c.args.src.now) o) (sym at.after) ((c.in_err-next.ensures).next r.taken events r.read))
    (λ is. rose-earlier input _ _ _ at ((c.in_err-next.ensures).fault (ap Err is)))))
