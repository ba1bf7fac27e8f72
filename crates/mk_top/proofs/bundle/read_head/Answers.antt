-- The first event is the head.
use Rattle.std.proofs.Common.{[], Result, IfErr, sym, subst}
use Rattle.std.proofs.lemmas.Result.{err_from_is_err_and}
use Rattle.mk_bundle.specs.declared.event.Head.{Head}
use Rattle.mk_top.specs.declared.fault.Fault.{Fault}
use Rattle.mk_top.specs.Running.{NoBundle}
use Rattle.mk_top.proofs.Events.{first-head}
use Rattle.mk_top.proofs.bundle.read_head.Goals as goal

pub returns-in_err-head-clause-fault : goal.returns-in_err-head-clause-fault
returns-in_err-head-clause-fault g c input at r =
    let p = err_from_is_err_and c.from_residual.result c.from_residual.ensures.1 in
    subst (λ (x : Result Head Fault). IfErr x (NoBundle input)) (sym p.1) (subst (NoBundle input) (sym p.2) ((c.in_err-head.ensures).fault input [] at r))

pub unreachable-requires : goal.unreachable-requires
unreachable-requires g c =
    let begins = c.requires.begins in
    let head = first-head c.in_ok-head.field-0 (c.in_ok-head.ensures.first begins.0 [] begins.1) in
    c.in_default.not-Head head.0 head.1
