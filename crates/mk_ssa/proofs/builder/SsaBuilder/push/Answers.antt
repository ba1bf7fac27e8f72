-- The value fits behind the others.
use Rattle.mk_ssa.specs.Values.{Draft, Fits}
use Rattle.mk_ssa.proofs.There.{IsDraft-pushed}
use Rattle.mk_ssa.proofs.builder.SsaBuilder.push.Goals as goal

pub invariant_of-self-2 : goal.invariant_of-self-2
invariant_of-self-2 c =
    let b = c.self.inside in
    let d : Draft = record { field = b.field; secrets = b.secrets; publics = b.publics; maps = b.maps; values = b.values } in
    let fits : Fits d c.args.op = rw (← c.self.view_is) at c.requires in
    rw c.in_ok-push.ensures.ok (IsDraft-pushed d c.args.op c.self.invariant fits)
