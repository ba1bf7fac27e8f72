-- A coefficient that isn't 0 stands in its position.
use Rattle.std.proofs.Common.{[]}
use Rattle.mk_pad.proofs.Adding.{set-coefficient}
use Rattle.mk_pad.proofs.terms.set_coefficient.Goals as goal

pub returns-else-coefficient-eq0 : goal.returns-else-coefficient-eq0
returns-else-coefficient-eq0 c =
    set-coefficient c.args.terms.now.items c.args.i c.args.coefficient c.index_mut.result.now (record { exponents = []; coefficient = 0 })
    c.requires c.index_mut.ensures.value c.if-coefficient-eq0.false
