-- One variable is changed at one element.
use Rattle.std.proofs.Common.{rules}
use Rattle.mk_unroll.proofs.Storing.{written}
use Rattle.mk_unroll.proofs.variables.Variables.write.Goals as goal

pub returns : goal.returns
returns c =
    written (λ v. v.items) c.self.inside.variables.items c.args.number c.args.index c.args.operand c.put.new.variable c.index_mut.result.now
    (search (rules, c.if-number-len.false, c.len.ensures)) c.index_mut.ensures.value c.put.ensures c.args.self.now c.self.view_is
