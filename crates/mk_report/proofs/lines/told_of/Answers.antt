-- What is told of a value stands at its place from the end.
use Rattle.std.proofs.Common.{◌-◌, length, arith}
use Rattle.mk_report.proofs.Telling.{told-at}
use Rattle.mk_report.proofs.lines.told_of.Goals as goal

pub returns : goal.returns
returns c = λ places are.
    told-at places c.args.told.now c.args.value (length c.args.told.now - 1 - c.args.value) c.index-told-told.result are c.requires (omega arith) c.index-told-told.is
