-- Each word is joined, so each bit is.
use Rattle.std.proofs.Common.{arith}
use Rattle.mk_rules.proofs.RowBits.{joined-bits}
use Rattle.mk_rules.proofs.rows.join_rows.Goals as goal

pub returns-clause-bits : goal.returns-clause-bits
returns-clause-bits c =
    joined-bits c.args.row.now c.args.other.now c.loop-k.row c.requires c.loop-k.invariant.0
    (λ j below. c.loop-k.invariant.1 j (omega (arith, c.loop-k-test.false, c.loop-k.invariant.0, c.loop-k.auto.k-end, below)))
