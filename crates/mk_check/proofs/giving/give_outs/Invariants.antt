-- The outs so far were given.
use Rattle.std.proofs.Common.{◌≡◌, ◌+◌, ◌*◌, take}
use Rattle.mk_check.specs.Given.{Given}
use Rattle.mk_check.proofs.giving.give_outs.Given as goal

abbrev pub invariant-loop-k : goal.invariant-loop-k
invariant-loop-k l = record {
  given : Given l.checker l.code.instrs (take (l.k * (l.code.order + 1)) l.code.outs);
  outline : l.checker.outline ≡ l.fn.checker.outline;
  cert : l.checker.cert ≡ l.fn.checker.cert;
}
