-- The instructions so far were given.
use Rattle.std.proofs.Common.{◌≡◌, [], take}
use Rattle.mk_check.specs.Given.{Given}
use Rattle.mk_check.proofs.giving.give_instrs.Given as goal

abbrev pub invariant-loop-instr : goal.invariant-loop-instr
invariant-loop-instr l = record {
  given : Given l.checker (take l.instr-index l.instrs) [];
  outline : l.checker.outline ≡ l.fn.checker.outline;
  cert : l.checker.cert ≡ l.fn.checker.cert;
}
