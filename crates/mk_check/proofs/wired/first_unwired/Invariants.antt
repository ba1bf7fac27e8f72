-- The blocks so far are wired.
use Rattle.std.proofs.Common.{take}
use Rattle.mk_check.specs.Outlines.{outlined}
use Rattle.mk_rules.specs.Wired.{Wired}
use Rattle.mk_check.proofs.wired.first_unwired.Given as goal

abbrev pub invariant-loop-k : goal.invariant-loop-k
invariant-loop-k l = Wired (outlined l.outline) (take l.k l.blocks)
