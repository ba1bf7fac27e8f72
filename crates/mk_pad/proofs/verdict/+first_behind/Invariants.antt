use Rattle.mk_pad.specs.Looking.{AreTried}
use Rattle.mk_pad.proofs.verdict.+first_behind.Given as goal

abbrev pub decreases-first_behind : goal.decreases-first_behind
decreases-first_behind l = l.more

abbrev pub invariant-loop-position : goal.invariant-loop-position
invariant-loop-position l = AreTried l.gadget l.set l.from l.more l.position
