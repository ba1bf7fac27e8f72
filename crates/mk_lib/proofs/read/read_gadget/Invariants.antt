-- What was read so far.
use Rattle.std.proofs.Common.{length}
use Rattle.mk_lib.specs.Reading.{state_of}
use Rattle.mk_lib.proofs.Naming.{Progress}
use Rattle.mk_lib.proofs.read.read_gadget.Given as goal

abbrev pub invariant-loop-line : goal.invariant-loop-line
invariant-loop-line l = Progress l.text l.rest l.number (state_of l.draft)

abbrev pub decreases-loop-line : goal.decreases-loop-line
decreases-loop-line l = length l.rest
