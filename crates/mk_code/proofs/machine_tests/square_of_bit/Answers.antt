-- The random elements are counted.
use Rattle.std.proofs.Common.{rules}
use Rattle.mk_code.specs.Trace.{randoms}
use Rattle.mk_code.proofs.machine_tests.square_of_bit.Goals as goal

pub returns-clause-randoms : goal.returns-clause-randoms
unfolding randoms
returns-clause-randoms c = search rules
