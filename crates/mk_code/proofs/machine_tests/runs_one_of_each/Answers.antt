-- The inputs and the tape are elements.
use Rattle.std.proofs.Common.{refl, lit<}
use Rattle.mk_code.specs.Counting.{AllBelow}
use Rattle.mk_code.proofs.machine_tests.runs_one_of_each.Goals as goal

pub run_all-requires-clause-publics : goal.run_all-requires-clause-publics
unfolding AllBelow
run_all-requires-clause-publics g c =
    let inputs = c.in_ok-code.ensures.inputs in
    rw (inputs.0, inputs.3) (record { count = refl; below = (lit< tt, tt) })

pub run_all-requires-clause-shares : goal.run_all-requires-clause-shares
unfolding AllBelow
run_all-requires-clause-shares g c =
    let inputs = c.in_ok-code.ensures.inputs in
    rw (inputs.0, inputs.1, inputs.2) (record { count = refl; below = (lit< tt, (lit< tt, tt)) })

pub run_all-requires-clause-tape : goal.run_all-requires-clause-tape
unfolding AllBelow
run_all-requires-clause-tape g c =
    let inputs = c.in_ok-code.ensures.inputs in
    rw (inputs.0, c.in_ok-code.ensures.randoms) (record { count = refl; below = (lit< tt, (lit< tt, tt)) })
