-- The inputs are bits.
use Rattle.std.proofs.Common.{refl, lit<}
use Rattle.mk_code.specs.Counting.{AllBelow}
use Rattle.mk_code.proofs.machine_tests.steps_say_what_they_took.Goals as goal

pub new-requires-clause-publics : goal.new-requires-clause-publics
unfolding AllBelow
new-requires-clause-publics g c =
    let inputs = c.in_ok-code.ensures.inputs in
    rw (inputs.0, inputs.3) (record { count = refl; below = tt })

pub new-requires-clause-shares : goal.new-requires-clause-shares
unfolding AllBelow
new-requires-clause-shares g c =
    let inputs = c.in_ok-code.ensures.inputs in
    rw (inputs.0, inputs.1, inputs.2) (record { count = refl; below = (lit< tt, (lit< tt, tt)) })
