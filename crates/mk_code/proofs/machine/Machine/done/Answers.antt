-- Behind the last instruction nothing is left to do.
use Rattle.std.proofs.Common.{arith, ◌≤◌, length}
use Rattle.std.proofs.lemmas.Grind.{common_steps}
use Rattle.mk_code.proofs.Steps.{outcome-done, needed-done}
use Rattle.mk_code.proofs.machine.Machine.done.Goals as goal

pub returns-clause-whole : goal.returns-clause-whole
returns-clause-whole c = λ is tape.
    let all : length c.args.self.now.code.instrs ≤ c.args.self.now.at = rw (← c.self.view_is) (grind (arith, common_steps)) in
    outcome-done c.args.self.now tape all

pub returns-clause-needed : goal.returns-clause-needed
returns-clause-needed c = λ is.
    let all : length c.args.self.now.code.instrs ≤ c.args.self.now.at = rw (← c.self.view_is) (grind (arith, common_steps)) in
    needed-done c.args.self.now all
