-- The positions are those of the list.
use Rattle.std.proofs.Common.{◌++◌, ℕ, List, subst}
use Rattle.mk_check.specs.Given.{Given}
use Rattle.mk_check.proofs.checker.Checker.out.Goals as goal

pub returns-clause-given : goal.returns-clause-given
returns-clause-given c = λ instrs outs given.
    subst (λ (ps : List ℕ). Given c.positions.new.self instrs (outs ++ ps)) c.as_slice.ensures.items (c.positions.ensures.given instrs outs given)
