-- What is unrolled has the meaning of the program, and few values.
use Rattle.std.proofs.Common.{◌≡◌, IfOk, OnOk, subst}
use Rattle.mk_ast.specs.declared.tree.Program.{Program}
use Rattle.mk_unroll.specs.Causes.{HasFewElements, Ends, IsSmall}
use Rattle.mk_unroll.specs.Unrolled.{unrolled}
use Rattle.mk_unroll.proofs.Bounded.{is_meant, has_few}
use Rattle.mk_unroll.proofs.programs.unroll.Goals as goal

pub returns-clause-meaning : goal.returns-clause-meaning
returns-clause-meaning c =
    is_meant c.args.p.now c.unroll_program.result c.program.ensures.regular c.program.ensures.typed
    (subst (λ (p : Program). IfOk c.unroll_program.result (λ s. s ≡ unrolled p)) c.program.ensures.program c.unroll_program.ensures.values)
    (subst (λ (p : Program). OnOk c.unroll_program.result (Ends p)) c.program.ensures.program c.unroll_program.ensures.ends)

pub returns-clause-counts : goal.returns-clause-counts
returns-clause-counts c =
    has_few c.args.p.now c.args.order c.unroll_program.result c.program.ensures.regular c.program.ensures.typed
    (subst (λ (p : Program). IfOk c.unroll_program.result (λ s. s ≡ unrolled p)) c.program.ensures.program c.unroll_program.ensures.values)
    (subst (λ (p : Program). OnOk c.unroll_program.result (HasFewElements p)) c.program.ensures.program c.unroll_program.ensures.elements)
    (subst (λ (p : Program). OnOk c.unroll_program.result (Ends p)) c.program.ensures.program c.unroll_program.ensures.ends)
    (subst (λ (p : Program). OnOk c.unroll_program.result (IsSmall p c.args.order)) c.program.ensures.program c.unroll_program.ensures.small)
