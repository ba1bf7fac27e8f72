-- One register more stands among the free ones.
use Rattle.std.proofs.Common.{nat_eq, arith, ℕ}
use Rattle.std.proofs.lemmas.List.Sorted.{sum_by_pushed}
use Rattle.std.specs.declared.cmp.Reverse.{Reverse}
use Rattle.mk_regs.specs.Tables.{one_where}
use Rattle.mk_regs.proofs.free.FreeRegisters.put.Goals as goal

pub returns-clause-free : goal.returns-clause-free
returns-clause-free c = λ r.
    let more = sum_by_pushed (λ (x : Reverse ℕ). one_where (nat_eq x.0 r)) _ _ _ c.in_ok-push.ensures.permutation in
    omega (arith, more)
