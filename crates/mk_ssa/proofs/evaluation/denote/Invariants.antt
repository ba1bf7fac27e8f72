-- So many values are worked out.
use Rattle.std.proofs.Common.{◌≡◌, length}
use Rattle.mk_ssa.proofs.evaluation.denote.Given as goal

abbrev pub invariant-loop : goal.invariant-loop
invariant-loop l =
    (l.evaluation.ssa ≡ l.s) × (l.evaluation.publics ≡ l.publics) × (l.evaluation.secrets ≡ l.secrets) × (length l.evaluation.before ≡ l.counter)
