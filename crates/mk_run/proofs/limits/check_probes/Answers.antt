-- No probe is outside the trace.
use Rattle.std.proofs.Common.{ℕ, sym, ◌∙◌, subst}
use Rattle.mk_code.specs.Counting.{AllBelow}
use Rattle.mk_run.proofs.Elements.{elements-all}
use Rattle.mk_run.proofs.limits.check_probes.Goals as goal

pub returns-in-None-clause-within : goal.returns-in-None-clause-within
returns-in-None-clause-within c =
    subst (λ (n : ℕ). AllBelow n c.args.probes.now) c.trace_len.ensures.value
    (elements-all c.trace_len.result c.args.probes.now (sym c.first_outside.ensures ∙ c.in-None.is)).below
