-- The entries of a run that is done are the whole trace.
use Rattle.std.proofs.Common.{rules, ◌≡◌, ℕ, ◌+◌, length, sym, subst, arith}
use Rattle.mk_field.specs.Field.{size}
use Rattle.mk_code.specs.Counting.{Elements}
use Rattle.mk_code.specs.Listing.{Listing, inputs_len, trace_len}
use Rattle.mk_run.proofs.running.traced.Goals as goal

pub returns-clause-elements : goal.returns-clause-elements
returns-clause-elements c =
    let code = c.args.code.now in
    let p = c.finish.new.machine in
    let progress = c.into_trace.ensures.progress in
    let same : c.into_trace.result ≡ p.entries = search rules in
    let of : p.code ≡ code = search rules in
    let long : p.at ≡ length p.code.instrs = omega (arith, progress.within, c.finish.ensures.done) in
    subst (Elements (size code.field) (trace_len code)) (sym same)
    (subst (λ (l : Listing). Elements (size l.field) (trace_len l) p.entries) of
    (subst (λ (n : ℕ). Elements (size p.code.field) (inputs_len p.code.order p.code.secrets p.code.publics + n) p.entries) long progress.elements))
