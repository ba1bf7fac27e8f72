-- The value behind those so far is the next.
use Rattle.std.proofs.Common.{◌≡◌, ◌<◌, length, slice_index_or, ◌∙◌}
use Rattle.std.proofs.lemmas.Option.{slice_get-get_or}
use Rattle.mk_field.specs.Field.{size}
use Rattle.mk_ssa.specs.declared.Op.TheVariants.{Const}
use Rattle.mk_ssa.specs.Evaluation.{Evaluated, next_op, next_value}
use Rattle.mk_ssa.proofs.Evaluations.{IsEvaluated-step}
use Rattle.mk_ssa.proofs.evaluation.Evaluation.step.Goals as goal

pub invariant_of-self-2 : goal.invariant_of-self-2
invariant_of-self-2 c =
    let m = c.self.inside in
    let e : Evaluated = record { ssa = m.ssa.now; publics = m.publics.now; secrets = m.secrets.now; before = m.before } in
    let left : length e.before < length e.ssa.values = rw (← c.self.view_is) at c.requires in
    let same : c.as_slice.result.now ≡ e.ssa.values = c.as_slice.ensures.items ∙ c.values.ensures.values in
    let value : c.value-value.result ≡ next_value e (slice_index_or c.as_slice.result.now c.len.result (Const 0)) = rw (← c.self.view_is) at c.value-value.ensures.value in
    let element : c.value-value.result < size e.ssa.field = rw (← c.self.view_is) at c.value-value.ensures.element in
    rw c.in_ok-push.ensures.ok (
      IsEvaluated-step e (next_op e) c.value-value.result c.self.invariant.0 (slice_get-get_or e.ssa.values (length e.before) (Const 0) left)
          (rw (same, c.len.ensures.count) at value) element,
      c.self.invariant.1,
    )
