-- What stops in the value stops all, and the target takes what was given.
use Rattle.std.proofs.Common.{Bool, true, ◌≡◌, ◌++◌, ap, subst, ◌∙◌}
use Rattle.mk_ssa.specs.Values.{IsSharedThere}
use Rattle.mk_types.specs.Scope.{declared, is_variable, is_shared_class}
use Rattle.mk_types.specs.Elements.{number_of}
use Rattle.mk_types.specs.Units.{expr_units, reference_units}
use Rattle.mk_unroll.specs.Counted.{counted}
use Rattle.mk_unroll.specs.Kept.{Gives}
use Rattle.mk_unroll.specs.Unrolled.{expr_given, lifted_if}
use Rattle.mk_unroll.proofs.Counting.{told, halts_front}
use Rattle.mk_unroll.proofs.Keeping.{gives_then}
use Rattle.mk_unroll.proofs.Running.{assignment_becomes}
use Rattle.mk_unroll.proofs.statements.assign.Goals as goal

pub returns-in_err-given-clause-halted : goal.returns-in_err-given-clause-halted
returns-in_err-given-clause-halted c =
    let us = expr_units c.args.frame.now.names c.args.frame.now.turns c.args.value.now in
    let vs = reference_units c.args.frame.now.names c.args.frame.now.turns c.args.target.now in
    told c.from_residual.result c.in_err-given.field-0.0 (counted c.args.meter.now (us ++ vs)) c.from_residual.ensures.1
    (halts_front c.in_err-given.field-0.0 c.args.meter.now us vs c.in_err-given.ensures.halted)

pub returns-clause-becomes : goal.returns-clause-becomes
returns-clause-becomes c =
    let decls = c.args.frame.now.names in
    let turns = c.args.frame.now.turns in
    let env = c.args.frame.now.variables in
    let d = c.args.values.now in
    let target = c.args.target.now in
    let v = c.in_ok-operand.operand in
    let wanted = is_variable is_shared_class (declared decls target.name) in
    let same : c.is_shared.result ≡ wanted = c.is_shared.ensures ∙ ap (λ n. is_variable is_shared_class (declared decls n)) c.as_slice-name.ensures.items in
    assignment_becomes decls turns target c.args.value.now d c.lift_if.new.values env c.write.new.self c.number-number.result c.in_ok-index.index v
    c.requires.holds
    (gives_then d c.operand_of.new.values c.lift_if.new.values (expr_given decls turns env c.args.value.now d.values) (lifted_if wanted) c.in_ok-given.given v
    c.in_ok-given.ensures.given
    (subst (λ (b : Bool). Gives c.operand_of.new.values (lifted_if b (record { operand = c.in_ok-given.given; values = c.operand_of.new.values.values }))
    c.lift_if.new.values v) same c.in_ok-operand.ensures.given))
    (subst (λ (b : Bool). b ≡ true → IsSharedThere c.lift_if.new.values v) same c.in_ok-operand.ensures.shared)
    (c.number-number.ensures ∙ ap (number_of decls) c.as_slice-name.ensures.items) c.in_ok-index.ensures.value c.write.ensures
