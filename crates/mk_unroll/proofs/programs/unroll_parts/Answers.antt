-- The statements are executed from the outset, and the values and the outputs are those of the definitions.
use Rattle.std.proofs.Common.{◌≡◌, ◌⊎◌, ℕ, ◌+◌, ◌*◌, ◌≤◌, ◌<◌, List, [], flat_map, inl, inr, sym, ap, subst, ◌∙◌}
use Rattle.std.specs.List.{AllByRecursion}
use Rattle.std.proofs.lemmas.List.Elements.{All-from_recursion}
use Rattle.mk_field.specs.declared.field.FieldId.{FieldId}
use Rattle.mk_ast.specs.declared.refusal.SourceRefusal.TheVariants as refusal_
use Rattle.mk_ast.specs.declared.tree.Decl.{Decl}
use Rattle.mk_ast.specs.declared.tree.Stmt.{Stmt}
use Rattle.mk_ast.specs.declared.tree.Program.{Program}
use Rattle.mk_ssa.specs.declared.Operand.{Operand}
use Rattle.mk_ssa.specs.Values.{Draft, IsSharedThere, finished}
use Rattle.mk_types.specs.Environment.{output_elements}
use Rattle.mk_types.specs.Offences.{stmt_offences}
use Rattle.mk_unroll.specs.declared.frame.Frame.{Frame}
use Rattle.mk_unroll.specs.Beginning.{first_env, first_draft}
use Rattle.mk_unroll.specs.Causes.{Cause, Stops, Size}
use Rattle.mk_unroll.specs.Counted.{Count, nothing, counted, Halts}
use Rattle.mk_unroll.specs.Kept.{Holds, Becomes, scope_in}
use Rattle.mk_unroll.specs.Running.{body_unrolled, body_units}
use Rattle.mk_unroll.specs.Unrolled.{last_unrolling}
use Rattle.mk_unroll.proofs.Counting.{told_as}
use Rattle.mk_unroll.proofs.Ending.{ended, ended_operations, halted}
use Rattle.mk_unroll.proofs.Outset.{first_holds, held_length, outs_shared}
use Rattle.mk_unroll.proofs.Typed.{nil_left, nil_right}
use Rattle.mk_unroll.proofs.programs.unroll_parts.Goals as goal

-- a program of these parts
abbrev program : FieldId → List Decl → List Stmt → Program
program field decls body = record { field = field; decls = decls; body = body }

-- the outset, of these declarations
abbrev outset : List Decl → Frame
outset decls = record { names = decls; turns = []; variables = first_env [] decls }

-- what was executed, from the outset on
from_outset : (field : FieldId) (decls : List Decl) (body : List Stmt) (f : Frame) (d after : Draft) (env : List (List Operand)) → f ≡ outset decls → d ≡ first_draft field decls →
    Becomes f.names d (body_unrolled f.names f.turns (record { values = d.values; env = f.variables }) body) after env →
    Becomes decls (first_draft field decls) (last_unrolling (program field decls body)) after env
from_outset field decls body f d after env is_f is_d becomes =
    subst (λ (b : Draft). Becomes decls b (body_unrolled decls [] (record { values = b.values; env = first_env [] decls }) body) after env) is_d
    (subst (λ (g : Frame). Becomes g.names d (body_unrolled g.names g.turns (record { values = d.values; env = g.variables }) body) after env) is_f becomes)

-- what is counted, from the outset on
from_nothing : (decls : List Decl) (body : List Stmt) (f : Frame) (m : Count) → f ≡ outset decls → m ≡ nothing →
    counted m (body_units f.names f.turns body) ≡ counted nothing (body_units decls [] body)
from_nothing decls body f m is_f is_m =
    ap (λ c. counted c (body_units f.names f.turns body)) is_m ∙ ap (λ (g : Frame). counted nothing (body_units g.names g.turns body)) is_f

pub first_values-requires-clause-typed : goal.first_values-requires-clause-typed
first_values-requires-clause-typed c = nil_left _ _ c.requires.typed

pub execute_all-requires-clause-typed : goal.execute_all-requires-clause-typed
execute_all-requires-clause-typed c =
    let f = c.in_ok-frame.frame in
    let body = c.args.body.now in
    ap (λ (k : FieldId). flat_map (λ s. stmt_offences s (scope_in k f.names f.turns)) body) (ap (λ (d : Draft). d.field) c.in_ok-values.ensures)
    ∙ ap (λ (g : Frame). flat_map (λ s. stmt_offences s (scope_in c.args.field g.names g.turns)) body) c.in_ok-frame.ensures
    ∙ nil_right _ _ c.requires.typed

pub execute_all-requires-clause-holds : goal.execute_all-requires-clause-holds
execute_all-requires-clause-holds c =
    let f = c.in_ok-frame.frame in
    let decls = c.args.decls.now in
    subst (λ (d : Draft). Holds d f.names f.variables) (sym c.in_ok-values.ensures)
    (subst (λ (g : Frame). Holds (first_draft c.args.field decls) g.names g.variables) (sym c.in_ok-frame.ensures) (first_holds c.args.field decls))

pub returns-in_err-execute_all-clause-cause : goal.returns-in_err-execute_all-clause-cause
returns-in_err-execute_all-clause-cause c =
    let p = program c.args.field c.args.decls.now c.args.body.now in
    let e = c.in_err-execute_all.field-0.0 in
    let us = body_units c.args.decls.now [] c.args.body.now in
    let halts = subst (Halts e) (from_nothing c.args.decls.now c.args.body.now c.in_ok-frame.frame c.new-meter.result c.in_ok-frame.ensures c.new-meter.ensures)
    c.in_err-execute_all.ensures.halted in
    told_as (λ x. (x ≡ refusal_.Memory) ⊎ Cause p c.args.order x) c.from_residual-in_err-execute_all.result e c.from_residual-in_err-execute_all.ensures.1
    (elim (halted e us halts) [
      | inl memory ↦ inl memory
      | inr stops ↦ inr (Stops stops.0 c.in_ok-check_elements.ensures.few stops.1 stops.2)
    ])

pub returns-in_err-check_size-clause-cause : goal.returns-in_err-check_size-clause-cause
returns-in_err-check_size-clause-cause c =
    let p = program c.args.field c.args.decls.now c.args.body.now in
    let e = c.in_err-check_size.field-0.0 in
    let us = body_units c.args.decls.now [] c.args.body.now in
    let n = c.args.order in
    let count = c.in_ok-execute_all.ensures.ok ∙ from_nothing c.args.decls.now c.args.body.now c.in_ok-frame.frame c.new-meter.result c.in_ok-frame.ensures c.new-meter.ensures in
    let m = c.execute_all.new.meter in
    told_as (λ x. (x ≡ refusal_.Memory) ⊎ Cause p n x) c.from_residual-in_err-check_size.result e c.from_residual-in_err-check_size.ensures.1
    (inr (Size c.in_ok-check_elements.ensures.few (ended us m count c.operations.ensures.going)
    (subst (λ (k : ℕ). 1000000 < k * ((n + 1) * (n + 1))) (c.operations.ensures.operations ∙ ended_operations us m count c.operations.ensures.going)
    c.in_err-check_size.ensures.large.1)
    c.in_err-check_size.ensures.large.0))

pub outputs-requires : goal.outputs-requires
outputs-requires c =
    let becomes = from_outset c.args.field c.args.decls.now c.args.body.now c.in_ok-frame.frame c.in_ok-values.values c.execute_all.new.values c.execute_all.new.frame.variables
    c.in_ok-frame.ensures c.in_ok-values.ensures c.in_ok-execute_all.ensures.becomes in
    held_length c.execute_all.new.values c.args.decls.now c.execute_all.new.frame.variables becomes.holds.held

pub finish-requires : goal.finish-requires
finish-requires c =
    let after = c.execute_all.new.values in
    let env = c.execute_all.new.frame.variables in
    let becomes = from_outset c.args.field c.args.decls.now c.args.body.now c.in_ok-frame.frame c.in_ok-values.values after env
    c.in_ok-frame.ensures c.in_ok-values.ensures c.in_ok-execute_all.ensures.becomes in
    All-from_recursion (IsSharedThere after) c.in_ok-outs.outs
    (subst (λ (xs : List Operand). AllByRecursion (IsSharedThere after) xs) (sym c.in_ok-outs.ensures) (outs_shared after c.args.decls.now env becomes.holds.held))

pub returns-clause-values : goal.returns-clause-values
returns-clause-values c =
    let after = c.execute_all.new.values in
    let env = c.execute_all.new.frame.variables in
    let first = first_draft c.args.field c.args.decls.now in
    let u = last_unrolling (program c.args.field c.args.decls.now c.args.body.now) in
    let becomes = from_outset c.args.field c.args.decls.now c.args.body.now c.in_ok-frame.frame c.in_ok-values.values after env
    c.in_ok-frame.ensures c.in_ok-values.ensures c.in_ok-execute_all.ensures.becomes in
    c.finish.ensures
    ∙ ap (λ (d : Draft). finished d c.in_ok-outs.outs) becomes.values
    ∙ ap (finished (record first { values = u.values })) (c.in_ok-outs.ensures ∙ ap (output_elements c.args.decls.now) becomes.env)

pub returns-clause-ends : goal.returns-clause-ends
returns-clause-ends c =
    let us = body_units c.args.decls.now [] c.args.body.now in
    ended us c.execute_all.new.meter
    (c.in_ok-execute_all.ensures.ok ∙ from_nothing c.args.decls.now c.args.body.now c.in_ok-frame.frame c.new-meter.result c.in_ok-frame.ensures c.new-meter.ensures)
    c.operations.ensures.going

pub returns-clause-small : goal.returns-clause-small
returns-clause-small c =
    let us = body_units c.args.decls.now [] c.args.body.now in
    let n = c.args.order in
    let count = c.in_ok-execute_all.ensures.ok ∙ from_nothing c.args.decls.now c.args.body.now c.in_ok-frame.frame c.new-meter.result c.in_ok-frame.ensures c.new-meter.ensures in
    subst (λ (k : ℕ). k * ((n + 1) * (n + 1)) ≤ 1000000)
    (c.operations.ensures.operations ∙ ended_operations us c.execute_all.new.meter count c.operations.ensures.going) c.in_ok-check_size.ensures.small
