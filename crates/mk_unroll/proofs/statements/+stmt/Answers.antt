-- What statements do and what stops in them, one after the other.
use Rattle.std.proofs.Common.{rules, ℕ, ◌++◌, ◌∷◌, [], List, take, flat_map, sym, ap, subst, ◌∙◌, arith}
use Rattle.std.proofs.lemmas.List.{take_more, append-nil}
use Rattle.std.proofs.lemmas.Result.{on_ok_weaker}
use Rattle.mk_ast.specs.declared.tree.Decl.{Decl}
use Rattle.mk_ast.specs.declared.tree.Stmt.TheViews.{the_lemmas}
use Rattle.mk_field.specs.declared.field.FieldId.{FieldId}
use Rattle.mk_ssa.specs.Values.{Draft}
use Rattle.mk_types.specs.Scope.{inside}
use Rattle.mk_types.specs.Turns.{Turn, in_turn, turn_numbers}
use Rattle.mk_types.specs.Offences.{stmt_offences}
use Rattle.mk_types.specs.Elements.{maps_of}
use Rattle.mk_types.specs.Units.{WorkUnit, Step, stmt_units}
use Rattle.mk_types.proofs.Layers.{stmt-Set, stmt-Loop}
use Rattle.mk_unroll.specs.Counted.{counted, Halts}
use Rattle.mk_unroll.specs.Kept.{Holds, Becomes, scope_in}
use Rattle.mk_unroll.specs.Running.{body_unrolled, body_units, turns_unrolled, turns_units}
use Rattle.mk_unroll.specs.Unrolled.{Unrolling, stmt_unrolled}
use Rattle.mk_unroll.proofs.Counting.{told, flat_halts, halts_front}
use Rattle.mk_unroll.proofs.Running.{step_first, unrolled_loop, turns_all, turn_halts, turn_counted, turn_becomes}
use Rattle.mk_unroll.proofs.Typed.{nil_right, nil_at}
use Rattle.mk_unroll.proofs.UnrolledLayers.{unrolled-Set}
use Rattle.mk_unroll.proofs.statements.+stmt.Goals as goal

pub execute-returns-in_err-step-clause-halted : goal.execute-returns-in_err-step-clause-halted
execute-returns-in_err-step-clause-halted t c =
    let decls = c.args.frame.now.names in
    let turns = c.args.frame.now.turns in
    let e = c.in_err-step.field-0.0 in
    let first = step_first decls turns c.args.stmt.now in
    told c.from_residual.result e (counted c.args.meter.now (stmt_units decls c.args.stmt.now turns)) c.from_residual.ensures.1
    (subst (λ (us : List WorkUnit). Halts e (counted c.args.meter.now us)) (sym first.1)
    (halts_front e c.args.meter.now (Step ∷ []) first.0 c.in_err-step.ensures.halted))

pub execute-assign-requires-clause-typed : goal.execute-assign-requires-clause-typed
execute-assign-requires-clause-typed t c =
    let s = scope_in c.args.values.now.field c.args.frame.now.names c.args.frame.now.turns in
    nil_right _ _ (sym (stmt-Set c.in-Set.target c.in-Set.value s) ∙ ap (λ x. stmt_offences x s) (sym c.in-Set.is) ∙ c.requires.typed)

pub execute-repeat-requires : goal.execute-repeat-requires
execute-repeat-requires t c =
    let s = scope_in c.args.values.now.field c.args.frame.now.names c.args.frame.now.turns in
    let loop = c.in-Loop in (
      search (rules, the_lemmas),
      (
        ap (flat_map (λ x. stmt_offences x (inside s c.as_slice.result.now))) c.as_slice-in-Loop.ensures
            ∙ ap (λ n. flat_map (λ x. stmt_offences x (inside s n)) loop.body) c.as_slice.ensures.items
            ∙ nil_right _ _ (sym (stmt-Loop loop.name loop.at loop.from loop.to loop.body s) ∙ ap (λ x. stmt_offences x s) (sym loop.is) ∙ c.requires.typed),
        (c.requires.maps, c.requires.holds),
      ),
    )

pub execute-returns-in-Set-clause-becomes : goal.execute-returns-in-Set-clause-becomes
execute-returns-in-Set-clause-becomes t c =
    let decls = c.args.frame.now.names in
    let turns = c.args.frame.now.turns in
    let d = c.args.values.now in
    let now : Unrolling = record { values = d.values; env = c.args.frame.now.variables } in
    on_ok_weaker c.assign.result
    (λ becomes. subst (λ (u : Unrolling). Becomes decls d u c.assign.new.values c.assign.new.frame.variables)
    (sym (ap (λ x. stmt_unrolled decls x turns now) c.in-Set.is ∙ unrolled-Set decls turns now c.in-Set.target c.in-Set.value)) becomes)
    c.assign.ensures.becomes

pub execute-returns-in-Loop-clause-becomes : goal.execute-returns-in-Loop-clause-becomes
execute-returns-in-Loop-clause-becomes t c =
    let decls = c.args.frame.now.names in
    let turns = c.args.frame.now.turns in
    let d = c.args.values.now in
    let loop = c.in-Loop in
    let now : Unrolling = record { values = d.values; env = c.args.frame.now.variables } in
    on_ok_weaker c.repeat.result
    (λ becomes. subst (λ (u : Unrolling). Becomes decls d u c.repeat.new.values c.repeat.new.frame.variables)
    (ap (λ b. turns_unrolled decls turns c.as_slice.result.now b now (turn_numbers loop.from loop.to)) c.as_slice-in-Loop.ensures
    ∙ ap (λ n. turns_unrolled decls turns n loop.body now (turn_numbers loop.from loop.to)) c.as_slice.ensures.items
    ∙ sym (ap (λ x. stmt_unrolled decls x turns now) loop.is ∙ unrolled_loop decls turns now loop.name loop.at loop.from loop.to loop.body)) becomes)
    c.repeat.ensures.becomes

pub execute_all-execute-requires : goal.execute_all-execute-requires
execute_all-execute-requires t c =
    let d = c.args.values.now in
    let decls = c.args.frame.now.names in
    let turns = c.args.frame.now.turns in
    let l = c.loop-stmt in
    let i = l.stmt-index in
    let x = c.stmt-item.result in
    let stmts = c.args.stmts.now in
    let more = take_more stmts i x c.loop-stmt-test.true ∙ ap (λ y. take i stmts ++ y ∷ []) (sym c.stmt-item.is) in
    let typed = nil_at (λ s. stmt_offences s (scope_in d.field decls turns)) stmts i x c.requires.typed more in (
      search (rules, the_lemmas),
      (
        ap (λ (k : FieldId). stmt_offences x (scope_in k l.frame.names l.frame.turns)) (ap (λ (b : Draft). b.field) l.invariant.becomes.values)
            ∙ ap (λ (ds : List Decl). stmt_offences x (scope_in d.field ds l.frame.turns)) l.invariant.names
            ∙ ap (λ (ts : List Turn). stmt_offences x (scope_in d.field decls ts)) l.invariant.turns
            ∙ typed,
        (
          ap (λ (b : Draft). b.maps) l.invariant.becomes.values ∙ c.requires.maps ∙ ap maps_of (sym l.invariant.names),
          subst (λ (ds : List Decl). Holds l.values ds l.frame.variables) (sym l.invariant.names) l.invariant.becomes.holds,
        ),
      ),
    )

pub execute_all-returns-in_err-execute-clause-halted : goal.execute_all-returns-in_err-execute-clause-halted
execute_all-returns-in_err-execute-clause-halted t c =
    let decls = c.args.frame.now.names in
    let turns = c.args.frame.now.turns in
    let l = c.loop-stmt in
    let i = l.stmt-index in
    let x = c.stmt-item.result in
    let e = c.in_err-execute.field-0.0 in
    let stmts = c.args.stmts.now in
    let more = take_more stmts i x c.loop-stmt-test.true ∙ ap (λ y. take i stmts ++ y ∷ []) (sym c.stmt-item.is) in
    told c.from_residual.result e (counted c.args.meter.now (body_units decls turns stmts)) c.from_residual.ensures.1
    (flat_halts e c.args.meter.now l.meter (λ s. stmt_units decls s turns) stmts i x (stmt_units l.frame.names x l.frame.turns) [] more l.invariant.meter
    (sym (ap (λ ds. stmt_units ds x l.frame.turns) l.invariant.names ∙ ap (stmt_units decls x) l.invariant.turns) ∙ sym (append-nil _))
    c.in_err-execute.ensures.halted)

pub repeat-returns-in_err-turn-clause-halted : goal.repeat-returns-in_err-turn-clause-halted
repeat-returns-in_err-turn-clause-halted t c =
    let decls = c.args.frame.now.names in
    let turns = c.args.frame.now.turns in
    let l = c.loop-number in
    let e = c.in_err-turn.field-0.0 in
    let name = c.args.name.now in
    let body = c.args.body.now in
    told c.from_residual.result e (counted c.args.meter.now (turns_units decls turns name body (turn_numbers c.args.from c.args.to))) c.from_residual.ensures.1
    (turn_halts e c.args.meter.now l.meter (λ number. Step ∷ body_units decls (in_turn turns name number) body) c.args.from l.number c.args.to
    (Step ∷ body_units l.frame.names (in_turn l.frame.turns name l.number) body) l.auto.number c.loop-number-test.true l.invariant.meter
    (sym (ap (λ ds. Step ∷ body_units ds (in_turn l.frame.turns name l.number) body) l.invariant.names
    ∙ ap (λ ts. Step ∷ body_units decls (in_turn ts name l.number) body) l.invariant.turns))
    c.in_err-turn.ensures.halted)

pub repeat-loop-number-preserved : goal.repeat-loop-number-preserved
repeat-loop-number-preserved t c =
    let decls = c.args.frame.now.names in
    let turns = c.args.frame.now.turns in
    let l = c.loop-number in
    let name = c.args.name.now in
    let body = c.args.body.now in
    let done = c.in_ok-turn.ensures in
    let after = c.turn.new in
    record {
      names = done.frame.0 ∙ l.invariant.names;
      turns = done.frame.1 ∙ l.invariant.turns;
      becomes =
          turn_becomes decls turns name body c.args.values.now l.values after.values (record { values = c.args.values.now.values; env = c.args.frame.now.variables })
          l.frame.variables after.frame.variables c.args.from l.number l.auto.number l.invariant.becomes
          (subst (λ (ts : List Turn). Becomes decls l.values (body_unrolled decls (in_turn ts name l.number) (record { values = l.values.values; env = l.frame.variables }) body)
          after.values after.frame.variables) l.invariant.turns
          (subst (λ (ds : List Decl). Becomes ds l.values (body_unrolled ds (in_turn l.frame.turns name l.number) (record { values = l.values.values; env = l.frame.variables }) body)
          after.values after.frame.variables) l.invariant.names done.becomes));
      meter =
          turn_counted c.args.meter.now l.meter after.meter (λ number. Step ∷ body_units decls (in_turn turns name number) body) c.args.from l.number
          (Step ∷ body_units l.frame.names (in_turn l.frame.turns name l.number) body) l.auto.number l.invariant.meter
          (sym (ap (λ ds. Step ∷ body_units ds (in_turn l.frame.turns name l.number) body) l.invariant.names
          ∙ ap (λ ts. Step ∷ body_units decls (in_turn ts name l.number) body) l.invariant.turns))
          done.ok;
      near = omega (arith, c.loop-number-test.true, l.auto.number);
    }

pub repeat-returns-clause-becomes : goal.repeat-returns-clause-becomes
repeat-returns-clause-becomes t c =
    let l = c.loop-number in
    subst (λ (ns : List ℕ). Becomes c.args.frame.now.names c.args.values.now
    (turns_unrolled c.args.frame.now.names c.args.frame.now.turns c.args.name.now c.args.body.now
    (record { values = c.args.values.now.values; env = c.args.frame.now.variables }) ns) l.values l.frame.variables)
    (turns_all c.args.from l.number c.args.to l.auto.number c.loop-number-test.false l.invariant.near) l.invariant.becomes

pub repeat-returns-clause-ok : goal.repeat-returns-clause-ok
repeat-returns-clause-ok t c =
    let l = c.loop-number in
    l.invariant.meter
    ∙ ap (λ ns. counted c.args.meter.now (turns_units c.args.frame.now.names c.args.frame.now.turns c.args.name.now c.args.body.now ns))
    (turns_all c.args.from l.number c.args.to l.auto.number c.loop-number-test.false l.invariant.near)

pub turn-returns-in_err-turn-clause-halted : goal.turn-returns-in_err-turn-clause-halted
turn-returns-in_err-turn-clause-halted t c =
    let us = body_units c.args.frame.now.names (in_turn c.args.frame.now.turns c.args.name.now c.args.number) c.args.body.now in
    let e = c.in_err-turn.field-0.0 in
    told c.from_residual.result e (counted c.args.meter.now (Step ∷ us)) c.from_residual.ensures.1
    (halts_front e c.args.meter.now (Step ∷ []) us c.in_err-turn.ensures.halted)
