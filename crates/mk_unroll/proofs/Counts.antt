-- How many operators and lifts a program is unrolled to: one operator for each operation, and at most one
-- lift for each step and one more.
use Rattle.std.proofs.Common.{◌≡◌, ℕ, ◌+◌, ◌≤◌, Bool, true, false, not, ◌&&◌, cond, List, [], ◌∷◌, ◌++◌, None, map, flat_map, refl, sym, subst, arith}
use Rattle.std.specs.Prelude.{fold}
use Rattle.std.specs.List.{AllByRecursion}
use Rattle.std.proofs.lemmas.List.Sums.{sum_by-cons}
use Rattle.mk_types.specs.declared.TheConstants.{MOST_WORK, MOST_OPERATIONS}
use Rattle.mk_ast.specs.declared.tree.Program.{Program}
use Rattle.mk_ast.specs.declared.tree.Decl.{Decl}
use Rattle.mk_ast.specs.declared.tree.Stmt.{Stmt}
use Rattle.mk_ast.specs.declared.tree.Ref.{Ref}
use Rattle.mk_ast.specs.declared.tree.Expr.{Expr}
use Rattle.mk_ast.proofs.Induction.{stmt_induction}
use Rattle.mk_ssa.specs.declared.Op.{Op}
use Rattle.mk_ssa.specs.declared.Op.TheVariants.{Lift}
use Rattle.mk_types.specs.Scope.{declared, is_variable, is_shared_class}
use Rattle.mk_types.specs.Turns.{Turn, in_turn, turn_numbers}
use Rattle.mk_types.specs.Units.{WorkUnit, Step, reference_units, expr_units, turn_units, stmt_units, units}
use Rattle.mk_types.specs.Stops.{is_work, is_operation, work, operations, stop}
use Rattle.mk_types.proofs.ExecutionLayers.{units-Set, units-Loop}
use Rattle.mk_types.proofs.Faults.{units_are_all, work_at_most, operations_at_most}
use Rattle.mk_unroll.specs.Unrolled.{Given, Unrolling, is_shared_operand, appended, expr_given, assigned, stmt_unrolled, first_unrolling, unrolled}
use Rattle.mk_unroll.specs.ValueCounts.{is_made, is_lift, made, lifts}
use Rattle.mk_unroll.proofs.IndexUnits.{operations-append, work-append, operations-work, operations-reference}
use Rattle.mk_unroll.proofs.UnrolledLayers.{unrolled-Set, unrolled-Loop}
use Rattle.mk_unroll.proofs.CountsExpr.{count_push, expr_appends}

-- behind these values stand as many more operators as these units have operations, and at most one lift for
-- each step
record Limited (before after : List Op) (us : List WorkUnit) : Type 0 where
  made : made after ≡ made before + operations us
  lifts : lifts after + operations us ≤ lifts before + work us

-- some values and then more
limited_on : (a b c : List Op) (us vs : List WorkUnit) → Limited a b us → Limited b c vs → Limited a c (us ++ vs)
limited_on a b c us vs first second = record {
  made = omega (arith, first.made, second.made, operations-append us vs);
  lifts = omega (arith, first.lifts, second.lifts, operations-append us vs, work-append us vs);
}

-- nothing more
limited_none : (values : List Op) → Limited values values []
limited_none values = record { made = omega arith; lifts = omega arith }

-- one more step
limited_step : (before after : List Op) (us : List WorkUnit) → Limited before after us → Limited before after (Step ∷ us)
limited_step before after us limited =
    let same = sum_by-cons (λ u. cond (is_operation u) 1 0) Step us in
    let one = sum_by-cons (λ u. cond (is_work u) 1 0) Step us in
    record {
      made = omega (arith, limited.made, same);
      lifts = omega (arith, limited.lifts, same, one);
    }

-- at most one lift more and nothing else
record Lifts (before after : List Op) : Type 0 where
  made : made after ≡ made before
  lifts : lifts after ≤ lifts before + 1

-- where something may be lifted
lifted_counts : (test : Bool) (x : Given) → Lifts x.values (cond test (appended x.values (Lift x.operand)) x).values
lifted_counts true x = record {
  made = omega (arith, count_push is_made x.values (Lift x.operand) false refl);
  lifts = omega (arith, count_push is_lift x.values (Lift x.operand) true refl);
}
lifted_counts false x = record { made = refl; lifts = omega arith }

module _ (decls : List Decl) where
  -- what a statement appends
  abbrev Appends : Stmt → Type 0
  Appends s = (turns : List Turn) (now : Unrolling) → Limited now.values (stmt_unrolled decls s turns now).values (stmt_units decls s turns)

  -- an assignment appends the values of its expression and at most one lift
  assignment_appends : (target : Ref) (value : Expr) (turns : List Turn) (now : Unrolling) →
      Limited now.values (assigned decls turns target value now).values (Step ∷ (expr_units decls turns value ++ reference_units decls turns target))
  assignment_appends target value turns now =
      let x = expr_given decls turns now.env value now.values in
      let us = expr_units decls turns value in
      let vs = reference_units decls turns target in
      let grown = expr_appends decls turns now.env value now.values in
      let more = lifted_counts (is_variable is_shared_class (declared decls target.name) && not (is_shared_operand x.values x.operand)) x in
      let none = operations-reference decls turns target in
      let same = sum_by-cons (λ u. cond (is_operation u) 1 0) Step (us ++ vs) in
      let one = sum_by-cons (λ u. cond (is_work u) 1 0) Step (us ++ vs) in
      record {
        made = omega (arith, grown.made, more.made, same, operations-append us vs, none);
        lifts = omega (arith, grown.lifts, more.lifts, same, one, operations-append us vs, work-append us vs, none, operations-work us);
      }

  -- what the statements of a turn append
  body_appends : (body : List Stmt) → AllByRecursion Appends body → (turns : List Turn) (now : Unrolling) →
      Limited now.values (fold (λ here part. part turns here) now (map (stmt_unrolled decls) body)).values (flat_map (λ part. part turns) (map (stmt_units decls) body))
  body_appends [] all turns now = limited_none now.values
  body_appends (s ∷ body) all turns now =
      let next = stmt_unrolled decls s turns now in
      limited_on now.values next.values (fold (λ here part. part turns here) next (map (stmt_unrolled decls) body)).values
      (stmt_units decls s turns) (flat_map (λ part. part turns) (map (stmt_units decls) body))
      (all.0 turns now) (body_appends body all.1 turns next)

  -- what the turns of a loop append
  turns_append : (name : List ℕ) (body : List Stmt) → AllByRecursion Appends body → (numbers : List ℕ) (turns : List Turn) (now : Unrolling) →
      Limited now.values
      (fold (λ so_far number. fold (λ here part. part (in_turn turns name number) here) so_far (map (stmt_unrolled decls) body)) now numbers).values
      (flat_map (λ number. turn_units (map (stmt_units decls) body) (in_turn turns name number)) numbers)
  turns_append name body all [] turns now = limited_none now.values
  turns_append name body all (n ∷ numbers) turns now =
      let within = in_turn turns name n in
      let next = fold (λ here part. part within here) now (map (stmt_unrolled decls) body) in
      limited_on now.values next.values
      (fold (λ so_far number. fold (λ here part. part (in_turn turns name number) here) so_far (map (stmt_unrolled decls) body)) next numbers).values
      (turn_units (map (stmt_units decls) body) within)
      (flat_map (λ number. turn_units (map (stmt_units decls) body) (in_turn turns name number)) numbers)
      (limited_step now.values next.values (flat_map (λ part. part within) (map (stmt_units decls) body)) (body_appends body all within now))
      (turns_append name body all numbers turns next)

  -- what a statement appends
  stmt_appends : (s : Stmt) → Appends s
  stmt_appends =
      stmt_induction Appends
      (λ target value turns now. rw (unrolled-Set decls turns now target value, units-Set decls target value turns) (assignment_appends target value turns now))
      (λ name at from to body all turns now. rw (unrolled-Loop decls turns now name at from to body, units-Loop decls name at from to body turns)
      (limited_step now.values
      (fold (λ so_far number. fold (λ here part. part (in_turn turns name number) here) so_far (map (stmt_unrolled decls) body)) now (turn_numbers from to)).values
      (flat_map (λ number. turn_units (map (stmt_units decls) body) (in_turn turns name number)) (turn_numbers from to))
      (turns_append name body all (turn_numbers from to) turns now)))

  -- what the statements of a program append
  stmts_append : (body : List Stmt) (now : Unrolling) →
      Limited now.values (fold (λ here s. stmt_unrolled decls s [] here) now body).values (flat_map (λ s. stmt_units decls s []) body)
  stmts_append [] now = limited_none now.values
  stmts_append (s ∷ body) now =
      let next = stmt_unrolled decls s [] now in
      limited_on now.values next.values (fold (λ here t. stmt_unrolled decls t [] here) next body).values
      (stmt_units decls s []) (flat_map (λ t. stmt_units decls t []) body)
      (stmt_appends s [] now) (stmts_append body next)

-- what a program appends
program_appends : (p : Program) → stop (units p) ≡ None → Limited (first_unrolling p).values (unrolled p).values (units p)
program_appends p ended =
    subst (Limited (first_unrolling p).values (unrolled p).values) (sym (units_are_all p ended)) (stmts_append p.decls p.body (first_unrolling p))

-- the values that are no constant and no lift are as many as the operations
pub unrolled_made : (p : Program) → stop (units p) ≡ None → made (unrolled p).values ≡ operations (units p)
unrolled_made p ended = omega (arith, (program_appends p ended).made)

-- the lifts are at most one more than the steps
pub unrolled_lifts_steps : (p : Program) → stop (units p) ≡ None → lifts (unrolled p).values + operations (units p) ≤ 1 + work (units p)
unrolled_lifts_steps p ended = omega (arith, (program_appends p ended).lifts)

-- and so at most one more than the units of work
pub unrolled_lifts : (p : Program) → stop (units p) ≡ None → lifts (unrolled p).values ≤ 1 + work (units p)
unrolled_lifts p ended = omega (arith, unrolled_lifts_steps p ended)

-- at most 16,384 values are no constant and no lift
pub unrolled_made_at_most : (p : Program) → stop (units p) ≡ None → made (unrolled p).values ≤ MOST_OPERATIONS
unrolled_made_at_most p ended = omega (arith, unrolled_made p ended, operations_at_most p ended)

-- at most 65,537 values are lifts
pub unrolled_lifts_at_most : (p : Program) → stop (units p) ≡ None → lifts (unrolled p).values ≤ MOST_WORK + 1
unrolled_lifts_at_most p ended = omega (arith, unrolled_lifts p ended, work_at_most p ended)
