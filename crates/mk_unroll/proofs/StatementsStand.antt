-- What statements make of the operands stands for what they make of the elements.
use Rattle.std.proofs.Common.{◌≡◌, ℕ, Bool, true, false, not, cond, List, [], ◌∷◌, ◌++◌, map, flat_map, refl, sym, ap, subst, ◌∙◌}
use Rattle.std.specs.Prelude.{fold}
use Rattle.std.specs.List.{AllByRecursion}
use Rattle.mk_base.specs.declared.Place.{Place}
use Rattle.mk_ast.specs.declared.tree.Stmt.{Stmt}
use Rattle.mk_ast.specs.declared.tree.Stmt.TheVariants as stmt
use Rattle.mk_ast.specs.declared.tree.Ref.{Ref}
use Rattle.mk_ast.specs.declared.tree.Expr.{Expr}
use Rattle.mk_ast.proofs.Induction.{stmt_induction}
use Rattle.mk_ssa.specs.declared.Op.{Op}
use Rattle.mk_ssa.specs.declared.Op.TheVariants.{Lift}
use Rattle.mk_ssa.specs.Values.{IsDraft}
use Rattle.mk_types.specs.Scope.{inside, is_variable, is_shared_class, is_shared}
use Rattle.mk_types.specs.Turns.{Turn, in_turn, turn_numbers}
use Rattle.mk_types.specs.Elements.{number_of}
use Rattle.mk_types.specs.Units.{element_number, reference_units, expr_units, turn_units, stmt_units}
use Rattle.mk_types.specs.Environment.{Environment, stored}
use Rattle.mk_types.specs.Meaning.{expr_value, stmt_meaning}
use Rattle.mk_types.specs.Offences.{target_offences, reference_offences, expr_offences, assignment_offences, loop_name_offences, stmt_offences}
use Rattle.mk_types.proofs.Layers.{stmt-Set, stmt-Loop}
use Rattle.mk_types.proofs.ExecutionLayers.{units-Set, units-Loop, meaning-Set, meaning-Loop}
use Rattle.mk_types.proofs.Faults.{NoFaults, no_faults_front, no_faults_back}
use Rattle.mk_types.proofs.Accepted.{no_offences, reference_found, public_target}
use Rattle.mk_types.proofs.RegularParts.{SomewhereRegular, SomewhereRegularStmt, regular-Set, regular-Loop}
use Rattle.mk_unroll.specs.Unrolled.{Given, Unrolling, is_shared_operand, appended, lifted_if, expr_given, assigned, assignment_unrolled, stmt_unrolled}
use Rattle.mk_unroll.proofs.UnrolledLayers.{unrolled-Set, unrolled-Loop}
use Rattle.mk_unroll.proofs.Stands.{Setting, draft_of, Gives, stands_shared, gives_appended, lift_stands}
use Rattle.mk_unroll.proofs.Environments.{EnvironmentStands, environment_grows, stored_stands}
use Rattle.mk_unroll.proofs.ExpressionsStand.{Declares, scope_in, expr_gives}

-- the values fit together, and what the variables hold stands for these elements
pub record Holds (t : Setting) (now : Unrolling) (elements : Environment ℕ) : Type 0 where
  pub made : IsDraft (draft_of t now.values)
  pub env : EnvironmentStands t now.values t.decls now.env elements

module _ (t : Setting) where
  -- a value that is lifted, where it is public
  lifted_by : (s v : Bool) (before : List Op) (g : Given) (a : ℕ) → Gives t s before g a → is_shared_operand g.values g.operand ≡ v → v ≡ s →
      Gives t true before (cond (not v) (appended g.values (Lift g.operand)) g) a
  lifted_by true true before g a gives is same = gives
  lifted_by true false before g a gives is same = absurd (cc)
  lifted_by false true before g a gives is same = absurd (cc)
  lifted_by false false before g a gives is same =
      gives_appended t true before g.values (Lift g.operand) a gives.made gives.grows (lift_stands t g.values g.operand a gives.stands)

  -- a value as its target takes it
  lifted_gives : (shared s : Bool) (before : List Op) (g : Given) (a : ℕ) → (shared ≡ false → s ≡ false) → Gives t s before g a → Gives t shared before (lifted_if shared g) a
  lifted_gives true s before g a public gives =
      lifted_by s (is_shared_operand g.values g.operand) before g a gives refl (stands_shared t s g.values g.operand a gives.stands)
  lifted_gives false s before g a public gives = subst (λ v. Gives t v before g a) (public refl) gives

module _ (t : Setting) (declares : Declares t) where
  -- what a statement makes of what is held
  abbrev KeepsHolding : Stmt → Type 0
  KeepsHolding s =
      (loops : List (List ℕ)) (turns : List Turn) (now : Unrolling) (elements : Environment ℕ) → Holds t now elements → SomewhereRegularStmt s
      → stmt_offences s (scope_in t loops) ≡ [] → NoFaults (stmt_units t.decls s turns)
      → Holds t (stmt_unrolled t.decls s turns now) (stmt_meaning t.field t.decls s turns elements)

  -- an assignment
  assignment_holds : (target : Ref) (value : Expr) (loops : List (List ℕ)) (turns : List Turn) (now : Unrolling) (elements : Environment ℕ) → Holds t now elements →
      SomewhereRegular value → assignment_offences (scope_in t loops) target value ≡ [] → NoFaults (expr_units t.decls turns value ++ reference_units t.decls turns target) →
      Holds t (assignment_unrolled t.decls target value turns now)
      (stored elements (number_of t.decls target.name) (element_number turns target) (expr_value t.field t.decls turns elements value))
  assignment_holds target value loops turns now elements holds regular accepted none =
      let s = scope_in t loops in
      let a = expr_value t.field t.decls turns elements value in
      let g = expr_given t.decls turns now.env value now.values in
      let x = assigned t.decls turns target value now in
      let i = element_number turns target in
      let both = no_offences (target_offences s target value ++ reference_offences s target) (expr_offences s value) accepted in
      let first = no_offences (target_offences s target value) (reference_offences s target) both.0 in
      let found = reference_found s turns target first.1 (no_faults_back (expr_units t.decls turns value) (reference_units t.decls turns target) none) in
      let gives = expr_gives t declares loops turns now.env elements value now.values holds.made holds.env regular both.1
      (no_faults_front (expr_units t.decls turns value) (reference_units t.decls turns target) none) in
      let class = ap (is_variable is_shared_class) found.is in
      let taken : Gives t (is_shared_class found.class) now.values x a =
      subst (λ v. Gives t (is_shared_class found.class) now.values (lifted_if v g) a) (sym class)
      (lifted_gives t (is_shared_class found.class) (is_shared t.decls value) now.values g a
      (λ public. public_target s target value found.class found.size first.0 found.is public) gives) in
      record {
        made = taken.made;
        env =
            stored_stands t x.values found.class found.size i x.operand a taken.stands target.name t.decls now.env elements
            (environment_grows t now.values x.values taken.grows t.decls now.env elements holds.env) found.is;
      }

  -- the statements of a turn
  body_holds : (body : List Stmt) → AllByRecursion KeepsHolding body → (loops : List (List ℕ)) (turns : List Turn) (now : Unrolling) (elements : Environment ℕ) →
      Holds t now elements → AllByRecursion SomewhereRegularStmt body → flat_map (λ s. stmt_offences s (scope_in t loops)) body ≡ [] →
      NoFaults (flat_map (λ part. part turns) (map (stmt_units t.decls) body)) →
      Holds t (fold (λ here part. part turns here) now (map (stmt_unrolled t.decls) body)) (fold (λ here part. part turns here) elements (map (stmt_meaning t.field t.decls) body))
  body_holds [] all loops turns now elements holds regular accepted none = holds
  body_holds (s ∷ body) all loops turns now elements holds regular accepted none =
      let both = no_offences (stmt_offences s (scope_in t loops)) (flat_map (λ u. stmt_offences u (scope_in t loops)) body) accepted in
      let units = stmt_units t.decls s turns in
      let rest = flat_map (λ part. part turns) (map (stmt_units t.decls) body) in
      body_holds body all.1 loops turns (stmt_unrolled t.decls s turns now) (stmt_meaning t.field t.decls s turns elements)
      (all.0 loops turns now elements holds regular.0 both.0 (no_faults_front units rest none)) regular.1 both.1 (no_faults_back units rest none)

  -- the turns of a loop
  turns_hold : (name : List ℕ) (body : List Stmt) → AllByRecursion KeepsHolding body → AllByRecursion SomewhereRegularStmt body →
      (loops : List (List ℕ)) → flat_map (λ s. stmt_offences s (scope_in t (loops ++ name ∷ []))) body ≡ [] →
      (numbers : List ℕ) (turns : List Turn) (now : Unrolling) (elements : Environment ℕ) → Holds t now elements →
      NoFaults (flat_map (λ number. turn_units (map (stmt_units t.decls) body) (in_turn turns name number)) numbers) →
      Holds t
      (fold (λ so_far number. fold (λ here part. part (in_turn turns name number) here) so_far (map (stmt_unrolled t.decls) body)) now numbers)
      (fold (λ so_far number. fold (λ here part. part (in_turn turns name number) here) so_far (map (stmt_meaning t.field t.decls) body)) elements numbers)
  turns_hold name body all regular loops accepted [] turns now elements holds none = holds
  turns_hold name body all regular loops accepted (n ∷ numbers) turns now elements holds none =
      let within = in_turn turns name n in
      let units = turn_units (map (stmt_units t.decls) body) within in
      let rest = flat_map (λ number. turn_units (map (stmt_units t.decls) body) (in_turn turns name number)) numbers in
      turns_hold name body all regular loops accepted numbers turns
      (fold (λ here part. part within here) now (map (stmt_unrolled t.decls) body))
      (fold (λ here part. part within here) elements (map (stmt_meaning t.field t.decls) body))
      (body_holds body all (loops ++ name ∷ []) within now elements holds regular accepted (no_faults_front units rest none).1)
      (no_faults_back units rest none)

  -- an assignment, as a statement
  set_holds : (target : Ref) (value : Expr) → KeepsHolding (stmt.Set target value)
  set_holds target value loops turns now elements holds regular accepted none =
      rw (unrolled-Set t.decls turns now target value, meaning-Set t.field t.decls turns elements target value)
      (assignment_holds target value loops turns now elements holds (regular-Set target value regular)
      (sym (stmt-Set target value (scope_in t loops)) ∙ accepted) (subst NoFaults (units-Set t.decls target value turns) none).1)

  -- a loop
  loop_holds : (name : List ℕ) (at : Place) (from to : ℕ) (body : List Stmt) → AllByRecursion KeepsHolding body → KeepsHolding (stmt.Loop name at from to body)
  loop_holds name at from to body all loops turns now elements holds regular accepted none =
      let both = no_offences (loop_name_offences (scope_in t loops) name at) (flat_map (λ s. stmt_offences s (inside (scope_in t loops) name)) body)
      (sym (stmt-Loop name at from to body (scope_in t loops)) ∙ accepted) in
      rw (unrolled-Loop t.decls turns now name at from to body, meaning-Loop t.field t.decls turns elements name at from to body)
      (turns_hold name body all (regular-Loop name at from to body regular) loops both.1 (turn_numbers from to) turns now elements holds
      (subst NoFaults (units-Loop t.decls name at from to body turns) none).1)

  -- a statement
  stmt_holds : (s : Stmt) → KeepsHolding s
  stmt_holds = stmt_induction KeepsHolding set_holds loop_holds

  -- the statements of a program
  pub stmts_hold : (body : List Stmt) (now : Unrolling) (elements : Environment ℕ) → Holds t now elements → AllByRecursion SomewhereRegularStmt body →
      flat_map (λ s. stmt_offences s (scope_in t [])) body ≡ [] → NoFaults (flat_map (λ s. stmt_units t.decls s []) body) →
      Holds t (fold (λ here s. stmt_unrolled t.decls s [] here) now body) (fold (λ here s. stmt_meaning t.field t.decls s [] here) elements body)
  stmts_hold [] now elements holds regular accepted none = holds
  stmts_hold (s ∷ body) now elements holds regular accepted none =
      let both = no_offences (stmt_offences s (scope_in t [])) (flat_map (λ u. stmt_offences u (scope_in t [])) body) accepted in
      let units = stmt_units t.decls s [] in
      let rest = flat_map (λ u. stmt_units t.decls u []) body in
      stmts_hold body (stmt_unrolled t.decls s [] now) (stmt_meaning t.field t.decls s [] elements)
      (stmt_holds s [] [] now elements holds regular.0 both.0 (no_faults_front units rest none)) regular.1 both.1 (no_faults_back units rest none)
