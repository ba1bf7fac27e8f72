-- Where execution comes to its end: no unit is a fault, and the limits are kept.
use Rattle.std.proofs.Common.{◌≡◌, ℕ, ◌<◌, ◌≤◌, Bool, true, false, cond, List, [], ◌∷◌, ◌++◌, Option, Some, None, flat_map, count_by, leb, leb-false, refl, sym, ap, subst, append_assoc, arith}
use Rattle.std.specs.List.{AllByRecursion}
use Rattle.std.proofs.lemmas.List.{append-nil}
use Rattle.std.proofs.lemmas.List.Sums.{sum_by-append}
use Rattle.mk_ast.specs.declared.tree.Program.{Program}
use Rattle.mk_types.specs.Units.{WorkUnit, Step, Operation, Fault, up_to_fault, stmt_units, units}
use Rattle.mk_types.specs.Stops.{Event, Work, Operations, is_work, is_operation, work, operations, event, earlier, stop_behind, stop}

-- a unit that is no fault: a step or an operation
abbrev pub IsNoFault : WorkUnit → Type 0
IsNoFault Step = Unit {0}
IsNoFault Operation = Unit {0}
IsNoFault (Fault at) = ⊥

-- no unit is a fault
abbrev pub NoFaults : List WorkUnit → Type 0
NoFaults us = AllByRecursion IsNoFault us

-- no fault is among the first ones
pub no_faults_front : (us vs : List WorkUnit) → NoFaults (us ++ vs) → NoFaults us
no_faults_front [] vs none = tt
no_faults_front (u ∷ us) vs none = (none.0, no_faults_front us vs none.1)

-- no fault is among the last ones
pub no_faults_back : (us vs : List WorkUnit) → NoFaults (us ++ vs) → NoFaults vs
no_faults_back [] vs none = none
no_faults_back (u ∷ us) vs none = no_faults_back us vs none.1

-- neither of two events
neither : (x y : Option Event) → earlier x y ≡ None → (x ≡ None) × (y ≡ None)
neither None y e = (refl, e)
neither (Some v) y e = absurd (cc)

-- what does not stop has no fault
no_faults_behind : (before us : List WorkUnit) → stop_behind before us ≡ None → NoFaults us
no_faults_behind before [] e = tt
no_faults_behind before (Step ∷ us) e = (tt, no_faults_behind (before ++ Step ∷ []) us (neither (event before Step) (stop_behind (before ++ Step ∷ []) us) e).1)
no_faults_behind before (Operation ∷ us) e =
    (tt, no_faults_behind (before ++ Operation ∷ []) us (neither (event before Operation) (stop_behind (before ++ Operation ∷ []) us) e).1)
no_faults_behind before (Fault at ∷ us) e = absurd (cc)

-- without a fault the units up to it are all
whole : (us : List WorkUnit) → NoFaults (up_to_fault us) → up_to_fault us ≡ us
whole [] none = refl
whole (Step ∷ us) none = ap (λ rest. Step ∷ rest) (whole us none.1)
whole (Operation ∷ us) none = ap (λ rest. Operation ∷ rest) (whole us none.1)
whole (Fault at ∷ us) none = absurd none.0

-- the units of the statements of a program, those behind a fault, too
abbrev pub all_units : Program → List WorkUnit
all_units p = flat_map (λ s. stmt_units p.decls s []) p.body

-- where execution comes to its end, its units are all that the statements have
pub units_are_all : (p : Program) → stop (units p) ≡ None → units p ≡ all_units p
units_are_all p ended = whole (all_units p) (no_faults_behind [] (units p) ended)

-- and none of them is a fault
pub units_without_faults : (p : Program) → stop (units p) ≡ None → NoFaults (all_units p)
units_without_faults p ended = subst NoFaults (units_are_all p ended) (no_faults_behind [] (units p) ended)

-- no event at a limit
below_limit : (limit n : ℕ) (b : Bool) → b ≡ leb limit n → (x : Event) (y : Option Event) → cond b (Some x) y ≡ None → (n < limit) × (y ≡ None)
below_limit limit n true is x y e = absurd (cc)
below_limit limit n false is x y e = (leb-false limit n (sym is), e)

-- what a test adds to a count
abbrev weight : Bool → ℕ
weight passes = cond passes 1 0

-- one more unit that counts
counted_more : (test : WorkUnit → Bool) (before : List WorkUnit) (u : WorkUnit) (limit : ℕ) →
    weight (test u) ≡ 1 → count_by test before < limit → count_by test (before ++ u ∷ []) ≤ limit
counted_more test before u limit one below = omega (arith, sum_by-append (λ x. weight (test x)) before (u ∷ []), one, below)

-- one more unit that does not
counted_same : (test : WorkUnit → Bool) (before : List WorkUnit) (u : WorkUnit) (limit : ℕ) →
    weight (test u) ≡ 0 → count_by test before ≤ limit → count_by test (before ++ u ∷ []) ≤ limit
counted_same test before u limit none below = omega (arith, sum_by-append (λ x. weight (test x)) before (u ∷ []), none, below)

-- the limits are kept by these units behind those
record Kept (us : List WorkUnit) : Type 0 where
  work : work us ≤ 65536
  operations : operations us ≤ 16384

-- what does not stop keeps the limits
kept_behind : (before us : List WorkUnit) → stop_behind before us ≡ None → Kept before → Kept (before ++ us)
kept_behind before [] e kept = subst Kept (sym (append-nil before)) kept
kept_behind before (Step ∷ us) e kept =
    let both = neither (event before Step) (stop_behind (before ++ Step ∷ []) us) e in
    let one = below_limit 65536 (work before) (leb 65536 (work before)) refl Work None both.0 in
    subst Kept (append_assoc before (Step ∷ []) us) (kept_behind (before ++ Step ∷ []) us both.1 (record {
      work = counted_more is_work before Step 65536 refl one.0;
      operations = counted_same is_operation before Step 16384 refl kept.operations;
    }))
kept_behind before (Operation ∷ us) e kept =
    let both = neither (event before Operation) (stop_behind (before ++ Operation ∷ []) us) e in
    let one = below_limit 65536 (work before) (leb 65536 (work before)) refl Work
    (cond (leb 16384 (operations before)) (Some Operations) None) both.0 in
    let two = below_limit 16384 (operations before) (leb 16384 (operations before)) refl Operations None one.1 in
    subst Kept (append_assoc before (Operation ∷ []) us) (kept_behind (before ++ Operation ∷ []) us both.1 (record {
      work = counted_more is_work before Operation 65536 refl one.0;
      operations = counted_more is_operation before Operation 16384 refl two.0;
    }))
kept_behind before (Fault at ∷ us) e kept = absurd (cc)

-- nothing keeps them
kept_nothing : Kept []
kept_nothing = record { work = omega arith; operations = omega arith }

-- execution that comes to its end is at most 65,536 units of work
pub work_at_most : (p : Program) → stop (units p) ≡ None → work (units p) ≤ 65536
work_at_most p ended = (kept_behind [] (units p) ended kept_nothing).work

-- and at most 16,384 operations
pub operations_at_most : (p : Program) → stop (units p) ≡ None → operations (units p) ≤ 16384
operations_at_most p ended = (kept_behind [] (units p) ended kept_nothing).operations
