-- What is counted of all units, and where execution stops.
use Rattle.std.proofs.Common.{◌≡◌, ℕ, ◌+◌, ◌⊎◌, Bool, true, false, cond, List, [], ◌∷◌, ◌++◌, Some, None, inl, inr, if◌then◌else◌, refl, sym, ap, ◌∙◌, append_assoc, arith}
use Rattle.std.specs.Prelude.{nat_le}
use Rattle.std.proofs.lemmas.List.{append-nil}
use Rattle.std.proofs.lemmas.List.Sums.{sum_by-append}
use Rattle.mk_ast.specs.declared.refusal.SourceRefusal.{SourceRefusal}
use Rattle.mk_ast.specs.declared.refusal.SourceRefusal.TheVariants as refusal_
use Rattle.mk_types.specs.Units.{WorkUnit, Step, Operation, Fault, up_to_fault}
use Rattle.mk_types.specs.Stops.{Event, Work, Operations, Index, is_work, is_operation, work, operations, earlier, stop_behind, stop, event_refusal}
use Rattle.mk_unroll.specs.Counted.{Count, stopped, nothing, counted, Halts}
use Rattle.mk_unroll.proofs.Counting.{count_of, stays}

-- no event and an event
none_some : {A : Type 0} (x : A) → Some x ≡ None → ⊥
none_some x is = absurd (cc)

-- the counts behind one more unit
work_more : (before : List WorkUnit) (u : WorkUnit) (n : ℕ) → work (u ∷ []) ≡ n → work before + n ≡ work (before ++ u ∷ [])
work_more before u n one = ap (λ m. work before + m) (sym one) ∙ sym (sum_by-append (λ v. cond (is_work v) 1 0) before (u ∷ []))

-- the operations behind one more unit
operations_more : (before : List WorkUnit) (u : WorkUnit) (n : ℕ) → operations (u ∷ []) ≡ n → operations before + n ≡ operations (before ++ u ∷ [])
operations_more before u n one = ap (λ m. operations before + m) (sym one) ∙ sym (sum_by-append (λ v. cond (is_operation v) 1 0) before (u ∷ []))

-- the count behind these, which nothing has stopped
abbrev going : List WorkUnit → Count
going before = count_of (work before) (operations before) None

-- one step more
step_going : (before : List WorkUnit) → count_of (work before + 1) (operations before) None ≡ going (before ++ Step ∷ [])
step_going before =
    let same : operations before ≡ operations before + 0 = omega arith in
    ap (λ w. count_of w (operations before) None) (work_more before Step 1 refl)
    ∙ ap (λ o. count_of (work (before ++ Step ∷ [])) o None) (same ∙ operations_more before Step 0 refl)

-- one operation more
operation_going : (before : List WorkUnit) → count_of (work before + 1) (operations before + 1) None ≡ going (before ++ Operation ∷ [])
operation_going before =
    ap (λ w. count_of w (operations before + 1) None) (work_more before Operation 1 refl)
    ∙ ap (λ o. count_of (work (before ++ Operation ∷ [])) o None) (operations_more before Operation 1 refl)

-- the event that stops is the first
stop_counted : (before us : List WorkUnit) → (counted (going before) us).stop ≡ stop_behind before (up_to_fault us)
stop_counted before [] = refl
stop_counted before (Step ∷ us) = by (nat_le 65536 (work before)) (stop_counted (before ++ Step ∷ []) us)
  where
    by : (b : Bool) → (counted (going (before ++ Step ∷ [])) us).stop ≡ stop_behind (before ++ Step ∷ []) (up_to_fault us) →
        (counted (if b then stopped (going before) Work else count_of (work before + 1) (operations before) None) us).stop
        ≡ earlier (if b then Some Work else None) (stop_behind (before ++ Step ∷ []) (up_to_fault us))
    by true rest = ap (λ c. c.stop) (stays (work before) (operations before) Work us)
    by false rest = ap (λ c. (counted c us).stop) (step_going before) ∙ rest
stop_counted before (Operation ∷ us) =
    by (nat_le 65536 (work before)) (nat_le 16384 (operations before)) (stop_counted (before ++ Operation ∷ []) us)
  where
    by : (b d : Bool) → (counted (going (before ++ Operation ∷ [])) us).stop ≡ stop_behind (before ++ Operation ∷ []) (up_to_fault us) →
        (counted (if b then stopped (going before) Work else if d then stopped (going before) Operations else count_of (work before + 1) (operations before + 1) None) us).stop
        ≡ earlier (if b then Some Work else if d then Some Operations else None) (stop_behind (before ++ Operation ∷ []) (up_to_fault us))
    by true d rest = ap (λ c. c.stop) (stays (work before) (operations before) Work us)
    by false true rest = ap (λ c. c.stop) (stays (work before) (operations before) Operations us)
    by false false rest = ap (λ c. (counted c us).stop) (operation_going before) ∙ rest
stop_counted before (Fault at ∷ us) = ap (λ c. c.stop) (stays (work before) (operations before) (Index at) us)

-- where nothing stops, the operations are those of the units
operations_counted : (before us : List WorkUnit) → (counted (going before) us).stop ≡ None → (counted (going before) us).operations ≡ operations (before ++ up_to_fault us)
operations_counted before [] none = ap operations (sym (append-nil before))
operations_counted before (Step ∷ us) none = by (nat_le 65536 (work before)) none (operations_counted (before ++ Step ∷ []) us)
  where
    by : (b : Bool) → (counted (if b then stopped (going before) Work else count_of (work before + 1) (operations before) None) us).stop ≡ None →
        ((counted (going (before ++ Step ∷ [])) us).stop ≡ None → (counted (going (before ++ Step ∷ [])) us).operations ≡ operations ((before ++ Step ∷ []) ++ up_to_fault us)) →
        (counted (if b then stopped (going before) Work else count_of (work before + 1) (operations before) None) us).operations ≡ operations (before ++ Step ∷ up_to_fault us)
    by true is rest = absurd (none_some Work (sym (ap (λ c. c.stop) (stays (work before) (operations before) Work us)) ∙ is))
    by false is rest =
        ap (λ c. (counted c us).operations) (step_going before)
        ∙ rest (ap (λ c. (counted c us).stop) (sym (step_going before)) ∙ is)
        ∙ ap operations (append_assoc before (Step ∷ []) (up_to_fault us))
operations_counted before (Operation ∷ us) none =
    by (nat_le 65536 (work before)) (nat_le 16384 (operations before)) none (operations_counted (before ++ Operation ∷ []) us)
  where
    by : (b d : Bool) →
        (counted (if b then stopped (going before) Work else if d then stopped (going before) Operations else count_of (work before + 1) (operations before + 1) None) us).stop ≡ None →
        ((counted (going (before ++ Operation ∷ [])) us).stop ≡ None →
        (counted (going (before ++ Operation ∷ [])) us).operations ≡ operations ((before ++ Operation ∷ []) ++ up_to_fault us)) →
        (counted (if b then stopped (going before) Work else if d then stopped (going before) Operations else count_of (work before + 1) (operations before + 1) None) us).operations
        ≡ operations (before ++ Operation ∷ up_to_fault us)
    by true d is rest = absurd (none_some Work (sym (ap (λ c. c.stop) (stays (work before) (operations before) Work us)) ∙ is))
    by false true is rest = absurd (none_some Operations (sym (ap (λ c. c.stop) (stays (work before) (operations before) Operations us)) ∙ is))
    by false false is rest =
        ap (λ c. (counted c us).operations) (operation_going before)
        ∙ rest (ap (λ c. (counted c us).stop) (sym (operation_going before)) ∙ is)
        ∙ ap operations (append_assoc before (Operation ∷ []) (up_to_fault us))
operations_counted before (Fault at ∷ us) none =
    absurd (none_some (Index at) (sym (ap (λ c. c.stop) (stays (work before) (operations before) (Index at) us)) ∙ none))

-- execution came to its end
pub ended : (us : List WorkUnit) (c : Count) → c ≡ counted nothing us → c.stop ≡ None → stop (up_to_fault us) ≡ None
ended us c is none = sym (stop_counted [] us) ∙ ap (λ (d : Count). d.stop) (sym is) ∙ none

-- and these are its operations
pub ended_operations : (us : List WorkUnit) (c : Count) → c ≡ counted nothing us → c.stop ≡ None → c.operations ≡ operations (up_to_fault us)
ended_operations us c is none =
    ap (λ (d : Count). d.operations) is ∙ operations_counted [] us (ap (λ (d : Count). d.stop) (sym is) ∙ none)

-- execution was stopped
pub halted : (e : SourceRefusal) (us : List WorkUnit) → Halts e (counted nothing us) →
    (e ≡ refusal_.Memory) ⊎ ((event : Event) × (stop (up_to_fault us) ≡ Some event) × (e ≡ event_refusal event))
halted e us (inl memory) = inl memory
halted e us (inr (event, stops, is)) = inr (event, sym (stop_counted [] us) ∙ stops, is)
