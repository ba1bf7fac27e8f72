-- Units without a fault, within both limits, stop nowhere.
use Rattle.std.proofs.Common.{◌≡◌, ◌+◌, ◌≤◌, ◌<◌, cond, List, [], ◌∷◌, ◌++◌, Some, None, if◌then◌else◌, refl, sym, ap, subst, ◌∙◌, append_assoc, arith}
use Rattle.std.specs.List.{AllByRecursion}
use Rattle.std.proofs.lemmas.Bool.{lt-leb}
use Rattle.std.proofs.lemmas.List.Sums.{sum_by-cons}
use Rattle.mk_types.specs.Units.{WorkUnit, Step, Operation, Fault, up_to_fault}
use Rattle.mk_types.specs.Stops.{Work, Operations, is_work, is_operation, work, operations, earlier, event, stop_behind, stop}
use Rattle.mk_types.proofs.Faults.{IsNoFault}
use Rattle.mk_unroll.proofs.IndexUnits.{operations-append, work-append}

-- the units end with the last
pub faultless_whole : (us : List WorkUnit) → AllByRecursion IsNoFault us → up_to_fault us ≡ us
faultless_whole [] all = refl
faultless_whole (Step ∷ us) all = ap (λ vs. Step ∷ vs) (faultless_whole us all.1)
faultless_whole (Operation ∷ us) all = ap (λ vs. Operation ∷ vs) (faultless_whole us all.1)
faultless_whole (Fault at ∷ us) all = absurd all.0

-- a unit within the limits is no event
step_goes : (before : List WorkUnit) → work before < 65536 → event before Step ≡ None
step_goes before room = ap (λ b. if b then Some Work else None) (lt-leb 65536 (work before) room)

-- an operation within both limits is no event
operation_goes : (before : List WorkUnit) → work before < 65536 → operations before < 16384 → event before Operation ≡ None
operation_goes before room free =
    λ i. if lt-leb 65536 (work before) room i then Some Work else if lt-leb 16384 (operations before) free i then Some Operations else None

-- so nothing stops behind these
faultless_goes : (before us : List WorkUnit) → AllByRecursion IsNoFault us → work (before ++ us) ≤ 65536 → operations (before ++ us) ≤ 16384 →
    stop_behind before us ≡ None
faultless_goes before [] all room free = refl
faultless_goes before (Step ∷ us) all room free =
    let again : (before ++ Step ∷ []) ++ us ≡ before ++ Step ∷ us = append_assoc before (Step ∷ []) us in
    let more : work (Step ∷ us) ≡ 1 + work us = sum_by-cons (λ u. cond (is_work u) 1 0) Step us in
    ap (λ e. earlier e (stop_behind (before ++ Step ∷ []) us)) (step_goes before (omega (arith, room, more, work-append before (Step ∷ us))))
    ∙ faultless_goes (before ++ Step ∷ []) us all.1 (subst (λ vs. work vs ≤ 65536) (sym again) room) (subst (λ vs. operations vs ≤ 16384) (sym again) free)
faultless_goes before (Operation ∷ us) all room free =
    let again : (before ++ Operation ∷ []) ++ us ≡ before ++ Operation ∷ us = append_assoc before (Operation ∷ []) us in
    let more : work (Operation ∷ us) ≡ 1 + work us = sum_by-cons (λ u. cond (is_work u) 1 0) Operation us in
    let further : operations (Operation ∷ us) ≡ 1 + operations us = sum_by-cons (λ u. cond (is_operation u) 1 0) Operation us in
    ap (λ e. earlier e (stop_behind (before ++ Operation ∷ []) us))
    (operation_goes before (omega (arith, room, more, work-append before (Operation ∷ us))) (omega (arith, free, further, operations-append before (Operation ∷ us))))
    ∙ faultless_goes (before ++ Operation ∷ []) us all.1 (subst (λ vs. work vs ≤ 65536) (sym again) room) (subst (λ vs. operations vs ≤ 16384) (sym again) free)
faultless_goes before (Fault at ∷ us) all room free = absurd all.0

-- and execution of these comes to its end
pub faultless_ends : (us : List WorkUnit) → AllByRecursion IsNoFault us → work us ≤ 65536 → operations us ≤ 16384 → stop us ≡ None
faultless_ends us = faultless_goes [] us
