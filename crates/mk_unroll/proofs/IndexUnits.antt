-- The units of indexes and references have no operation on elements.
use Rattle.std.proofs.Common.{◌≡◌, ℕ, ◌+◌, ◌*◌, ◌%◌, ◌≤◌, Bool, true, false, not, cond, List, [], ◌∷◌, ◌++◌, Option, Some, None, map, ltb, refl, ap, ◌∙◌, arith}
use Rattle.std.specs.Prelude.{fold}
use Rattle.std.specs.List.{AllByRecursion}
use Rattle.std.proofs.lemmas.List.Sums.{sum_by-append, sum_by-cons}
use Rattle.mk_base.specs.declared.Place.{Place}
use Rattle.mk_ast.specs.declared.tree.Decl.{Decl}
use Rattle.mk_ast.specs.declared.tree.Ref.{Ref}
use Rattle.mk_ast.specs.declared.tree.Index.{Index}
use Rattle.mk_ast.specs.declared.tree.Link.{Link}
use Rattle.mk_ast.proofs.Induction.{index_induction}
use Rattle.mk_types.specs.Turns.{Turn}
use Rattle.mk_types.specs.Elements.{array_size}
use Rattle.mk_types.specs.Units.{WorkUnit, Step, Operation, Fault, Evaluated, fault_if, operator, behind, plus_part, sum_of_parts, evaluated, linked, reference_units}
use Rattle.mk_types.specs.Stops.{is_work, is_operation, work, operations}
use Rattle.mk_types.proofs.ExecutionLayers.{evaluated-Num, evaluated-Var, evaluated-Sum, evaluated-Chain, linked-Times, linked-Mod}

-- the operations of these and then of those
pub operations-append : (us vs : List WorkUnit) → operations (us ++ vs) ≡ operations us + operations vs
operations-append us vs = sum_by-append (λ u. cond (is_operation u) 1 0) us vs

-- the work of these and then of those
pub work-append : (us vs : List WorkUnit) → work (us ++ vs) ≡ work us + work vs
work-append us vs = sum_by-append (λ u. cond (is_work u) 1 0) us vs

-- an operation is work
operation_is_work : (u : WorkUnit) → cond (is_operation u) 1 0 ≤ cond (is_work u) 1 0
operation_is_work Step = omega arith
operation_is_work Operation = omega arith
operation_is_work (Fault at) = omega arith

-- operations are work
pub operations-work : (us : List WorkUnit) → operations us ≤ work us
operations-work [] = omega arith
operations-work (u ∷ us) =
    omega (arith, operations-work us, sum_by-cons (λ x. cond (is_operation x) 1 0) u us, sum_by-cons (λ x. cond (is_work x) 1 0) u us, operation_is_work u)

-- a fault is no operation
operations-fault_if : (b : Bool) (at : Place) → operations (fault_if b at) ≡ 0
operations-fault_if true at = refl
operations-fault_if false at = refl

-- an operator of an index is none
operations-operator : (at : Place) (value : ℕ) (units : List WorkUnit) → operations units ≡ 0 → operations (operator at value units).units ≡ 0
operations-operator at value units none =
    let over = fault_if (ltb 65535 value) at in
    let faults : operations over ≡ 0 = operations-fault_if (ltb 65535 value) at in
    let step : operations (Step ∷ over) ≡ 0 + operations over = sum_by-cons (λ u. cond (is_operation u) 1 0) Step over in
    omega (arith, operations-append units (Step ∷ over), none, step, faults)

module _ (at : Place) (turns : List Turn) where
  -- there is no operation in an index
  abbrev NoneInIndex : Index → Type 0
  NoneInIndex i = operations (evaluated at turns i).units ≡ 0

  -- there is no operation in a link
  abbrev NoneInLink : Link → Type 0
  NoneInLink l = (so_far : ℕ) → operations (linked at turns l so_far).units ≡ 0

  -- nor in one more operator behind others
  none_behind : (e : Evaluated) (next : ℕ → Evaluated) → operations e.units ≡ 0 → ((so_far : ℕ) → operations (next so_far).units ≡ 0) →
      operations (behind e next).units ≡ 0
  none_behind e next none then_none = omega (arith, operations-append e.units (next e.value).units, none, then_none e.value)

  -- nor in the parts of a sum
  none_in_parts : (parts : List Index) (e : Evaluated) → AllByRecursion NoneInIndex parts → operations e.units ≡ 0 →
      operations (fold (λ so_far part. behind so_far (plus_part at part)) e (map (evaluated at turns) parts)).units ≡ 0
  none_in_parts [] e all none = none
  none_in_parts (i ∷ parts) e all none =
      none_in_parts parts (behind e (plus_part at (evaluated at turns i))) all.1
      (none_behind e (plus_part at (evaluated at turns i)) none
      (λ so_far. operations-operator at (so_far + (evaluated at turns i).value) (evaluated at turns i).units all.0))

  -- nor in a sum
  none_in_sum : (parts : List Index) → AllByRecursion NoneInIndex parts → operations (sum_of_parts at (map (evaluated at turns) parts)).units ≡ 0
  none_in_sum [] all = refl
  none_in_sum (i ∷ parts) all = none_in_parts parts (evaluated at turns i) all.1 all.0

  -- nor in the links of a chain
  none_in_links : (links : List Link) (e : Evaluated) → AllByRecursion NoneInLink links → operations e.units ≡ 0 →
      operations (fold behind e (map (linked at turns) links)).units ≡ 0
  none_in_links [] e all none = none
  none_in_links (l ∷ links) e all none = none_in_links links (behind e (linked at turns l)) all.1 (none_behind e (linked at turns l) none all.0)

  -- an index has no operation on elements
  pub operations-index : (i : Index) → operations (evaluated at turns i).units ≡ 0
  operations-index =
      index_induction NoneInIndex NoneInLink
      (λ n. ap (λ e. operations e.units) (evaluated-Num at turns n))
      (λ name name_at. ap (λ e. operations e.units) (evaluated-Var at turns name name_at))
      (λ parts all. ap (λ e. operations e.units) (evaluated-Sum at turns parts) ∙ none_in_sum parts all)
      (λ first links here all. ap (λ e. operations e.units) (evaluated-Chain at turns first links) ∙ none_in_links links (evaluated at turns first) all here)
      (λ by here so_far. ap (λ e. operations e.units) (linked-Times at turns by so_far)
      ∙ operations-operator at (so_far * (evaluated at turns by).value) (evaluated at turns by).units here)
      (λ n so_far. ap (λ e. operations e.units) (linked-Mod at turns n so_far) ∙ operations-operator at (so_far % n) [] refl)

-- by the index of a reference
operations_by : (decls : List Decl) (turns : List Turn) (name : List ℕ) (at : Place) (index : Option Index) →
    operations (reference_units decls turns (record { name = name; at = at; index = index })) ≡ 0
operations_by decls turns name at None = refl
operations_by decls turns name at (Some i) =
    let wrong = not (ltb (evaluated at turns i).value (array_size decls name)) in
    omega (arith, operations-append (evaluated at turns i).units (fault_if wrong at), operations-index at turns i, operations-fault_if wrong at)

-- a reference has no operation on elements
pub operations-reference : (decls : List Decl) (turns : List Turn) (r : Ref) → operations (reference_units decls turns r) ≡ 0
operations-reference decls turns r = operations_by decls turns r.name r.at r.index
