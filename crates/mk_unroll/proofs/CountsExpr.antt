-- How many operators and lifts an expression appends: one operator for each operation, and no lift.
use Rattle.std.proofs.Common.{◌≡◌, ℕ, ◌+◌, Bool, true, false, cond, List, [], ◌∷◌, ◌++◌, map, flat_map, count_by, refl, sym, ap, subst, ◌∙◌, append_assoc, zero-add, arith}
use Rattle.std.proofs.lemmas.List.{append-nil}
use Rattle.std.specs.Prelude.{fold}
use Rattle.std.specs.List.{AllByRecursion}
use Rattle.std.proofs.lemmas.List.Sums.{sum_by-append}
use Rattle.mk_base.specs.declared.Place.{Place}
use Rattle.mk_ast.specs.declared.tree.Decl.{Decl}
use Rattle.mk_ast.specs.declared.tree.Expr.{Expr}
use Rattle.mk_ast.specs.declared.tree.Expr.TheVariants as expr
use Rattle.mk_ast.proofs.Induction.{expr_induction}
use Rattle.mk_ssa.specs.declared.Operand.{Operand}
use Rattle.mk_ssa.specs.declared.Op.{Op}
use Rattle.mk_ssa.specs.declared.Op.TheVariants.{Const}
use Rattle.mk_types.specs.Turns.{Turn}
use Rattle.mk_types.specs.Elements.{map_number}
use Rattle.mk_types.specs.Units.{WorkUnit, Operation, reference_units, parts_units, expr_units}
use Rattle.mk_types.specs.Stops.{operations}
use Rattle.mk_types.specs.Environment.{Environment}
use Rattle.mk_types.proofs.ExecutionLayers.{units-Lit, units-Read, units-Sq, units-Apply, units-Sum, units-Product}
use Rattle.mk_unroll.specs.Unrolled.{Given, is_shared_operand, sum_op, product_op, square_op, map_op, joined, joined_parts, expr_given}
use Rattle.mk_unroll.specs.ValueCounts.{is_made, is_lift, made, lifts}
use Rattle.mk_unroll.proofs.IndexUnits.{operations-append, operations-reference}
use Rattle.mk_unroll.proofs.UnrolledLayers.{given-Lit, given-Read, given-Sq, given-Apply, given-Sum, given-Product}

-- behind these values stand as many more operators as these units have operations, and no more lifts
pub record Grown (before after : List Op) (us : List WorkUnit) : Type 0 where
  pub made : made after ≡ made before + operations us
  pub lifts : lifts after ≡ lifts before

-- an operator on elements
record IsOperator (op : Op) : Type 0 where
  made : is_made op ≡ true
  lift : is_lift op ≡ false

-- a sum is one
sum_made : (s t : Bool) (x y : Operand) → IsOperator (sum_op s t x y)
sum_made true true x y = record { made = refl; lift = refl }
sum_made true false x y = record { made = refl; lift = refl }
sum_made false true x y = record { made = refl; lift = refl }
sum_made false false x y = record { made = refl; lift = refl }

-- a product is one
product_made : (s t : Bool) (x y : Operand) → IsOperator (product_op s t x y)
product_made true true x y = record { made = refl; lift = refl }
product_made true false x y = record { made = refl; lift = refl }
product_made false true x y = record { made = refl; lift = refl }
product_made false false x y = record { made = refl; lift = refl }

-- a square is one
square_made : (s : Bool) (x : Operand) → IsOperator (square_op s x)
square_made true x = record { made = refl; lift = refl }
square_made false x = record { made = refl; lift = refl }

-- an image is one
map_made : (s : Bool) (m : ℕ) (x : Operand) → IsOperator (map_op s m x)
map_made true m x = record { made = refl; lift = refl }
map_made false m x = record { made = refl; lift = refl }

-- a count of values and one more
pub count_push : (test : Op → Bool) (values : List Op) (op : Op) (b : Bool) → test op ≡ b → count_by test (values ++ op ∷ []) ≡ count_by test values + cond b 1 0
count_push test values op b is =
    sum_by-append (λ x. cond (test x) 1 0) values (op ∷ []) ∙ ap (λ (n : ℕ). count_by test values + n) (zero-add (cond (test op) 1 0))
    ∙ ap (λ (t : Bool). count_by test values + cond t 1 0) is

-- one more operator and one more operation
grown_more : (before after : List Op) (us : List WorkUnit) (op : Op) → IsOperator op → Grown before after us → Grown before (after ++ op ∷ []) (us ++ Operation ∷ [])
grown_more before after us op is grown = record {
  made = omega (arith, count_push is_made after op true is.made, grown.made, operations-append us (Operation ∷ []));
  lifts = omega (arith, count_push is_lift after op false is.lift, grown.lifts);
}

-- some values, then more, and an operator on both
grown_joined : (a b c : List Op) (us vs : List WorkUnit) (op : Op) → IsOperator op → Grown a b us → Grown b c vs → Grown a (c ++ op ∷ []) (us ++ (vs ++ Operation ∷ []))
grown_joined a b c us vs op is first second =
    let one = operations-append vs (Operation ∷ []) in
    let all = operations-append us (vs ++ Operation ∷ []) in
    record {
      made = omega (arith, count_push is_made c op true is.made, first.made, second.made, one, all);
      lifts = omega (arith, count_push is_lift c op false is.lift, first.lifts, second.lifts);
    }

-- no value, and no operation
pub grown_none : (values : List Op) (us : List WorkUnit) → operations us ≡ 0 → Grown values values us
grown_none values us none = record { made = omega (arith, none); lifts = refl }

module _ (decls : List Decl) (turns : List Turn) (env : Environment Operand) where
  -- what an expression appends
  abbrev Appends : Expr → Type 0
  Appends e = (values : List Op) → Grown values (expr_given decls turns env e values).values (expr_units decls turns e)

  -- what further parts append
  parts_append : (op : Bool → Bool → Operand → Operand → Op) → ((s t : Bool) (x y : Operand) → IsOperator (op s t x y)) → (parts : List Expr) → AllByRecursion Appends parts →
      (before : List Op) (g : Given) (us : List WorkUnit) → Grown before g.values us →
      Grown before (fold (λ so_far part. joined op so_far.operand (part so_far.values)) g (map (expr_given decls turns env) parts)).values
      (us ++ flat_map (λ part. part ++ Operation ∷ []) (map (expr_units decls turns) parts))
  parts_append op is [] all before g us grown = subst (Grown before g.values) (sym (append-nil us)) grown
  parts_append op is (e ∷ parts) all before g us grown =
      let y = expr_given decls turns env e g.values in
      let units = expr_units decls turns e in
      let rest = flat_map (λ part. part ++ Operation ∷ []) (map (expr_units decls turns) parts) in
      let x = joined op g.operand y in
      subst (Grown before (fold (λ so_far part. joined op so_far.operand (part so_far.values)) x (map (expr_given decls turns env) parts)).values)
      (append_assoc us (units ++ Operation ∷ []) rest)
      (parts_append op is parts all.1 before x (us ++ (units ++ Operation ∷ []))
      (grown_joined before g.values y.values us units (op (is_shared_operand y.values g.operand) (is_shared_operand y.values y.operand) g.operand y.operand)
      (is (is_shared_operand y.values g.operand) (is_shared_operand y.values y.operand) g.operand y.operand) grown (all.0 g.values)))

  -- what the parts append
  all_append : (op : Bool → Bool → Operand → Operand → Op) → ((s t : Bool) (x y : Operand) → IsOperator (op s t x y)) → (parts : List Expr) → AllByRecursion Appends parts →
      (values : List Op) → Grown values (joined_parts op (map (expr_given decls turns env) parts) values).values (parts_units (map (expr_units decls turns) parts))
  all_append op is [] all values = grown_none values [] refl
  all_append op is (e ∷ parts) all values =
      parts_append op is parts all.1 values (expr_given decls turns env e values) (expr_units decls turns e) (all.0 values)

  -- a literal appends one constant
  literal_appends : (value : ℕ) (at : Place) → Appends (expr.Lit value at)
  literal_appends value at values =
      rw (given-Lit decls turns env value at values, units-Lit decls turns value at) (record {
        made = count_push is_made values (Const value) false refl;
        lifts = omega (arith, count_push is_lift values (Const value) false refl);
      })

  -- what an expression appends
  pub expr_appends : (e : Expr) → Appends e
  expr_appends =
      expr_induction Appends literal_appends
      (λ from values. rw (given-Read decls turns env from values, units-Read decls turns from) (grown_none values (reference_units decls turns from) (operations-reference decls turns from)))
      (λ arg here values. rw (given-Sq decls turns env arg values, units-Sq decls turns arg)
      (let g = expr_given decls turns env arg values in
      grown_more values g.values (expr_units decls turns arg) (square_op (is_shared_operand g.values g.operand) g.operand)
      (square_made (is_shared_operand g.values g.operand) g.operand) (here values)))
      (λ name at arg here values. rw (given-Apply decls turns env name at arg values, units-Apply decls turns name at arg)
      (let g = expr_given decls turns env arg values in
      grown_more values g.values (expr_units decls turns arg) (map_op (is_shared_operand g.values g.operand) (map_number decls name) g.operand)
      (map_made (is_shared_operand g.values g.operand) (map_number decls name) g.operand) (here values)))
      (λ parts all values. rw (given-Sum decls turns env parts values, units-Sum decls turns parts) (all_append sum_op sum_made parts all values))
      (λ parts all values. rw (given-Product decls turns env parts values, units-Product decls turns parts) (all_append product_op product_made parts all values))
