-- What small programs decide under `compile`.
use Rattle.std.proofs.Common.{◌≡◌, ℕ, ◌+◌, ◌*◌, ◌≤◌, List, [], ◌∷◌, Option, Some, None, refl, sym, ap, subst, codes, arith}
use Rattle.mk_base.specs.declared.TheConstants.{TOP_ORDER}
use Rattle.mk_base.specs.declared.Place.{Place}
use Rattle.mk_field.specs.declared.field.FieldId.TheVariants.{Gf256}
use Rattle.mk_ast.specs.declared.tree.Program.{Program as Tree}
use Rattle.mk_ast.specs.declared.tree.Decl.{Decl}
use Rattle.mk_ast.specs.declared.tree.What.TheVariants as what
use Rattle.mk_ast.specs.declared.tree.Class.{Class}
use Rattle.mk_ast.specs.declared.tree.Class.TheVariants as class_
use Rattle.mk_ast.specs.declared.tree.Stmt.TheVariants as stmt
use Rattle.mk_ast.specs.declared.tree.Ref.{Ref}
use Rattle.mk_ast.specs.declared.tree.Expr.TheVariants as expr
use Rattle.mk_ast.specs.declared.tree.Index.{Index}
use Rattle.mk_ast.specs.declared.tree.Index.TheVariants as index
use Rattle.mk_ast.specs.declared.refusal.Limit.TheVariants as limit_
use Rattle.mk_types.specs.Units.{WorkUnit, Step, Operation, Fault, units}
use Rattle.mk_types.specs.Stops.{Index as IndexStop, operations, stop}
use Rattle.mk_types.proofs.ExecutionLayers.{evaluated_layers, expr_units_layers, stmt_units_layers}
use Rattle.mk_unroll.specs.Causes.{Elements, Stops}
use Rattle.mk_top.specs.declared.fault.Fault.TheVariants as fault
use Rattle.mk_words.specs.declared.fault.SourceFault.TheVariants as source
use Rattle.mk_top.specs.Decided.{CompileDecides}

-- a variable of this class and size, declared at this place
abbrev variable : Place → Class → Option ℕ → List ℕ → Decl
variable at class size name = record { name = name; at = at; what = what.Var class size }

-- a reference at this place
abbrev reference : Place → Option Index → List ℕ → Ref
reference at index name = record { name = name; at = at; index = index }

-- `field gf256;` `secret a;` `secret b;` `output y;` `y = a * b;`
abbrev product : Place → Tree
product at = record {
  field = Gf256;
  decls = variable at class_.Secret None (codes "a") ∷ variable at class_.Secret None (codes "b") ∷ variable at class_.Output None (codes "y") ∷ [];
  body = stmt.Set (reference at None (codes "y"))
      (expr.Product (expr.Read (reference at None (codes "a")) ∷ expr.Read (reference at None (codes "b")) ∷ [])) ∷ [];
}

-- a statement and an operation
product-units : (at : Place) → units (product at) ≡ Step ∷ Operation ∷ []
product-units at = simp (expr_units_layers, stmt_units_layers) refl

-- so it stays within the limits at the greatest order
product-within : (at : Place) → CompileDecides TOP_ORDER (product at) None
product-within at = record {
  elements = omega arith;
  ends = ap stop (product-units at);
  small = subst (λ (us : List WorkUnit). operations us * ((TOP_ORDER + 1) * (TOP_ORDER + 1)) ≤ 1000000) (sym (product-units at)) (omega arith);
}

-- `field gf256;` `secret a[2];` `output y;` `y = a[2];`, where a stands at this place
abbrev past : Place → Place → Tree
past at here = record {
  field = Gf256;
  decls = variable at class_.Secret (Some 2) (codes "a") ∷ variable at class_.Output None (codes "y") ∷ [];
  body = stmt.Set (reference at None (codes "y")) (expr.Read (reference here (Some (index.Num 2)) (codes "a"))) ∷ [];
}

-- a statement, and an index that goes wrong
past-units : (at here : Place) → units (past at here) ≡ Step ∷ Fault here ∷ []
past-units at here = simp (evaluated_layers, expr_units_layers, stmt_units_layers) refl

-- the index goes past the array
past-index : (at here : Place) → CompileDecides 1 (past at here) (Some (fault.Source (source.Index here)))
past-index at here = Stops (IndexStop here) (omega arith) (ap stop (past-units at here)) refl

-- `field gf256;` `secret a[65535];` `secret b[2];` has one element too many
many-large : (at : Place)
    → CompileDecides 1 (record { field = Gf256; decls = variable at class_.Secret (Some 65535) (codes "a") ∷ variable at class_.Secret (Some 2) (codes "b") ∷ []; body = [] })
    (Some (fault.Source (source.Large limit_.Elements)))
many-large at = Elements (omega arith) refl
