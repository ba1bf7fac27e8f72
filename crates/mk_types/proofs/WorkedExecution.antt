-- The units and the meaning of small programs, worked out by hand.
use Rattle.std.proofs.Common.{◌≡◌, true, List, [], ◌∷◌, Some, None, refl, ap, codes, if◌then◌else◌}
use Rattle.std.specs.Prelude.{nat_le}
use Rattle.mk_base.specs.declared.Place.{Place}
use Rattle.mk_field.specs.Field.{sum_bits}
use Rattle.mk_field.specs.declared.field.FieldId.TheVariants.{Gf256}
use Rattle.mk_ast.specs.declared.tree.Program.{Program}
use Rattle.mk_ast.specs.declared.tree.Class.TheVariants as class_
use Rattle.mk_ast.specs.declared.tree.Stmt.TheVariants as stmt
use Rattle.mk_ast.specs.declared.tree.Expr.TheVariants as expr
use Rattle.mk_ast.specs.declared.tree.Index.TheVariants as index
use Rattle.mk_ast.specs.declared.tree.Link.TheVariants as link
use Rattle.mk_types.proofs.Sources.{scalar, array, read, read_at, set, program}
use Rattle.mk_types.specs.Units.{WorkUnit, Step, Operation, Fault, evaluated, units}
use Rattle.mk_types.specs.Stops.{Work, Operations, Index as IndexStop, work, operations, event, stop}
use Rattle.mk_types.specs.Meaning.{result}
use Rattle.mk_types.proofs.ExecutionLayers.{evaluated_layers, expr_units_layers, stmt_units_layers, value_layers, meaning_layers}

-- `5*300%7` is 2, by two operators
chain_value : (at : Place) → evaluated at [] (index.Chain (index.Num 5) (link.Times (index.Num 300) ∷ link.Mod 7 ∷ []))
    ≡ record { value = 2; units = Step ∷ Step ∷ [] }
chain_value at = simp (evaluated_layers) refl

-- `300*300` is above 65,535, whatever the remainder is
chain_fault : (at : Place) → evaluated at [] (index.Chain (index.Num 300) (link.Times (index.Num 300) ∷ link.Mod 7 ∷ []))
    ≡ record { value = 1; units = Step ∷ Fault at ∷ Step ∷ [] }
chain_fault at = simp (evaluated_layers) refl

-- `field gf256;` `secret a;` `secret b;` `output y;` `y = a * b;`
abbrev product_program : Place → Program
product_program at = program Gf256
    (scalar class_.Secret (codes "a") at ∷ scalar class_.Secret (codes "b") at ∷ scalar class_.Output (codes "y") at ∷ [])
    (set (codes "y") at (expr.Product (read (codes "a") at ∷ read (codes "b") at ∷ [])) ∷ [])

-- it is one statement and one operation
product_units : (at : Place) → units (product_program at) ≡ Step ∷ Operation ∷ []
product_units at = simp (expr_units_layers, stmt_units_layers) refl

-- {57} times {83} is {c1}, the example of FIPS 197 section 4.2
product_result : (at : Place) → result (product_program at) [] (0x57 ∷ 0x83 ∷ []) ≡ Some (0xc1 ∷ [])
unfolding sum_bits
product_result at = simp (expr_units_layers, stmt_units_layers, value_layers, meaning_layers) refl

-- `field gf256;` `output y;` `for i in 3..3 { y = y; }` has no turn
no_turn : (at : Place) → units (program Gf256 (scalar class_.Output (codes "y") at ∷ [])
    (stmt.Loop (codes "i") at 3 3 (set (codes "y") at (read (codes "y") at) ∷ []) ∷ [])) ≡ Step ∷ []
no_turn at = simp (stmt_units_layers) refl

-- `field gf256;` `secret a[4];` `output y;` `for i in 2..4 { y = y + a[i + 1]; }`, where a stands at this place
abbrev past_the_end : Place → Place → Program
past_the_end at a = program Gf256 (array class_.Secret 4 (codes "a") at ∷ scalar class_.Output (codes "y") at ∷ [])
    (stmt.Loop (codes "i") at 2 4
    (set (codes "y") at (expr.Sum (read (codes "y") at ∷ read_at (codes "a") a (index.Sum (index.Var (codes "i") at ∷ index.Num 1 ∷ [])) ∷ [])) ∷ []) ∷ [])

-- the turn of 2 is whole; in that of 3 the index is 4, and nothing follows
past_the_end_units : (at a : Place) → units (past_the_end at a)
    ≡ Step ∷ Step ∷ Step ∷ Step ∷ Operation ∷ Step ∷ Step ∷ Step ∷ Fault a ∷ []
past_the_end_units at a = simp (evaluated_layers, expr_units_layers, stmt_units_layers) refl

-- so it has no result
past_the_end_result : (at a : Place) → result (past_the_end at a) [] (1 ∷ 2 ∷ 3 ∷ 4 ∷ []) ≡ None
past_the_end_result at a = simp (evaluated_layers, expr_units_layers, stmt_units_layers) refl

-- `field gf256;` `secret a[2];` `output y;` `y = a[0 + 1] + y * y;`: each part before its operation
abbrev sum_program : Place → Program
sum_program at = program Gf256 (array class_.Secret 2 (codes "a") at ∷ scalar class_.Output (codes "y") at ∷ [])
    (set (codes "y") at (expr.Sum (read_at (codes "a") at (index.Sum (index.Num 0 ∷ index.Num 1 ∷ []))
    ∷ expr.Product (read (codes "y") at ∷ read (codes "y") at ∷ []) ∷ [])) ∷ [])

-- the statement, the operator of the index, the product, the sum
sum_units : (at : Place) → units (sum_program at) ≡ Step ∷ Step ∷ Operation ∷ Operation ∷ []
sum_units at = simp (evaluated_layers, expr_units_layers, stmt_units_layers) refl

-- the element at 1, and the square of zero
sum_result : (at : Place) → result (sum_program at) [] (0x57 ∷ 0x83 ∷ []) ≡ Some (0x83 ∷ [])
unfolding sum_bits
sum_result at = simp (evaluated_layers, expr_units_layers, stmt_units_layers, value_layers, meaning_layers) refl

-- `y = a[1 + 1] + a[2 + 2];`, where the arrays of two elements stand at these places: the first index ends it
two_faults : (at b c : Place) → units (program Gf256 (array class_.Secret 2 (codes "a") at ∷ scalar class_.Output (codes "y") at ∷ [])
    (set (codes "y") at (expr.Sum (read_at (codes "a") b (index.Sum (index.Num 1 ∷ index.Num 1 ∷ []))
    ∷ read_at (codes "a") c (index.Sum (index.Num 2 ∷ index.Num 2 ∷ [])) ∷ [])) ∷ [])) ≡ Step ∷ Step ∷ Fault b ∷ []
two_faults at b c = simp (evaluated_layers, expr_units_layers, stmt_units_layers) refl

-- a target's index is found behind the value: `y[1] = a[2 + 2];`
target_last : (at b c : Place) → units (program Gf256 (array class_.Secret 2 (codes "a") at ∷ array class_.Output 1 (codes "y") at ∷ [])
    (stmt.Set (record { name = codes "y"; at = c; index = Some (index.Num 1) })
    (read_at (codes "a") b (index.Sum (index.Num 2 ∷ index.Num 2 ∷ []))) ∷ [])) ≡ Step ∷ Step ∷ Fault b ∷ []
target_last at b c = simp (evaluated_layers, expr_units_layers, stmt_units_layers) refl

-- an operation that is number 65,537 of the work and number 16,385 of the operations exceeds the work
both_limits : (before : List WorkUnit) → nat_le 65536 (work before) ≡ true → event before Operation ≡ Some Work
both_limits before many = ap (λ b. if b then Some Work else if nat_le 16384 (operations before) then Some Operations else None) many

-- a fault stops at its place, and what is behind it is not looked at
fault_stops : (at b : Place) → stop (Step ∷ Operation ∷ Fault at ∷ Fault b ∷ []) ≡ Some (IndexStop at)
fault_stops at b = refl
