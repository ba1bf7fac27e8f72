-- The values of small programs, worked out by hand.
use Rattle.std.proofs.Common.{◌≡◌, List, [], ◌∷◌, Some, refl, codes}
use Rattle.mk_base.specs.declared.Place.{Place}
use Rattle.mk_field.specs.declared.field.FieldId.TheVariants.{Gf256}
use Rattle.mk_ast.specs.declared.tree.Program.{Program}
use Rattle.mk_ast.specs.declared.tree.Decl.{Decl}
use Rattle.mk_ast.specs.declared.tree.What.TheVariants as what
use Rattle.mk_ast.specs.declared.tree.Class.TheVariants as class_
use Rattle.mk_ast.specs.declared.tree.Stmt.{Stmt}
use Rattle.mk_ast.specs.declared.tree.Stmt.TheVariants as stmt
use Rattle.mk_ast.specs.declared.tree.Expr.TheVariants as expr
use Rattle.mk_ast.specs.declared.tree.Index.TheVariants as index
use Rattle.mk_ssa.specs.declared.Operand.TheVariants.{Secret, Public, Block}
use Rattle.mk_ssa.specs.declared.Op.TheVariants.{Const, PubMul, Lift, AddPub, Scale, Sq, Map, Mul}
use Rattle.mk_types.proofs.Sources.{scalar, read, read_at, set}
use Rattle.mk_types.proofs.ExecutionLayers.{evaluated_layers}
use Rattle.mk_unroll.specs.Unrolled.{last_unrolling, unrolled_outs}
use Rattle.mk_unroll.proofs.UnrolledLayers.{given_layers, unrolled_layers}

-- a program over bytes
abbrev program : List Decl → List Stmt → Program
program decls body = record { field = Gf256; decls = decls; body = body }

-- `secret a;` `secret b;` `output y;` `y = a * b;`
abbrev product_program : Place → Program
product_program at = program
    (scalar class_.Secret (codes "a") at ∷ scalar class_.Secret (codes "b") at ∷ scalar class_.Output (codes "y") at ∷ [])
    (set (codes "y") at (expr.Product (read (codes "a") at ∷ read (codes "b") at ∷ [])) ∷ [])

-- it is unrolled to the product of both secrets, behind zero and its lift
product_unrolled : (at : Place) → last_unrolling (product_program at) ≡ record {
  values = Const 0 ∷ Lift (Block 0) ∷ Mul (Secret 0) (Secret 1) ∷ [];
  env = (Secret 0 ∷ []) ∷ (Secret 1 ∷ []) ∷ (Block 2 ∷ []) ∷ [];
}
product_unrolled at = simp (given_layers, unrolled_layers) refl

-- the output is the product
product_outs : (at : Place) → unrolled_outs (product_program at) ≡ Block 2 ∷ []
product_outs at = simp (given_layers, unrolled_layers) refl

-- `output y;` `for i in 3..3 { y = y; }`: the output is the lift of zero
no_turn : (at : Place) → unrolled_outs (program (scalar class_.Output (codes "y") at ∷ [])
    (stmt.Loop (codes "i") at 3 3 (set (codes "y") at (read (codes "y") at) ∷ []) ∷ [])) ≡ Block 1 ∷ []
no_turn at = simp (unrolled_layers) refl

-- the last lines of the S-box of AES, `map m = ..;` `secret x;` `output y;` `y = m(sq(x)) + 0x63;`
abbrev affine_program : Place → Program
affine_program at = program
    (record { name = codes "m"; at = at; what = what.Map (0x1f ∷ 0x3e ∷ 0x7c ∷ 0xf8 ∷ 0xf1 ∷ 0xe3 ∷ 0xc7 ∷ 0x8f ∷ []) }
    ∷ scalar class_.Secret (codes "x") at ∷ scalar class_.Output (codes "y") at ∷ [])
    (set (codes "y") at (expr.Sum (expr.Apply (codes "m") at (expr.Sq (read (codes "x") at)) ∷ expr.Lit 0x63 at ∷ [])) ∷ [])

-- it is unrolled to a square, its image, the constant and the sum, behind zero and its lift
affine_unrolled : (at : Place) → last_unrolling (affine_program at) ≡ record {
  values = Const 0 ∷ Lift (Block 0) ∷ Sq (Secret 0) ∷ Map 0 (Block 2) ∷ Const 0x63 ∷ AddPub (Block 3) (Block 4) ∷ [];
  env = [] ∷ (Secret 0 ∷ []) ∷ (Block 5 ∷ []) ∷ [];
}
affine_unrolled at = simp (given_layers, unrolled_layers) refl

-- `public p;` `local public q;` `output y[2];` `q = p * 0x02;` `y[1] = q;` `y[0] = q * y[1];`: a public value is
-- lifted where it is assigned to an output, and the shared operand of a scaling stands left
abbrev public_program : Place → Program
public_program at = program
    (scalar class_.Public (codes "p") at ∷ scalar class_.LocalPublic (codes "q") at
    ∷ record { name = codes "y"; at = at; what = what.Var class_.Output (Some 2) } ∷ [])
    (set (codes "q") at (expr.Product (read (codes "p") at ∷ expr.Lit 2 at ∷ []))
    ∷ stmt.Set (record { name = codes "y"; at = at; index = Some (index.Num 1) }) (read (codes "q") at)
    ∷ stmt.Set (record { name = codes "y"; at = at; index = Some (index.Num 0) })
    (expr.Product (read (codes "q") at ∷ read_at (codes "y") at (index.Num 1) ∷ [])) ∷ [])

-- it is unrolled to a public product, its lift and the scaled lift, behind zero, its lift and the constant
public_unrolled : (at : Place) → last_unrolling (public_program at) ≡ record {
  values = Const 0 ∷ Lift (Block 0) ∷ Const 2 ∷ PubMul (Public 0) (Block 2) ∷ Lift (Block 3) ∷ Scale (Block 4) (Block 3) ∷ [];
  env = (Public 0 ∷ []) ∷ (Block 3 ∷ []) ∷ (Block 5 ∷ Block 4 ∷ []) ∷ [];
}
public_unrolled at = simp (evaluated_layers, given_layers, unrolled_layers) refl

-- the outputs are the scaled value and then the lift, in order of elements
public_outs : (at : Place) → unrolled_outs (public_program at) ≡ Block 5 ∷ Block 4 ∷ []
public_outs at = simp (evaluated_layers, given_layers, unrolled_layers) refl
