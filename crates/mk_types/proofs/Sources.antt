-- Small sources, of which the worked examples are made.
use Rattle.std.proofs.Common.{ℕ, List, Some, None}
use Rattle.mk_base.specs.declared.Place.{Place}
use Rattle.mk_field.specs.declared.field.FieldId.{FieldId}
use Rattle.mk_ast.specs.declared.tree.Program.{Program}
use Rattle.mk_ast.specs.declared.tree.Decl.{Decl}
use Rattle.mk_ast.specs.declared.tree.What.TheVariants as what
use Rattle.mk_ast.specs.declared.tree.Class.{Class}
use Rattle.mk_ast.specs.declared.tree.Stmt.{Stmt}
use Rattle.mk_ast.specs.declared.tree.Stmt.TheVariants as stmt
use Rattle.mk_ast.specs.declared.tree.Ref.{Ref}
use Rattle.mk_ast.specs.declared.tree.Expr.{Expr}
use Rattle.mk_ast.specs.declared.tree.Expr.TheVariants as expr
use Rattle.mk_ast.specs.declared.tree.Index.{Index}

-- a scalar of this class
abbrev pub scalar : Class → List ℕ → Place → Decl
scalar class name at = record { name = name; at = at; what = what.Var class None }

-- an array of this class and size
abbrev pub array : Class → ℕ → List ℕ → Place → Decl
array class n name at = record { name = name; at = at; what = what.Var class (Some n) }

-- a reference without an index
abbrev pub ref : List ℕ → Place → Ref
ref name at = record { name = name; at = at; index = None }

-- a reference with an index
abbrev pub ref_at : List ℕ → Place → Index → Ref
ref_at name at i = record { name = name; at = at; index = Some i }

-- what a reference without an index gives
abbrev pub read : List ℕ → Place → Expr
read name at = expr.Read (ref name at)

-- what a reference with an index gives
abbrev pub read_at : List ℕ → Place → Index → Expr
read_at name at i = expr.Read (ref_at name at i)

-- an assignment to a scalar
abbrev pub set : List ℕ → Place → Expr → Stmt
set name at value = stmt.Set (ref name at) value

-- a program
abbrev pub program : FieldId → List Decl → List Stmt → Program
program field decls body = record { field = field; decls = decls; body = body }
