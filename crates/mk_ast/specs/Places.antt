-- Trees apart from their places.
use Rattle.std.specs.Prelude.{◌≡◌, map}
use Rattle.std.specs.Option.{option_map}
use Rattle.mk_base.specs.declared.Place.{Place}
use Rattle.mk_ast.specs.declared.tree.Program.{Program}
use Rattle.mk_ast.specs.declared.tree.Decl.{Decl}
use Rattle.mk_ast.specs.declared.tree.Stmt.{Stmt}
use Rattle.mk_ast.specs.declared.tree.Stmt.TheVariants as stmt
use Rattle.mk_ast.specs.declared.tree.Stmt.TheOpen.{Stmt-F}
use Rattle.mk_ast.specs.declared.tree.Stmt.TheFolds.{fold-Stmt}
use Rattle.mk_ast.specs.declared.tree.Ref.{Ref}
use Rattle.mk_ast.specs.declared.tree.Expr.{Expr}
use Rattle.mk_ast.specs.declared.tree.Expr.TheVariants as expr
use Rattle.mk_ast.specs.declared.tree.Expr.TheOpen.{Expr-F}
use Rattle.mk_ast.specs.declared.tree.Expr.TheFolds.{fold-Expr}
use Rattle.mk_ast.specs.declared.tree.Index.{Index}
use Rattle.mk_ast.specs.declared.tree.Index.TheVariants as index
use Rattle.mk_ast.specs.declared.tree.Index.TheOpen.{Index-F, Link-F}
use Rattle.mk_ast.specs.declared.tree.Index.TheFolds.{fold-Index}
use Rattle.mk_ast.specs.declared.tree.Link.{Link}
use Rattle.mk_ast.specs.declared.tree.Link.TheVariants as link

-- what stands for every place
abbrev pub nowhere : Place
nowhere = record { line = 0; column = 0 }

-- one layer of an index, whose parts are without places
abbrev pub placeless_index_layer : Index-F Index Link → Index
placeless_index_layer (Index-F.Num n) = index.Num n
placeless_index_layer (Index-F.Var name at) = index.Var name nowhere
placeless_index_layer (Index-F.Sum parts) = index.Sum parts
placeless_index_layer (Index-F.Chain first links) = index.Chain first links

-- one layer of a link
abbrev pub placeless_link_layer : Link-F Index Link → Link
placeless_link_layer (Link-F.Times by) = link.Times by
placeless_link_layer (Link-F.Mod n) = link.Mod n

-- an index without places
abbrev pub placeless_index : Index → Index
placeless_index = fold-Index Index Link placeless_index_layer placeless_link_layer

-- a reference without places
abbrev pub placeless_ref : Ref → Ref
placeless_ref r = record { name = r.name; at = nowhere; index = option_map placeless_index r.index }

-- one layer of an expression
abbrev pub placeless_expr_layer : Expr-F Expr → Expr
placeless_expr_layer (Expr-F.Lit value at) = expr.Lit value nowhere
placeless_expr_layer (Expr-F.Read from) = expr.Read (placeless_ref from)
placeless_expr_layer (Expr-F.Sq arg) = expr.Sq arg
placeless_expr_layer (Expr-F.Apply name at arg) = expr.Apply name nowhere arg
placeless_expr_layer (Expr-F.Sum parts) = expr.Sum parts
placeless_expr_layer (Expr-F.Product parts) = expr.Product parts

-- an expression without places
abbrev pub placeless_expr : Expr → Expr
placeless_expr = fold-Expr Expr placeless_expr_layer

-- one layer of a statement
abbrev pub placeless_stmt_layer : Stmt-F Stmt → Stmt
placeless_stmt_layer (Stmt-F.Set target value) = stmt.Set (placeless_ref target) (placeless_expr value)
placeless_stmt_layer (Stmt-F.Loop name at from to body) = stmt.Loop name nowhere from to body

-- a statement without places
abbrev pub placeless_stmt : Stmt → Stmt
placeless_stmt = fold-Stmt Stmt placeless_stmt_layer

-- a declaration without its place
abbrev pub placeless_decl : Decl → Decl
placeless_decl d = record d { at = nowhere }

-- the program, with every place taken out
abbrev pub placeless : Program → Program
placeless p = record { field = p.field; decls = map placeless_decl p.decls; body = map placeless_stmt p.body }

-- the programs are equal apart from places
abbrev pub AreAlike : Program → Program → Type 0
AreAlike p q = placeless p ≡ placeless q
