-- The tree of the generator's text, without places: its canonical text is that text.
use Rattle.std.proofs.Common.{◌≡◌, ℕ, List, [], ◌∷◌, Some, None, refl, codes}
use Rattle.std.specs.Fmt.{digits}
use Rattle.mk_field.specs.declared.field.FieldId.TheVariants.{Gf256}
use Rattle.mk_ast.specs.declared.tree.Program.{Program}
use Rattle.mk_ast.specs.declared.tree.Decl.{Decl}
use Rattle.mk_ast.specs.declared.tree.What.{What}
use Rattle.mk_ast.specs.declared.tree.What.TheVariants as what
use Rattle.mk_ast.specs.declared.tree.Class.TheVariants as class_
use Rattle.mk_ast.specs.declared.tree.Stmt.{Stmt}
use Rattle.mk_ast.specs.declared.tree.Stmt.TheVariants as stmt
use Rattle.mk_ast.specs.declared.tree.Ref.{Ref}
use Rattle.mk_ast.specs.declared.tree.Expr.{Expr}
use Rattle.mk_ast.specs.declared.tree.Expr.TheVariants as expr
use Rattle.mk_ast.specs.declared.tree.Index.{Index}
use Rattle.mk_ast.specs.declared.tree.Index.TheVariants as index
use Rattle.mk_ast.specs.declared.tree.Link.TheVariants as link
use Rattle.mk_ast.specs.Places.{nowhere}
use Rattle.mk_ast.specs.Canonical.{canonical}
use Rattle.mk_ast.proofs.Layers.{index_texts, expr_texts, stmt_lines-Set, stmt_lines-Loop}
use Rattle.mk_gen.specs.Generated.{generated}

-- a declaration
abbrev declaration : List ℕ → What → Decl
declaration name what = record { name = name; at = nowhere; what = what }

-- the declarations
abbrev pub generated_decls : List Decl
generated_decls =
    declaration (codes "m") (what.Map (0x1f ∷ 0x3e ∷ 0x7c ∷ 0xf8 ∷ 0xf1 ∷ 0xe3 ∷ 0xc7 ∷ 0x8f ∷ []))
    ∷ declaration (codes "x") (what.Var class_.Secret (Some 16))
    ∷ declaration (codes "a") (what.Var class_.LocalSecret None)
    ∷ declaration (codes "y") (what.Var class_.Output (Some 16))
    ∷ []

-- a reference without an index
abbrev pub scalar : List ℕ → Ref
scalar name = record { name = name; at = nowhere; index = None }

-- a reference with an index
abbrev pub cell : List ℕ → Index → Ref
cell name i = record { name = name; at = nowhere; index = Some i }

-- the turn of the loop
abbrev pub turn : Index
turn = index.Var (codes "i") nowhere

-- `i % 16`
abbrev pub turn_index : Index
turn_index = index.Chain turn (link.Mod 16 ∷ [])

-- `5 * i % 16`
abbrev pub scaled_index : Index
scaled_index = index.Chain (index.Num 5) (link.Times turn ∷ link.Mod 16 ∷ [])

-- `i + 1`
abbrev pub next_turn : Index
next_turn = index.Sum (turn ∷ index.Num 1 ∷ [])

-- `(i + 1) % 16`
abbrev pub next_index : Index
next_index = index.Chain next_turn (link.Mod 16 ∷ [])

-- `a = x[i % 16] + y[5 * i % 16];`
abbrev pub first_assignment : Stmt
first_assignment = stmt.Set (scalar (codes "a")) (expr.Sum (expr.Read (cell (codes "x") turn_index) ∷ expr.Read (cell (codes "y") scaled_index) ∷ []))

-- `a * m(a)`
abbrev pub own_image : Expr
own_image = expr.Product (expr.Read (scalar (codes "a")) ∷ expr.Apply (codes "m") nowhere (expr.Read (scalar (codes "a"))) ∷ [])

-- `y[i % 16] = a * m(a) + sq(y[(i + 1) % 16]);`
abbrev pub second_assignment : Stmt
second_assignment = stmt.Set (cell (codes "y") turn_index) (expr.Sum (own_image ∷ expr.Sq (expr.Read (cell (codes "y") next_index)) ∷ []))

-- the loop of n turns
abbrev pub generated_loop : ℕ → Stmt
generated_loop n = stmt.Loop (codes "i") nowhere 0 n (first_assignment ∷ second_assignment ∷ [])

-- the program
abbrev pub generated_tree : ℕ → Program
generated_tree n = record { field = Gf256; decls = generated_decls; body = generated_loop n ∷ [] }

-- its canonical text
pub generated_canonical : (n : ℕ) → generated n ≡ canonical (generated_tree n)
unfolding digits
generated_canonical n = simp (index_texts, expr_texts, stmt_lines-Set, stmt_lines-Loop) refl
