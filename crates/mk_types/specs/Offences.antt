-- The offences of a program, by cases over its tree, each with its place: that of the name or element.
-- The rules are this project's own; docs/LANGUAGE.md has them in words. The order of these lists says
-- nothing: which offence is the first follows from places and numbers.
use Rattle.std.specs.Prelude.{◌≡◌, Bool, true, false, ◌&&◌, ◌||◌, not, List, [], ◌∷◌, ◌++◌, Option, Some, None, is_some, ℕ, nat_lt, ◌==◌, length, flat_map}
use Rattle.mk_base.specs.declared.Place.{Place}
use Rattle.mk_field.specs.declared.field.FieldId.{FieldId}
use Rattle.mk_field.specs.Field.{has_maps}
use Rattle.mk_field.specs.declared.field.FieldId.TheVariants.{Gf2, Gf256}
use Rattle.mk_ast.specs.declared.tree.Program.{Program}
use Rattle.mk_ast.specs.declared.tree.Decl.{Decl}
use Rattle.mk_ast.specs.declared.tree.What.{What}
use Rattle.mk_ast.specs.declared.tree.What.TheVariants as what
use Rattle.mk_ast.specs.declared.tree.Stmt.{Stmt}
use Rattle.mk_ast.specs.declared.tree.Stmt.TheOpen.{Stmt-F}
use Rattle.mk_ast.specs.declared.tree.Stmt.TheFolds.{fold-Stmt}
use Rattle.mk_ast.specs.declared.tree.Ref.{Ref}
use Rattle.mk_ast.specs.declared.tree.Expr.{Expr}
use Rattle.mk_ast.specs.declared.tree.Expr.TheOpen.{Expr-F}
use Rattle.mk_ast.specs.declared.tree.Expr.TheFolds.{fold-Expr}
use Rattle.mk_ast.specs.declared.tree.Index.{Index}
use Rattle.mk_ast.specs.declared.tree.Index.TheOpen.{Index-F, Link-F}
use Rattle.mk_ast.specs.declared.tree.Index.TheFolds.{fold-Index, fold-Link}
use Rattle.mk_ast.specs.declared.tree.Link.{Link}
use Rattle.mk_types.specs.declared.offence.Offence.{Offence}
use Rattle.mk_types.specs.declared.offence.OffenceKind.{OffenceKind}
use Rattle.mk_types.specs.declared.offence.OffenceKind.TheVariants as kind_
use Rattle.mk_types.specs.Scope.{Scope, inside, declared, is_loop, is_unknown, is_shared, is_variable, is_input_class, is_local_public_class}

-- an offence, where there is one
abbrev pub when : Bool → Place → OffenceKind → List Offence
when true at what = (record { at = at; kind = what }) ∷ []
when false at what = []

-- A name in an index is that of a loop, and of no variable or map.
abbrev pub index_name_offences : Scope → List ℕ → Place → List Offence
index_name_offences s name at = when (is_unknown s name) at kind_.Unknown ++ when (is_some (declared s.decls name)) at kind_.Kind

-- one layer of an index
abbrev pub index_layer_offences : Scope → Index-F (List Offence) (List Offence) → List Offence
index_layer_offences s (Index-F.Num n) = []
index_layer_offences s (Index-F.Var name at) = index_name_offences s name at
index_layer_offences s (Index-F.Sum parts) = flat_map (λ part. part) parts
index_layer_offences s (Index-F.Chain first links) = first ++ flat_map (λ link. link) links

-- one layer of a link
abbrev pub link_layer_offences : Scope → Link-F (List Offence) (List Offence) → List Offence
link_layer_offences s (Link-F.Times by) = by
link_layer_offences s (Link-F.Mod n) = []

-- the offences of an index
unfoldable pub index_offences : Scope → Index → List Offence
index_offences s = fold-Index (List Offence) (List Offence) (index_layer_offences s) (link_layer_offences s)

-- the offences of a link
unfoldable pub link_offences : Scope → Link → List Offence
link_offences s = fold-Link (List Offence) (List Offence) (index_layer_offences s) (link_layer_offences s)

-- the offences of the index in brackets, if there is one
abbrev pub subscript_offences : Scope → Option Index → List Offence
subscript_offences s None = []
subscript_offences s (Some i) = index_offences s i

-- whether a name that is so declared may not stand as a reference, with or without an index: it is a map,
-- an array without an index, or a scalar with one
abbrev pub is_no_variable_so : Option What → Bool → Bool
is_no_variable_so None indexed = false
is_no_variable_so (Some (what.Map images)) indexed = true
is_no_variable_so (Some (what.Var class None)) indexed = indexed
is_no_variable_so (Some (what.Var class (Some size))) indexed = not indexed

-- A reference is to a variable, with an index where this is an array.
abbrev pub reference_offences : Scope → Ref → List Offence
reference_offences s r =
    when (is_unknown s r.name) r.at kind_.Unknown
    ++ when (is_loop s r.name || is_no_variable_so (declared s.decls r.name) (is_some r.index)) r.at kind_.Kind
    ++ subscript_offences s r.index

-- The name before an argument is that of a map.
abbrev pub map_name_offences : Scope → List ℕ → Place → List Offence
map_name_offences s name at =
    when (is_unknown s name) at kind_.Unknown
    ++ when (is_loop s name || is_variable (λ class. true) (declared s.decls name)) at kind_.Kind

-- whether a number is no element of the field of two elements
abbrev pub is_no_bit : FieldId → ℕ → Bool
is_no_bit Gf2 value = nat_lt 1 value
is_no_bit Gf256 value = false

-- one layer of an expression
abbrev pub expr_layer_offences : Scope → Expr-F (List Offence) → List Offence
expr_layer_offences s (Expr-F.Lit value at) = when (is_no_bit s.field value) at kind_.Kind
expr_layer_offences s (Expr-F.Read from) = reference_offences s from
expr_layer_offences s (Expr-F.Sq arg) = arg
expr_layer_offences s (Expr-F.Apply name at arg) = map_name_offences s name at ++ arg
expr_layer_offences s (Expr-F.Sum parts) = flat_map (λ part. part) parts
expr_layer_offences s (Expr-F.Product parts) = flat_map (λ part. part) parts

-- the offences of an expression
unfoldable pub expr_offences : Scope → Expr → List Offence
expr_offences s = fold-Expr (List Offence) (expr_layer_offences s)

-- A target is no input, and a local public one takes no shared value.
abbrev pub target_offences : Scope → Ref → Expr → List Offence
target_offences s target value =
    when (is_variable is_input_class (declared s.decls target.name)) target.at kind_.AssignInput
    ++ when (is_variable is_local_public_class (declared s.decls target.name) && is_shared s.decls value) target.at kind_.Kind

-- the offences of an assignment
abbrev pub assignment_offences : Scope → Ref → Expr → List Offence
assignment_offences s target value = target_offences s target value ++ reference_offences s target ++ expr_offences s value

-- The name of a loop is neither declared nor that of a loop around.
abbrev pub loop_name_offences : Scope → List ℕ → Place → List Offence
loop_name_offences s name at = when (is_some (declared s.decls name) || is_loop s name) at kind_.Twice

-- one layer of a statement, with the offences of the statements in it by what these stand in
abbrev pub stmt_layer_offences : Stmt-F (Scope → List Offence) → Scope → List Offence
stmt_layer_offences (Stmt-F.Set target value) s = assignment_offences s target value
stmt_layer_offences (Stmt-F.Loop name at from to body) s =
    loop_name_offences s name at ++ flat_map (λ part. part (inside s name)) body

-- the offences of a statement
unfoldable pub stmt_offences : Stmt → Scope → List Offence
stmt_offences = fold-Stmt (Scope → List Offence) stmt_layer_offences

-- whether a map is none that the field has: maps are over the field of 256 elements, with eight images
abbrev pub is_no_map_of : FieldId → What → Bool
is_no_map_of field (what.Map images) = not (has_maps field && length images == 8)
is_no_map_of field (what.Var class size) = false

-- the offences of a declaration behind these ones
abbrev pub decl_offences : FieldId → List Decl → Decl → List Offence
decl_offences field earlier d =
    when (is_some (declared earlier d.name)) d.at kind_.Twice ++ when (is_no_map_of field d.what) d.at kind_.MapForm

-- the offences of declarations behind these ones
abbrev pub decls_offences : FieldId → List Decl → List Decl → List Offence
decls_offences field earlier [] = []
decls_offences field earlier (d ∷ ds) = decl_offences field earlier d ++ decls_offences field (earlier ++ d ∷ []) ds

-- what the statements of a program stand in
abbrev pub scope_of : Program → Scope
scope_of p = record { field = p.field; decls = p.decls; loops = [] }

-- the offences of a program
abbrev pub offences : Program → List Offence
offences p = decls_offences p.field [] p.decls ++ flat_map (λ s. stmt_offences s (scope_of p)) p.body

-- a program without an offence
abbrev pub IsWellTyped : Program → Type 0
IsWellTyped p = offences p ≡ []
