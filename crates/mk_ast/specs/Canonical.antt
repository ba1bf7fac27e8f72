-- The canonical text of a program, by cases over its tree: each declaration and statement on a line of
-- its own, parentheses exactly round a sum in a sum, a product or a chain, a product in a product and a
-- chain in a chain. The language is this project's own; docs/LANGUAGE.md has its grammar.
use Rattle.std.specs.Prelude.{ℕ, zero, suc, Bool, true, false, ◌||◌, List, [], ◌∷◌, ◌++◌, Option, Some, None, map, flat_map, if◌then◌else◌, codes, decimal}
use Rattle.mk_field.specs.declared.field.FieldId.{FieldId}
use Rattle.mk_field.specs.declared.field.FieldId.TheVariants.{Gf2, Gf256}
use Rattle.mk_field.specs.Digits.{hex_byte}
use Rattle.mk_ast.specs.declared.tree.Program.{Program}
use Rattle.mk_ast.specs.declared.tree.Decl.{Decl}
use Rattle.mk_ast.specs.declared.tree.What.{What}
use Rattle.mk_ast.specs.declared.tree.What.TheVariants as what
use Rattle.mk_ast.specs.declared.tree.Class.{Class}
use Rattle.mk_ast.specs.declared.tree.Class.TheVariants as class_
use Rattle.mk_ast.specs.declared.tree.Stmt.{Stmt}
use Rattle.mk_ast.specs.declared.tree.Stmt.TheOpen.{Stmt-F}
use Rattle.mk_ast.specs.declared.tree.Stmt.TheFolds.{fold-Stmt}
use Rattle.mk_ast.specs.declared.tree.Ref.{Ref}
use Rattle.mk_ast.specs.declared.tree.Expr.{Expr}
use Rattle.mk_ast.specs.declared.tree.Expr.TheVariants as expr
use Rattle.mk_ast.specs.declared.tree.Expr.TheOpen.{Expr-F}
use Rattle.mk_ast.specs.declared.tree.Expr.TheFolds.{para-Expr}
use Rattle.mk_ast.specs.declared.tree.Index.{Index}
use Rattle.mk_ast.specs.declared.tree.Index.TheVariants as index
use Rattle.mk_ast.specs.declared.tree.Index.TheOpen.{Index-F, Link-F}
use Rattle.mk_ast.specs.declared.tree.Index.TheFolds.{para-Index, para-Link}
use Rattle.mk_ast.specs.declared.tree.Link.{Link}

-- the texts, with the separator between
abbrev pub joined : List ℕ → List (List ℕ) → List ℕ
joined separator [] = []
joined separator (text ∷ texts) = text ++ flat_map (λ next. separator ++ next) texts

-- the text in parentheses
abbrev pub parenthesized : List ℕ → List ℕ
parenthesized text = codes "(" ++ text ++ codes ")"

-- in parentheses, where they are needed
abbrev pub wrapped : Bool → List ℕ → List ℕ
wrapped needed text = if needed then parenthesized text else text

-- an element: `0x` and two digits
abbrev pub element_text : ℕ → List ℕ
element_text value = codes "0x" ++ hex_byte value

-- Indexes. A sum is a sum of products, a product one of factors. So parentheses stand round a sum that
-- is a part of a sum, and round a sum or a chain that is a part of a chain.
abbrev pub is_index_sum : Index → Bool
is_index_sum (index.Sum' _ parts) = true
is_index_sum _ = false

-- whether it is a chain
abbrev pub is_chain : Index → Bool
is_chain (index.Chain' _ first _ links) = true
is_chain _ = false

-- an index as a part of a sum, by its own text
abbrev pub index_summand_text : Index → List ℕ → List ℕ
index_summand_text i text = wrapped (is_index_sum i) text

-- an index as a part of a chain, by its own text
abbrev pub index_factor_text : Index → List ℕ → List ℕ
index_factor_text i text = wrapped (is_index_sum i || is_chain i) text

-- one layer of an index, whose parts stand with their texts
abbrev pub index_layer_text : Index-F (Index × List ℕ) (Link × List ℕ) → List ℕ
index_layer_text (Index-F.Num n) = decimal n
index_layer_text (Index-F.Var name at) = name
index_layer_text (Index-F.Sum parts) = joined (codes " + ") (map (λ part. index_summand_text part.0 part.1) parts)
index_layer_text (Index-F.Chain first links) = index_factor_text first.0 first.1 ++ flat_map (λ link. link.1) links

-- one layer of a link
abbrev pub link_layer_text : Link-F (Index × List ℕ) (Link × List ℕ) → List ℕ
link_layer_text (Link-F.Times by) = codes " * " ++ index_factor_text by.0 by.1
link_layer_text (Link-F.Mod n) = codes " % " ++ decimal n

-- the text of an index
abbrev pub index_text : Index → List ℕ
index_text = para-Index (List ℕ) (List ℕ) index_layer_text link_layer_text

-- the text of a link
abbrev pub link_text : Link → List ℕ
link_text = para-Link (List ℕ) (List ℕ) index_layer_text link_layer_text

-- the brackets behind the name of an array
abbrev pub subscript_text : Option Index → List ℕ
subscript_text None = []
subscript_text (Some i) = codes "[" ++ index_text i ++ codes "]"

-- a reference: its name, and its brackets
abbrev pub reference_text : Ref → List ℕ
reference_text r = r.name ++ subscript_text r.index

-- Expressions, with parentheses by the same rule.
abbrev pub is_sum : Expr → Bool
is_sum (expr.Sum' _ parts) = true
is_sum _ = false

-- whether it is a product
abbrev pub is_product : Expr → Bool
is_product (expr.Product' _ parts) = true
is_product _ = false

-- an expression as a part of a sum, by its own text
abbrev pub summand_text : Expr → List ℕ → List ℕ
summand_text e text = wrapped (is_sum e) text

-- an expression as a part of a product, by its own text
abbrev pub factor_text : Expr → List ℕ → List ℕ
factor_text e text = wrapped (is_sum e || is_product e) text

-- one layer of an expression, whose parts stand with their texts
abbrev pub expr_layer_text : Expr-F (Expr × List ℕ) → List ℕ
expr_layer_text (Expr-F.Lit value at) = element_text value
expr_layer_text (Expr-F.Read from) = reference_text from
expr_layer_text (Expr-F.Sq arg) = codes "sq" ++ parenthesized arg.1
expr_layer_text (Expr-F.Apply name at arg) = name ++ parenthesized arg.1
expr_layer_text (Expr-F.Sum parts) = joined (codes " + ") (map (λ part. summand_text part.0 part.1) parts)
expr_layer_text (Expr-F.Product parts) = joined (codes " * ") (map (λ part. factor_text part.0 part.1) parts)

-- the text of an expression
abbrev pub expr_text : Expr → List ℕ
expr_text = para-Expr (List ℕ) expr_layer_text

-- a line and its line feed
abbrev pub ended : List ℕ → List ℕ
ended line = line ++ 10 ∷ []

-- the spaces in front of a line within so many loops
abbrev pub indent : ℕ → List ℕ
indent zero = []
indent (suc loops) = codes "  " ++ indent loops

-- the lines within so many loops
abbrev pub laid : ℕ → List (List ℕ) → List ℕ
laid loops lines = flat_map (λ line. indent loops ++ ended line) lines

-- Statements, as lines. In the body of a loop two more spaces stand in front of each line.
abbrev pub assignment_line : Ref → Expr → List ℕ
assignment_line target value = reference_text target ++ codes " = " ++ expr_text value ++ codes ";"

-- the head of a loop
abbrev pub head_line : List ℕ → ℕ → ℕ → List ℕ
head_line name from to = codes "for " ++ name ++ codes " in " ++ decimal from ++ codes ".." ++ decimal to ++ codes " {"

-- one layer of a statement, with the lines of the statements in it
abbrev pub stmt_layer_lines : Stmt-F (List (List ℕ)) → List (List ℕ)
stmt_layer_lines (Stmt-F.Set target value) = assignment_line target value ∷ []
stmt_layer_lines (Stmt-F.Loop name at from to body) =
    head_line name from to ∷ map (λ line. codes "  " ++ line) (flat_map (λ lines. lines) body) ++ codes "}" ∷ []

-- the lines of a statement
abbrev pub stmt_lines : Stmt → List (List ℕ)
stmt_lines = fold-Stmt (List (List ℕ)) stmt_layer_lines

-- Declarations.
abbrev pub class_text : Class → List ℕ
class_text class_.Secret = codes "secret"
class_text class_.Public = codes "public"
class_text class_.Output = codes "output"
class_text class_.LocalSecret = codes "local secret"
class_text class_.LocalPublic = codes "local public"

-- the brackets with a size, if there are any
abbrev pub size_text : Option ℕ → List ℕ
size_text None = []
size_text (Some n) = codes "[" ++ decimal n ++ codes "]"

-- a declaration of this name
abbrev pub what_line : List ℕ → What → List ℕ
what_line name (what.Map images) = codes "map " ++ name ++ codes " = " ++ joined (codes ", ") (map element_text images) ++ codes ";"
what_line name (what.Var class size) = class_text class ++ codes " " ++ name ++ size_text size ++ codes ";"

-- the line of a declaration
abbrev pub decl_line : Decl → List ℕ
decl_line d = what_line d.name d.what

-- the first line
abbrev pub field_line : FieldId → List ℕ
field_line Gf2 = codes "field gf2;"
field_line Gf256 = codes "field gf256;"

-- the lines of a program
abbrev pub program_lines : Program → List (List ℕ)
program_lines p = field_line p.field ∷ map decl_line p.decls ++ flat_map stmt_lines p.body

-- the canonical text
abbrev pub canonical : Program → List ℕ
canonical p = flat_map ended (program_lines p)
