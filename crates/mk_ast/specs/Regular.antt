-- The trees that texts spell, apart from places: their names are names, their numbers are in range, and
-- their canonical texts keep the limit on brackets. A regular tree goes by the number of brackets that
-- may still be opened, as the grammar does.
use Rattle.std.specs.Prelude.{ℕ, zero, suc, ◌≤◌, ◌<◌, Bool, true, false, ◌||◌, length, Option, Some, None}
use Rattle.mk_ast.specs.declared.TheConstants.{GREATEST_NUMBER}
use Rattle.std.specs.List.{AllByRecursion}
use Rattle.mk_ast.specs.declared.tree.Program.{Program}
use Rattle.mk_ast.specs.declared.tree.Decl.{Decl}
use Rattle.mk_ast.specs.declared.tree.What.{What}
use Rattle.mk_ast.specs.declared.tree.What.TheVariants as what
use Rattle.mk_ast.specs.declared.tree.Stmt.{Stmt}
use Rattle.mk_ast.specs.declared.tree.Stmt.TheOpen.{Stmt-F}
use Rattle.mk_ast.specs.declared.tree.Stmt.TheFolds.{rec-Stmt}
use Rattle.mk_ast.specs.declared.tree.Ref.{Ref}
use Rattle.mk_ast.specs.declared.tree.Expr.{Expr}
use Rattle.mk_ast.specs.declared.tree.Expr.TheOpen.{Expr-F}
use Rattle.mk_ast.specs.declared.tree.Expr.TheFolds.{rec-Expr}
use Rattle.mk_ast.specs.declared.tree.Index.{Index}
use Rattle.mk_ast.specs.declared.tree.Index.TheOpen.{Index-F, Link-F}
use Rattle.mk_ast.specs.declared.tree.Index.TheFolds.{rec-Index}
use Rattle.mk_ast.specs.Tokens.{IsName}
use Rattle.mk_ast.specs.Grammar.{most_brackets}
use Rattle.mk_ast.specs.Canonical.{is_index_sum, is_chain, is_sum, is_product}

-- a number of the language
abbrev pub IsInRange : ℕ → Type 0
IsInRange n = n ≤ GREATEST_NUMBER

-- a size, or what a remainder is taken by
abbrev pub IsSize : ℕ → Type 0
IsSize n = (1 ≤ n) × (n ≤ GREATEST_NUMBER)

-- this holds within a pair of brackets, one of those that may still be opened
abbrev pub Within : (ℕ → Type 0) → ℕ → Type 0
Within P zero = ⊥
Within P (suc brackets) = P brackets

-- this holds within parentheses, where they are needed
abbrev pub Wrapped : Bool → (ℕ → Type 0) → ℕ → Type 0
Wrapped true P = Within P
Wrapped false P = P

-- One layer of an index. Its parts are any things, each with its tree and what makes it regular.
module _ (X Y : Type 0) (tree : X → Index) (IsRegular : X → ℕ → Type 0) (IsRegularLink : Y → ℕ → Type 0) where
  -- a factor of a chain
  abbrev pub IsRegularFactor : ℕ → X → Type 0
  IsRegularFactor brackets i = Wrapped (is_index_sum (tree i) || is_chain (tree i)) (IsRegular i) brackets

  -- the layer of an index
  abbrev pub IsRegularIndexLayer : Index-F X Y → ℕ → Type 0
  IsRegularIndexLayer (Index-F.Num n) brackets = IsInRange n
  IsRegularIndexLayer (Index-F.Var name at) brackets = IsName name
  IsRegularIndexLayer (Index-F.Sum parts) brackets =
      (2 ≤ length parts) × AllByRecursion (λ part. Wrapped (is_index_sum (tree part)) (IsRegular part) brackets) parts
  IsRegularIndexLayer (Index-F.Chain first links) brackets =
      IsRegularFactor brackets first × (1 ≤ length links) × AllByRecursion (λ link. IsRegularLink link brackets) links

  -- the layer of a link
  abbrev pub IsRegularLinkLayer : Link-F X Y → ℕ → Type 0
  IsRegularLinkLayer (Link-F.Times by) brackets = IsRegularFactor brackets by
  IsRegularLinkLayer (Link-F.Mod n) brackets = IsSize n

-- a regular index, with so many brackets that may still be opened
abbrev pub IsRegularIndex : Index → ℕ → Type 0
IsRegularIndex =
    rec-Index (ℕ → Type 0) (ℕ → Type 0)
    (λ X Y tree link R S. IsRegularIndexLayer X Y tree R S)
    (λ X Y tree link R S. IsRegularLinkLayer X Y tree R S)

-- the brackets behind the name of an array, if there are any
abbrev pub IsRegularSubscript : Option Index → ℕ → Type 0
IsRegularSubscript None brackets = Unit {0}
IsRegularSubscript (Some i) brackets = Within (IsRegularIndex i) brackets

-- a regular reference
abbrev pub IsRegularRef : Ref → ℕ → Type 0
IsRegularRef r brackets = IsName r.name × IsRegularSubscript r.index brackets

-- One layer of an expression.
module _ (X : Type 0) (tree : X → Expr) (IsRegular : X → ℕ → Type 0) where
  -- parentheses stand round a sum in a sum, and round a sum or a product in a product
  abbrev pub IsRegularExprLayer : Expr-F X → ℕ → Type 0
  IsRegularExprLayer (Expr-F.Lit value at) brackets = value < 256
  IsRegularExprLayer (Expr-F.Read from) brackets = IsRegularRef from brackets
  IsRegularExprLayer (Expr-F.Sq arg) brackets = Within (IsRegular arg) brackets
  IsRegularExprLayer (Expr-F.Apply name at arg) brackets = IsName name × Within (IsRegular arg) brackets
  IsRegularExprLayer (Expr-F.Sum parts) brackets =
      (2 ≤ length parts) × AllByRecursion (λ part. Wrapped (is_sum (tree part)) (IsRegular part) brackets) parts
  IsRegularExprLayer (Expr-F.Product parts) brackets =
      (2 ≤ length parts)
      × AllByRecursion (λ part. Wrapped (is_sum (tree part) || is_product (tree part)) (IsRegular part) brackets) parts

-- a regular expression
abbrev pub IsRegularExpr : Expr → ℕ → Type 0
IsRegularExpr = rec-Expr (ℕ → Type 0) IsRegularExprLayer

-- One layer of a statement.
abbrev pub IsRegularStmtLayer : (X : Type 0) → (X → ℕ → Type 0) → Stmt-F X → ℕ → Type 0
IsRegularStmtLayer X IsRegular (Stmt-F.Set target value) brackets = IsRegularRef target brackets × IsRegularExpr value brackets
IsRegularStmtLayer X IsRegular (Stmt-F.Loop name at from to body) brackets =
    IsName name × IsInRange from × IsInRange to × Within (λ inside. AllByRecursion (λ s. IsRegular s inside) body) brackets

-- a regular statement
abbrev pub IsRegularStmt : Stmt → ℕ → Type 0
IsRegularStmt = rec-Stmt (ℕ → Type 0) (λ X tree. IsRegularStmtLayer X)

-- what a name may be declared to be: a map has at least one image
abbrev pub IsRegularWhat : What → Type 0
IsRegularWhat (what.Map images) = (1 ≤ length images) × AllByRecursion (λ image. image < 256) images
IsRegularWhat (what.Var class None) = Unit {0}
IsRegularWhat (what.Var class (Some n)) = IsSize n

-- a regular declaration
abbrev pub IsRegularDecl : Decl → Type 0
IsRegularDecl d = IsName d.name × IsRegularWhat d.what

-- a regular program
pub record IsRegular (p : Program) : Type 0 where
  pub decls : AllByRecursion IsRegularDecl p.decls
  pub body : AllByRecursion (λ s. IsRegularStmt s most_brackets) p.body
