-- The program of a table: the polynomial of its coefficients, as one sum of additive maps of powers. The power
-- with a leader's exponent is made from the one before by squares and one product, so that there are 34
-- products.
use Rattle.std.specs.Prelude.{ℕ, zero, suc, ◌-◌, List, [], ◌∷◌, ◌++◌, map, None, codes, decimal}
use Rattle.mk_base.specs.declared.Place.{Place}
use Rattle.mk_field.specs.declared.field.FieldId.TheVariants.{Gf256}
use Rattle.mk_ast.specs.declared.tree.Program.{Program}
use Rattle.mk_ast.specs.declared.tree.Decl.{Decl}
use Rattle.mk_ast.specs.declared.tree.What.TheVariants as what
use Rattle.mk_ast.specs.declared.tree.Class.{Class}
use Rattle.mk_ast.specs.declared.tree.Class.TheVariants as class_
use Rattle.mk_ast.specs.declared.tree.Stmt.{Stmt}
use Rattle.mk_ast.specs.declared.tree.Stmt.TheVariants as stmt
use Rattle.mk_ast.specs.declared.tree.Ref.{Ref}
use Rattle.mk_ast.specs.declared.tree.Expr.{Expr}
use Rattle.mk_ast.specs.declared.tree.Expr.TheVariants as expr
use Rattle.mk_table.specs.Coefficients.{coefficient}
use Rattle.mk_table.specs.Classes.{leader_of, doublings, leaders, further_leaders}
use Rattle.mk_table.specs.ClassImages.{class_images}

-- every place is the first of a text
abbrev pub start : Place
start = record { line = 1; column = 1 }

-- the name of the map of the class of k: `l1`, `l3` and so on
abbrev pub map_name : ℕ → List ℕ
map_name k = codes "l" ++ decimal k

-- the name of the variable for x to the power k
abbrev pub power_name : ℕ → List ℕ
power_name k = codes "p" ++ decimal k

-- the declaration of a map
abbrev pub map_decl : (ℕ → List ℕ) → ℕ → Decl
map_decl images k = record { name = map_name k; at = start; what = what.Map (images k) }

-- the declaration of a scalar
abbrev pub scalar : Class → List ℕ → Decl
scalar class name = record { name = name; at = start; what = what.Var class None }

-- the maps, the secret, the powers and the output
abbrev pub source_decls : (ℕ → List ℕ) → List Decl
source_decls images =
    map (map_decl images) leaders
    ++ scalar class_.Secret (codes "x")
    ∷ map (λ k. scalar class_.LocalSecret (power_name k)) leaders
    ++ scalar class_.LocalSecret (codes "q")
    ∷ scalar class_.Output (codes "y")
    ∷ []

-- a variable, as a target
abbrev pub variable : List ℕ → Ref
variable name = record { name = name; at = start; index = None }

-- a variable that is read
abbrev pub read : List ℕ → Expr
read name = expr.Read (variable name)

-- an assignment
abbrev pub set : List ℕ → Expr → Stmt
set name value = stmt.Set (variable name) value

-- an expression squared so many times
abbrev pub squared : ℕ → Expr → Expr
squared zero e = e
squared (suc n) e = expr.Sq (squared n e)

-- an assignment of a power squared so many times, times x
abbrev pub next_power : List ℕ → ℕ → ℕ → Stmt
next_power name root squarings = set name (expr.Product (squared squarings (read (power_name root)) ∷ read (codes "x") ∷ []))

-- the power k, which is the power k - 1 times x; and that is made from the power that leads its class
abbrev pub power_stmt : ℕ → Stmt
power_stmt k = next_power (power_name k) (leader_of (k - 1)) (doublings (k - 1))

-- the image of the power k under its map
abbrev pub image_part : ℕ → Expr
image_part k = expr.Apply (map_name k) start (read (power_name k))

-- the sum of the images, the last coefficient times the power 255, and the first coefficient
abbrev pub polynomial : ℕ → ℕ → Expr
polynomial last first =
    expr.Sum (map image_part leaders ++ expr.Product (expr.Lit last start ∷ read (codes "q") ∷ []) ∷ expr.Lit first start ∷ [])

-- the powers, and the sum
abbrev pub source_body : ℕ → ℕ → List Stmt
source_body last first =
    set (power_name 1) (read (codes "x"))
    ∷ map power_stmt further_leaders
    ++ next_power (codes "q") 127 1
    ∷ set (codes "y") (polynomial last first)
    ∷ []

-- the program with these images for each leader, and these last and first coefficients
abbrev pub source : (ℕ → List ℕ) → ℕ → ℕ → Program
source images last first = record { field = Gf256; decls = source_decls images; body = source_body last first }

-- the program of a table
abbrev pub table_source : List ℕ → Program
table_source table = source (class_images (coefficient table)) (coefficient table 255) (coefficient table 0)
