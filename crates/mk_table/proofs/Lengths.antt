-- The canonical text of the program of a table has 3,723 bytes, whatever the table is.
use Rattle.std.proofs.Common.{◌≡◌, ℕ, zero, suc, ◌-◌, List, [], ◌∷◌, ◌++◌, map, flat_map, length, ap, ◌∙◌, codes}
use Rattle.std.specs.Fmt.{digits}
use Rattle.std.proofs.lemmas.List.{map-append}
use Rattle.mk_field.specs.declared.field.FieldId.TheVariants.{Gf256}
use Rattle.mk_ast.specs.declared.tree.Expr.TheVariants as expr
use Rattle.mk_ast.specs.Canonical.{joined, parenthesized, element_text, summand_text, factor_text, expr_text, ended, stmt_lines, decl_line, field_line, canonical}
use Rattle.mk_ast.proofs.Layers.{expr_text-Lit, expr_text-Read, expr_text-Sq, expr_text-Apply, expr_text-Sum, expr_text-Product, stmt_lines-Set}
use Rattle.mk_table.specs.Classes.{leader_of, doublings, leaders}
use Rattle.mk_table.specs.Source.{start, map_name, power_name, source_decls, variable, read, set, squared, next_power, image_part, polynomial, source}
use Rattle.mk_table.proofs.Lists.{map_same}
use Rattle.mk_table.proofs.Typing.{body_flat, of_bits}

-- the text of squares of a variable
abbrev squares_text : ℕ → List ℕ → List ℕ
squares_text zero name = name ++ []
squares_text (suc n) name = codes "sq" ++ parenthesized (squares_text n name)

-- it is their text
squared_text : (n : ℕ) (name : List ℕ) → expr_text (squared n (read name)) ≡ squares_text n name
squared_text zero name = expr_text-Read (variable name)
squared_text (suc n) name = expr_text-Sq (squared n (read name)) ∙ ap (λ text. codes "sq" ++ parenthesized text) (squared_text n name)

-- and their text in a product
squared_factor : (n : ℕ) (name : List ℕ) → factor_text (squared n (read name)) (expr_text (squared n (read name))) ≡ squares_text n name
squared_factor zero name = squared_text zero name
squared_factor (suc n) name = squared_text (suc n) name

-- the line of the assignment of a power
abbrev next_line : List ℕ → ℕ → ℕ → List ℕ
next_line name root squarings = (name ++ []) ++ codes " = " ++ joined (codes " * ") (squares_text squarings (power_name root) ∷ (codes "x" ++ []) ∷ []) ++ codes ";"

-- it has this line
next_has_line : (name : List ℕ) (root squarings : ℕ) → stmt_lines (next_power name root squarings) ≡ next_line name root squarings ∷ []
next_has_line name root squarings =
    stmt_lines-Set (variable name) (expr.Product (squared squarings (read (power_name root)) ∷ read (codes "x") ∷ []))
    ∙ ap (λ text. ((name ++ []) ++ codes " = " ++ text ++ codes ";") ∷ [])
    (expr_text-Product (squared squarings (read (power_name root)) ∷ read (codes "x") ∷ [])
    ∙ (λ i. joined (codes " * ") (squared_factor squarings (power_name root) i ∷ expr_text-Read (variable (codes "x")) i ∷ [])))

-- the line of the assignment of x
first_has_line : stmt_lines (set (power_name 1) (read (codes "x"))) ≡ ((power_name 1 ++ []) ++ codes " = " ++ (codes "x" ++ []) ++ codes ";") ∷ []
first_has_line =
    stmt_lines-Set (variable (power_name 1)) (read (codes "x"))
    ∙ ap (λ text. ((power_name 1 ++ []) ++ codes " = " ++ text ++ codes ";") ∷ []) (expr_text-Read (variable (codes "x")))

-- the text of an image
abbrev image_text : ℕ → List ℕ
image_text k = map_name k ++ parenthesized (power_name k ++ [])

-- it is its text
image_has_text : (k : ℕ) → summand_text (image_part k) (expr_text (image_part k)) ≡ image_text k
image_has_text k = expr_text-Apply (map_name k) start (read (power_name k)) ∙ ap (λ text. map_name k ++ parenthesized text) (expr_text-Read (variable (power_name k)))

-- the line of the assignment of the sum
abbrev sum_line : ℕ → ℕ → List ℕ
sum_line last first =
    (codes "y" ++ []) ++ codes " = "
    ++ joined (codes " + ") (map image_text leaders ++ joined (codes " * ") (element_text last ∷ (codes "q" ++ []) ∷ []) ∷ element_text first ∷ [])
    ++ codes ";"

-- it has this line
sum_has_line : (last first : ℕ) → stmt_lines (set (codes "y") (polynomial last first)) ≡ sum_line last first ∷ []
sum_has_line last first =
    let behind = expr.Product (expr.Lit last start ∷ read (codes "q") ∷ []) ∷ expr.Lit first start ∷ [] in
    stmt_lines-Set (variable (codes "y")) (polynomial last first)
    ∙ ap (λ text. ((codes "y" ++ []) ++ codes " = " ++ text ++ codes ";") ∷ [])
    (expr_text-Sum (map image_part leaders ++ behind)
    ∙ ap (joined (codes " + "))
    (map-append (λ e. summand_text e (expr_text e)) (map image_part leaders) behind
    ∙ (λ i. map_same (λ e. summand_text e (expr_text e)) image_part image_text image_has_text leaders i
    ++ (expr_text-Product (expr.Lit last start ∷ read (codes "q") ∷ [])
    ∙ (λ j. joined (codes " * ") (expr_text-Lit last start j ∷ expr_text-Read (variable (codes "q")) j ∷ []))) i
    ∷ expr_text-Lit first start i ∷ [])))

-- so the text has so many bytes
pub source_length : (image : ℕ → ℕ → ℕ) (last first : ℕ) → length (canonical (source (of_bits image) last first)) ≡ 3723
unfolding digits
source_length image last first =
    ap (λ lines. length (flat_map ended (field_line Gf256 ∷ map decl_line (source_decls (of_bits image)) ++ lines)))
    (body_flat stmt_lines _ (λ k. next_line (power_name k) (leader_of (k - 1)) (doublings (k - 1)) ∷ []) _ _ last first
    first_has_line (λ k. next_has_line (power_name k) (leader_of (k - 1)) (doublings (k - 1))) (next_has_line (codes "q") 127 1) (sum_has_line last first))
