-- The program of a table is well typed, and its execution comes to its end.
use Rattle.std.proofs.Common.{◌≡◌, ℕ, zero, suc, ◌-◌, List, [], ◌∷◌, ◌++◌, map, flat_map, refl, ap, ◌∙◌, codes}
use Rattle.std.specs.Fmt.{digits}
use Rattle.std.specs.List.{AllByRecursion, range_with_len}
use Rattle.std.proofs.lemmas.List.{map-append}
use Rattle.std.proofs.lemmas.Grind.{flat_map-append}
use Rattle.mk_field.specs.declared.field.FieldId.TheVariants.{Gf256}
use Rattle.mk_ast.specs.declared.tree.Decl.{Decl}
use Rattle.mk_ast.specs.declared.tree.Stmt.{Stmt}
use Rattle.mk_ast.specs.declared.tree.Expr.TheVariants as expr
use Rattle.mk_types.specs.declared.offence.Offence.{Offence}
use Rattle.mk_types.specs.declared.offence.OffenceKind.TheVariants as kind_
use Rattle.mk_types.specs.Scope.{Scope}
use Rattle.mk_types.specs.Offences.{when, is_no_bit, reference_offences, map_name_offences, expr_offences, target_offences, stmt_offences, decls_offences, scope_of, IsWellTyped}
use Rattle.mk_types.specs.Elements.{elements_of}
use Rattle.mk_types.specs.Units.{WorkUnit, Step, Operation, expr_units, stmt_units, parts_units, up_to_fault, units}
use Rattle.mk_types.specs.Stops.{operations, stop}
use Rattle.mk_types.proofs.Layers.{expr-Lit, expr-Read, expr-Sq, expr-Apply, expr-Sum, expr-Product, stmt-Set}
use Rattle.mk_types.proofs.Faults.{IsNoFault}
use Rattle.mk_types.proofs.ExecutionLayers.{units-Lit, units-Read, units-Sq, units-Apply, units-Sum, units-Product, units-Set}
use Rattle.mk_unroll.specs.Causes.{Ends}
use Rattle.mk_table.specs.Classes.{leader_of, doublings, leaders, further_leaders}
use Rattle.mk_table.specs.Source.{start, map_name, power_name, source_decls, variable, read, set, squared, next_power, power_stmt, image_part, polynomial, source_body, source}
use Rattle.mk_table.proofs.Lists.{flat_same, map_same}

-- what is made of the statements, one after the other
pub body_flat : {Y : Type 0} (f : Stmt → List Y) (one : List Y) (power : ℕ → List Y) (highest sum : List Y) (last first : ℕ)
    → f (set (power_name 1) (read (codes "x"))) ≡ one → ((k : ℕ) → f (power_stmt k) ≡ power k)
    → f (next_power (codes "q") 127 1) ≡ highest → f (set (codes "y") (polynomial last first)) ≡ sum
    → flat_map f (source_body last first) ≡ (one ++ flat_map power further_leaders) ++ (highest ++ (sum ++ []))
body_flat f one power highest sum last first one_is power_is highest_is sum_is =
    flat_map-append f (set (power_name 1) (read (codes "x")) ∷ map power_stmt further_leaders) (next_power (codes "q") 127 1 ∷ set (codes "y") (polynomial last first) ∷ [])
    ∙ (λ i. (one_is i ++ flat_same f power_stmt power power_is further_leaders i) ++ (highest_is i ++ (sum_is i ++ [])))

-- the offences of a scope
module _ (s : Scope) where
  -- squares have the offences of their variable
  squared_offences : (n : ℕ) (name : List ℕ) → expr_offences s (squared n (read name)) ≡ reference_offences s (variable name)
  squared_offences zero name = expr-Read s (variable name)
  squared_offences (suc n) name = expr-Sq s (squared n (read name)) ∙ squared_offences n name

  -- the offences of the assignment of a power
  abbrev next_offences : List ℕ → ℕ → ℕ → List Offence
  next_offences name root squarings =
      target_offences s (variable name) (expr.Product (squared squarings (read (power_name root)) ∷ read (codes "x") ∷ []))
      ++ reference_offences s (variable name)
      ++ (reference_offences s (variable (power_name root)) ++ (reference_offences s (variable (codes "x")) ++ []))

  -- which it has
  next_has : (name : List ℕ) (root squarings : ℕ) → stmt_offences (next_power name root squarings) s ≡ next_offences name root squarings
  next_has name root squarings =
      let value = expr.Product (squared squarings (read (power_name root)) ∷ read (codes "x") ∷ []) in
      stmt-Set (variable name) value s
      ∙ ap (λ os. target_offences s (variable name) value ++ reference_offences s (variable name) ++ os)
      (expr-Product s (squared squarings (read (power_name root)) ∷ read (codes "x") ∷ [])
      ∙ (λ i. squared_offences squarings (power_name root) i ++ (expr-Read s (variable (codes "x")) i ++ [])))

  -- the offences of the assignment of x to a power
  first_has : stmt_offences (set (power_name 1) (read (codes "x"))) s
      ≡ target_offences s (variable (power_name 1)) (read (codes "x")) ++ reference_offences s (variable (power_name 1)) ++ reference_offences s (variable (codes "x"))
  first_has =
      stmt-Set (variable (power_name 1)) (read (codes "x")) s
      ∙ ap (λ os. target_offences s (variable (power_name 1)) (read (codes "x")) ++ reference_offences s (variable (power_name 1)) ++ os) (expr-Read s (variable (codes "x")))

  -- the offences of an image
  image_has : (k : ℕ) → expr_offences s (image_part k) ≡ map_name_offences s (map_name k) start ++ reference_offences s (variable (power_name k))
  image_has k = expr-Apply s (map_name k) start (read (power_name k)) ∙ ap (λ os. map_name_offences s (map_name k) start ++ os) (expr-Read s (variable (power_name k)))

  -- the offences of the assignment of the sum
  sum_has : (last first : ℕ) → stmt_offences (set (codes "y") (polynomial last first)) s
      ≡ target_offences s (variable (codes "y")) (polynomial last first) ++ reference_offences s (variable (codes "y"))
      ++ (flat_map (λ k. map_name_offences s (map_name k) start ++ reference_offences s (variable (power_name k))) leaders
      ++ ((when (is_no_bit s.field last) start kind_.Kind ++ (reference_offences s (variable (codes "q")) ++ [])) ++ (when (is_no_bit s.field first) start kind_.Kind ++ [])))
  sum_has last first =
      let behind = expr.Product (expr.Lit last start ∷ read (codes "q") ∷ []) ∷ expr.Lit first start ∷ [] in
      stmt-Set (variable (codes "y")) (polynomial last first) s
      ∙ ap (λ os. target_offences s (variable (codes "y")) (polynomial last first) ++ reference_offences s (variable (codes "y")) ++ os)
      (expr-Sum s (map image_part leaders ++ behind)
      ∙ flat_map-append (expr_offences s) (map image_part leaders) behind
      ∙ (λ i. flat_same (expr_offences s) image_part (λ k. map_name_offences s (map_name k) start ++ reference_offences s (variable (power_name k))) image_has leaders i
      ++ ((expr-Product s (expr.Lit last start ∷ read (codes "q") ∷ []) ∙ (λ j. expr-Lit s last start j ++ (expr-Read s (variable (codes "q")) j ++ []))) i ++ (expr-Lit s first start i ++ []))))

-- the images of eight bits
abbrev pub of_bits : (ℕ → ℕ → ℕ) → ℕ → List ℕ
of_bits image k = map (image k) (range_with_len 0 8)

-- the program is well typed
pub source_typed : (image : ℕ → ℕ → ℕ) (last first : ℕ) → IsWellTyped (source (of_bits image) last first)
unfolding digits
source_typed image last first =
    let s = scope_of (source (of_bits image) last first) in
    ap (λ os. decls_offences Gf256 [] (source_decls (of_bits image)) ++ os)
    (body_flat (λ t. stmt_offences t s) _ (λ k. next_offences s (power_name k) (leader_of (k - 1)) (doublings (k - 1))) _ _ last first
    (first_has s) (λ k. next_has s (power_name k) (leader_of (k - 1)) (doublings (k - 1))) (next_has s (codes "q") 127 1) (sum_has s last first))

-- the units of squares of a variable
abbrev squares_units : ℕ → List WorkUnit
squares_units zero = []
squares_units (suc n) = squares_units n ++ Operation ∷ []

-- The units of a program of these declarations.
module _ (decls : List Decl) where
  -- squares have them
  squared_units : (n : ℕ) (name : List ℕ) → expr_units decls [] (squared n (read name)) ≡ squares_units n
  squared_units zero name = units-Read decls [] (variable name)
  squared_units (suc n) name = units-Sq decls [] (squared n (read name)) ∙ ap (λ us. us ++ Operation ∷ []) (squared_units n name)

  -- the units of the assignment of a power
  abbrev next_units : ℕ → List WorkUnit
  next_units squarings = Step ∷ parts_units (squares_units squarings ∷ [] ∷ []) ++ []

  -- which it has
  next_works : (name : List ℕ) (root squarings : ℕ) → stmt_units decls (next_power name root squarings) [] ≡ next_units squarings
  next_works name root squarings =
      units-Set decls (variable name) (expr.Product (squared squarings (read (power_name root)) ∷ read (codes "x") ∷ [])) []
      ∙ ap (λ us. Step ∷ us ++ [])
      (units-Product decls [] (squared squarings (read (power_name root)) ∷ read (codes "x") ∷ [])
      ∙ (λ i. parts_units (squared_units squarings (power_name root) i ∷ units-Read decls [] (variable (codes "x")) i ∷ [])))

  -- the units of the assignment of x
  first_works : stmt_units decls (set (power_name 1) (read (codes "x"))) [] ≡ Step ∷ []
  first_works = units-Set decls (variable (power_name 1)) (read (codes "x")) [] ∙ ap (λ us. Step ∷ us ++ []) (units-Read decls [] (variable (codes "x")))

  -- an image is an operation
  image_works : (k : ℕ) → expr_units decls [] (image_part k) ≡ Operation ∷ []
  image_works k = units-Apply decls [] (map_name k) start (read (power_name k)) ∙ ap (λ us. us ++ Operation ∷ []) (units-Read decls [] (variable (power_name k)))

  -- the units of the assignment of the sum
  abbrev sum_units : List WorkUnit
  sum_units = Step ∷ parts_units (map (λ k. Operation ∷ []) leaders ++ parts_units ([] ∷ [] ∷ []) ∷ [] ∷ []) ++ []

  -- which it has
  sum_works : (last first : ℕ) → stmt_units decls (set (codes "y") (polynomial last first)) [] ≡ sum_units
  sum_works last first =
      let behind = expr.Product (expr.Lit last start ∷ read (codes "q") ∷ []) ∷ expr.Lit first start ∷ [] in
      units-Set decls (variable (codes "y")) (polynomial last first) []
      ∙ ap (λ us. Step ∷ us ++ [])
      (units-Sum decls [] (map image_part leaders ++ behind)
      ∙ ap parts_units
      (map-append (expr_units decls []) (map image_part leaders) behind
      ∙ (λ i. map_same (expr_units decls []) image_part (λ k. Operation ∷ []) image_works leaders i
      ++ (units-Product decls [] (expr.Lit last start ∷ read (codes "q") ∷ []) ∙ (λ j. parts_units (units-Lit decls [] last start j ∷ units-Read decls [] (variable (codes "q")) j ∷ []))) i
      ∷ units-Lit decls [] first start i ∷ [])))

-- the units of the whole program
abbrev pub whole_units : List Decl → List WorkUnit
whole_units decls = (Step ∷ flat_map (λ k. next_units decls (doublings (k - 1))) further_leaders) ++ (next_units decls 1 ++ (sum_units decls ++ []))

-- which it has
pub source_works : (image : ℕ → ℕ → ℕ) (last first : ℕ) → units (source (of_bits image) last first) ≡ whole_units (source_decls (of_bits image))
source_works image last first =
    let decls = source_decls (of_bits image) in
    ap up_to_fault
    (body_flat (λ t. stmt_units decls t []) _ (λ k. next_units decls (doublings (k - 1))) _ _ last first
    (first_works decls) (λ k. next_works decls (power_name k) (leader_of (k - 1)) (doublings (k - 1))) (next_works decls (codes "q") 127 1) (sum_works decls last first))

-- none of them is a fault
pub whole_faultless : (decls : List Decl) → AllByRecursion IsNoFault (whole_units decls)
whole_faultless decls = search

-- its execution comes to its end
pub source_ends : (image : ℕ → ℕ → ℕ) (last first : ℕ) → Ends (source (of_bits image) last first)
source_ends image last first = ap stop (source_works image last first)

-- with 154 operations
pub source_operations : (image : ℕ → ℕ → ℕ) (last first : ℕ) → operations (units (source (of_bits image) last first)) ≡ 154
source_operations image last first = ap operations (source_works image last first)

-- it declares 37 elements
pub source_elements : (images : ℕ → List ℕ) (last first : ℕ) → elements_of (source images last first) ≡ 37
source_elements images last first = refl
