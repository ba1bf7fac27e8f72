-- What the program of a table is unrolled to.
use Rattle.std.proofs.Common.{◌≡◌, ℕ, zero, suc, ◌-◌, List, [], ◌∷◌, ◌++◌, map, refl, ap, ◌∙◌, codes}
use Rattle.std.specs.Prelude.{fold}
use Rattle.std.proofs.lemmas.List.{map-append}
use Rattle.std.proofs.lemmas.List.Folds.{fold-map}
use Rattle.std.proofs.lemmas.List.Sums.{fold-append}
use Rattle.mk_ast.specs.declared.tree.Decl.{Decl}
use Rattle.mk_ast.specs.declared.tree.Stmt.{Stmt}
use Rattle.mk_ast.specs.declared.tree.Expr.{Expr}
use Rattle.mk_ast.specs.declared.tree.Expr.TheVariants as expr
use Rattle.mk_ssa.specs.declared.Operand.{Operand}
use Rattle.mk_ssa.specs.declared.Operand.TheVariants.{Block}
use Rattle.mk_ssa.specs.declared.Op.{Op}
use Rattle.mk_ssa.specs.declared.Op.TheVariants.{Const}
use Rattle.mk_types.specs.Scope.{declared, is_variable, is_shared_class}
use Rattle.mk_types.specs.Elements.{number_of, map_number}
use Rattle.mk_types.specs.Environment.{Environment, element, stored}
use Rattle.mk_unroll.specs.Unrolled.{Given, Unrolling, appended, applied, joined, lifted_if, sum_op, product_op, square_op, map_op, expr_given, stmt_unrolled}
use Rattle.mk_unroll.proofs.UnrolledLayers.{given-Lit, given-Read, given-Sq, given-Apply, given-Sum, given-Product, unrolled-Set}
use Rattle.mk_table.specs.Classes.{leader_of, doublings, leaders, further_leaders}
use Rattle.mk_table.specs.Source.{start, map_name, power_name, variable, read, set, squared, next_power, power_stmt, image_part, polynomial, source_body}

-- a fold over what is made of numbers
fold_same : {A X : Type 0} (f : A → X → A) (g : ℕ → X) (h : A → ℕ → A) → ((a : A) (k : ℕ) → f a (g k) ≡ h a k) → (ks : List ℕ) (a : A) → fold f a (map g ks) ≡ fold h a ks
fold_same f g h same [] a = refl
fold_same f g h same (k ∷ ks) a = ap (λ b. fold f b (map g ks)) (same a k) ∙ fold_same f g h same ks (h a k)

-- Programs of these declarations.
module _ (decls : List Decl) where
  -- a variable that is read
  abbrev read_given : Environment Operand → List ℕ → List Op → Given
  read_given env name values = record { operand = element env (number_of decls name) 0 (Block 0); values = values }

  -- squares
  abbrev squares_given : ℕ → Given → Given
  squares_given zero g = g
  squares_given (suc n) g = applied square_op (squares_given n g)

  -- what squares of a variable give
  squared_given : (env : Environment Operand) (n : ℕ) (name : List ℕ) (values : List Op) → expr_given decls [] env (squared n (read name)) values ≡ squares_given n (read_given env name values)
  squared_given env zero name values = given-Read decls [] env (variable name) values
  squared_given env (suc n) name values = given-Sq decls [] env (squared n (read name)) values ∙ ap (applied square_op) (squared_given env n name values)

  -- the product of what was given and a variable
  abbrev times_given : Environment Operand → List ℕ → Given → Given
  times_given env name g = joined product_op g.operand (read_given env name g.values)

  -- what is stored
  abbrev put : List ℕ → Given → Unrolling → Unrolling
  put name g now = record {
    values = (lifted_if (is_variable is_shared_class (declared decls name)) g).values;
    env = stored now.env (number_of decls name) 0 (lifted_if (is_variable is_shared_class (declared decls name)) g).operand;
  }

  -- an assignment of what is known
  set_unrolled : (name : List ℕ) (value : Expr) (now : Unrolling) (g : Given) → expr_given decls [] now.env value now.values ≡ g → stmt_unrolled decls (set name value) [] now ≡ put name g now
  set_unrolled name value now g is = unrolled-Set decls [] now (variable name) value ∙ ap (λ x. put name x now) is

  -- the assignment of a power
  abbrev pub next_put : List ℕ → ℕ → ℕ → Unrolling → Unrolling
  next_put name root squarings now =
      put name (times_given now.env (codes "x") (squares_given squarings (read_given now.env (power_name root) now.values))) now

  -- it is what is unrolled
  next_unrolled : (name : List ℕ) (root squarings : ℕ) (now : Unrolling) → stmt_unrolled decls (next_power name root squarings) [] now ≡ next_put name root squarings now
  next_unrolled name root squarings now =
      set_unrolled name (expr.Product (squared squarings (read (power_name root)) ∷ read (codes "x") ∷ [])) now _
      (given-Product decls [] now.env (squared squarings (read (power_name root)) ∷ read (codes "x") ∷ []) now.values
      ∙ ap (λ g. joined product_op g.operand (expr_given decls [] now.env (read (codes "x")) g.values)) (squared_given now.env squarings (power_name root) now.values)
      ∙ (let g = squares_given squarings (read_given now.env (power_name root) now.values) in
      ap (joined product_op g.operand) (given-Read decls [] now.env (variable (codes "x")) g.values)))

  -- the assignment of x
  abbrev pub first_put : Unrolling → Unrolling
  first_put now = put (power_name 1) (read_given now.env (codes "x") now.values) now

  -- it is what is unrolled
  first_unrolled : (now : Unrolling) → stmt_unrolled decls (set (power_name 1) (read (codes "x"))) [] now ≡ first_put now
  first_unrolled now = set_unrolled (power_name 1) (read (codes "x")) now _ (given-Read decls [] now.env (variable (codes "x")) now.values)

  -- an image
  abbrev image_given : Environment Operand → ℕ → List Op → Given
  image_given env k values = applied (λ shared x. map_op shared (map_number decls (map_name k)) x) (read_given env (power_name k) values)

  -- it is what is given
  image_is : (env : Environment Operand) (k : ℕ) (values : List Op) → expr_given decls [] env (image_part k) values ≡ image_given env k values
  image_is env k values =
      given-Apply decls [] env (map_name k) start (read (power_name k)) values
      ∙ ap (applied (λ shared x. map_op shared (map_number decls (map_name k)) x)) (given-Read decls [] env (variable (power_name k)) values)

  -- one more part of a sum
  abbrev plus : Given → (List Op → Given) → Given
  plus so_far part = joined sum_op so_far.operand (part so_far.values)

  -- an element times a variable
  abbrev scaled_given : Environment Operand → ℕ → List Op → Given
  scaled_given env value values = times_given env (codes "q") (appended values (Const value))

  -- it is what is given
  scaled_is : (env : Environment Operand) (value : ℕ) (values : List Op) → expr_given decls [] env (expr.Product (expr.Lit value start ∷ read (codes "q") ∷ [])) values ≡ scaled_given env value values
  scaled_is env value values =
      given-Product decls [] env (expr.Lit value start ∷ read (codes "q") ∷ []) values
      ∙ ap (λ g. joined product_op g.operand (expr_given decls [] env (read (codes "q")) g.values)) (given-Lit decls [] env value start values)
      ∙ (let g = appended values (Const value) in ap (joined product_op g.operand) (given-Read decls [] env (variable (codes "q")) g.values))

  -- the sum
  abbrev sum_given : Environment Operand → ℕ → ℕ → List Op → Given
  sum_given env last first values =
      plus (plus (fold (λ so_far k. plus so_far (image_given env k)) (image_given env 1 values) further_leaders) (scaled_given env last)) (λ so_far. appended so_far (Const first))

  -- it is what is given
  sum_is : (env : Environment Operand) (last first : ℕ) (values : List Op) → expr_given decls [] env (polynomial last first) values ≡ sum_given env last first values
  sum_is env last first values =
      let given = expr_given decls [] env in
      let behind = expr.Product (expr.Lit last start ∷ read (codes "q") ∷ []) ∷ expr.Lit first start ∷ [] in
      given-Sum decls [] env (map image_part leaders ++ behind) values
      ∙ ap (λ gs. fold plus (given (image_part 1) values) gs) (map-append given (map image_part further_leaders) behind)
      ∙ fold-append plus (given (image_part 1) values) (map given (map image_part further_leaders)) (map given behind)
      ∙ ap (λ g. fold plus g (map given behind))
      (fold-map plus given (given (image_part 1) values) (map image_part further_leaders)
      ∙ fold_same (λ so_far e. plus so_far (given e)) image_part (λ so_far k. plus so_far (image_given env k)) (λ so_far k. ap (joined sum_op so_far.operand) (image_is env k so_far.values)) further_leaders (given (image_part 1) values)
      ∙ ap (λ g. fold (λ so_far k. plus so_far (image_given env k)) g further_leaders) (image_is env 1 values))
      ∙ (let g = fold (λ so_far k. plus so_far (image_given env k)) (image_given env 1 values) further_leaders in
      ap (λ h. plus h (given (expr.Lit first start))) (ap (joined sum_op g.operand) (scaled_is env last g.values))
      ∙ (let h = plus g (scaled_given env last) in ap (joined sum_op h.operand) (given-Lit decls [] env first start h.values)))

  -- the assignment of the sum
  abbrev pub sum_put : ℕ → ℕ → Unrolling → Unrolling
  sum_put last first now = put (codes "y") (sum_given now.env last first now.values) now

  -- the assignments of the powers
  abbrev pub powers_put : Unrolling → Unrolling
  powers_put now =
      next_put (codes "q") 127 1 (fold (λ before k. next_put (power_name k) (leader_of (k - 1)) (doublings (k - 1)) before) (first_put now) further_leaders)

  -- all of them are what is unrolled
  pub body_unrolls : (last first : ℕ) (now : Unrolling) → fold (λ before s. stmt_unrolled decls s [] before) now (source_body last first) ≡ sum_put last first (powers_put now)
  body_unrolls last first now =
      let step = λ (before : Unrolling) (s : Stmt). stmt_unrolled decls s [] before in
      let behind = next_power (codes "q") 127 1 ∷ set (codes "y") (polynomial last first) ∷ [] in
      let powers = λ (before : Unrolling) (k : ℕ). next_put (power_name k) (leader_of (k - 1)) (doublings (k - 1)) before in
      fold-append step now (set (power_name 1) (read (codes "x")) ∷ map power_stmt further_leaders) behind
      ∙ ap (λ u. fold step u behind)
      (ap (λ u. fold step u (map power_stmt further_leaders)) (first_unrolled now)
      ∙ fold_same step power_stmt powers (λ before k. next_unrolled (power_name k) (leader_of (k - 1)) (doublings (k - 1)) before) further_leaders (first_put now))
      ∙ (let u = fold powers (first_put now) further_leaders in
      ap (λ v. stmt_unrolled decls (set (codes "y") (polynomial last first)) [] v) (next_unrolled (codes "q") 127 1 u)
      ∙ (let v = next_put (codes "q") 127 1 u in set_unrolled (codes "y") (polynomial last first) v _ (sum_is v.env last first v.values)))
