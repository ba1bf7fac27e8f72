-- Places say nothing of the values that a program is unrolled to: without them they are the same.
use Rattle.std.proofs.Common.{◌≡◌, ℕ, ◌+◌, Bool, not, cond, if◌then◌else◌, List, [], ◌∷◌, ◌++◌, Option, Some, None, map, length, bytes_eq, refl, sym, ap, ◌∙◌}
use Rattle.std.specs.Prelude.{fold, take}
use Rattle.std.specs.List.{AllByRecursion, range_with_len}
use Rattle.std.proofs.lemmas.List.{map-append, take-map}
use Rattle.mk_base.specs.declared.Place.{Place}
use Rattle.mk_field.specs.declared.map.AddMap.{AddMap}
use Rattle.mk_ast.specs.declared.tree.Program.{Program}
use Rattle.mk_ast.specs.declared.tree.Decl.{Decl}
use Rattle.mk_ast.specs.declared.tree.What.{What}
use Rattle.mk_ast.specs.declared.tree.What.TheVariants as what
use Rattle.mk_ast.specs.declared.tree.Class.{Class}
use Rattle.mk_ast.specs.declared.tree.Class.TheVariants as class_
use Rattle.mk_ast.specs.declared.tree.Stmt.{Stmt}
use Rattle.mk_ast.specs.declared.tree.Ref.{Ref}
use Rattle.mk_ast.specs.declared.tree.Expr.{Expr}
use Rattle.mk_ast.specs.declared.tree.Index.{Index}
use Rattle.mk_ast.specs.Places.{nowhere, placeless_ref, placeless_expr, placeless_stmt, placeless_decl, placeless}
use Rattle.mk_ast.proofs.Induction.{expr_induction, stmt_induction}
use Rattle.mk_ast.proofs.Layers.{placeless_expr-Lit, placeless_expr-Read, placeless_expr-Sq, placeless_expr-Apply, placeless_expr-Sum, placeless_expr-Product, placeless_stmt-Set, placeless_stmt-Loop}
use Rattle.mk_ssa.specs.declared.Operand.{Operand}
use Rattle.mk_ssa.specs.declared.Operand.TheVariants.{Secret, Public, Block}
use Rattle.mk_ssa.specs.declared.Op.{Op}
use Rattle.mk_ssa.specs.declared.Op.TheVariants.{Const, Lift}
use Rattle.mk_types.specs.Scope.{is_variable, is_shared_class}
use Rattle.mk_types.specs.Turns.{Turn, in_turn, turn_numbers}
use Rattle.mk_types.specs.Elements.{is_secret_class, is_public_class, is_output_class, size_of, elements_in, elements_among, number_of, maps_of, map_number}
use Rattle.mk_types.specs.Units.{Evaluated, element_number}
use Rattle.mk_types.specs.Environment.{Environment, element, stored, beginning, beginnings, output_elements}
use Rattle.mk_unroll.specs.Unrolled.{Given, Unrolling, sum_op, product_op, square_op, map_op, applied, joined, joined_parts, lifted_if, expr_given, assigned, assignment_unrolled, stmt_unrolled, first_unrolling, last_unrolling, unrolled}
use Rattle.mk_unroll.proofs.UnrolledLayers.{given-Lit, given-Read, given-Sq, given-Apply, given-Sum, given-Product, unrolled-Set, unrolled-Loop}
use Rattle.mk_gen.proofs.AlikeUnits.{declared_alike, index_alike}

-- the number of a declaration
number_alike : (decls : List Decl) (name : List ℕ) → number_of (map placeless_decl decls) name ≡ number_of decls name
number_alike [] name = refl
number_alike (d ∷ decls) name = by (bytes_eq name d.name) (number_alike decls name)
  where
    by : (b : Bool) → number_of (map placeless_decl decls) name ≡ number_of decls name →
        cond (not b) (1 + number_of (map placeless_decl decls) name) 0 ≡ cond (not b) (1 + number_of decls name) 0
    by b rest = ap (λ n. cond (not b) (1 + n) 0) rest

-- the maps
maps_alike : (decls : List Decl) → maps_of (map placeless_decl decls) ≡ maps_of decls
maps_alike [] = refl
maps_alike (d ∷ decls) = by d.name d.at d.what (maps_alike decls)
  where
    by : (name : List ℕ) (at : Place) (what : What) → maps_of (map placeless_decl decls) ≡ maps_of decls →
        maps_of (record { name = name; at = nowhere; what = what } ∷ map placeless_decl decls) ≡ maps_of (record { name = name; at = at; what = what } ∷ decls)
    by name at (what.Map images) rest = ap (λ (ms : List AddMap). record { images = images } ∷ ms) rest
    by name at (what.Var class size) rest = rest

-- the number of a map
map_number_alike : (decls : List Decl) (name : List ℕ) → map_number (map placeless_decl decls) name ≡ map_number decls name
map_number_alike decls name =
    ap (λ n. length (maps_of (take n (map placeless_decl decls)))) (number_alike decls name)
    ∙ ap (λ ds. length (maps_of ds)) (take-map placeless_decl (number_of decls name) decls)
    ∙ ap length (maps_alike (take (number_of decls name) decls))

-- how many elements declarations make
among_alike : (test : Class → Bool) (decls : List Decl) → elements_among test (map placeless_decl decls) ≡ elements_among test decls
among_alike test decls = each decls 0
  where
    each : (decls : List Decl) (n : ℕ) →
        fold (λ m d. m + elements_in test d.what) n (map placeless_decl decls) ≡ fold (λ m (d : Decl). m + elements_in test d.what) n decls
    each [] n = refl
    each (d ∷ decls) n = each decls (n + elements_in test d.what)

-- what a variable holds first
abbrev first_beginning : List Decl → What → List Operand
first_beginning = beginning (λ before n. map Secret (range_with_len before n)) (λ before n. map Public (range_with_len before n)) (Block 1) (Block 0)

-- what variables hold first
abbrev first_beginnings : List Decl → List Decl → Environment Operand
first_beginnings = beginnings (λ before n. map Secret (range_with_len before n)) (λ before n. map Public (range_with_len before n)) (Block 1) (Block 0)

-- a variable holds the same first
beginning_alike : (earlier : List Decl) (of : What) → first_beginning (map placeless_decl earlier) of ≡ first_beginning earlier of
beginning_alike earlier (what.Map images) = refl
beginning_alike earlier (what.Var class_.Secret size) = ap (λ n. map Secret (range_with_len n (size_of size))) (among_alike is_secret_class earlier)
beginning_alike earlier (what.Var class_.Public size) = ap (λ n. map Public (range_with_len n (size_of size))) (among_alike is_public_class earlier)
beginning_alike earlier (what.Var class_.Output size) = refl
beginning_alike earlier (what.Var class_.LocalSecret size) = refl
beginning_alike earlier (what.Var class_.LocalPublic size) = refl

-- and so do all
beginnings_alike : (earlier decls : List Decl) → first_beginnings (map placeless_decl earlier) (map placeless_decl decls) ≡ first_beginnings earlier decls
beginnings_alike earlier [] = refl
beginnings_alike earlier (d ∷ decls) =
    let rest = ap (λ before. first_beginnings before (map placeless_decl decls)) (sym (map-append placeless_decl earlier (d ∷ []))) ∙ beginnings_alike (earlier ++ d ∷ []) decls in
    λ i. beginning_alike earlier d.what i ∷ rest i

-- the elements of the outputs
outs_alike : (decls : List Decl) (env : Environment Operand) → output_elements (map placeless_decl decls) env ≡ output_elements decls env
outs_alike [] env = refl
outs_alike (d ∷ decls) [] = refl
outs_alike (d ∷ decls) (v ∷ env) = ap (λ rest. (if is_variable is_output_class (Some d.what) then v else []) ++ rest) (outs_alike decls env)

module _ (turns : List Turn) where
  -- the element of a variable, by its index
  cell_alike : (name : List ℕ) (at : Place) (index : Option Index) →
      element_number turns (placeless_ref (record { name = name; at = at; index = index })) ≡ element_number turns (record { name = name; at = at; index = index })
  cell_alike name at None = refl
  cell_alike name at (Some i) = ap (λ (e : Evaluated). e.value) (index_alike at turns i)

  -- the element of a variable
  element_alike : (r : Ref) → element_number turns (placeless_ref r) ≡ element_number turns r
  element_alike r = cell_alike r.name r.at r.index

module _ (decls : List Decl) (turns : List Turn) (env : Environment Operand) where
  -- what is claimed of an expression
  abbrev GivenAlike : Expr → Type 0
  GivenAlike e = (values : List Op) → expr_given (map placeless_decl decls) turns env (placeless_expr e) values ≡ expr_given decls turns env e values

  -- the parts of a sum or a product behind the first
  rest_alike : (op : Bool → Bool → Operand → Operand → Op) (parts : List Expr) (g : Given) → AllByRecursion GivenAlike parts →
      fold (λ (so_far : Given) (part : List Op → Given). joined op so_far.operand (part so_far.values)) g (map (expr_given (map placeless_decl decls) turns env) (map placeless_expr parts))
      ≡ fold (λ (so_far : Given) (part : List Op → Given). joined op so_far.operand (part so_far.values)) g (map (expr_given decls turns env) parts)
  rest_alike op [] g all = refl
  rest_alike op (e ∷ parts) g all =
      ap (λ h. fold (λ (so_far : Given) (part : List Op → Given). joined op so_far.operand (part so_far.values)) (joined op g.operand h) (map (expr_given (map placeless_decl decls) turns env) (map placeless_expr parts)))
      (all.0 g.values)
      ∙ rest_alike op parts (joined op g.operand (expr_given decls turns env e g.values)) all.1

  -- all parts
  parts_alike : (op : Bool → Bool → Operand → Operand → Op) (parts : List Expr) (values : List Op) → AllByRecursion GivenAlike parts →
      joined_parts op (map (expr_given (map placeless_decl decls) turns env) (map placeless_expr parts)) values
      ≡ joined_parts op (map (expr_given decls turns env) parts) values
  parts_alike op [] values all = refl
  parts_alike op (e ∷ parts) values all =
      ap (λ g. fold (λ (so_far : Given) (part : List Op → Given). joined op so_far.operand (part so_far.values)) g (map (expr_given (map placeless_decl decls) turns env) (map placeless_expr parts)))
      (all.0 values)
      ∙ rest_alike op parts (expr_given decls turns env e values) all.1

  -- an expression
  expr_alike : (e : Expr) → GivenAlike e
  expr_alike =
      let others = map placeless_decl decls in
      expr_induction GivenAlike
      (λ value at values. ap (λ e. expr_given others turns env e values) (placeless_expr-Lit value at) ∙ given-Lit others turns env value nowhere values
      ∙ sym (given-Lit decls turns env value at values))
      (λ from values. ap (λ e. expr_given others turns env e values) (placeless_expr-Read from) ∙ given-Read others turns env (placeless_ref from) values
      ∙ (λ i. record { operand = element env (number_alike decls from.name i) (element_alike turns from i) (Block 0); values = values })
      ∙ sym (given-Read decls turns env from values))
      (λ arg same values. ap (λ e. expr_given others turns env e values) (placeless_expr-Sq arg) ∙ given-Sq others turns env (placeless_expr arg) values
      ∙ ap (applied square_op) (same values) ∙ sym (given-Sq decls turns env arg values))
      (λ name at arg same values. ap (λ e. expr_given others turns env e values) (placeless_expr-Apply name at arg) ∙ given-Apply others turns env name nowhere (placeless_expr arg) values
      ∙ (λ i. applied (λ shared x. map_op shared (map_number_alike decls name i) x) (same values i)) ∙ sym (given-Apply decls turns env name at arg values))
      (λ parts all values. ap (λ e. expr_given others turns env e values) (placeless_expr-Sum parts) ∙ given-Sum others turns env (map placeless_expr parts) values
      ∙ parts_alike sum_op parts values all ∙ sym (given-Sum decls turns env parts values))
      (λ parts all values. ap (λ e. expr_given others turns env e values) (placeless_expr-Product parts) ∙ given-Product others turns env (map placeless_expr parts) values
      ∙ parts_alike product_op parts values all ∙ sym (given-Product decls turns env parts values))

module _ (decls : List Decl) where
  -- the value of an assignment
  assigned_alike : (turns : List Turn) (target : Ref) (value : Expr) (now : Unrolling) →
      assigned (map placeless_decl decls) turns (placeless_ref target) (placeless_expr value) now ≡ assigned decls turns target value now
  assigned_alike turns target value now =
      λ i. lifted_if (is_variable is_shared_class (declared_alike decls target.name i)) (expr_alike decls turns now.env value now.values i)

  -- an assignment
  assignment_alike : (turns : List Turn) (target : Ref) (value : Expr) (now : Unrolling) →
      assignment_unrolled (map placeless_decl decls) (placeless_ref target) (placeless_expr value) turns now ≡ assignment_unrolled decls target value turns now
  assignment_alike turns target value now = λ i. record {
    values = (assigned_alike turns target value now i).values;
    env = stored now.env (number_alike decls target.name i) (element_alike turns target i) (assigned_alike turns target value now i).operand;
  }

  -- what is claimed of a statement
  abbrev StmtAlike : Stmt → Type 0
  StmtAlike s = (turns : List Turn) (now : Unrolling) → stmt_unrolled (map placeless_decl decls) (placeless_stmt s) turns now ≡ stmt_unrolled decls s turns now

  -- the statements of a turn
  body_alike : (body : List Stmt) → AllByRecursion StmtAlike body → (turns : List Turn) (now : Unrolling) →
      fold (λ (here : Unrolling) (part : List Turn → Unrolling → Unrolling). part turns here) now (map (stmt_unrolled (map placeless_decl decls)) (map placeless_stmt body))
      ≡ fold (λ (here : Unrolling) (part : List Turn → Unrolling → Unrolling). part turns here) now (map (stmt_unrolled decls) body)
  body_alike [] all turns now = refl
  body_alike (s ∷ body) all turns now =
      ap (λ here. fold (λ (here : Unrolling) (part : List Turn → Unrolling → Unrolling). part turns here) here (map (stmt_unrolled (map placeless_decl decls)) (map placeless_stmt body))) (all.0 turns now)
      ∙ body_alike body all.1 turns (stmt_unrolled decls s turns now)

  -- the turns of a loop
  turns_alike : (name : List ℕ) (body : List Stmt) → AllByRecursion StmtAlike body → (turns : List Turn) (numbers : List ℕ) (now : Unrolling) →
      fold (λ so_far number. fold (λ (here : Unrolling) (part : List Turn → Unrolling → Unrolling). part (in_turn turns name number) here) so_far (map (stmt_unrolled (map placeless_decl decls)) (map placeless_stmt body))) now numbers
      ≡ fold (λ so_far number. fold (λ (here : Unrolling) (part : List Turn → Unrolling → Unrolling). part (in_turn turns name number) here) so_far (map (stmt_unrolled decls) body)) now numbers
  turns_alike name body all turns [] now = refl
  turns_alike name body all turns (number ∷ numbers) now =
      ap (λ so_far. fold (λ so_far number. fold (λ (here : Unrolling) (part : List Turn → Unrolling → Unrolling). part (in_turn turns name number) here) so_far (map (stmt_unrolled (map placeless_decl decls)) (map placeless_stmt body))) so_far numbers)
      (body_alike body all (in_turn turns name number) now)
      ∙ turns_alike name body all turns numbers _

  -- a statement
  stmt_alike : (s : Stmt) → StmtAlike s
  stmt_alike =
      let others = map placeless_decl decls in
      stmt_induction StmtAlike
      (λ target value turns now. ap (λ s. stmt_unrolled others s turns now) (placeless_stmt-Set target value)
      ∙ unrolled-Set others turns now (placeless_ref target) (placeless_expr value)
      ∙ assignment_alike turns target value now ∙ sym (unrolled-Set decls turns now target value))
      (λ name at from to body all turns now. ap (λ s. stmt_unrolled others s turns now) (placeless_stmt-Loop name at from to body)
      ∙ unrolled-Loop others turns now name nowhere from to (map placeless_stmt body)
      ∙ turns_alike name body all turns (turn_numbers from to) now ∙ sym (unrolled-Loop decls turns now name at from to body))

  -- statements one after the other
  stmts_alike : (body : List Stmt) (now : Unrolling) →
      fold (λ so_far s. stmt_unrolled (map placeless_decl decls) s [] so_far) now (map placeless_stmt body) ≡ fold (λ so_far s. stmt_unrolled decls s [] so_far) now body
  stmts_alike [] now = refl
  stmts_alike (s ∷ body) now =
      ap (λ so_far. fold (λ so_far s. stmt_unrolled (map placeless_decl decls) s [] so_far) so_far (map placeless_stmt body)) (stmt_alike s [] now)
      ∙ stmts_alike body (stmt_unrolled decls s [] now)

-- behind the last statement
last_alike : (p : Program) → last_unrolling (placeless p) ≡ last_unrolling p
last_alike p =
    ap (λ now. fold (λ so_far s. stmt_unrolled (map placeless_decl p.decls) s [] so_far) now (map placeless_stmt p.body)) first
    ∙ stmts_alike p.decls p.body (first_unrolling p)
  where
    first : first_unrolling (placeless p) ≡ first_unrolling p
    first = λ i. record { values = Const 0 ∷ Lift (Block 0) ∷ []; env = beginnings_alike [] p.decls i }

-- the values that a program is unrolled to
pub unrolled_alike : (p : Program) → unrolled (placeless p) ≡ unrolled p
unrolled_alike p =
    let outs = ap (λ (now : Unrolling). output_elements (map placeless_decl p.decls) now.env) (last_alike p) ∙ outs_alike p.decls (last_unrolling p).env in
    λ i. record {
      field = p.field;
      secrets = among_alike is_secret_class p.decls i;
      publics = among_alike is_public_class p.decls i;
      maps = maps_alike p.decls i;
      values = (last_alike p i).values;
      outs = outs i;
    }
