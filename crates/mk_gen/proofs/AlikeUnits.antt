-- Places say nothing of the units of work but where a fault is: those of a program without its places are
-- the units of the program, without their places.
use Rattle.std.proofs.Common.{◌≡◌, ℕ, ◌+◌, ◌*◌, ◌%◌, ltb, Bool, true, false, not, cond, List, [], ◌∷◌, ◌++◌, Option, Some, None, map, flat_map, bytes_eq, refl, sym, ap, ◌∙◌}
use Rattle.std.specs.Prelude.{fold, find, unwrap_or, option_map}
use Rattle.std.specs.List.{AllByRecursion}
use Rattle.std.proofs.lemmas.List.{map-append}
use Rattle.mk_base.specs.declared.Place.{Place}
use Rattle.mk_ast.specs.declared.tree.Program.{Program}
use Rattle.mk_ast.specs.declared.tree.Decl.{Decl}
use Rattle.mk_ast.specs.declared.tree.Stmt.{Stmt}
use Rattle.mk_ast.specs.declared.tree.Ref.{Ref}
use Rattle.mk_ast.specs.declared.tree.Expr.{Expr}
use Rattle.mk_ast.specs.declared.tree.Index.{Index}
use Rattle.mk_ast.specs.declared.tree.Index.TheOpen.{Link-F}
use Rattle.mk_ast.specs.declared.tree.Index.TheFolds.{fold-roll-Link}
use Rattle.mk_ast.specs.declared.tree.Index.TheViews as index_views
use Rattle.mk_ast.specs.declared.tree.Link.{Link}
use Rattle.mk_ast.specs.declared.tree.Link.TheVariants as link
use Rattle.mk_ast.specs.Places.{nowhere, placeless_index_layer, placeless_link_layer, placeless_index, placeless_ref, placeless_expr, placeless_stmt, placeless_decl, placeless}
use Rattle.mk_ast.proofs.Induction.{index_induction, expr_induction, stmt_induction}
use Rattle.mk_ast.proofs.Layers.{placeless_link, placeless_index-Num, placeless_index-Var, placeless_index-Sum, placeless_index-Chain, placeless_link-Times, placeless_expr-Lit, placeless_expr-Read, placeless_expr-Sq, placeless_expr-Apply, placeless_expr-Sum, placeless_expr-Product, placeless_stmt-Set, placeless_stmt-Loop}
use Rattle.mk_types.specs.Scope.{declared}
use Rattle.mk_types.specs.Turns.{Turn, in_turn, turn_numbers}
use Rattle.mk_types.specs.Elements.{elements_in, elements_of, array_size}
use Rattle.mk_types.specs.Units.{WorkUnit, Step, Operation, Fault, Evaluated, fault_if, operator, behind, plus_part, sum_of_parts, evaluated, linked, reference_units, parts_units, expr_units, turn_units, stmt_units, up_to_fault, units}
use Rattle.mk_types.proofs.ExecutionLayers.{evaluated-Num, evaluated-Var, evaluated-Sum, evaluated-Chain, linked-Times, linked-Mod, units-Lit, units-Read, units-Sq, units-Apply, units-Sum, units-Product, units-Set, units-Loop}

-- what is declared has no place
pub declared_alike : (decls : List Decl) (name : List ℕ) → declared (map placeless_decl decls) name ≡ declared decls name
declared_alike [] name = refl
declared_alike (d ∷ decls) name = by (bytes_eq name d.name) (declared_alike decls name)
  where
    by : (b : Bool) → declared (map placeless_decl decls) name ≡ declared decls name →
        option_map (λ (e : Decl). e.what) (cond b (Some (placeless_decl d)) (find (λ e. bytes_eq name e.name) (map placeless_decl decls)))
        ≡ option_map (λ (e : Decl). e.what) (cond b (Some d) (find (λ e. bytes_eq name e.name) decls))
    by true rest = refl
    by false rest = rest

-- nor has the size of an array
size_alike : (decls : List Decl) (name : List ℕ) → array_size (map placeless_decl decls) name ≡ array_size decls name
size_alike decls name = ap (λ what. unwrap_or (option_map (elements_in (λ class. true)) what) 0) (declared_alike decls name)

-- a unit without its place
abbrev pub placeless_unit : WorkUnit → WorkUnit
placeless_unit Step = Step
placeless_unit Operation = Operation
placeless_unit (Fault at) = Fault nowhere

-- units without their places
abbrev pub placeless_units : List WorkUnit → List WorkUnit
placeless_units us = map placeless_unit us

-- the units of finding an index, without their places
abbrev moved : Evaluated → Evaluated
moved e = record { value = e.value; units = placeless_units e.units }

-- a remainder has no place
pub placeless_link-Mod : (n : ℕ) → placeless_link (link.Mod n) ≡ link.Mod n
placeless_link-Mod n = ap placeless_link (sym (index_views.rolls-Mod n)) ∙ fold-roll-Link Index Link placeless_index_layer placeless_link_layer (Link-F.Mod n)

-- a fault
fault_moved : (b : Bool) (at : Place) → fault_if b nowhere ≡ placeless_units (fault_if b at)
fault_moved true at = refl
fault_moved false at = refl

-- an operator
operator_moved : (at : Place) (value : ℕ) (us : List WorkUnit) → operator nowhere value (placeless_units us) ≡ moved (operator at value us)
operator_moved at value us =
    ap (λ vs. record { value = value; units = vs })
    (ap (λ vs. placeless_units us ++ Step ∷ vs) (fault_moved (ltb 65535 value) at) ∙ sym (map-append placeless_unit us (Step ∷ fault_if (ltb 65535 value) at)))

-- one more operator behind others
behind_moved : (e : Evaluated) (f g : ℕ → Evaluated) → ((so_far : ℕ) → g so_far ≡ moved (f so_far)) → behind (moved e) g ≡ moved (behind e f)
behind_moved e f g same =
    ap (λ (next : Evaluated). record { value = next.value; units = placeless_units e.units ++ next.units }) (same e.value)
    ∙ ap (λ us. record { value = (f e.value).value; units = us }) (sym (map-append placeless_unit e.units (f e.value).units))

module _ (at : Place) (turns : List Turn) where
  -- what is claimed of an index
  abbrev IndexAlike : Index → Type 0
  IndexAlike i = evaluated nowhere turns (placeless_index i) ≡ moved (evaluated at turns i)

  -- and of a link
  abbrev LinkAlike : Link → Type 0
  LinkAlike l = (so_far : ℕ) → linked nowhere turns (placeless_link l) so_far ≡ moved (linked at turns l so_far)

  -- one more part of a sum
  part_alike : (i : Index) → IndexAlike i → (so_far : ℕ) →
      plus_part nowhere (evaluated nowhere turns (placeless_index i)) so_far ≡ moved (plus_part at (evaluated at turns i) so_far)
  part_alike i same so_far =
      ap (λ part. plus_part nowhere part so_far) same ∙ operator_moved at (so_far + (evaluated at turns i).value) (evaluated at turns i).units

  -- the parts of a sum
  parts_alike : (parts : List Index) (e : Evaluated) → AllByRecursion IndexAlike parts →
      fold (λ so_far part. behind so_far (plus_part nowhere part)) (moved e) (map (evaluated nowhere turns) (map placeless_index parts))
      ≡ moved (fold (λ so_far part. behind so_far (plus_part at part)) e (map (evaluated at turns) parts))
  parts_alike [] e all = refl
  parts_alike (i ∷ parts) e all =
      ap (λ so_far. fold (λ so_far part. behind so_far (plus_part nowhere part)) so_far (map (evaluated nowhere turns) (map placeless_index parts)))
      (behind_moved e (plus_part at (evaluated at turns i)) (plus_part nowhere (evaluated nowhere turns (placeless_index i))) (part_alike i all.0))
      ∙ parts_alike parts (behind e (plus_part at (evaluated at turns i))) all.1

  -- a sum
  sum_alike : (parts : List Index) → AllByRecursion IndexAlike parts →
      sum_of_parts nowhere (map (evaluated nowhere turns) (map placeless_index parts)) ≡ moved (sum_of_parts at (map (evaluated at turns) parts))
  sum_alike [] all = refl
  sum_alike (i ∷ parts) all =
      ap (λ so_far. fold (λ so_far part. behind so_far (plus_part nowhere part)) so_far (map (evaluated nowhere turns) (map placeless_index parts))) all.0
      ∙ parts_alike parts (evaluated at turns i) all.1

  -- a chain
  links_alike : (links : List Link) (e : Evaluated) → AllByRecursion LinkAlike links →
      fold behind (moved e) (map (linked nowhere turns) (map placeless_link links)) ≡ moved (fold behind e (map (linked at turns) links))
  links_alike [] e all = refl
  links_alike (l ∷ links) e all =
      ap (λ so_far. fold behind so_far (map (linked nowhere turns) (map placeless_link links)))
      (behind_moved e (linked at turns l) (linked nowhere turns (placeless_link l)) all.0)
      ∙ links_alike links (behind e (linked at turns l)) all.1

  -- an index
  pub index_alike : (i : Index) → IndexAlike i
  index_alike =
      index_induction IndexAlike LinkAlike
      (λ n. ap (evaluated nowhere turns) (placeless_index-Num n) ∙ evaluated-Num nowhere turns n ∙ ap moved (sym (evaluated-Num at turns n)))
      (λ name name_at. ap (evaluated nowhere turns) (placeless_index-Var name name_at) ∙ evaluated-Var nowhere turns name nowhere
      ∙ ap moved (sym (evaluated-Var at turns name name_at)))
      (λ parts all. ap (evaluated nowhere turns) (placeless_index-Sum parts) ∙ evaluated-Sum nowhere turns (map placeless_index parts)
      ∙ sum_alike parts all ∙ ap moved (sym (evaluated-Sum at turns parts)))
      (λ first links same all. ap (evaluated nowhere turns) (placeless_index-Chain first links)
      ∙ evaluated-Chain nowhere turns (placeless_index first) (map placeless_link links)
      ∙ ap (λ so_far. fold behind so_far (map (linked nowhere turns) (map placeless_link links))) same
      ∙ links_alike links (evaluated at turns first) all ∙ ap moved (sym (evaluated-Chain at turns first links)))
      (λ by same so_far. ap (λ l. linked nowhere turns l so_far) (placeless_link-Times by) ∙ linked-Times nowhere turns (placeless_index by) so_far
      ∙ ap (λ (part : Evaluated). operator nowhere (so_far * part.value) part.units) same
      ∙ operator_moved at (so_far * (evaluated at turns by).value) (evaluated at turns by).units ∙ ap moved (sym (linked-Times at turns by so_far)))
      (λ n so_far. ap (λ l. linked nowhere turns l so_far) (placeless_link-Mod n) ∙ linked-Mod nowhere turns n so_far
      ∙ operator_moved at (so_far % n) [] ∙ ap moved (sym (linked-Mod at turns n so_far)))

-- these and then those
units_both : (us vs ws zs : List WorkUnit) → ws ≡ placeless_units us → zs ≡ placeless_units vs → ws ++ zs ≡ placeless_units (us ++ vs)
units_both us vs ws zs first second = (λ i. first i ++ second i) ∙ sym (map-append placeless_unit us vs)

-- those of each
units_of_each : {A B : Type 0} (v : A → B) (f : A → List WorkUnit) (g : B → List WorkUnit) (xs : List A) →
    AllByRecursion (λ x. g (v x) ≡ placeless_units (f x)) xs → flat_map g (map v xs) ≡ placeless_units (flat_map f xs)
units_of_each v f g [] all = refl
units_of_each v f g (x ∷ xs) all = units_both (f x) (flat_map f xs) (g (v x)) (flat_map g (map v xs)) all.0 (units_of_each v f g xs all.1)

module _ (decls : List Decl) (turns : List Turn) where
  -- a reference, by its index
  cell_alike : (name : List ℕ) (at : Place) (index : Option Index) →
      reference_units (map placeless_decl decls) turns (placeless_ref (record { name = name; at = at; index = index }))
      ≡ placeless_units (reference_units decls turns (record { name = name; at = at; index = index }))
  cell_alike name at None = refl
  cell_alike name at (Some i) =
      let here = evaluated at turns i in
      let past = not (ltb here.value (array_size decls name)) in
      ap (λ (e : Evaluated). e.units ++ fault_if (not (ltb e.value (array_size (map placeless_decl decls) name))) nowhere) (index_alike at turns i)
      ∙ ap (λ size. placeless_units here.units ++ fault_if (not (ltb here.value size)) nowhere) (size_alike decls name)
      ∙ ap (λ us. placeless_units here.units ++ us) (fault_moved past at)
      ∙ sym (map-append placeless_unit here.units (fault_if past at))

  -- a reference
  reference_alike : (r : Ref) → reference_units (map placeless_decl decls) turns (placeless_ref r) ≡ placeless_units (reference_units decls turns r)
  reference_alike r = cell_alike r.name r.at r.index

  -- what is claimed of an expression
  abbrev ExprAlike : Expr → Type 0
  ExprAlike e = expr_units (map placeless_decl decls) turns (placeless_expr e) ≡ placeless_units (expr_units decls turns e)

  -- behind an operand its operation
  operand_alike : (e : Expr) → ExprAlike e →
      expr_units (map placeless_decl decls) turns (placeless_expr e) ++ Operation ∷ [] ≡ placeless_units (expr_units decls turns e ++ Operation ∷ [])
  operand_alike e same = units_both (expr_units decls turns e) (Operation ∷ []) _ (Operation ∷ []) same refl

  -- the parts of a sum or a product behind the first
  rest_alike : (parts : List Expr) → AllByRecursion ExprAlike parts →
      flat_map (λ part. part ++ Operation ∷ []) (map (expr_units (map placeless_decl decls) turns) (map placeless_expr parts))
      ≡ placeless_units (flat_map (λ part. part ++ Operation ∷ []) (map (expr_units decls turns) parts))
  rest_alike [] all = refl
  rest_alike (e ∷ parts) all = units_both (expr_units decls turns e ++ Operation ∷ []) _ _ _ (operand_alike e all.0) (rest_alike parts all.1)

  -- all parts
  operands_alike : (parts : List Expr) → AllByRecursion ExprAlike parts →
      parts_units (map (expr_units (map placeless_decl decls) turns) (map placeless_expr parts)) ≡ placeless_units (parts_units (map (expr_units decls turns) parts))
  operands_alike [] all = refl
  operands_alike (e ∷ parts) all = units_both (expr_units decls turns e) _ _ _ all.0 (rest_alike parts all.1)

  -- an expression
  expr_alike : (e : Expr) → ExprAlike e
  expr_alike =
      let others = map placeless_decl decls in
      expr_induction ExprAlike
      (λ value at. ap (expr_units others turns) (placeless_expr-Lit value at) ∙ units-Lit others turns value nowhere ∙ ap placeless_units (sym (units-Lit decls turns value at)))
      (λ from. ap (expr_units others turns) (placeless_expr-Read from) ∙ units-Read others turns (placeless_ref from) ∙ reference_alike from
      ∙ ap placeless_units (sym (units-Read decls turns from)))
      (λ arg same. ap (expr_units others turns) (placeless_expr-Sq arg) ∙ units-Sq others turns (placeless_expr arg) ∙ operand_alike arg same
      ∙ ap placeless_units (sym (units-Sq decls turns arg)))
      (λ name at arg same. ap (expr_units others turns) (placeless_expr-Apply name at arg) ∙ units-Apply others turns name nowhere (placeless_expr arg)
      ∙ operand_alike arg same ∙ ap placeless_units (sym (units-Apply decls turns name at arg)))
      (λ parts all. ap (expr_units others turns) (placeless_expr-Sum parts) ∙ units-Sum others turns (map placeless_expr parts) ∙ operands_alike parts all
      ∙ ap placeless_units (sym (units-Sum decls turns parts)))
      (λ parts all. ap (expr_units others turns) (placeless_expr-Product parts) ∙ units-Product others turns (map placeless_expr parts) ∙ operands_alike parts all
      ∙ ap placeless_units (sym (units-Product decls turns parts)))

module _ (decls : List Decl) where
  -- what is claimed of a statement
  abbrev StmtAlike : Stmt → Type 0
  StmtAlike s = (turns : List Turn) → stmt_units (map placeless_decl decls) (placeless_stmt s) turns ≡ placeless_units (stmt_units decls s turns)

  -- the statements of a turn
  body_alike : (body : List Stmt) (turns : List Turn) → AllByRecursion StmtAlike body →
      flat_map (λ part. part turns) (map (stmt_units (map placeless_decl decls)) (map placeless_stmt body))
      ≡ placeless_units (flat_map (λ part. part turns) (map (stmt_units decls) body))
  body_alike [] turns all = refl
  body_alike (s ∷ body) turns all = units_both (stmt_units decls s turns) _ _ _ (all.0 turns) (body_alike body turns all.1)

  -- the turns of a loop
  turns_alike : (name : List ℕ) (body : List Stmt) (turns : List Turn) (numbers : List ℕ) → AllByRecursion StmtAlike body →
      flat_map (λ number. turn_units (map (stmt_units (map placeless_decl decls)) (map placeless_stmt body)) (in_turn turns name number)) numbers
      ≡ placeless_units (flat_map (λ number. turn_units (map (stmt_units decls) body) (in_turn turns name number)) numbers)
  turns_alike name body turns [] all = refl
  turns_alike name body turns (number ∷ numbers) all =
      units_both (turn_units (map (stmt_units decls) body) (in_turn turns name number)) _ _ _
      (ap (λ us. Step ∷ us) (body_alike body (in_turn turns name number) all)) (turns_alike name body turns numbers all)

  -- a statement
  stmt_alike : (s : Stmt) → StmtAlike s
  stmt_alike =
      let others = map placeless_decl decls in
      stmt_induction StmtAlike
      (λ target value turns. ap (λ s. stmt_units others s turns) (placeless_stmt-Set target value)
      ∙ units-Set others (placeless_ref target) (placeless_expr value) turns
      ∙ ap (λ us. Step ∷ us) (units_both (expr_units decls turns value) (reference_units decls turns target) _ _
      (expr_alike decls turns value) (reference_alike decls turns target))
      ∙ ap placeless_units (sym (units-Set decls target value turns)))
      (λ name at from to body all turns. ap (λ s. stmt_units others s turns) (placeless_stmt-Loop name at from to body)
      ∙ units-Loop others name nowhere from to (map placeless_stmt body) turns
      ∙ ap (λ us. Step ∷ us) (turns_alike name body turns (turn_numbers from to) all)
      ∙ ap placeless_units (sym (units-Loop decls name at from to body turns)))

-- up to the first fault
up_to_fault_alike : (us : List WorkUnit) → up_to_fault (placeless_units us) ≡ placeless_units (up_to_fault us)
up_to_fault_alike [] = refl
up_to_fault_alike (Step ∷ us) = ap (λ vs. Step ∷ vs) (up_to_fault_alike us)
up_to_fault_alike (Operation ∷ us) = ap (λ vs. Operation ∷ vs) (up_to_fault_alike us)
up_to_fault_alike (Fault at ∷ us) = refl

-- the units of a program
pub units_alike : (p : Program) → units (placeless p) ≡ placeless_units (units p)
units_alike p =
    ap up_to_fault (units_of_each placeless_stmt (λ s. stmt_units p.decls s []) (λ s. stmt_units (map placeless_decl p.decls) s []) p.body (all p.body))
    ∙ up_to_fault_alike (flat_map (λ s. stmt_units p.decls s []) p.body)
  where
    all : (body : List Stmt) → AllByRecursion (λ s. stmt_units (map placeless_decl p.decls) (placeless_stmt s) [] ≡ placeless_units (stmt_units p.decls s [])) body
    all [] = tt
    all (s ∷ body) = (stmt_alike p.decls s [], all body)

-- the elements that it declares
pub elements_alike : (p : Program) → elements_of (placeless p) ≡ elements_of p
elements_alike p = each p.decls 0
  where
    each : (decls : List Decl) (n : ℕ) →
        fold (λ m d. m + elements_in (λ class. true) d.what) n (map placeless_decl decls) ≡ fold (λ m (d : Decl). m + elements_in (λ class. true) d.what) n decls
    each [] n = refl
    each (d ∷ decls) n = each decls (n + elements_in (λ class. true) d.what)
