-- Places say nothing of the typing but where an offence is: those of a program without its places are the
-- offences of the program, without their places.
use Rattle.std.proofs.Common.{◌≡◌, ℕ, ◌||◌, ◌&&◌, Bool, true, false, not, List, [], ◌∷◌, ◌++◌, Option, Some, None, map, flat_map, refl, sym, ap, ◌∙◌}
use Rattle.std.specs.Prelude.{is_some, is_none, option_map}
use Rattle.std.specs.List.{AllByRecursion, list_any}
use Rattle.std.proofs.lemmas.List.{map-append}
use Rattle.mk_base.specs.declared.Place.{Place}
use Rattle.mk_field.specs.declared.field.FieldId.{FieldId}
use Rattle.mk_ast.specs.declared.tree.Program.{Program}
use Rattle.mk_ast.specs.declared.tree.Decl.{Decl}
use Rattle.mk_ast.specs.declared.tree.Stmt.{Stmt}
use Rattle.mk_ast.specs.declared.tree.Ref.{Ref}
use Rattle.mk_ast.specs.declared.tree.Expr.{Expr}
use Rattle.mk_ast.specs.declared.tree.Index.{Index}
use Rattle.mk_ast.specs.declared.tree.Link.{Link}
use Rattle.mk_ast.specs.Places.{nowhere, placeless_index, placeless_ref, placeless_expr, placeless_stmt, placeless_decl, placeless}
use Rattle.mk_ast.proofs.Induction.{index_induction, expr_induction, stmt_induction}
use Rattle.mk_ast.proofs.Layers.{placeless_link, placeless_index-Num, placeless_index-Var, placeless_index-Sum, placeless_index-Chain, placeless_link-Times, placeless_expr-Lit, placeless_expr-Read, placeless_expr-Sq, placeless_expr-Apply, placeless_expr-Sum, placeless_expr-Product, placeless_stmt-Set, placeless_stmt-Loop}
use Rattle.mk_types.specs.declared.offence.Offence.{Offence}
use Rattle.mk_types.specs.declared.offence.OffenceKind.{OffenceKind}
use Rattle.mk_types.specs.declared.offence.OffenceKind.TheVariants as kind_
use Rattle.mk_types.specs.Scope.{Scope, inside, declared, is_loop, is_unknown, is_shared, is_variable, is_input_class, is_local_public_class, is_shared_class, names}
use Rattle.mk_types.specs.Offences.{when, index_name_offences, index_offences, link_offences, subscript_offences, is_no_variable_so, reference_offences, map_name_offences, is_no_bit, expr_offences, target_offences, assignment_offences, loop_name_offences, stmt_offences, is_no_map_of, decl_offences, decls_offences, scope_of, offences}
use Rattle.mk_types.proofs.Layers.{names-Lit, names-Read, names-Sq, names-Apply, names-Sum, names-Product, index-Num, index-Var, index-Sum, index-Chain, link-Times, link-Mod, expr-Lit, expr-Read, expr-Sq, expr-Apply, expr-Sum, expr-Product, stmt-Set, stmt-Loop}
use Rattle.mk_gen.proofs.AlikeUnits.{declared_alike, placeless_link-Mod}

-- an offence without its place
abbrev pub placeless_offence : Offence → Offence
placeless_offence x = record { at = nowhere; kind = x.kind }

-- offences without their places
abbrev pub placeless_offences : List Offence → List Offence
placeless_offences xs = map placeless_offence xs

-- a scope without its places
abbrev placeless_scope : Scope → Scope
placeless_scope s = record { field = s.field; decls = map placeless_decl s.decls; loops = s.loops }

-- an offence where there is one
when_alike : (b : Bool) (at : Place) (kind : OffenceKind) → when b nowhere kind ≡ placeless_offences (when b at kind)
when_alike true at why = refl
when_alike false at why = refl

-- by a test that says the same
when_same : (b d : Bool) (at : Place) (kind : OffenceKind) → b ≡ d → when b nowhere kind ≡ placeless_offences (when d at kind)
when_same b d at kind same = ap (λ c. when c nowhere kind) same ∙ when_alike d at kind

-- these and then those
offences_both : (xs ys us vs : List Offence) → us ≡ placeless_offences xs → vs ≡ placeless_offences ys → us ++ vs ≡ placeless_offences (xs ++ ys)
offences_both xs ys us vs first second = (λ i. first i ++ second i) ∙ sym (map-append placeless_offence xs ys)

-- those of each
offences_of_each : {A B : Type 0} (v : A → B) (f : A → List Offence) (g : B → List Offence) (xs : List A) →
    AllByRecursion (λ x. g (v x) ≡ placeless_offences (f x)) xs → flat_map g (map v xs) ≡ placeless_offences (flat_map f xs)
offences_of_each v f g [] all = refl
offences_of_each v f g (x ∷ xs) all = offences_both (f x) (flat_map f xs) (g (v x)) (flat_map g (map v xs)) all.0 (offences_of_each v f g xs all.1)

-- the names of each
names_of_each : (parts : List Expr) → AllByRecursion (λ e. names (placeless_expr e) ≡ names e) parts → flat_map names (map placeless_expr parts) ≡ flat_map names parts
names_of_each [] all = refl
names_of_each (e ∷ parts) all = λ i. all.0 i ++ names_of_each parts all.1 i

-- the names of an expression
names_alike : (e : Expr) → names (placeless_expr e) ≡ names e
names_alike =
    expr_induction (λ e. names (placeless_expr e) ≡ names e)
    (λ value at. ap names (placeless_expr-Lit value at) ∙ names-Lit value nowhere ∙ sym (names-Lit value at))
    (λ from. ap names (placeless_expr-Read from) ∙ names-Read (placeless_ref from) ∙ sym (names-Read from))
    (λ arg same. ap names (placeless_expr-Sq arg) ∙ names-Sq (placeless_expr arg) ∙ same ∙ sym (names-Sq arg))
    (λ name at arg same. ap names (placeless_expr-Apply name at arg) ∙ names-Apply name nowhere (placeless_expr arg) ∙ ap (λ ns. name ∷ ns) same ∙ sym (names-Apply name at arg))
    (λ parts all. ap names (placeless_expr-Sum parts) ∙ names-Sum (map placeless_expr parts) ∙ names_of_each parts all ∙ sym (names-Sum parts))
    (λ parts all. ap names (placeless_expr-Product parts) ∙ names-Product (map placeless_expr parts) ∙ names_of_each parts all ∙ sym (names-Product parts))

-- whether it is shared
shared_alike : (decls : List Decl) (e : Expr) → is_shared (map placeless_decl decls) (placeless_expr e) ≡ is_shared decls e
unfolding is_shared
shared_alike decls e =
    λ i. list_any (λ name. is_variable is_shared_class (declared_alike decls name i)) (names_alike e i)

module _ (s : Scope) where
  -- whether a name is unknown
  unknown_alike : (name : List ℕ) → is_unknown (placeless_scope s) name ≡ is_unknown s name
  unknown_alike name = ap (λ what. is_none what && not (is_loop s name)) (declared_alike s.decls name)

  -- a name in an index
  index_name_alike : (name : List ℕ) (at : Place) → index_name_offences (placeless_scope s) name nowhere ≡ placeless_offences (index_name_offences s name at)
  index_name_alike name at =
      offences_both (when (is_unknown s name) at kind_.Unknown) _ _ _
      (when_same _ (is_unknown s name) at kind_.Unknown (unknown_alike name))
      (when_same _ (is_some (declared s.decls name)) at kind_.Kind (ap is_some (declared_alike s.decls name)))

  -- what is claimed of an index
  abbrev IndexAlike : Index → Type 0
  IndexAlike i = index_offences (placeless_scope s) (placeless_index i) ≡ placeless_offences (index_offences s i)

  -- and of a link
  abbrev LinkAlike : Link → Type 0
  LinkAlike l = link_offences (placeless_scope s) (placeless_link l) ≡ placeless_offences (link_offences s l)

  -- an index
  index_alike : (i : Index) → IndexAlike i
  index_alike =
      let t = placeless_scope s in
      index_induction IndexAlike LinkAlike
      (λ n. ap (index_offences t) (placeless_index-Num n) ∙ index-Num t n ∙ ap placeless_offences (sym (index-Num s n)))
      (λ name at. ap (index_offences t) (placeless_index-Var name at) ∙ index-Var t name nowhere ∙ index_name_alike name at
      ∙ ap placeless_offences (sym (index-Var s name at)))
      (λ parts all. ap (index_offences t) (placeless_index-Sum parts) ∙ index-Sum t (map placeless_index parts)
      ∙ offences_of_each placeless_index (index_offences s) (index_offences t) parts all ∙ ap placeless_offences (sym (index-Sum s parts)))
      (λ first links same all. ap (index_offences t) (placeless_index-Chain first links) ∙ index-Chain t (placeless_index first) (map placeless_link links)
      ∙ offences_both (index_offences s first) _ _ _ same (offences_of_each placeless_link (link_offences s) (link_offences t) links all)
      ∙ ap placeless_offences (sym (index-Chain s first links)))
      (λ by same. ap (link_offences t) (placeless_link-Times by) ∙ link-Times t (placeless_index by) ∙ same ∙ ap placeless_offences (sym (link-Times s by)))
      (λ n. ap (link_offences t) (placeless_link-Mod n) ∙ link-Mod t n ∙ ap placeless_offences (sym (link-Mod s n)))

  -- the index in brackets
  subscript_alike : (index : Option Index) → subscript_offences (placeless_scope s) (option_map placeless_index index) ≡ placeless_offences (subscript_offences s index)
  subscript_alike None = refl
  subscript_alike (Some i) = index_alike i

  -- whether there is one
  indexed_alike : (index : Option Index) → is_some (option_map placeless_index index) ≡ is_some index
  indexed_alike None = refl
  indexed_alike (Some i) = refl

  -- a reference
  reference_alike : (r : Ref) → reference_offences (placeless_scope s) (placeless_ref r) ≡ placeless_offences (reference_offences s r)
  reference_alike r =
      let unknown = is_unknown s r.name in
      let wrong = is_loop s r.name || is_no_variable_so (declared s.decls r.name) (is_some r.index) in
      offences_both (when unknown r.at kind_.Unknown ++ when wrong r.at kind_.Kind) _ _ _
      (offences_both (when unknown r.at kind_.Unknown) _ _ _
      (when_same _ unknown r.at kind_.Unknown (unknown_alike r.name))
      (when_same _ wrong r.at kind_.Kind (λ i. is_loop s r.name || is_no_variable_so (declared_alike s.decls r.name i) (indexed_alike r.index i))))
      (subscript_alike r.index)

  -- the name before an argument
  map_name_alike : (name : List ℕ) (at : Place) → map_name_offences (placeless_scope s) name nowhere ≡ placeless_offences (map_name_offences s name at)
  map_name_alike name at =
      offences_both (when (is_unknown s name) at kind_.Unknown) _ _ _
      (when_same _ (is_unknown s name) at kind_.Unknown (unknown_alike name))
      (when_same _ (is_loop s name || is_variable (λ class. true) (declared s.decls name)) at kind_.Kind
      (ap (λ what. is_loop s name || is_variable (λ class. true) what) (declared_alike s.decls name)))

  -- what is claimed of an expression
  abbrev ExprAlike : Expr → Type 0
  ExprAlike e = expr_offences (placeless_scope s) (placeless_expr e) ≡ placeless_offences (expr_offences s e)

  -- an expression
  expr_alike : (e : Expr) → ExprAlike e
  expr_alike =
      let t = placeless_scope s in
      expr_induction ExprAlike
      (λ value at. ap (expr_offences t) (placeless_expr-Lit value at) ∙ expr-Lit t value nowhere ∙ when_alike (is_no_bit s.field value) at kind_.Kind
      ∙ ap placeless_offences (sym (expr-Lit s value at)))
      (λ from. ap (expr_offences t) (placeless_expr-Read from) ∙ expr-Read t (placeless_ref from) ∙ reference_alike from ∙ ap placeless_offences (sym (expr-Read s from)))
      (λ arg same. ap (expr_offences t) (placeless_expr-Sq arg) ∙ expr-Sq t (placeless_expr arg) ∙ same ∙ ap placeless_offences (sym (expr-Sq s arg)))
      (λ name at arg same. ap (expr_offences t) (placeless_expr-Apply name at arg) ∙ expr-Apply t name nowhere (placeless_expr arg)
      ∙ offences_both (map_name_offences s name at) _ _ _ (map_name_alike name at) same ∙ ap placeless_offences (sym (expr-Apply s name at arg)))
      (λ parts all. ap (expr_offences t) (placeless_expr-Sum parts) ∙ expr-Sum t (map placeless_expr parts)
      ∙ offences_of_each placeless_expr (expr_offences s) (expr_offences t) parts all ∙ ap placeless_offences (sym (expr-Sum s parts)))
      (λ parts all. ap (expr_offences t) (placeless_expr-Product parts) ∙ expr-Product t (map placeless_expr parts)
      ∙ offences_of_each placeless_expr (expr_offences s) (expr_offences t) parts all ∙ ap placeless_offences (sym (expr-Product s parts)))

  -- a target
  target_alike : (target : Ref) (value : Expr) →
      target_offences (placeless_scope s) (placeless_ref target) (placeless_expr value) ≡ placeless_offences (target_offences s target value)
  target_alike target value =
      offences_both (when (is_variable is_input_class (declared s.decls target.name)) target.at kind_.AssignInput) _ _ _
      (when_same _ (is_variable is_input_class (declared s.decls target.name)) target.at kind_.AssignInput (ap (is_variable is_input_class) (declared_alike s.decls target.name)))
      (when_same _ (is_variable is_local_public_class (declared s.decls target.name) && is_shared s.decls value) target.at kind_.Kind
      (λ i. is_variable is_local_public_class (declared_alike s.decls target.name i) && shared_alike s.decls value i))

  -- an assignment
  assignment_alike : (target : Ref) (value : Expr) →
      assignment_offences (placeless_scope s) (placeless_ref target) (placeless_expr value) ≡ placeless_offences (assignment_offences s target value)
  assignment_alike target value =
      offences_both (target_offences s target value ++ reference_offences s target) _ _ _
      (offences_both (target_offences s target value) _ _ _ (target_alike target value) (reference_alike target)) (expr_alike value)

  -- the name of a loop
  loop_name_alike : (name : List ℕ) (at : Place) → loop_name_offences (placeless_scope s) name nowhere ≡ placeless_offences (loop_name_offences s name at)
  loop_name_alike name at =
      when_same _ (is_some (declared s.decls name) || is_loop s name) at kind_.Twice (ap (λ what. is_some what || is_loop s name) (declared_alike s.decls name))

-- what is claimed of a statement
abbrev StmtAlike : Stmt → Type 0
StmtAlike t = (s : Scope) → stmt_offences (placeless_stmt t) (placeless_scope s) ≡ placeless_offences (stmt_offences t s)

-- the statements in a scope
stmts_alike : (s : Scope) (body : List Stmt) → AllByRecursion StmtAlike body →
    AllByRecursion (λ t. stmt_offences (placeless_stmt t) (placeless_scope s) ≡ placeless_offences (stmt_offences t s)) body
stmts_alike s [] all = tt
stmts_alike s (t ∷ body) all = (all.0 s, stmts_alike s body all.1)

-- a statement
stmt_alike : (t : Stmt) → StmtAlike t
stmt_alike =
    stmt_induction StmtAlike
    (λ target value s. ap (λ t. stmt_offences t (placeless_scope s)) (placeless_stmt-Set target value)
    ∙ stmt-Set (placeless_ref target) (placeless_expr value) (placeless_scope s) ∙ assignment_alike s target value
    ∙ ap placeless_offences (sym (stmt-Set target value s)))
    (λ name at from to body all s. ap (λ t. stmt_offences t (placeless_scope s)) (placeless_stmt-Loop name at from to body)
    ∙ stmt-Loop name nowhere from to (map placeless_stmt body) (placeless_scope s)
    ∙ offences_both (loop_name_offences s name at) _ _ _ (loop_name_alike s name at)
    (offences_of_each placeless_stmt (λ t. stmt_offences t (inside s name)) (λ t. stmt_offences t (placeless_scope (inside s name))) body (stmts_alike (inside s name) body all))
    ∙ ap placeless_offences (sym (stmt-Loop name at from to body s)))

-- declarations
decls_alike : (field : FieldId) (earlier decls : List Decl) →
    decls_offences field (map placeless_decl earlier) (map placeless_decl decls) ≡ placeless_offences (decls_offences field earlier decls)
decls_alike field earlier [] = refl
decls_alike field earlier (d ∷ decls) =
    offences_both (decl_offences field earlier d) _ _ _
    (offences_both (when (is_some (declared earlier d.name)) d.at kind_.Twice) _ _ _
    (when_same _ (is_some (declared earlier d.name)) d.at kind_.Twice (ap is_some (declared_alike earlier d.name)))
    (when_alike (is_no_map_of field d.what) d.at kind_.MapForm))
    (ap (λ ds. decls_offences field ds (map placeless_decl decls)) (sym (map-append placeless_decl earlier (d ∷ []))) ∙ decls_alike field (earlier ++ d ∷ []) decls)

-- the offences of a program
pub offences_alike : (p : Program) → offences (placeless p) ≡ placeless_offences (offences p)
offences_alike p =
    offences_both (decls_offences p.field [] p.decls) _ _ _ (decls_alike p.field [] p.decls)
    (offences_of_each placeless_stmt (λ s. stmt_offences s (scope_of p)) (λ s. stmt_offences s (placeless_scope (scope_of p))) p.body (stmts_alike (scope_of p) p.body (all p.body)))
  where
    all : (body : List Stmt) → AllByRecursion StmtAlike body
    all [] = tt
    all (s ∷ body) = (stmt_alike s, all body)
