-- What an expression gives stands for its value, and is shared where the expression is.
use Rattle.std.proofs.Common.{◌≡◌, ℕ, ◌<◌, Bool, true, false, ◌||◌, List, [], ◌∷◌, ◌++◌, map, flat_map, bit_xor, length, refl, sym, ap, subst, ◌∙◌, arith}
use Rattle.std.specs.Prelude.{fold}
use Rattle.std.specs.List.{AllByRecursion, list_any}
use Rattle.std.proofs.Math.Bool.{or-false}
use Rattle.mk_base.specs.declared.Place.{Place}
use Rattle.mk_field.specs.declared.map.AddMap.{AddMap}
use Rattle.mk_field.specs.Field.{size, product, square, image, image_by}
use Rattle.mk_ast.specs.declared.tree.Ref.{Ref}
use Rattle.mk_ast.specs.declared.tree.Expr.{Expr}
use Rattle.mk_ast.specs.declared.tree.Expr.TheVariants as expr
use Rattle.mk_ast.specs.Regular.{IsRegularDecl}
use Rattle.mk_ast.proofs.Induction.{expr_induction}
use Rattle.mk_ssa.specs.declared.Operand.{Operand}
use Rattle.mk_ssa.specs.declared.Operand.TheVariants.{Block}
use Rattle.mk_ssa.specs.declared.Op.{Op}
use Rattle.mk_ssa.specs.declared.Op.TheVariants.{Const}
use Rattle.mk_ssa.specs.Values.{IsDraft}
use Rattle.mk_types.specs.declared.offence.OffenceKind.TheVariants as kind_
use Rattle.mk_types.specs.Scope.{Scope, declared, is_variable, is_shared_class, is_shared}
use Rattle.mk_types.specs.Turns.{Turn}
use Rattle.mk_types.specs.Elements.{number_of, maps_of, map_number}
use Rattle.mk_types.specs.Units.{Operation, element_number, expr_units}
use Rattle.mk_types.specs.Environment.{Environment, element}
use Rattle.mk_types.specs.Meaning.{map_of, expr_value}
use Rattle.mk_types.specs.Offences.{is_no_bit, map_name_offences, expr_offences, decls_offences}
use Rattle.mk_types.proofs.Layers.{expr-Lit, expr-Read, expr-Sq, expr-Apply, expr-Sum, expr-Product, shared-Lit, shared-Read, shared-Sq, shared-Apply, shared-Sum, shared-Product}
use Rattle.mk_types.proofs.ExecutionLayers.{units-Read, units-Sq, units-Apply, units-Sum, units-Product, value-Lit, value-Read, value-Sq, value-Apply, value-Sum, value-Product}
use Rattle.mk_types.proofs.Faults.{NoFaults, no_faults_front, no_faults_back}
use Rattle.mk_types.proofs.Accepted.{no_offences, not_when, literal_element, reference_found, map_found, map_declared}
use Rattle.mk_types.proofs.RegularParts.{SomewhereRegular, regular-Lit, regular-Sq, regular-Apply, regular-Sum, regular-Product}
use Rattle.mk_types.proofs.MapNumbers.{map_number_is, map_of_is, image_element}
use Rattle.mk_unroll.specs.Unrolled.{Given, is_shared_operand, sum_op, product_op, square_op, map_op, joined, expr_given}
use Rattle.mk_unroll.proofs.UnrolledLayers.{given-Lit, given-Read, given-Sq, given-Apply, given-Sum, given-Product}
use Rattle.mk_unroll.proofs.Stands.{Setting, draft_of, Stands, OpStands, Gives, stands_shared, gives_appended, sum_stands, product_stands, square_stands, map_stands, const_stands}
use Rattle.mk_unroll.proofs.Environments.{EnvironmentStands, environment_grows, element_stands}

-- the declarations are regular, and without an offence
pub record Declares (t : Setting) : Type 0 where
  pub regular : AllByRecursion IsRegularDecl t.decls
  pub accepted : decls_offences t.field [] t.decls ≡ []

-- what a statement stands in, within these loops
abbrev pub scope_in : Setting → List (List ℕ) → Scope
scope_in t loops = record { field = t.field; decls = t.decls; loops = loops }

-- of three tests
or_assoc : (a b c : Bool) → ((a || b) || c) ≡ (a || (b || c))
or_assoc true b c = refl
or_assoc false b c = refl

module _ (t : Setting) (declares : Declares t) (loops : List (List ℕ)) (turns : List Turn) (env : Environment Operand) (elements : Environment ℕ) where
  -- what an expression gives stands for its value
  abbrev GivesValue : Expr → Type 0
  GivesValue e =
      (values : List Op) → IsDraft (draft_of t values) → EnvironmentStands t values t.decls env elements → SomewhereRegular e
      → expr_offences (scope_in t loops) e ≡ [] → NoFaults (expr_units t.decls turns e)
      → Gives t (is_shared t.decls e) values (expr_given t.decls turns env e values) (expr_value t.field t.decls turns elements e)

  -- An operation on two operands, which fits where these stand for elements.
  module _ (op : Bool → Bool → Operand → Operand → Op) (f : ℕ → ℕ → ℕ)
      (fits : (values : List Op) (s u : Bool) (x y : Operand) (a b : ℕ) → Stands t s values x a → Stands t u values y b → OpStands t (s || u) values (op s u x y) (f a b)) where
    -- one more part
    joined_gives : (s u : Bool) (before : List Op) (g y : Given) (a b : ℕ) → Gives t s before g a → Gives t u g.values y b → Gives t (s || u) before (joined op g.operand y) (f a b)
    joined_gives s u before g y a b first second =
        let left : Stands t s y.values g.operand a = second.grows s g.operand a first.stands in
        let stands = fits y.values s u g.operand y.operand a b left second.stands in
        let p = stands_shared t s y.values g.operand a left in
        let q = stands_shared t u y.values y.operand b second.stands in
        gives_appended t (s || u) before y.values (op (is_shared_operand y.values g.operand) (is_shared_operand y.values y.operand) g.operand y.operand) (f a b)
        second.made (λ v x c there. second.grows v x c (first.grows v x c there))
        (subst (λ v. OpStands t (s || u) y.values (op v (is_shared_operand y.values y.operand) g.operand y.operand) (f a b)) (sym p)
        (subst (λ v. OpStands t (s || u) y.values (op s v g.operand y.operand) (f a b)) (sym q) stands))

    -- further parts
    parts_give : (parts : List Expr) → AllByRecursion GivesValue parts → (s : Bool) (before : List Op) (g : Given) (a : ℕ) → Gives t s before g a →
        EnvironmentStands t before t.decls env elements → AllByRecursion SomewhereRegular parts → flat_map (expr_offences (scope_in t loops)) parts ≡ [] →
        NoFaults (flat_map (λ part. part ++ Operation ∷ []) (map (expr_units t.decls turns) parts)) →
        Gives t (s || list_any (is_shared t.decls) parts) before
        (fold (λ so_far part. joined op so_far.operand (part so_far.values)) g (map (expr_given t.decls turns env) parts))
        (fold f a (map (expr_value t.field t.decls turns elements) parts))
    parts_give [] all s before g a gives holds regular accepted none = subst (λ v. Gives t v before g a) (sym (or-false s)) gives
    parts_give (e ∷ parts) all s before g a gives holds regular accepted none =
        let y = expr_given t.decls turns env e g.values in
        let b = expr_value t.field t.decls turns elements e in
        let u = is_shared t.decls e in
        let units = expr_units t.decls turns e in
        let rest = flat_map (λ part. part ++ Operation ∷ []) (map (expr_units t.decls turns) parts) in
        let both = no_offences (expr_offences (scope_in t loops) e) (flat_map (expr_offences (scope_in t loops)) parts) accepted in
        let here = all.0 g.values gives.made (environment_grows t before g.values gives.grows t.decls env elements holds) regular.0 both.0
        (no_faults_front units (Operation ∷ []) (no_faults_front (units ++ Operation ∷ []) rest none)) in
        subst (λ v. Gives t v before
        (fold (λ so_far part. joined op so_far.operand (part so_far.values)) (joined op g.operand y) (map (expr_given t.decls turns env) parts))
        (fold f (f a b) (map (expr_value t.field t.decls turns elements) parts))) (or_assoc s u (list_any (is_shared t.decls) parts))
        (parts_give parts all.1 (s || u) before (joined op g.operand y) (f a b) (joined_gives s u before g y a b gives here) holds regular.1 both.1
        (no_faults_back (units ++ Operation ∷ []) rest none))

  -- a literal
  literal_gives : (value : ℕ) (at : Place) → GivesValue (expr.Lit value at)
  literal_gives value at values made holds regular accepted none =
      rw (given-Lit t.decls turns env value at values, value-Lit t.field t.decls turns elements value at, shared-Lit t.decls value at)
      (gives_appended t false values values (Const value) value made (λ s x a stands. stands)
      (const_stands t values value
      (literal_element t.field value
      (not_when (is_no_bit t.field value) at kind_.Kind (sym (expr-Lit (scope_in t loops) value at) ∙ accepted))
      (regular-Lit value at regular))))

  -- a reference
  reference_gives : (from : Ref) → GivesValue (expr.Read from)
  reference_gives from values made holds regular accepted none =
      let found = reference_found (scope_in t loops) turns from (sym (expr-Read (scope_in t loops) from) ∙ accepted) (subst NoFaults (units-Read t.decls turns from) none) in
      rw (given-Read t.decls turns env from values, value-Read t.field t.decls turns elements from, shared-Read t.decls from)
      (record {
        made = made;
        grows = λ s x a stands. stands;
        stands = subst (λ v. Stands t v values (element env (number_of t.decls from.name) (element_number turns from) (Block 0))
            (element elements (number_of t.decls from.name) (element_number turns from) 0))
            (sym (ap (is_variable is_shared_class) found.is))
            (element_stands t values found.class found.size (element_number turns from) found.within from.name t.decls env elements holds found.is);
      })

  -- a square
  square_gives : (arg : Expr) → GivesValue arg → GivesValue (expr.Sq arg)
  square_gives arg here values made holds regular accepted none =
      let g = expr_given t.decls turns env arg values in
      let a = expr_value t.field t.decls turns elements arg in
      let s = is_shared t.decls arg in
      let gives = here values made holds (regular-Sq arg regular) (sym (expr-Sq (scope_in t loops) arg) ∙ accepted)
      (no_faults_front (expr_units t.decls turns arg) (Operation ∷ []) (subst NoFaults (units-Sq t.decls turns arg) none)) in
      rw (given-Sq t.decls turns env arg values, value-Sq t.field t.decls turns elements arg, shared-Sq t.decls arg)
      (gives_appended t s values g.values (square_op (is_shared_operand g.values g.operand) g.operand) (square t.field a) gives.made gives.grows
      (subst (λ v. OpStands t s g.values (square_op v g.operand) (square t.field a)) (sym (stands_shared t s g.values g.operand a gives.stands))
      (square_stands t g.values s g.operand a gives.stands)))

  -- the map of a name that stands before an argument
  record MapHere (name : List ℕ) : Type 0 where
    within : map_number t.decls name < length (maps_of t.decls)
    is : (a : ℕ) → image_by (maps_of t.decls) (map_number t.decls name) a ≡ image (map_of t.decls name) a
    element : (a : ℕ) → image_by (maps_of t.decls) (map_number t.decls name) a < size t.field
    public : is_variable is_shared_class (declared t.decls name) ≡ false

  -- is there
  map_here : (name : List ℕ) (at : Place) → map_name_offences (scope_in t loops) name at ≡ [] → MapHere name
  map_here name at accepted =
      let found = map_found (scope_in t loops) name at accepted in
      let m : AddMap = record { images = found.0 } in
      let number = map_number_is t.decls name found.0 found.1 in
      let same : (a : ℕ) → image_by (maps_of t.decls) (map_number t.decls name) a ≡ image m a = λ a. ap (λ n. image n a) (number.is (record { images = [] })) in
      let bytes = map_declared t.field [] t.decls name found.0 declares.accepted declares.regular found.1 in
      record {
        within = number.within;
        is = λ a. same a ∙ ap (λ n. image n a) (sym (map_of_is t.decls name found.0 found.1));
        element = λ a. subst (λ (b : ℕ). b < size t.field) (sym (same a)) (image_element t.field found.0 bytes.0 bytes.1 a);
        public = ap (is_variable is_shared_class) found.1;
      }

  -- an image
  image_gives : (name : List ℕ) (at : Place) (arg : Expr) → GivesValue arg → GivesValue (expr.Apply name at arg)
  image_gives name at arg here values made holds regular accepted none =
      let g = expr_given t.decls turns env arg values in
      let a = expr_value t.field t.decls turns elements arg in
      let s = is_shared t.decls arg in
      let n = map_number t.decls name in
      let both = no_offences (map_name_offences (scope_in t loops) name at) (expr_offences (scope_in t loops) arg) (sym (expr-Apply (scope_in t loops) name at arg) ∙ accepted) in
      let m = map_here name at both.0 in
      let gives = here values made holds (regular-Apply name at arg regular) both.1
      (no_faults_front (expr_units t.decls turns arg) (Operation ∷ []) (subst NoFaults (units-Apply t.decls turns name at arg) none)) in
      rw (given-Apply t.decls turns env name at arg values, value-Apply t.field t.decls turns elements name at arg, shared-Apply t.decls name at arg, m.public, ← m.is a)
      (gives_appended t s values g.values (map_op (is_shared_operand g.values g.operand) n g.operand) (image_by (maps_of t.decls) n a) gives.made gives.grows
      (subst (λ v. OpStands t s g.values (map_op v n g.operand) (image_by (maps_of t.decls) n a)) (sym (stands_shared t s g.values g.operand a gives.stands))
      (map_stands t g.values s n g.operand a m.within (m.element a) gives.stands)))

  -- a sum
  sum_gives : (parts : List Expr) → AllByRecursion GivesValue parts → GivesValue (expr.Sum parts)
  sum_gives [] all values made holds regular accepted none = absurd (omega (arith, (regular-Sum [] regular).0))
  sum_gives (e ∷ parts) all values made holds regular accepted none =
      let rest = flat_map (λ part. part ++ Operation ∷ []) (map (expr_units t.decls turns) parts) in
      let units = expr_units t.decls turns e in
      let each = (regular-Sum (e ∷ parts) regular).1 in
      let both = no_offences (expr_offences (scope_in t loops) e) (flat_map (expr_offences (scope_in t loops)) parts)
      (sym (expr-Sum (scope_in t loops) (e ∷ parts)) ∙ accepted) in
      let clear = subst NoFaults (units-Sum t.decls turns (e ∷ parts)) none in
      let first = all.0 values made holds each.0 both.0 (no_faults_front units rest clear) in
      rw (given-Sum t.decls turns env (e ∷ parts) values, value-Sum t.field t.decls turns elements (e ∷ parts), shared-Sum t.decls (e ∷ parts))
      (parts_give sum_op bit_xor (sum_stands t) parts all.1 (is_shared t.decls e) values (expr_given t.decls turns env e values)
      (expr_value t.field t.decls turns elements e) first holds each.1 both.1 (no_faults_back units rest clear))

  -- a product
  product_gives : (parts : List Expr) → AllByRecursion GivesValue parts → GivesValue (expr.Product parts)
  product_gives [] all values made holds regular accepted none = absurd (omega (arith, (regular-Product [] regular).0))
  product_gives (e ∷ parts) all values made holds regular accepted none =
      let rest = flat_map (λ part. part ++ Operation ∷ []) (map (expr_units t.decls turns) parts) in
      let units = expr_units t.decls turns e in
      let each = (regular-Product (e ∷ parts) regular).1 in
      let both = no_offences (expr_offences (scope_in t loops) e) (flat_map (expr_offences (scope_in t loops)) parts)
      (sym (expr-Product (scope_in t loops) (e ∷ parts)) ∙ accepted) in
      let clear = subst NoFaults (units-Product t.decls turns (e ∷ parts)) none in
      let first = all.0 values made holds each.0 both.0 (no_faults_front units rest clear) in
      rw (given-Product t.decls turns env (e ∷ parts) values, value-Product t.field t.decls turns elements (e ∷ parts), shared-Product t.decls (e ∷ parts))
      (parts_give product_op (product t.field) (product_stands t) parts all.1 (is_shared t.decls e) values (expr_given t.decls turns env e values)
      (expr_value t.field t.decls turns elements e) first holds each.1 both.1 (no_faults_back units rest clear))

  -- what an expression gives stands for its value, and is shared where the expression is
  pub expr_gives : (e : Expr) → GivesValue e
  expr_gives = expr_induction GivesValue literal_gives reference_gives square_gives image_gives sum_gives product_gives
