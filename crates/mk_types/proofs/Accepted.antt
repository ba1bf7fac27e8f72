-- What is known of references, maps and targets where there is no offence.
use Rattle.std.proofs.Common.{◌≡◌, ℕ, ◌<◌, Bool, true, false, ◌&&◌, ◌||◌, not, cond, List, [], ◌∷◌, ◌++◌, Option, Some, None, option_map, unwrap_or, is_none, is_some, find, bytes_eq, ltb, ltb-true, ltb-false, refl, sym, ap, subst, ◌∙◌, arith, true≢false}
use Rattle.std.specs.List.{AllByRecursion}
use Rattle.mk_base.specs.declared.Place.{Place}
use Rattle.mk_field.specs.declared.field.FieldId.{FieldId}
use Rattle.mk_field.specs.declared.field.FieldId.TheVariants.{Gf2, Gf256}
use Rattle.mk_field.specs.Field.{size}
use Rattle.mk_ast.specs.declared.tree.Decl.{Decl}
use Rattle.mk_ast.specs.declared.tree.What.{What}
use Rattle.mk_ast.specs.declared.tree.What.TheVariants as what
use Rattle.mk_ast.specs.declared.tree.Class.{Class}
use Rattle.mk_ast.specs.declared.tree.Class.TheVariants as class_
use Rattle.mk_ast.specs.declared.tree.Ref.{Ref}
use Rattle.mk_ast.specs.declared.tree.Expr.{Expr}
use Rattle.mk_ast.specs.declared.tree.Index.{Index}
use Rattle.mk_ast.specs.Regular.{IsRegularDecl, IsRegularWhat}
use Rattle.mk_types.specs.declared.offence.Offence.{Offence}
use Rattle.mk_types.specs.declared.offence.OffenceKind.{OffenceKind}
use Rattle.mk_types.specs.declared.offence.OffenceKind.TheVariants as kind_
use Rattle.mk_types.specs.Scope.{Scope, declared, is_loop, is_unknown, is_variable, is_shared, is_shared_class, is_input_class, is_local_public_class}
use Rattle.mk_types.specs.Turns.{Turn}
use Rattle.mk_types.specs.Elements.{size_of, elements_in, array_size}
use Rattle.mk_types.specs.Units.{element_number, evaluated, reference_units, fault_if}
use Rattle.mk_types.specs.Offences.{when, is_no_variable_so, is_no_bit, subscript_offences, reference_offences, map_name_offences, target_offences, is_no_map_of, decl_offences, decls_offences}
use Rattle.mk_types.proofs.Faults.{NoFaults, no_faults_back}

-- none among these and those
pub no_offences : (xs ys : List Offence) → xs ++ ys ≡ [] → (xs ≡ []) × (ys ≡ [])
no_offences [] ys e = (refl, e)
no_offences (x ∷ xs) ys e = absurd (cc)

-- what is no offence does not hold
pub not_when : (b : Bool) (at : Place) (what : OffenceKind) → when b at what ≡ [] → b ≡ false
not_when true at what e = absurd (cc)
not_when false at what e = refl

-- a literal without an offence is an element
pub literal_element : (field : FieldId) (value : ℕ) → is_no_bit field value ≡ false → value < 256 → value < size field
literal_element Gf2 value bit byte = omega (arith, ltb-false 1 value bit)
literal_element Gf256 value bit byte = byte

-- the variable that a reference is to, and its element is there
pub record Found (decls : List Decl) (turns : List Turn) (r : Ref) : Type 0 where
  pub class : Class
  pub size : Option ℕ
  pub is : declared decls r.name ≡ Some (what.Var class size)
  pub within : element_number turns r < size_of size

-- a fault that there is not
no_fault_if : (b : Bool) (at : Place) → NoFaults (fault_if b at) → b ≡ false
no_fault_if true at none = absurd none.0
no_fault_if false at none = refl

-- a test that fails not
from_not : (b : Bool) → not b ≡ false → b ≡ true
from_not true e = refl
from_not false e = absurd (cc)

module _ (decls : List Decl) (turns : List Turn) (name : List ℕ) (at : Place) where
  -- a reference without an index
  found_scalar : (o : Option What) (loop : Bool) → declared decls name ≡ o → (is_none o && not loop) ≡ false → (loop || is_no_variable_so o false) ≡ false →
      Found decls turns (record { name = name; at = at; index = None })
  found_scalar None true is known fits = absurd (true≢false fits)
  found_scalar None false is known fits = absurd (true≢false known)
  found_scalar (Some (what.Map images)) true is known fits = absurd (true≢false fits)
  found_scalar (Some (what.Map images)) false is known fits = absurd (true≢false fits)
  found_scalar (Some (what.Var class None)) loop is known fits = record { class = class; size = None; is = is; within = omega arith }
  found_scalar (Some (what.Var class (Some n))) true is known fits = absurd (true≢false fits)
  found_scalar (Some (what.Var class (Some n))) false is known fits = absurd (true≢false fits)

  -- a reference with an index
  found_element : (i : Index) (o : Option What) (loop : Bool) → declared decls name ≡ o → (is_none o && not loop) ≡ false → (loop || is_no_variable_so o true) ≡ false →
      (evaluated at turns i).value < array_size decls name → Found decls turns (record { name = name; at = at; index = Some i })
  found_element i None true is known fits within = absurd (true≢false fits)
  found_element i None false is known fits within = absurd (true≢false known)
  found_element i (Some (what.Map images)) true is known fits within = absurd (true≢false fits)
  found_element i (Some (what.Map images)) false is known fits within = absurd (true≢false fits)
  found_element i (Some (what.Var class None)) true is known fits within = absurd (true≢false fits)
  found_element i (Some (what.Var class None)) false is known fits within = absurd (true≢false fits)
  found_element i (Some (what.Var class (Some n))) loop is known fits within = record {
    class = class;
    size = Some n;
    is = is;
    within =
        subst (λ (m : ℕ). (evaluated at turns i).value < m) (ap (λ (o : Option What). unwrap_or (option_map (elements_in (λ class. true)) o) 0) is) within;
  }

-- what the units of an index show
within_array : (decls : List Decl) (turns : List Turn) (name : List ℕ) (at : Place) (i : Index) →
    NoFaults (reference_units decls turns (record { name = name; at = at; index = Some i })) → (evaluated at turns i).value < array_size decls name
within_array decls turns name at i none =
    let test = ltb (evaluated at turns i).value (array_size decls name) in
    ltb-true (evaluated at turns i).value (array_size decls name)
    (from_not test (no_fault_if (not test) at (no_faults_back (evaluated at turns i).units (fault_if (not test) at) none)))

-- a reference, by its index
found_by : (s : Scope) (turns : List Turn) (name : List ℕ) (at : Place) (index : Option Index) →
    reference_offences s (record { name = name; at = at; index = index }) ≡ [] →
    NoFaults (reference_units s.decls turns (record { name = name; at = at; index = index })) →
    Found s.decls turns (record { name = name; at = at; index = index })
found_by s turns name at None e none =
    let unknown = when (is_unknown s name) at kind_.Unknown in
    let wrong = when (is_loop s name || is_no_variable_so (declared s.decls name) false) at kind_.Kind in
    let first = no_offences (unknown ++ wrong) [] e in
    let both = no_offences unknown wrong first.0 in
    found_scalar s.decls turns name at (declared s.decls name) (is_loop s name) refl (not_when _ at kind_.Unknown both.0) (not_when _ at kind_.Kind both.1)
found_by s turns name at (Some i) e none =
    let unknown = when (is_unknown s name) at kind_.Unknown in
    let wrong = when (is_loop s name || is_no_variable_so (declared s.decls name) true) at kind_.Kind in
    let first = no_offences (unknown ++ wrong) (subscript_offences s (Some i)) e in
    let both = no_offences unknown wrong first.0 in
    found_element s.decls turns name at i (declared s.decls name) (is_loop s name) refl (not_when _ at kind_.Unknown both.0) (not_when _ at kind_.Kind both.1)
    (within_array s.decls turns name at i none)

-- a reference without an offence or a fault is to an element of a variable
pub reference_found : (s : Scope) (turns : List Turn) (r : Ref) → reference_offences s r ≡ [] → NoFaults (reference_units s.decls turns r) → Found s.decls turns r
reference_found s turns r e none = found_by s turns r.name r.at r.index e none

-- the name of a map, by what it is declared to be
map_by : (o : Option What) (loop : Bool) → (is_none o && not loop) ≡ false → (loop || is_variable (λ class. true) o) ≡ false → (images : List ℕ) × (o ≡ Some (what.Map images))
map_by None true known fits = absurd (true≢false fits)
map_by None false known fits = absurd (true≢false known)
map_by (Some (what.Map images)) loop known fits = (images, refl)
map_by (Some (what.Var class size)) true known fits = absurd (true≢false fits)
map_by (Some (what.Var class size)) false known fits = absurd (true≢false fits)

-- the name before an argument is that of a map
pub map_found : (s : Scope) (name : List ℕ) (at : Place) → map_name_offences s name at ≡ [] → (images : List ℕ) × (declared s.decls name ≡ Some (what.Map images))
map_found s name at e =
    let unknown = when (is_unknown s name) at kind_.Unknown in
    let both = no_offences unknown (when (is_loop s name || is_variable (λ class. true) (declared s.decls name)) at kind_.Kind) e in
    map_by (declared s.decls name) (is_loop s name) (not_when _ at kind_.Unknown both.0) (not_when _ at kind_.Kind both.1)

-- a target takes a public value where its class is public
public_by : (class : Class) (shared : Bool) → is_input_class class ≡ false → (is_local_public_class class && shared) ≡ false → is_shared_class class ≡ false → shared ≡ false
public_by class_.Secret shared input local public = absurd (true≢false input)
public_by class_.Public shared input local public = absurd (true≢false input)
public_by class_.Output shared input local public = absurd (true≢false public)
public_by class_.LocalSecret shared input local public = absurd (true≢false public)
public_by class_.LocalPublic shared input local public = local

-- a target that is public takes a public value
pub public_target : (s : Scope) (target : Ref) (value : Expr) (class : Class) (size : Option ℕ) → target_offences s target value ≡ [] →
    declared s.decls target.name ≡ Some (what.Var class size) → is_shared_class class ≡ false → is_shared s.decls value ≡ false
public_target s target value class size e is public =
    let both = no_offences (when (is_variable is_input_class (declared s.decls target.name)) target.at kind_.AssignInput)
    (when (is_variable is_local_public_class (declared s.decls target.name) && is_shared s.decls value) target.at kind_.Kind) e in
    public_by class (is_shared s.decls value)
    (sym (ap (is_variable is_input_class) is) ∙ not_when _ target.at kind_.AssignInput both.0)
    (sym (ap (λ o. is_variable is_local_public_class o && is_shared s.decls value) is) ∙ not_when _ target.at kind_.Kind both.1)
    public

-- maps are over bytes
bytes_by : (field : FieldId) (images : List ℕ) → is_no_map_of field (what.Map images) ≡ false → field ≡ Gf256
bytes_by Gf2 images e = absurd (true≢false e)
bytes_by Gf256 images e = refl

-- what the first of declarations says, where the test passes, and otherwise what the rest says
pub first_or_rest : (R : Type 0) (name : List ℕ) (d : Decl) (ds : List Decl) (w : What) (b : Bool) →
    option_map (λ x. x.what) (cond b (Some d) (find (λ x. bytes_eq name x.name) ds)) ≡ Some w →
    (b ≡ true → d.what ≡ w → R) → (b ≡ false → declared ds name ≡ Some w → R) → R
first_or_rest R name d ds w true is here there = here refl (cc)
first_or_rest R name d ds w false is here there = there refl is

-- the images of a map that is declared without an offence are bytes, and so are the elements
pub map_declared : (field : FieldId) (earlier decls : List Decl) (name images : List ℕ) → decls_offences field earlier decls ≡ [] → AllByRecursion IsRegularDecl decls →
    declared decls name ≡ Some (what.Map images) → (field ≡ Gf256) × AllByRecursion (λ image. image < 256) images
map_declared field earlier [] name images e regular is = absurd (cc)
map_declared field earlier (d ∷ ds) name images e regular is =
    let both = no_offences (decl_offences field earlier d) (decls_offences field (earlier ++ d ∷ []) ds) e in
    let form = not_when _ d.at kind_.MapForm
    (no_offences (when (is_some (declared earlier d.name)) d.at kind_.Twice) (when (is_no_map_of field d.what) d.at kind_.MapForm) both.0).1 in
    first_or_rest ((field ≡ Gf256) × AllByRecursion (λ image. image < 256) images) name d ds (what.Map images) (bytes_eq name d.name) is
    (λ same w. (bytes_by field images (subst (λ x. is_no_map_of field x ≡ false) w form), (subst IsRegularWhat w regular.0.1).1))
    (λ other rest. map_declared field (earlier ++ d ∷ []) ds name images both.1 regular.1 rest)
