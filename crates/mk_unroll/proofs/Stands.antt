-- An operand stands for an element: it is there, of its kind, and the element is its value. What stands
-- for an element goes on doing so when values come behind.
use Rattle.std.proofs.Common.{◌≡◌, ℕ, ◌+◌, ◌<◌, Bool, true, false, not, ◌||◌, List, [], ◌∷◌, ◌++◌, length, slice_get, slice_index, bit_xor, refl, ap, ◌∙◌, arith}
use Rattle.std.proofs.lemmas.List.{get_or_append_left, get_or_push}
use Rattle.mk_field.specs.declared.field.FieldId.{FieldId}
use Rattle.mk_field.specs.Field.{size, product, square, image_by}
use Rattle.mk_field.proofs.Sum.{sum-comm, sum-in_field}
use Rattle.mk_field.proofs.Product.{product-comm, product-in_field, square-in_field}
use Rattle.mk_ast.specs.declared.tree.Decl.{Decl}
use Rattle.mk_ssa.specs.declared.Operand.{Operand}
use Rattle.mk_ssa.specs.declared.Operand.TheVariants.{Secret, Public, Block}
use Rattle.mk_ssa.specs.declared.Op.{Op}
use Rattle.mk_ssa.specs.declared.Op.TheVariants.{Const, Lift}
use Rattle.mk_ssa.specs.Kinds.{is_public}
use Rattle.mk_ssa.specs.Values.{Draft, IsDraft, IsSharedThere, IsPublicThere, Fits}
use Rattle.mk_ssa.specs.Denoted.{operand_value, value_of, values_of}
use Rattle.mk_ssa.proofs.Lists.{IsSomeAnd-value, slice_get-at}
use Rattle.mk_ssa.proofs.There.{IsSharedThere-pushed, IsPublicThere-pushed, IsSharedThere-last, IsPublicThere-last, IsDraft-pushed}
use Rattle.mk_ssa.proofs.InOrder.{in_order-push, length-in_order}
use Rattle.mk_types.specs.Elements.{is_secret_class, is_public_class, elements_among, maps_of}
use Rattle.mk_unroll.specs.Unrolled.{Given, is_shared_operand, sum_op, product_op, square_op, map_op, appended}

-- what a program is executed with: its field, its declarations and its inputs
pub record Setting : Type 0 where
  pub field : FieldId
  pub decls : List Decl
  pub publics : List ℕ
  pub secrets : List ℕ

-- values in the making over what is declared
abbrev pub draft_of : Setting → List Op → Draft
draft_of t values = record {
  field = t.field;
  secrets = elements_among is_secret_class t.decls;
  publics = elements_among is_public_class t.decls;
  maps = maps_of t.decls;
  values = values;
}

-- what the values stand for
abbrev pub elements_of_values : Setting → List Op → List ℕ
elements_of_values t values = values_of t.field (maps_of t.decls) t.publics t.secrets values

-- an operand that is there, and shared or public
abbrev pub IsThere : Bool → Draft → Operand → Type 0
IsThere true d x = IsSharedThere d x
IsThere false d x = IsPublicThere d x

-- over these values an operand, shared or public, stands for this element
pub record Stands (t : Setting) (shared : Bool) (values : List Op) (x : Operand) (a : ℕ) : Type 0 where
  pub there : IsThere shared (draft_of t values) x
  pub value : operand_value t.publics t.secrets (elements_of_values t values) x ≡ a
  pub element : a < size t.field

-- what stands for an element over the first values does so over the others
abbrev pub Grows : Setting → List Op → List Op → Type 0
Grows t before after = (shared : Bool) (x : Operand) (a : ℕ) → Stands t shared before x a → Stands t shared after x a

-- over these values an operator fits, shared or public, and stands for this element
pub record OpStands (t : Setting) (shared : Bool) (values : List Op) (op : Op) (a : ℕ) : Type 0 where
  pub fits : Fits (draft_of t values) op
  pub kind : is_public op ≡ not shared
  pub value : value_of t.field (maps_of t.decls) t.publics t.secrets (elements_of_values t values) op ≡ a
  pub element : a < size t.field

-- what is given behind these values stands for this element, and the values fit together
pub record Gives (t : Setting) (shared : Bool) (before : List Op) (g : Given) (a : ℕ) : Type 0 where
  pub made : IsDraft (draft_of t g.values)
  pub grows : Grows t before g.values
  pub stands : Stands t shared g.values g.operand a

-- an operation on the same two numbers
both : (f : ℕ → ℕ → ℕ) {x y a b : ℕ} → x ≡ a → y ≡ b → f x y ≡ f a b
both f {y = y} {a = a} p q = ap (λ (v : ℕ). f v y) p ∙ ap (f a) q

module _ (t : Setting) where
  -- there is an element for each value
  length-elements : (values : List Op) → length (elements_of_values t values) ≡ length values
  length-elements values =
      let next = value_of t.field (maps_of t.decls) t.publics t.secrets in
      let long : length (elements_of_values t values) ≡ 0 + length values = length-in_order next [] values in
      omega (arith, long)

  -- the elements of one more value
  elements-push : (values : List Op) (op : Op) → elements_of_values t (values ++ op ∷ [])
      ≡ elements_of_values t values ++ value_of t.field (maps_of t.decls) t.publics t.secrets (elements_of_values t values) op ∷ []
  elements-push values op = in_order-push (value_of t.field (maps_of t.decls) t.publics t.secrets) [] values op

  -- a value that is there is among the values
  there_within : (shared : Bool) (values : List Op) (k : ℕ) → IsThere shared (draft_of t values) (Block k) → k < length values
  there_within true values k there =
      let at = IsSomeAnd-value (slice_get values k) (λ op. is_public op ≡ false) there in
      (slice_get-at values k at.0 (Const 0) at.1).0
  there_within false values k there =
      let at = IsSomeAnd-value (slice_get values k) (λ op. is_public op ≡ true) there in
      (slice_get-at values k at.0 (Const 0) at.1).0

  -- its value stays when one more comes behind
  value_pushed : (shared : Bool) (values : List Op) (op : Op) (x : Operand) → IsThere shared (draft_of t values) x →
      operand_value t.publics t.secrets (elements_of_values t (values ++ op ∷ [])) x ≡ operand_value t.publics t.secrets (elements_of_values t values) x
  value_pushed shared values op (Secret k) there = refl
  value_pushed shared values op (Public k) there = refl
  value_pushed shared values op (Block k) there =
      let before = elements_of_values t values in
      let last = value_of t.field (maps_of t.decls) t.publics t.secrets before op ∷ [] in
      ap (λ (xs : List ℕ). slice_index xs k) (elements-push values op)
      ∙ get_or_append_left before last 0 k (omega (arith, there_within shared values k there, length-elements values))

  -- it stays there
  there_pushed : (shared : Bool) (values : List Op) (op : Op) (x : Operand) → IsThere shared (draft_of t values) x → IsThere shared (draft_of t (values ++ op ∷ [])) x
  there_pushed true values op x there = IsSharedThere-pushed (draft_of t values) op x there
  there_pushed false values op x there = IsPublicThere-pushed (draft_of t values) op x there

  -- it stands for the same element when one more value comes behind
  pub grows_pushed : (values : List Op) (op : Op) → Grows t values (values ++ op ∷ [])
  grows_pushed values op shared x a stands = record {
    there = there_pushed shared values op x stands.there;
    value = value_pushed shared values op x stands.there ∙ stands.value;
    element = stands.element;
  }

  -- by the operator at its place
  shared_by : (shared : Bool) (values : List Op) (x : Operand) → IsThere shared (draft_of t values) x → is_shared_operand values x ≡ shared
  shared_by true values (Secret k) there = refl
  shared_by true values (Public k) there = absurd there
  shared_by true values (Block k) there =
      let at = IsSomeAnd-value (slice_get values k) (λ op. is_public op ≡ false) there in
      ap (λ op. not (is_public op)) (slice_get-at values k at.0 (Const 0) at.1).1 ∙ ap not at.2
  shared_by false values (Secret k) there = absurd there
  shared_by false values (Public k) there = refl
  shared_by false values (Block k) there =
      let at = IsSomeAnd-value (slice_get values k) (λ op. is_public op ≡ true) there in
      ap (λ op. not (is_public op)) (slice_get-at values k at.0 (Const 0) at.1).1 ∙ ap not at.2

  -- whether an operand is shared is told by the values
  pub stands_shared : (shared : Bool) (values : List Op) (x : Operand) (a : ℕ) → Stands t shared values x a → is_shared_operand values x ≡ shared
  stands_shared shared values x a stands = shared_by shared values x stands.there

  -- a value that was appended is there
  there_last : (shared : Bool) (values : List Op) (op : Op) → is_public op ≡ not shared → IsThere shared (draft_of t (values ++ op ∷ [])) (Block (length values))
  there_last true values op kind = IsSharedThere-last (draft_of t values) op kind
  there_last false values op kind = IsPublicThere-last (draft_of t values) op kind

  -- a value that fits is given where it is appended
  pub gives_appended : (shared : Bool) (before values : List Op) (op : Op) (a : ℕ) → IsDraft (draft_of t values) → Grows t before values → OpStands t shared values op a →
      Gives t shared before (appended values op) a
  gives_appended shared before values op a made grows fits = record {
    made = IsDraft-pushed (draft_of t values) op made fits.fits;
    grows = λ s x b stands. grows_pushed values op s x b (grows s x b stands);
    stands = record {
      there = there_last shared values op fits.kind;
      value =
          ap (λ (xs : List ℕ). slice_index xs (length values)) (elements-push values op)
          ∙ get_or_push (elements_of_values t values) (value_of t.field (maps_of t.decls) t.publics t.secrets (elements_of_values t values) op) 0 (length values) (length-elements values)
          ∙ fits.value;
      element = fits.element;
    };
  }

  module _ (values : List Op) where
    -- a sum fits
    pub sum_stands : (s u : Bool) (x y : Operand) (a b : ℕ) → Stands t s values x a → Stands t u values y b → OpStands t (s || u) values (sum_op s u x y) (bit_xor a b)
    sum_stands true true x y a b left right = record {
      fits = (left.there, right.there);
      kind = refl;
      value = both bit_xor left.value right.value;
      element = sum-in_field t.field a b left.element right.element;
    }
    sum_stands true false x y a b left right = record {
      fits = (left.there, right.there);
      kind = refl;
      value = both bit_xor left.value right.value;
      element = sum-in_field t.field a b left.element right.element;
    }
    sum_stands false true x y a b left right = record {
      fits = (right.there, left.there);
      kind = refl;
      value = both bit_xor right.value left.value ∙ sum-comm b a;
      element = sum-in_field t.field a b left.element right.element;
    }
    sum_stands false false x y a b left right = record {
      fits = (left.there, right.there);
      kind = refl;
      value = both bit_xor left.value right.value;
      element = sum-in_field t.field a b left.element right.element;
    }

    -- a product fits
    pub product_stands : (s u : Bool) (x y : Operand) (a b : ℕ) → Stands t s values x a → Stands t u values y b →
        OpStands t (s || u) values (product_op s u x y) (product t.field a b)
    product_stands true true x y a b left right = record {
      fits = (left.there, right.there);
      kind = refl;
      value = both (product t.field) left.value right.value;
      element = product-in_field t.field a b left.element;
    }
    product_stands true false x y a b left right = record {
      fits = (left.there, right.there);
      kind = refl;
      value = both (product t.field) left.value right.value;
      element = product-in_field t.field a b left.element;
    }
    product_stands false true x y a b left right = record {
      fits = (right.there, left.there);
      kind = refl;
      value =
          both (product t.field) right.value left.value ∙ product-comm t.field b a right.element left.element;
      element = product-in_field t.field a b left.element;
    }
    product_stands false false x y a b left right = record {
      fits = (left.there, right.there);
      kind = refl;
      value = both (product t.field) left.value right.value;
      element = product-in_field t.field a b left.element;
    }

    -- a square fits
    pub square_stands : (s : Bool) (x : Operand) (a : ℕ) → Stands t s values x a → OpStands t s values (square_op s x) (square t.field a)
    square_stands true x a stands = record {
      fits = stands.there;
      kind = refl;
      value = ap (square t.field) stands.value;
      element = square-in_field t.field a stands.element;
    }
    square_stands false x a stands = record {
      fits = stands.there;
      kind = refl;
      value = ap (square t.field) stands.value;
      element = square-in_field t.field a stands.element;
    }

    -- an image fits, where there is the map
    pub map_stands : (s : Bool) (m : ℕ) (x : Operand) (a : ℕ) → m < length (maps_of t.decls) → image_by (maps_of t.decls) m a < size t.field → Stands t s values x a →
        OpStands t s values (map_op s m x) (image_by (maps_of t.decls) m a)
    map_stands true m x a within element stands = record {
      fits = (within, stands.there);
      kind = refl;
      value = ap (image_by (maps_of t.decls) m) stands.value;
      element = element;
    }
    map_stands false m x a within element stands = record {
      fits = (within, stands.there);
      kind = refl;
      value = ap (image_by (maps_of t.decls) m) stands.value;
      element = element;
    }

    -- a lift fits
    pub lift_stands : (x : Operand) (a : ℕ) → Stands t false values x a → OpStands t true values (Lift x) a
    lift_stands x a stands = record { fits = stands.there; kind = refl; value = stands.value; element = stands.element }

    -- a constant fits
    pub const_stands : (a : ℕ) → a < size t.field → OpStands t false values (Const a) a
    const_stands a below = record { fits = below; kind = refl; value = refl; element = below }
