-- What the typing tells of parts, elements and maps.
use Rattle.std.proofs.Common.{◌≡◌, ℕ, ◌+◌, ◌<◌, Bool, true, false, not, List, [], ◌∷◌, ◌++◌, take, drop, flat_map, Some, None, Option, is_none, rules, ◌&&◌, refl, sym, ap, ◌∙◌, true≢false}
use Rattle.std.proofs.lemmas.Bool.{or_parts}
use Rattle.std.proofs.lemmas.List.{take-append-drop}
use Rattle.std.proofs.lemmas.Grind.{flat_map-append}
use Rattle.mk_base.specs.declared.Place.{Place}
use Rattle.mk_field.specs.declared.field.FieldId.{FieldId}
use Rattle.mk_field.specs.declared.field.FieldId.TheVariants.{Gf2, Gf256}
use Rattle.mk_field.specs.Field.{size}
use Rattle.mk_ast.specs.declared.tree.What.{What}
use Rattle.mk_ast.specs.declared.tree.What.TheVariants as what
use Rattle.mk_types.specs.declared.offence.OffenceKind.{OffenceKind}
use Rattle.mk_types.specs.Scope.{Scope, declared, is_variable, is_loop}
use Rattle.mk_types.specs.Offences.{when, is_no_bit, map_name_offences}

-- of nothing, both halves are nothing
pub nil_left : {A : Type 0} (xs ys : List A) → xs ++ ys ≡ [] → xs ≡ []
nil_left [] ys is = refl
nil_left (x ∷ xs) ys is = absurd (cc)

-- and so is the second
pub nil_right : {A : Type 0} (xs ys : List A) → xs ++ ys ≡ [] → ys ≡ []
nil_right [] ys is = is
nil_right (x ∷ xs) ys is = absurd (cc)

-- of all, one
pub nil_at : {A B : Type 0} (f : A → List B) (xs : List A) (i : ℕ) (x : A) → flat_map f xs ≡ [] → take (i + 1) xs ≡ take i xs ++ x ∷ [] → f x ≡ []
nil_at f xs i x is more =
    let all : flat_map f (take (i + 1) xs) ≡ [] =
    nil_left (flat_map f (take (i + 1) xs)) (flat_map f (drop (i + 1) xs))
    (sym (flat_map-append f (take (i + 1) xs) (drop (i + 1) xs)) ∙ ap (flat_map f) (take-append-drop (i + 1) xs) ∙ is) in
    let last : flat_map f (take i xs) ++ flat_map f (x ∷ []) ≡ [] = sym (flat_map-append f (take i xs) (x ∷ [])) ∙ sym (ap (flat_map f) more) ∙ all in
    nil_left (f x) [] (nil_right (flat_map f (take i xs)) (flat_map f (x ∷ [])) last)

-- no offence, no cause
pub when_none : (b : Bool) (at : Place) (kind : OffenceKind) → when b at kind ≡ [] → b ≡ false
when_none true at kind is = absurd (cc)
when_none false at kind is = refl

-- the elements that a literal may be
pub literal_fits : (field : FieldId) (value : ℕ) → value < 256 → is_no_bit field value ≡ false → value < size field
literal_fits Gf2 value byte is = search (rules, is)
literal_fits Gf256 value byte is = byte

-- the name before an argument is that of a map
pub names_map : (s : Scope) (name : List ℕ) (at : Place) → map_name_offences s name at ≡ [] → (images : List ℕ) × (declared s.decls name ≡ Some (what.Map images))
names_map s name at is =
    by (declared s.decls name) refl
    (or_parts (is_loop s name) _ (when_none _ at _ (nil_right _ _ is))).0
    (or_parts (is_loop s name) _ (when_none _ at _ (nil_right _ _ is))).1
    (when_none _ at _ (nil_left _ _ is))
  where
    by : (o : Option What) → declared s.decls name ≡ o → is_loop s name ≡ false → is_variable (λ class. true) o ≡ false → (is_none o && not (is_loop s name)) ≡ false →
        (images : List ℕ) × (declared s.decls name ≡ Some (what.Map images))
    by None eq loop variable unknown = absurd (true≢false (sym (ap not loop) ∙ unknown))
    by (Some (what.Map images)) eq loop variable unknown = (images, eq)
    by (Some (what.Var class n)) eq loop variable unknown = absurd (true≢false variable)
