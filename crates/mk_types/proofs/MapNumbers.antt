-- The number of a map's name is that of the map which it is declared to be, and its images are bytes.
use Rattle.std.proofs.Common.{◌≡◌, ℕ, zero, suc, ◌+◌, ◌<◌, Bool, true, false, not, cond, List, [], ◌∷◌, ◌++◌, Option, Some, None, bytes_eq, length, take, get_or, slice_index, one-add, is_some, true≢false, refl, sym, ap, subst, ◌∙◌, arith}
use Rattle.std.specs.List.{AllByRecursion, cons_option}
use Rattle.mk_field.specs.declared.field.FieldId.{FieldId}
use Rattle.mk_field.specs.declared.field.FieldId.TheVariants.{Gf2, Gf256}
use Rattle.mk_field.specs.declared.map.AddMap.{AddMap}
use Rattle.mk_field.specs.Field.{size, image}
use Rattle.mk_field.proofs.Product.{image-below}
use Rattle.mk_ast.specs.declared.tree.Decl.{Decl}
use Rattle.mk_ast.specs.declared.tree.What.{What}
use Rattle.mk_ast.specs.declared.tree.What.TheVariants as what
use Rattle.mk_types.specs.declared.offence.OffenceKind.TheVariants as kind_
use Rattle.mk_types.specs.Scope.{declared}
use Rattle.mk_types.specs.Elements.{number_of, map_in, maps_of, map_number}
use Rattle.mk_types.specs.Meaning.{map_of}
use Rattle.mk_types.specs.Offences.{is_no_map_of, decl_offences, decls_offences, when}
use Rattle.mk_types.proofs.Accepted.{first_or_rest, no_offences, not_when}

-- the map of this number among these
pub record IsMapAt (maps : List AddMap) (n : ℕ) (m : AddMap) : Type 0 where
  pub within : n < length maps
  pub is : (d : AddMap) → get_or maps n d ≡ m

-- with one more in front, if there is one
at_behind : (o : Option AddMap) (before maps : List AddMap) (m : AddMap) → IsMapAt maps (length before) m →
    IsMapAt (cons_option o maps) (length (cons_option o before)) m
at_behind None before maps m is = is
at_behind (Some x) before maps m is = record { within = omega (arith, is.within); is = is.is }

-- the first of these maps
at_front : (w : What) (images : List ℕ) (maps : List AddMap) → w ≡ what.Map images → IsMapAt (cons_option (map_in w) maps) 0 (record { images = images })
at_front w images maps is =
    subst (λ x. IsMapAt (cons_option (map_in x) maps) 0 (record { images = images })) (sym is) (record { within = omega arith; is = λ d. refl })

-- by whether the first declaration is that of the name
number_step : (b c : Bool) (d : Decl) (ds : List Decl) (n : ℕ) (m : AddMap) → b ≡ c → IsMapAt (maps_of (d ∷ ds)) (length (maps_of (take (cond (not c) (1 + n) 0) (d ∷ ds)))) m →
    IsMapAt (maps_of (d ∷ ds)) (length (maps_of (take (cond (not b) (1 + n) 0) (d ∷ ds)))) m
number_step b c d ds n m same is = subst (λ x. IsMapAt (maps_of (d ∷ ds)) (length (maps_of (take (cond (not x) (1 + n) 0) (d ∷ ds)))) m) (sym same) is

-- the number of a map's name is that of the map
pub map_number_is : (decls : List Decl) (name images : List ℕ) → declared decls name ≡ Some (what.Map images) →
    IsMapAt (maps_of decls) (map_number decls name) (record { images = images })
map_number_is [] name images is = absurd (cc)
map_number_is (d ∷ ds) name images is =
    let m : AddMap = record { images = images } in
    let n = number_of ds name in
    first_or_rest (IsMapAt (maps_of (d ∷ ds)) (map_number (d ∷ ds) name) m) name d ds (what.Map images) (bytes_eq name d.name) is
    (λ same here. number_step (bytes_eq name d.name) true d ds n m same (at_front d.what images (maps_of ds) here))
    (λ other there. number_step (bytes_eq name d.name) false d ds n m other
    (subst (λ (k : ℕ). IsMapAt (maps_of (d ∷ ds)) (length (maps_of (take k (d ∷ ds)))) m) (sym (one-add n))
    (at_behind (map_in d.what) (maps_of (take n ds)) (maps_of ds) m (map_number_is ds name images there))))

-- the map of a name
pub map_of_is : (decls : List Decl) (name images : List ℕ) → declared decls name ≡ Some (what.Map images) → map_of decls name ≡ record { images = images }
map_of_is decls name images is = rw is refl

-- an element of a list of numbers below a bound, or 0
below_at : (n : ℕ) → 0 < n → (xs : List ℕ) → AllByRecursion (λ x. x < n) xs → (i : ℕ) → slice_index xs i < n
below_at n positive [] all i = positive
below_at n positive (x ∷ xs) all zero = all.0
below_at n positive (x ∷ xs) all (suc i) = below_at n positive xs all.1 i

-- an image under a map of bytes is an element
pub image_element : (field : FieldId) (images : List ℕ) → field ≡ Gf256 → AllByRecursion (λ image. image < 256) images → (a : ℕ) →
    image (record { images = images }) a < size field
image_element field images bytes all a =
    subst (λ f. image (record { images = images }) a < size f) (sym bytes)
    (image-below 8 (record { images = images }) a (λ i small. below_at 256 (omega arith) images all i))

-- what is declared over bits is no map
no_map_in : (w : What) → is_no_map_of Gf2 w ≡ false → map_in w ≡ None
no_map_in (what.Map images) e = absurd (true≢false e)
no_map_in (what.Var class size) e = refl

-- over bits no map is declared
pub no_maps_of_bits : (earlier decls : List Decl) → decls_offences Gf2 earlier decls ≡ [] → maps_of decls ≡ []
no_maps_of_bits earlier [] e = refl
no_maps_of_bits earlier (d ∷ ds) e =
    let both = no_offences (decl_offences Gf2 earlier d) (decls_offences Gf2 (earlier ++ d ∷ []) ds) e in
    let form = not_when _ d.at kind_.MapForm
    (no_offences (when (is_some (declared earlier d.name)) d.at kind_.Twice) (when (is_no_map_of Gf2 d.what) d.at kind_.MapForm) both.0).1 in
    ap (λ o. cons_option o (maps_of ds)) (no_map_in d.what form) ∙ no_maps_of_bits (earlier ++ d ∷ []) ds both.1
