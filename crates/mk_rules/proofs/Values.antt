-- What placed gadgets compute from elements are elements.
use Rattle.std.proofs.Common.{◌≡◌, ℕ, ◌+◌, ◌<◌, List, [], ◌∷◌, ◌++◌, length, map, drop, slice_index, slice_index_or, sym, subst, arith, inl, inr}
use Rattle.std.specs.List.{All}
use Rattle.std.proofs.lemmas.Bool.{cases_lt}
use Rattle.std.proofs.lemmas.List.{get_or_past}
use Rattle.std.proofs.lemmas.List.Elements.{All-get_or}
use Rattle.mk_field.specs.declared.field.FieldId.{FieldId}
use Rattle.mk_field.specs.declared.map.AddMap.{AddMap}
use Rattle.mk_field.specs.Field.{bits, size, image_by}
use Rattle.mk_field.proofs.Sum.{sum-in_field, zero-element}
use Rattle.mk_field.proofs.Product.{product-in_field, square-in_field, image-below}
use Rattle.mk_code.specs.declared.instr.Instr.{Instr}
use Rattle.mk_code.specs.declared.instr.Instr.TheVariants.{Rnd, Const, Copy, Add, Mul, Sq, Map}
use Rattle.mk_code.specs.Listing.{FitsAt, AllFit, AreElementMaps}
use Rattle.mk_code.specs.Trace.{run, takes, entry}
use Rattle.mk_code.specs.Counting.{AllBelow, Elements}
use Rattle.mk_code.proofs.Totals.{AllBelow-append, AllBelow-drop}
use Rattle.mk_code.proofs.Runs.{length-run}
use Rattle.mk_gadget.specs.Gadget.{Gadget, moved, placement, placed}
use Rattle.mk_rules.proofs.Views.{index-below}

-- the images of the bits under a map that is there, and under one that isn't
bit-image : (field : FieldId) (m : AddMap) (i : ℕ) → All (λ image. image < size field) m.images → slice_index m.images i < size field
bit-image field m i all = elim (cases_lt i (length m.images)) [
  | inl inside ↦ All-get_or (λ image. image < size field) m.images i 0 inside all
  | inr past ↦ omega (arith, get_or_past m.images i 0 past, zero-element field)
]

-- so are all images
image-element : (field : FieldId) (maps : List AddMap) (k a : ℕ) → AreElementMaps field maps → image_by maps k a < size field
image-element field maps k a all = elim (cases_lt k (length maps)) [
  | inl inside ↦
      let none : AddMap = record { images = [] } in
      image-below (bits field) (slice_index_or maps k none) a
      (λ i low. bit-image field (slice_index_or maps k none) i (All-get_or (λ m. All (λ image. image < size field) m.images) maps k none inside all))
  | inr past ↦
      let none : AddMap = record { images = [] } in
      image-below (bits field) (slice_index_or maps k none) a
      (λ i low. subst (λ (m : AddMap). slice_index m.images i < size field) (sym (get_or_past maps k none past)) (zero-element field))
]

-- the value of a moved instruction behind elements is an element
entry-element : (field : FieldId) (maps : List AddMap) (count len : ℕ) (to : ℕ → ℕ) (i : Instr) (word : ℕ) (entries : List ℕ)
    → AreElementMaps field maps → FitsAt field count len i → word < size field → AllBelow (size field) entries
    → entry field maps (moved to i) word entries < size field
entry-element field maps count len to Rnd word entries all fits small below = small
entry-element field maps count len to (Const value) word entries all fits small below = fits
entry-element field maps count len to (Copy from) word entries all fits small below = index-below (size field) entries (to from) (zero-element field) below
entry-element field maps count len to (Add left right) word entries all fits small below =
    sum-in_field field (slice_index entries (to left)) (slice_index entries (to right))
    (index-below (size field) entries (to left) (zero-element field) below) (index-below (size field) entries (to right) (zero-element field) below)
entry-element field maps count len to (Mul left right) word entries all fits small below =
    product-in_field field (slice_index entries (to left)) (slice_index entries (to right))
    (index-below (size field) entries (to left) (zero-element field) below)
entry-element field maps count len to (Sq from) word entries all fits small below =
    square-in_field field (slice_index entries (to from)) (index-below (size field) entries (to from) (zero-element field) below)
entry-element field maps count len to (Map k from) word entries all fits small below = image-element field maps k (slice_index entries (to from)) all

-- so are those of moved instructions
run-elements : (field : FieldId) (maps : List AddMap) (count len : ℕ) (to : ℕ → ℕ) (is : List Instr) (tape entries : List ℕ)
    → AreElementMaps field maps → AllFit field count len is → AllBelow (size field) tape → AllBelow (size field) entries
    → AllBelow (size field) (run field maps (map (moved to) is) tape entries)
unfolding run AllBelow
run-elements field maps count len to [] tape entries all fit random below = below
run-elements field maps count len to (i ∷ is) tape entries all fit random below =
    let word : ℕ = slice_index tape 0 in
    let small : word < size field = index-below (size field) tape 0 (zero-element field) random in
    let value : ℕ = entry field maps (moved to i) word entries in
    run-elements field maps count (len + 1) to is (drop (takes (moved to i)) tape) (entries ++ value ∷ []) all fit.1
    (AllBelow-drop (size field) (takes (moved to i)) tape random)
    (AllBelow-append (size field) entries (value ∷ []) below (entry-element field maps count len to i word entries all fit.0 small below, tt))

-- behind a placed gadget stand one element more for each of its instructions
pub placed-elements : (field : FieldId) (maps : List AddMap) (count len base : ℕ) (reads : List ℕ) (gadget : Gadget) (tape entries : List ℕ)
    → AreElementMaps field maps → AllFit field count len gadget.instrs → AllBelow (size field) tape → Elements (size field) base entries
    → length (placed reads base gadget) ≡ length gadget.instrs
    → Elements (size field) (base + length gadget.instrs) (run field maps (placed reads base gadget) tape entries)
placed-elements field maps count len base reads gadget tape entries all fit random here long = record {
  count = omega (arith, length-run field maps (placed reads base gadget) tape entries, here.count, long);
  below = run-elements field maps count len (placement reads base) gadget.instrs tape entries all fit random here.below;
}
