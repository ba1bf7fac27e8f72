-- What was merged, marked and kept is simplified.
use Rattle.std.proofs.Common.{◌≡◌, ℕ, ◌<◌, List, [], ◌∷◌, ◌++◌, ◌⊎◌, inl, inr, Bool, true, false, All, flat_map, map, length, take_all, slice_get, get_or, Some, refl, sym, ◌∙◌, ap, subst, arith}
use Rattle.std.specs.List.{AllByRecursion, Contains}
use Rattle.std.proofs.lemmas.List.Elements.{All-map, All-weaker, All-head, All-tail, All-contains, Contains-get_or}
use Rattle.std.proofs.lemmas.Option.{slice_get-get_or}
use Rattle.mk_base.proofs.Lists.{Contains-map}
use Rattle.mk_field.specs.declared.field.FieldId.{FieldId}
use Rattle.mk_field.specs.declared.map.AddMap.{AddMap}
use Rattle.mk_ssa.specs.declared.Op.{Op}
use Rattle.mk_ssa.specs.declared.Operand.{Operand}
use Rattle.mk_ssa.specs.declared.Operand.TheVariants.{Block}
use Rattle.mk_ssa.specs.Operators.{operands}
use Rattle.mk_ssa.specs.Values.{Values, Draft, IsDraft, IsValues, IsSharedThere, draft}
use Rattle.mk_ssa.proofs.Lists.{slice_get-at}
use Rattle.mk_simplify.specs.Trees.{Tree, trees, tree_of, parts}
use Rattle.mk_simplify.specs.Simplified.{needed, IsSimplified, AreKept}
use Rattle.mk_simplify.specs.Renumbering.{renumbered, OnValue, IsBelow, AreEarlier, IsMarked, IsMerged, AreMarked, ArePlaced, marked}
use Rattle.mk_simplify.proofs.Trees.{length-trees, map-same, map-of-map}
use Rattle.mk_simplify.proofs.Carried.{made-earlier, shared-within, carried-operand, carried-shared}
use Rattle.mk_simplify.proofs.Kept.{AreKept-marked, AreChosen, unsome}
use Rattle.mk_simplify.proofs.Different.{OnValue-everywhere, trees-different, true-not_false}
use Rattle.mk_simplify.proofs.Marks.{flat_map-from, AllByRecursion-contains}
use Rattle.mk_simplify.proofs.Merges.{merged-operand, merged-within, tree-at}
use Rattle.mk_simplify.proofs.Placing.{placed-operands, on-both}
use Rattle.mk_simplify.proofs.Reached.{reached}

-- the steps that were made
pub record IsMade (s : Values) (kept : List Op) (numbers : List ℕ) (outs : List Operand) (marks : List Bool) (values : List Op) (places : List ℕ) : Type 0 where
  pub whole : IsValues s
  pub merged : IsMerged (draft s) kept numbers
  pub renumbered : outs ≡ map (renumbered numbers) s.outs
  pub marked : AreMarked kept outs marks
  pub placed : ArePlaced (length kept) kept marks values places
  pub made : IsDraft (record (draft s) { values = values })

-- what holds of each, one after the other
pub all-recursion : {X : Type 0} (P : X → Type 0) (xs : List X) → All P xs → AllByRecursion P xs
all-recursion P [] all = tt
all-recursion P (x ∷ xs) all = (All-head P x xs all, all-recursion P xs (All-tail P x xs all))

-- what is made of images
pub flat_map-map : {X Y Z : Type 0} (g : Y → List Z) (f : X → Y) (xs : List X) → flat_map g (map f xs) ≡ flat_map (λ x. g (f x)) xs
flat_map-map g f [] = refl
flat_map-map g f (x ∷ xs) = ap (λ l. g (f x) ++ l) (flat_map-map g f xs)

-- what is made of equal parts
flat_map-same : {X Y : Type 0} (f g : X → List Y) (xs : List X) → AllByRecursion (λ x. f x ≡ g x) xs → flat_map f xs ≡ flat_map g xs
flat_map-same f g [] same = refl
flat_map-same f g (x ∷ xs) same = ap (λ l. l ++ flat_map f xs) same.0 ∙ ap (λ l. g x ++ l) (flat_map-same f g xs same.1)

-- the outputs are there
pub outs-within : (s : Values) → IsValues s → All (IsBelow (length s.values)) s.outs
outs-within s whole = All-weaker (IsSharedThere (draft s)) (IsBelow (length s.values)) (shared-within (draft s)) s.outs whole.outs

-- the outputs of the merged values are there
pub outs-merged : (s : Values) (kept : List Op) (numbers : List ℕ) (outs : List Operand) → IsValues s → IsMerged (draft s) kept numbers
    → outs ≡ map (renumbered numbers) s.outs → All (IsBelow (length kept)) outs
outs-merged s kept numbers outs whole merged are =
    subst (All (IsBelow (length kept))) (sym are)
    (All-map (IsBelow (length kept)) (renumbered numbers) s.outs
    (All-weaker (IsBelow (length s.values)) (λ v. IsBelow (length kept) (renumbered numbers v)) (merged-within (draft s) kept numbers merged) s.outs (outs-within s whole)))

-- the tree of an output of the merged values
merged-outs : (s : Values) (kept : List Op) (numbers : List ℕ) → IsValues s → IsMerged (draft s) kept numbers
    → AllByRecursion (λ v. tree_of kept (renumbered numbers v) ≡ tree_of s.values v) s.outs
merged-outs s kept numbers whole merged =
    all-recursion (λ v. tree_of kept (renumbered numbers v) ≡ tree_of s.values v) s.outs
    (All-weaker (IsBelow (length s.values)) (λ v. tree_of kept (renumbered numbers v) ≡ tree_of s.values v)
    (merged-operand (draft s) kept numbers whole.made merged) s.outs (outs-within s whole))

-- the merged values need the same trees
merged-needed : (s : Values) (kept : List Op) (numbers : List ℕ) (outs : List Operand) → IsValues s → IsMerged (draft s) kept numbers
    → outs ≡ map (renumbered numbers) s.outs → flat_map (λ v. parts (tree_of kept v)) outs ≡ needed s
merged-needed s kept numbers outs whole merged are =
    ap (flat_map (λ v. parts (tree_of kept v))) are
    ∙ flat_map-map (λ v. parts (tree_of kept v)) (renumbered numbers) s.outs
    ∙ flat_map-same (λ v. parts (tree_of kept (renumbered numbers v))) (λ v. parts (tree_of s.values v)) s.outs
    (parts-same s.outs (merged-outs s kept numbers whole merged))
  where
    parts-same : (vs : List Operand) → AllByRecursion (λ v. tree_of kept (renumbered numbers v) ≡ tree_of s.values v) vs
        → AllByRecursion (λ v. parts (tree_of kept (renumbered numbers v)) ≡ parts (tree_of s.values v)) vs
    parts-same [] same = tt
    parts-same (v ∷ vs) same = (ap parts same.0, parts-same vs same.1)

-- what outputs are made of is marked
needed-marked : (kept : List Op) (outs : List Operand) (marks : List Bool) → AreEarlier kept
    → ((i j : ℕ) (x : Op) → slice_get kept i ≡ Some x → slice_get kept j ≡ Some x → i ≡ j)
    → All (IsBelow (length kept)) outs → AreMarked kept outs marks → (k : ℕ) → k < length kept
    → Contains (flat_map (λ v. parts (tree_of kept v)) outs) (tree_of kept (Block k)) → IsMarked marks k
needed-marked kept outs marks earlier different below are k within there =
    let found = flat_map-from (λ v. parts (tree_of kept v)) outs (tree_of kept (Block k)) there in
    let v = found.0 in
    let on_v : OnValue (IsMarked marks) v = All-contains (OnValue (IsMarked marks)) outs v are.outputs found.1 in
    elim (reached (IsMarked marks) kept earlier (trees-different kept earlier different) are.closed (length kept) v k
    (All-contains (IsBelow (length kept)) outs v below found.1) (omega arith) on_v within found.2) [
      | inl same ↦ subst (OnValue (IsMarked marks)) same on_v
      | inr operand ↦
          AllByRecursion-contains (OnValue (IsMarked marks)) (operands operand.1) (Block k) (are.closed operand.0 operand.1 operand.2 operand.3) operand.4
    ]

-- each tree of the merged values is marked just where it is needed
chosen : (s : Values) (kept : List Op) (numbers : List ℕ) (outs : List Operand) (marks : List Bool) (values : List Op) (places : List ℕ)
    → IsMade s kept numbers outs marks values places → AreChosen (needed s) marks (trees kept)
chosen s kept numbers outs marks values places made k t at =
    let within : k < length kept = omega (arith, (slice_get-at (trees kept) k t t at).0, length-trees kept) in
    let t_is : tree_of kept (Block k) ≡ t = unsome (sym (tree-at kept k within) ∙ at) in
    let same = merged-needed s kept numbers outs made.whole made.merged made.renumbered in
    let mark : slice_get marks k ≡ Some (get_or marks k false) = slice_get-get_or marks k false (omega (arith, within, made.marked.count)) in
    either (get_or marks k false) mark t_is same within
  where
    either : (b : Bool) → slice_get marks k ≡ Some b → tree_of kept (Block k) ≡ t → flat_map (λ v. parts (tree_of kept v)) outs ≡ needed s → k < length kept
        → ((slice_get marks k ≡ Some true) × Contains (needed s) t) ⊎ ((slice_get marks k ≡ Some false) × (¬ Contains (needed s) t))
    either true mark t_is same within =
        inl (mark, subst (λ (x : Tree). Contains (needed s) x) t_is (subst (λ (l : List Tree). Contains l (tree_of kept (Block k))) same (made.marked.needed k mark)))
    either false mark t_is same within =
        inr (
          mark,
          λ there.
              let marked_k : IsMarked marks k =
              needed-marked kept outs marks (made-earlier (record (draft s) { values = kept }) made.merged.made) made.merged.different
              (outs-merged s kept numbers outs made.whole made.merged made.renumbered) made.marked k within
              (subst (λ (l : List Tree). Contains l (tree_of kept (Block k))) (sym same) (subst (λ (x : Tree). Contains (needed s) x) (sym t_is) there)) in
              true-not_false (unsome (sym marked_k ∙ mark)),
        )

-- the values that are marked, among those merged
abbrev pub IsOn : List Op → List Bool → ℕ → Type 0
IsOn kept marks k = (k < length kept) × IsMarked marks k

-- an output of the merged values is marked
output-on : (s : Values) (kept : List Op) (numbers : List ℕ) (outs : List Operand) (marks : List Bool) (values : List Op) (places : List ℕ)
    → IsMade s kept numbers outs marks values places → (v : Operand) → Contains s.outs v → OnValue (IsOn kept marks) (renumbered numbers v)
output-on s kept numbers outs marks values places made v there =
    let w = renumbered numbers v in
    let there_w : Contains outs w = subst (λ (l : List Operand). Contains l w) (sym made.renumbered) (Contains-map (renumbered numbers) s.outs v there) in
    on-both (IsMarked marks) (length kept) w (
      All-contains (IsBelow (length kept)) outs w (outs-merged s kept numbers outs made.whole made.merged made.renumbered) there_w,
      All-contains (OnValue (IsMarked marks)) outs w made.marked.outputs there_w,
    )

-- the tree of an output
output-tree : (s : Values) (kept : List Op) (numbers : List ℕ) (outs : List Operand) (marks : List Bool) (values : List Op) (places : List ℕ)
    → IsMade s kept numbers outs marks values places → (v : Operand) → Contains s.outs v
    → tree_of values (renumbered places (renumbered numbers v)) ≡ tree_of s.values v
output-tree s kept numbers outs marks values places made v there =
    let earlier = made-earlier (record (draft s) { values = kept }) made.merged.made in
    let below = All-contains (IsBelow (length s.values)) s.outs v (outs-within s made.whole) there in
    carried-operand (IsOn kept marks) kept values places earlier (made-earlier (record (draft s) { values = values }) made.made)
    (λ k x on at. placed-operands kept marks k (length kept) x earlier made.marked.closed (omega (arith, on.0)) on.1 at)
    made.placed.carried (renumbered numbers v) (output-on s kept numbers outs marks values places made v there)
    (merged-within (draft s) kept numbers made.merged v below)
    ∙ merged-operand (draft s) kept numbers made.whole.made made.merged v below

-- the values and outputs are those simplified
pub made-simplified : (s : Values) (kept : List Op) (numbers : List ℕ) (outs : List Operand) (marks : List Bool) (values : List Op) (places : List ℕ)
    → IsMade s kept numbers outs marks values places
    → IsSimplified s (record { field = s.field; secrets = s.secrets; publics = s.publics; maps = s.maps; values = values; outs = map (renumbered places) outs })
made-simplified s kept numbers outs marks values places made = record {
  field = refl;
  secrets = refl;
  publics = refl;
  maps = refl;
  kept =
      subst (AreKept (needed s) [] (trees s.values)) (sym (made.placed.chosen ∙ ap (marked marks) (take_all (length kept) (trees kept) (omega (arith, length-trees kept)))))
      (AreKept-marked (trees s.values) (needed s) [] (trees s.values) (trees kept) marks (λ t there. there)
      (made.merged.first (trees s.values) (λ t there. there)) (chosen s kept numbers outs marks values places made));
  outs =
      ap (λ (l : List Operand). map (tree_of values) (map (renumbered places) l)) made.renumbered
      ∙ map-of-map (tree_of values) (renumbered places) (map (renumbered numbers) s.outs)
      ∙ map-of-map (λ v. tree_of values (renumbered places v)) (renumbered numbers) s.outs
      ∙ map-same (λ v. tree_of values (renumbered places (renumbered numbers v))) (tree_of s.values) s.outs
      (all-recursion (λ v. tree_of values (renumbered places (renumbered numbers v)) ≡ tree_of s.values v) s.outs
      (λ k d below. output-tree s kept numbers outs marks values places made (get_or s.outs k d) (Contains-get_or s.outs k d below)));
}

-- the outputs are shared
pub made-shared : (s : Values) (kept : List Op) (numbers : List ℕ) (outs : List Operand) (marks : List Bool) (values : List Op) (places : List ℕ)
    → IsMade s kept numbers outs marks values places
    → All (IsSharedThere (record (draft s) { values = values })) (map (renumbered places) outs)
made-shared s kept numbers outs marks values places made =
    let r : Draft = record (draft s) { values = values } in
    let e : Draft = record (draft s) { values = kept } in
    All-map (IsSharedThere r) (renumbered places) outs
    (subst (All (λ w. IsSharedThere r (renumbered places w))) (sym made.renumbered)
    (All-map (λ w. IsSharedThere r (renumbered places w)) (renumbered numbers) s.outs
    (λ k d below.
    let v = get_or s.outs k d in
    carried-shared e r (IsOn kept marks) places refl made.placed.carried (renumbered numbers v)
    (output-on s kept numbers outs marks values places made v (Contains-get_or s.outs k d below))
    (carried-shared (draft s) e (λ j. Unit {0}) numbers refl made.merged.carried v (OnValue-everywhere v) (made.whole.outs k d below)))))

-- no value yet, or some, over these inputs
abbrev pub over_inputs : List Op → FieldId → ℕ → ℕ → List AddMap → Draft
over_inputs ops field secrets publics maps = record { field = field; secrets = secrets; publics = publics; maps = maps; values = ops }

-- the builder of the kept values is over the inputs of the values
pub steps-builder : (s : Values) (last first : Draft) (field : FieldId) (secrets publics : ℕ) (maps : List AddMap)
    → last ≡ record first { values = last.values } → first ≡ record { field = field; secrets = secrets; publics = publics; maps = maps; values = [] }
    → field ≡ s.field → secrets ≡ s.secrets → publics ≡ s.publics → maps ≡ s.maps → last ≡ record (draft s) { values = last.values }
steps-builder s last first field secrets publics maps kept begun field_is secrets_is publics_is maps_is =
    kept
    ∙ ap (λ (d : Draft). record d { values = last.values }) begun
    ∙ ap (λ (x : FieldId). over_inputs last.values x secrets publics maps) field_is
    ∙ ap (λ (x : ℕ). over_inputs last.values s.field x publics maps) secrets_is
    ∙ ap (λ (x : ℕ). over_inputs last.values s.field s.secrets x maps) publics_is
    ∙ ap (λ (x : List AddMap). over_inputs last.values s.field s.secrets s.publics x) maps_is

-- the steps that were made
pub steps-made : (s : Values) (kept : List Op) (numbers : List ℕ) (outs : List Operand) (marks : List Bool) (last : Draft) (places : List ℕ)
    (first : Draft) (field : FieldId) (secrets publics : ℕ) (maps : List AddMap)
    → IsValues s → IsMerged (draft s) kept numbers → outs ≡ map (renumbered numbers) s.outs → AreMarked kept outs marks
    → ArePlaced (length kept) kept marks last.values places → IsDraft last
    → last ≡ record first { values = last.values } → first ≡ record { field = field; secrets = secrets; publics = publics; maps = maps; values = [] }
    → field ≡ s.field → secrets ≡ s.secrets → publics ≡ s.publics → maps ≡ s.maps → IsMade s kept numbers outs marks last.values places
steps-made s kept numbers outs marks last places first field secrets publics maps whole merged are marked_are placed fit same begun field_is secrets_is publics_is maps_is = record {
  whole = whole;
  merged = merged;
  renumbered = are;
  marked = marked_are;
  placed = placed;
  made = subst IsDraft (steps-builder s last first field secrets publics maps same begun field_is secrets_is publics_is maps_is) fit;
}
