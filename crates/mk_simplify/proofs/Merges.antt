-- One value more is merged: it is one of those that are kept, or the next of them.
use Rattle.std.proofs.Common.{◌≡◌, ℕ, ◌≤◌, ◌<◌, List, [], ◌∷◌, ◌++◌, ◌⊎◌, inl, inr, length, slice_get, slice_index, get_or, Some, refl, sym, ◌∙◌, ap, subst, arith}
use Rattle.std.specs.List.{AllByRecursion, Contains}
use Rattle.std.proofs.lemmas.List.{length-append, get_or_append_left}
use Rattle.std.proofs.lemmas.List.Elements.{Contains-append_left, Contains-push}
use Rattle.std.proofs.lemmas.Option.{slice_get-get_or}
use Rattle.std.proofs.Math.Seq.{get_or-append_seam}
use Rattle.mk_ssa.specs.declared.Op.{Op}
use Rattle.mk_ssa.specs.declared.Op.TheVariants.{Const}
use Rattle.mk_ssa.specs.declared.Operand.{Operand}
use Rattle.mk_ssa.specs.declared.Operand.TheVariants.{Secret, Public, Block}
use Rattle.mk_ssa.specs.Operators.{operands, with_operands}
use Rattle.mk_ssa.specs.Values.{Draft, IsDraft, Fits, front, pushed}
use Rattle.mk_field.specs.Field.{HasMapsOnlyInBytes}
use Rattle.mk_ssa.specs.Denoted.{in_order}
use Rattle.mk_ssa.proofs.Lists.{slice_get-at, slice_get-more, slice_get-last, slice_get-cases, slice_get-front, take-take-below}
use Rattle.mk_ssa.proofs.There.{IsDraft-pushed}
use Rattle.mk_ssa.proofs.InOrder.{in_order-push}
use Rattle.mk_simplify.specs.Trees.{Tree, tree_by, next_tree, trees, tree_of}
use Rattle.mk_simplify.specs.Simplified.{AreKept}
use Rattle.mk_simplify.specs.Renumbering.{renumbered, OnValue, IsBelow, AreEarlier, AreCarried, IsMerged}
use Rattle.mk_simplify.proofs.Operators.{operands-there}
use Rattle.mk_simplify.proofs.Trees.{tree_by-same, tree_by-with, tree_of-at, length-trees, AllByRecursion-weaker}
use Rattle.mk_simplify.proofs.Carried.{AllByRecursion-of_all, shared-within, public-within, made-earlier, carried-operand, carried-fits, with_operands-more}
use Rattle.mk_simplify.proofs.Kept.{AreKept-new, AreKept-old, AreKept-at}
use Rattle.mk_simplify.proofs.Different.{OnValue-everywhere, get_or-within, same-tree}

-- no value is merged
pub IsMerged-new : (d : Draft) → d.values ≡ [] → HasMapsOnlyInBytes d.field d.maps → IsMerged d [] []
unfolding in_order AreKept
IsMerged-new d none bytes = record {
  count = ap length (sym none);
  few = omega arith;
  made = record { bytes = bytes; fit = λ k x at. absurd (cc) };
  carried = λ k x everywhere at. let bad : slice_get [] k ≡ Some x = subst (λ (l : List Op). slice_get l k ≡ Some x) none at in absurd (cc);
  different = λ i j x first second. absurd (cc);
  first = λ wanted all. subst (λ (l : List Op). AreKept wanted [] (trees l) []) (sym none) refl;
}

-- the operands of a value that fits are there
pub fits-within : (d : Draft) (x : Op) → Fits d x → AllByRecursion (IsBelow (length d.values)) (operands x)
fits-within d x fits = operands-there d (IsBelow (length d.values)) x (shared-within d) (public-within d) fits

-- the trees of values and one more
pub trees-push : (ops : List Op) (x : Op) → trees (ops ++ x ∷ []) ≡ trees ops ++ tree_by (tree_of ops) x ∷ []
trees-push ops x = in_order-push next_tree [] ops x

-- the tree of an operand that was merged
pub merged-operand : (d : Draft) (kept : List Op) (numbers : List ℕ) → IsDraft d → IsMerged d kept numbers
    → (v : Operand) → IsBelow (length d.values) v → tree_of kept (renumbered numbers v) ≡ tree_of d.values v
merged-operand d kept numbers made merged v below =
    carried-operand (λ k. Unit {0}) d.values kept numbers (made-earlier d made) (made-earlier (record d { values = kept }) merged.made)
    (λ k x everywhere at. AllByRecursion-of_all (OnValue (λ k. Unit {0})) (operands x) OnValue-everywhere) merged.carried v (OnValue-everywhere v) below

-- the tree of an operator over operands that were merged
pub merged-tree : (d : Draft) (kept : List Op) (numbers : List ℕ) (x : Op) → IsDraft d → IsMerged d kept numbers
    → AllByRecursion (IsBelow (length d.values)) (operands x)
    → tree_by (tree_of kept) (with_operands (renumbered numbers) x) ≡ tree_by (tree_of d.values) x
merged-tree d kept numbers x made merged below =
    tree_by-with (tree_of kept) (renumbered numbers) x
    ∙ tree_by-same (λ v. tree_of kept (renumbered numbers v)) (tree_of d.values) x
    (AllByRecursion-weaker (IsBelow (length d.values)) (λ v. tree_of kept (renumbered numbers v) ≡ tree_of d.values v) (operands x)
    (merged-operand d kept numbers made merged) below)

-- a merged operand is there
pub merged-within : (d : Draft) (kept : List Op) (numbers : List ℕ) → IsMerged d kept numbers
    → (v : Operand) → IsBelow (length d.values) v → IsBelow (length kept) (renumbered numbers v)
merged-within d kept numbers merged (Secret k) below = tt
merged-within d kept numbers merged (Public k) below = tt
merged-within d kept numbers merged (Block k) below =
    let x = get_or d.values k (Const 0) in
    (slice_get-at kept (slice_index numbers k) (with_operands (renumbered numbers) x) (Const 0)
    (merged.carried k x tt (slice_get-get_or d.values k (Const 0) below))).0

-- the number of the value that is added, and the kept values then
abbrev pub IsFound : (kept : List Op) (x : Op) (then_kept : List Op) (number : ℕ) → Type 0
IsFound kept x then_kept number =
    ((then_kept ≡ kept) × (slice_get kept number ≡ Some x))
    ⊎ ((then_kept ≡ kept ++ x ∷ []) × (number ≡ length kept) × ((k : ℕ) → slice_get kept k ≡ Some x → ⊥))

-- what was carried stays so, and the added value is carried
carried-more : (ops kept next : List Op) (numbers : List ℕ) (x : Op) (number : ℕ) → AreEarlier ops → length numbers ≡ length ops
    → AllByRecursion (IsBelow (length ops)) (operands x) → AreCarried (λ k. Unit {0}) ops kept numbers
    → ((k : ℕ) (y : Op) → slice_get kept k ≡ Some y → slice_get next k ≡ Some y)
    → slice_get next number ≡ Some (with_operands (renumbered numbers) x)
    → AreCarried (λ k. Unit {0}) (ops ++ x ∷ []) next (numbers ++ number ∷ [])
carried-more ops kept next numbers x number earlier count below carried stays here k y everywhere at = elim (slice_get-cases ops x k y at) [
  | inl before ↦
      let small : AllByRecursion (IsBelow (length numbers)) (operands y) =
      AllByRecursion-weaker (IsBelow k) (IsBelow (length numbers)) (operands y) (below-numbers k (omega (arith, before.0, count))) (earlier k y before.1) in
      ap (slice_get next) (get_or_append_left numbers (number ∷ []) 0 k (omega (arith, before.0, count)))
      ∙ stays (slice_index numbers k) (with_operands (renumbered numbers) y) (carried k y tt before.1)
      ∙ ap Some (sym (with_operands-more numbers (number ∷ []) y small))
  | inr last ↦
      let small : AllByRecursion (IsBelow (length numbers)) (operands x) = subst (λ (n : ℕ). AllByRecursion (IsBelow n) (operands x)) (sym count) below in
      let place : k ≡ length numbers = last.0 ∙ sym count in
      ap (λ (i : ℕ). slice_get next (slice_index (numbers ++ number ∷ []) i)) place
      ∙ ap (slice_get next) (get_or-append_seam numbers number [] 0)
      ∙ here
      ∙ ap Some (sym (with_operands-more numbers (number ∷ []) x small))
      ∙ ap (λ (z : Op). Some (with_operands (renumbered (numbers ++ number ∷ [])) z)) last.1
]
  where
    below-numbers : (i : ℕ) → i ≤ length numbers → (v : Operand) → IsBelow i v → IsBelow (length numbers) v
    below-numbers i small (Secret j) less = tt
    below-numbers i small (Public j) less = tt
    below-numbers i small (Block j) less = omega (arith, small, less)

-- kept values stay different when one comes that is none of them
different-more : (kept : List Op) (x : Op) → ((i j : ℕ) (y : Op) → slice_get kept i ≡ Some y → slice_get kept j ≡ Some y → i ≡ j)
    → ((k : ℕ) → slice_get kept k ≡ Some x → ⊥)
    → (i j : ℕ) (y : Op) → slice_get (kept ++ x ∷ []) i ≡ Some y → slice_get (kept ++ x ∷ []) j ≡ Some y → i ≡ j
different-more kept x different fresh i j y first second = elim (slice_get-cases kept x i y first) [
  | inl a ↦ elim (slice_get-cases kept x j y second) [
    | inl b ↦ different i j y a.1 b.1
    | inr b ↦ absurd (fresh i (a.1 ∙ ap Some (sym b.1)))
  ]
  | inr a ↦ elim (slice_get-cases kept x j y second) [
    | inl b ↦ absurd (fresh j (b.1 ∙ ap Some (sym a.1)))
    | inr b ↦ a.0 ∙ sym b.0
  ]
]

-- each tree of the values is that of a kept one
merged-contained : (d : Draft) (kept : List Op) (numbers : List ℕ) → IsDraft d → IsMerged d kept numbers → (t : Tree) → Contains (trees d.values) t
    → (k : ℕ) × (k < length kept) × (tree_of kept (Block k) ≡ t)
merged-contained d kept numbers made merged t there =
    let k = there.0 in
    let within : k < length d.values = omega (arith, there.1, length-trees d.values) in (
      slice_index numbers k,
      merged-within d kept numbers merged (Block k) within,
      merged-operand d kept numbers made merged (Block k) within ∙ get_or-within (trees d.values) k (Tree.Input (Block k)) t there.1 ∙ there.2,
    )

-- the tree of a value that is there
pub tree-at : (ops : List Op) (k : ℕ) → k < length ops → slice_get (trees ops) k ≡ Some (tree_of ops (Block k))
tree-at ops k below = slice_get-get_or (trees ops) k (Tree.Input (Block k)) (omega (arith, length-trees ops, below))

-- the trees, where the added value is one of those kept
first-old : (d : Draft) (kept : List Op) (numbers : List ℕ) (x : Op) (number : ℕ) → IsMerged d kept numbers → AreEarlier kept
    → slice_get kept number ≡ Some (with_operands (renumbered numbers) x)
    → tree_by (tree_of kept) (with_operands (renumbered numbers) x) ≡ tree_by (tree_of d.values) x
    → (wanted : List Tree) → ((t : Tree) → Contains (trees (d.values ++ x ∷ [])) t → Contains wanted t)
    → AreKept wanted [] (trees (d.values ++ x ∷ [])) (trees kept)
first-old d kept numbers x number merged earlier here same wanted all =
    let y = with_operands (renumbered numbers) x in
    let t = tree_by (tree_of d.values) x in
    let push : trees (d.values ++ x ∷ []) ≡ trees d.values ++ t ∷ [] = trees-push d.values x in
    let before : (s : Tree) → Contains (trees d.values) s → Contains wanted s =
    λ s there. all s (subst (λ (l : List Tree). Contains l s) (sym push) (Contains-append_left (trees d.values) (t ∷ []) s there)) in
    let so_far = merged.first wanted before in
    let at : slice_get (trees kept) number ≡ Some t =
    tree-at kept number (slice_get-at kept number y y here).0 ∙ ap Some (tree_of-at kept number y earlier here ∙ same) in
    let old : Contains (trees d.values) t = (AreKept-at wanted [] (trees d.values) (trees kept) number t so_far at).0 in
    subst (λ (l : List Tree). AreKept wanted [] l (trees kept)) (sym push)
    (AreKept-old wanted [] (trees d.values) (trees kept) t so_far (λ is. is.0 old))

-- the trees, where the added value is the next of those kept
first-new : (d : Draft) (kept : List Op) (numbers : List ℕ) (x : Op) → IsDraft d → IsMerged d kept numbers → AreEarlier kept
    → AllByRecursion (IsBelow (length kept)) (operands (with_operands (renumbered numbers) x))
    → ((k : ℕ) → slice_get kept k ≡ Some (with_operands (renumbered numbers) x) → ⊥)
    → tree_by (tree_of kept) (with_operands (renumbered numbers) x) ≡ tree_by (tree_of d.values) x
    → (wanted : List Tree) → ((t : Tree) → Contains (trees (d.values ++ x ∷ [])) t → Contains wanted t)
    → AreKept wanted [] (trees (d.values ++ x ∷ [])) (trees (kept ++ with_operands (renumbered numbers) x ∷ []))
first-new d kept numbers x made merged earlier below fresh same wanted all =
    let y = with_operands (renumbered numbers) x in
    let t = tree_by (tree_of d.values) x in
    let push : trees (d.values ++ x ∷ []) ≡ trees d.values ++ t ∷ [] = trees-push d.values x in
    let before : (s : Tree) → Contains (trees d.values) s → Contains wanted s =
    λ s there. all s (subst (λ (l : List Tree). Contains l s) (sym push) (Contains-append_left (trees d.values) (t ∷ []) s there)) in
    let wanted_t : Contains wanted t = all t (subst (λ (l : List Tree). Contains l t) (sym push) (Contains-push (trees d.values) t)) in
    let none : ¬ Contains (trees d.values) t =
    λ there.
    let found = merged-contained d kept numbers made merged t there in
    fresh found.0 (same-tree kept found.0 y earlier merged.different found.1 below (found.2 ∙ sym same)) in
    let kept_push : trees (kept ++ y ∷ []) ≡ trees kept ++ t ∷ [] = trees-push kept y ∙ ap (λ (s : Tree). trees kept ++ s ∷ []) same in
    subst (λ (l : List Tree). AreKept wanted [] l (trees (kept ++ y ∷ []))) (sym push)
    (subst (λ (l : List Tree). AreKept wanted [] (trees d.values ++ t ∷ []) l) (sym kept_push)
    (AreKept-new wanted [] (trees d.values) (trees kept) t (merged.first wanted before) (none, wanted_t)))

-- one value more
pub IsMerged-push : (d : Draft) (kept next : List Op) (numbers : List ℕ) (x : Op) (number : ℕ) → IsDraft d → IsMerged d kept numbers → Fits d x
    → IsFound kept (with_operands (renumbered numbers) x) next number → IsMerged (pushed d x) next (numbers ++ number ∷ [])
IsMerged-push d kept next numbers x number made merged fits found =
    let y = with_operands (renumbered numbers) x in
    let e : Draft = record d { values = kept } in
    let below = fits-within d x fits in
    let y_fits : Fits e y =
    carried-fits d e (λ k. Unit {0}) numbers x refl refl refl refl merged.carried
    (AllByRecursion-of_all (OnValue (λ k. Unit {0})) (operands x) OnValue-everywhere) fits in
    let same_tree : tree_by (tree_of kept) y ≡ tree_by (tree_of d.values) x = merged-tree d kept numbers x made merged below in
    let kept_earlier = made-earlier e merged.made in
    let count : length (numbers ++ number ∷ []) ≡ length (d.values ++ x ∷ []) =
    omega (arith, length-append numbers (number ∷ []), length-append d.values (x ∷ []), merged.count) in
    let carried = carried-more d.values kept next numbers x number (made-earlier d made) merged.count below merged.carried in
    elim found [
      | inl old ↦ record {
        count = count;
        few = omega (arith, length-append numbers (number ∷ []), merged.few, ap length old.0);
        made = subst (λ (l : List Op). IsDraft (record d { values = l })) (sym old.0) merged.made;
        carried =
            carried (λ k z at. ap (λ (l : List Op). slice_get l k) old.0 ∙ at) (ap (λ (l : List Op). slice_get l number) old.0 ∙ old.1);
        different =
            λ i j z first second. merged.different i j z (ap (λ (l : List Op). slice_get l i) (sym old.0) ∙ first) (ap (λ (l : List Op). slice_get l j) (sym old.0) ∙ second);
        first =
            λ wanted all. subst (λ (l : List Op). AreKept wanted [] (trees (d.values ++ x ∷ [])) (trees l)) (sym old.0)
            (first-old d kept numbers x number merged kept_earlier old.1 same_tree wanted all);
      }
      | inr new ↦ record {
        count = count;
        few = omega (arith, length-append numbers (number ∷ []), length-append kept (y ∷ []), merged.few, ap length new.0);
        made = subst (λ (l : List Op). IsDraft (record d { values = l })) (sym new.0) (IsDraft-pushed e y merged.made y_fits);
        carried =
            carried (λ k z at. ap (λ (l : List Op). slice_get l k) new.0 ∙ slice_get-more kept (y ∷ []) k z at)
            (ap (λ (l : List Op). slice_get l number) new.0 ∙ ap (slice_get (kept ++ y ∷ [])) new.1 ∙ slice_get-last kept y);
        different =
            λ i j z first second. different-more kept y merged.different new.2 i j z
            (ap (λ (l : List Op). slice_get l i) (sym new.0) ∙ first) (ap (λ (l : List Op). slice_get l j) (sym new.0) ∙ second);
        first =
            λ wanted all. subst (λ (l : List Op). AreKept wanted [] (trees (d.values ++ x ∷ [])) (trees l)) (sym new.0)
            (first-new d kept numbers x made merged kept_earlier (fits-within e y y_fits) new.2 same_tree wanted all);
      }
    ]

-- the first values fit together
pub front-made : (d : Draft) (n : ℕ) → IsDraft d → IsDraft (front d n)
front-made d n made = record {
  bytes = made.bytes;
  fit = λ k x at.
      let here = slice_get-front d.values n k x at in
      subst (λ (l : List Op). Fits (record d { values = l }) x) (sym (take-take-below d.values n k here.0)) (made.fit k x here.1);
}
