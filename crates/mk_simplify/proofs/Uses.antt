-- Simplified values are used, and different.
use Rattle.std.proofs.Common.{◌≡◌, ℕ, ◌<◌, List, [], inl, inr, All, flat_map, map, length, slice_get, Some, Result, Ok, Err, IfOk, sym, ◌∙◌, ap, subst, arith}
use Rattle.std.specs.List.{Contains}
use Rattle.std.proofs.lemmas.List.Elements.{All-contains}
use Rattle.mk_base.proofs.Lists.{Contains-from_map}
use Rattle.mk_ssa.specs.declared.Op.{Op}
use Rattle.mk_ssa.specs.declared.Operand.TheVariants.{Block}
use Rattle.mk_ssa.specs.Operators.{operands}
use Rattle.mk_ssa.specs.Values.{Values}
use Rattle.mk_ssa.proofs.Lists.{slice_get-at}
use Rattle.mk_simplify.specs.Trees.{Tree, trees, tree_of, parts}
use Rattle.mk_simplify.specs.Simplified.{needed, IsSimplified, IsUsed, AllDiffer}
use Rattle.mk_simplify.specs.Renumbering.{OnValue, IsBelow, AreEarlier}
use Rattle.mk_simplify.proofs.Trees.{tree_of-at}
use Rattle.mk_simplify.proofs.Carried.{AllByRecursion-of_all}
use Rattle.mk_simplify.proofs.Kept.{AreKept-at, AreKept-different}
use Rattle.mk_simplify.proofs.Different.{OnValue-everywhere}
use Rattle.mk_simplify.proofs.Marks.{flat_map-from, AllByRecursion-contains}
use Rattle.mk_simplify.proofs.Merges.{tree-at}
use Rattle.mk_simplify.proofs.Reached.{reached}
use Rattle.mk_simplify.proofs.Whole.{flat_map-map}

-- simplified values have different trees
pub kept-different : (s r : Values) → IsSimplified s r → (i j : ℕ) → i < length r.values → j < length r.values
    → tree_of r.values (Block i) ≡ tree_of r.values (Block j) → i ≡ j
kept-different s r is i j first second same =
    AreKept-different (needed s) [] (trees s.values) (trees r.values) i j (tree_of r.values (Block i)) is.kept (tree-at r.values i first)
    (tree-at r.values j second ∙ ap Some (sym same))

-- none of them stands at two places
pub simplified-once : (s r : Values) → IsSimplified s r → AreEarlier r.values
    → (i j : ℕ) (x : Op) → slice_get r.values i ≡ Some x → slice_get r.values j ≡ Some x → i ≡ j
simplified-once s r is earlier i j x first second =
    kept-different s r is i j (slice_get-at r.values i x x first).0 (slice_get-at r.values j x x second).0
    (tree_of-at r.values i x earlier first ∙ sym (tree_of-at r.values j x earlier second))

-- no two of them are equal
pub simplified-different : (s r : Values) → IsSimplified s r → AreEarlier r.values → AllDiffer r
simplified-different s r is earlier i j x y less x_at y_at same =
    let equal : i ≡ j = simplified-once s r is earlier i j x x_at (y_at ∙ ap Some (sym same)) in
    absurd (omega (arith, less, equal))

-- the trees that are needed, by those of the outputs
needed-outs : (s : Values) → needed s ≡ flat_map parts (map (tree_of s.values) s.outs)
needed-outs s = sym (flat_map-map parts (tree_of s.values) s.outs)

-- each of them is used
pub simplified-used : (s r : Values) → IsSimplified s r → AreEarlier r.values → All (IsBelow (length r.values)) r.outs
    → (k : ℕ) → k < length r.values → IsUsed r k
simplified-used s r is earlier outs k within =
    let t = tree_of r.values (Block k) in
    let kept = AreKept-at (needed s) [] (trees s.values) (trees r.values) k t is.kept (tree-at r.values k within) in
    let there : Contains (flat_map parts (map (tree_of r.values) r.outs)) t =
    subst (λ (l : List Tree). Contains l t) (needed-outs s ∙ ap (flat_map parts) (sym is.outs)) kept.2 in
    let found = flat_map-from parts (map (tree_of r.values) r.outs) t there in
    let out = Contains-from_map (tree_of r.values) r.outs found.0 found.1 in
    elim (reached (λ j. Unit {0}) r.values earlier (kept-different s r is)
    (λ i x on at. AllByRecursion-of_all (OnValue (λ j. Unit {0})) (operands x) OnValue-everywhere)
    (length r.values) out.0 k (All-contains (IsBelow (length r.values)) r.outs out.0 outs out.1) (omega arith) (OnValue-everywhere out.0) within
    (subst (λ (a : Tree). Contains (parts a) t) (sym out.2) found.2)) [
      | inl same ↦ inl (subst (Contains r.outs) same out.1)
      | inr other ↦
          let less : k < other.0 = AllByRecursion-contains (IsBelow other.0) (operands other.1) (Block k) (earlier other.0 other.1 other.3) other.4 in
          inr (other.0, other.1, less, other.3, other.4)
    ]

-- what follows of an answer from two things that hold of it
pub IfOk-both : {X E : Type 0} (o : Result X E) (P Q R : X → Type 0) → ((x : X) → P x → Q x → R x) → IfOk o P → IfOk o Q → IfOk o R
IfOk-both (Ok x) P Q R both first second = both x first second
IfOk-both (Err e) P Q R both first second = tt
