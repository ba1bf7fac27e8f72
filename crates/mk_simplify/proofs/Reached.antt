-- What a tree is made of is reached through operands.
use Rattle.std.proofs.Common.{◌≡◌, ℕ, zero, suc, ◌≤◌, ◌<◌, List, [], ◌∷◌, ◌⊎◌, inl, inr, flat_map, map, length, slice_get, get_or, Some, refl, sym, ◌∙◌, ap, subst, arith}
use Rattle.std.specs.List.{AllByRecursion, Contains}
use Rattle.std.proofs.lemmas.List.Elements.{Contains-append_right}
use Rattle.std.proofs.lemmas.Option.{slice_get-get_or}
use Rattle.mk_base.proofs.Lists.{Contains-from_map}
use Rattle.mk_ssa.specs.declared.Op.{Op}
use Rattle.mk_ssa.specs.declared.Op.TheVariants.{Const}
use Rattle.mk_ssa.specs.declared.Operand.{Operand}
use Rattle.mk_ssa.specs.declared.Operand.TheVariants.{Secret, Public, Block}
use Rattle.mk_ssa.specs.Operators.{operator, operands}
use Rattle.mk_simplify.specs.Trees.{Tree, tree_of, parts}
use Rattle.mk_simplify.specs.Renumbering.{OnValue, IsBelow, AreEarlier}
use Rattle.mk_simplify.proofs.Operators.{operands-few}
use Rattle.mk_simplify.proofs.Trees.{kids, kids-over, length-map, tree_of-at}
use Rattle.mk_simplify.proofs.Different.{input-not_value}
use Rattle.mk_simplify.proofs.Kept.{slice_get-contains}
use Rattle.mk_simplify.proofs.Marks.{parts-cases, flat_map-from, AllByRecursion-contains}

-- the operand itself, or an operand of a value of which `on` holds
abbrev pub IsReached : (ℕ → Type 0) → List Op → Operand → ℕ → Type 0
IsReached on ops v k =
    (v ≡ Block k) ⊎ ((j : ℕ) × (x : Op) × on j × (slice_get ops j ≡ Some x) × Contains (operands x) (Block k))

-- an input is made of itself alone
input-reached : (on : ℕ → Type 0) (ops : List Op) (v : Operand) (k : ℕ) → AreEarlier ops → k < length ops
    → Contains (parts (Tree.Input v)) (tree_of ops (Block k)) → IsReached on ops v k
unfolding kids
input-reached on ops v k earlier within there = elim (parts-cases (Tree.Input v) (tree_of ops (Block k)) there) [
  | inl same ↦ absurd (input-not_value ops earlier v k within same)
  | inr none ↦ let few : none.0 < 0 = none.1 in absurd (omega (arith, few))
]

-- a value that the tree of an operand is made of is the operand, or an operand of a value on the way
pub reached : (on : ℕ → Type 0) (ops : List Op) → AreEarlier ops
    → ((i j : ℕ) → i < length ops → j < length ops → tree_of ops (Block i) ≡ tree_of ops (Block j) → i ≡ j)
    → ((i : ℕ) (x : Op) → on i → slice_get ops i ≡ Some x → AllByRecursion (OnValue on) (operands x))
    → (n : ℕ) (v : Operand) (k : ℕ) → IsBelow n v → n ≤ length ops → OnValue on v → k < length ops
    → Contains (parts (tree_of ops v)) (tree_of ops (Block k)) → IsReached on ops v k
reached on ops earlier different closed n (Secret i) k below small holds within there = input-reached on ops (Secret i) k earlier within there
reached on ops earlier different closed n (Public i) k below small holds within there = input-reached on ops (Public i) k earlier within there
reached on ops earlier different closed zero (Block i) k below small holds within there = absurd (omega (arith, below))
reached on ops earlier different closed (suc n) (Block i) k below small holds within there =
    elim (parts-cases (tree_of ops (Block i)) (tree_of ops (Block k)) there) [
      | inl same ↦ inl (ap Block (different i k (omega (arith, below, small)) within same))
      | inr kid ↦
          let x = get_or ops i (Const 0) in
          let at : slice_get ops i ≡ Some x = slice_get-get_or ops i (Const 0) (omega (arith, below, small)) in
          let kids_are : kids (tree_of ops (Block i)) ≡ map (tree_of ops) (operands x) =
          ap kids (tree_of-at ops i x earlier at)
          ∙ kids-over (operator x) (map (tree_of ops) (operands x)) (omega (arith, operands-few x, length-map (tree_of ops) (operands x))) in
          let found = flat_map-from parts (map (tree_of ops) (operands x)) (tree_of ops (Block k))
          (subst (λ (l : List Tree). Contains (flat_map parts l) (tree_of ops (Block k))) kids_are kid) in
          let operand = Contains-from_map (tree_of ops) (operands x) found.0 found.1 in
          let behind : IsReached on ops operand.0 k =
          reached on ops earlier different closed n operand.0 k
          (below-less i n operand.0 (omega (arith, below)) (AllByRecursion-contains (IsBelow i) (operands x) operand.0 (earlier i x at) operand.1))
          (omega (arith, small))
          (AllByRecursion-contains (OnValue on) (operands x) operand.0 (closed i x holds at) operand.1) within
          (subst (λ (t : Tree). Contains (parts t) (tree_of ops (Block k))) (sym operand.2) found.2) in
          elim behind [
            | inl same ↦ inr (i, x, holds, at, subst (Contains (operands x)) same operand.1)
            | inr other ↦ inr other
          ]
    ]
  where
    below-less : (a b : ℕ) (w : Operand) → a ≤ b → IsBelow a w → IsBelow b w
    below-less a b (Secret j) less of = tt
    below-less a b (Public j) less of = tt
    below-less a b (Block j) less of = omega (arith, less, of)
