-- A refresh changes no value: the blocks that values are laid out as stand for what the values do.
use Rattle.std.proofs.Common.{◌≡◌, ℕ, zero, suc, ◌+◌, ◌<◌, ◌≤◌, true, false, List, [], ◌∷◌, Some, length, take, map, slice_get, slice_index_or, get_or, refl, sym, ◌∙◌, ap, ap₂, arith, inl, inr}
use Rattle.std.specs.List.{AllByRecursion}
use Rattle.std.proofs.lemmas.Bool.{cases_Bool, cond-true, cond-false}
use Rattle.std.proofs.lemmas.List.Elements.{recursion_from_All}
use Rattle.std.proofs.lemmas.Option.{slice_get_within, slice_get-get_or, get_or_from_slice_get}
use Rattle.mk_simplify.proofs.Trees.{AllByRecursion-weaker}
use Rattle.mk_ssa.specs.declared.Op.{Op}
use Rattle.mk_ssa.specs.declared.Op.TheVariants.{Const, PubAdd, PubMul, PubSq, PubMap, Lift, Add, AddPub, Scale, Sq, Map, Mul, Refresh}
use Rattle.mk_ssa.specs.declared.Operand.{Operand}
use Rattle.mk_ssa.specs.declared.Operand.TheVariants as operand
use Rattle.mk_ssa.specs.Kinds.{is_public, shared_operands}
use Rattle.mk_ssa.specs.Values.{Values, IsValues, draft}
use Rattle.mk_ssa.specs.Values as ssa
use Rattle.mk_ssa.specs.Denoted.{value_by, value_of, in_order, denoted}
use Rattle.mk_ssa.proofs.Lists.{IsSomeAnd-value, slice_get-front}
use Rattle.mk_ssa.proofs.InOrder.{in_order-at, in_order-take}
use Rattle.mk_rules.specs.Shape.{Shape}
use Rattle.mk_rules.specs.Wired.{IsSharedThere, IsWired, Wired}
use Rattle.mk_rules.proofs.Wired.{wired-at}
use Rattle.mk_ssa.specs.Operators.{with_operands_by}
use Rattle.mk_place.specs.Uses.{shape_of_values}
use Rattle.mk_place.specs.Layout.{Marks, own_block, refresh_block, renamed, refreshed, blocks_from, laid_out}
use Rattle.mk_place.proofs.Blocks.{own-there, refresh-there}
use Rattle.mk_place.proofs.Wiring.{wired-value}
use Rattle.mk_place.proofs.Fitting.{out-there}
use Rattle.mk_compile.specs.RightValues.{stands_for}
use Rattle.mk_compile.proofs.Right.{IsThere, value_by-same}

-- each operator is wired behind those before it
abbrev AreWired : Shape → List Op → Type 0
AreWired shape ops = (k : ℕ) (op : Op) → slice_get ops k ≡ Some op → IsWired shape (take k ops) op

module _ (shape : Shape) (publics secrets : List ℕ) where
  -- a value stands for the same among those before and among all
  early-same : (ops : List Op) (k : ℕ) → k ≤ length ops → (v : Operand) → IsThere shape (take k ops) v
      → stands_for shape (take k ops) publics secrets v ≡ stands_for shape ops publics secrets v
  early-same ops k within (operand.Secret j) there = refl
  early-same ops k within (operand.Public j) there = refl
  early-same ops k within (operand.Block j) there =
      let below : j < k = elim there [
        | inl shared ↦
            let at = IsSomeAnd-value (slice_get (take k ops) j) (λ op. is_public op ≡ false) shared in
            (slice_get-front ops k j at.0 at.1).0
        | inr public ↦
            let at = IsSomeAnd-value (slice_get (take k ops) j) (λ op. is_public op ≡ true) public in
            (slice_get-front ops k j at.0 at.1).0
      ] in
      sym (in_order-take (value_of shape.field shape.maps publics secrets) ops k j 0 below within)

  -- each value is that of its operator over the values of all
  settled : (ops : List Op) → AreWired shape ops → (k : ℕ) (op : Op) → slice_get ops k ≡ Some op
      → stands_for shape ops publics secrets (operand.Block k) ≡ value_by shape.field shape.maps (stands_for shape ops publics secrets) op
  unfolding in_order
  settled ops wired k op there =
      let next : List ℕ → Op → ℕ = value_of shape.field shape.maps publics secrets in
      let within : k < length ops = slice_get_within ops k op there in
      let same : k ≡ 0 + k = omega arith in
      ap (λ (n : ℕ). get_or (in_order next [] ops) n 0) same
      ∙ in_order-at next [] ops k op 0 there
      ∙ value_by-same shape (take k ops) (stands_for shape (take k ops) publics secrets) (stands_for shape ops publics secrets) op
      (early-same ops k (omega (arith, within))) (wired k op there)

  module _ (marks : Marks) (values : List Op) (values_wired : AreWired shape values) (blocks_wired : AreWired shape (blocks_from marks 0 values)) where
    -- what an operand stands for among the values
    abbrev of_value : Operand → ℕ
    of_value = stands_for shape values publics secrets

    -- and among the blocks
    abbrev of_block : Operand → ℕ
    of_block = stands_for shape (blocks_from marks 0 values) publics secrets

    -- the own blocks of the first values stand for these
    abbrev AreOwn : ℕ → Type 0
    AreOwn k = (j : ℕ) → j < k → of_block (operand.Block (own_block marks j)) ≡ of_value (operand.Block j)

    module _ (k : ℕ) (own : AreOwn k) where
      -- an operand by its new number
      renamed-same : (v : Operand) → IsThere shape (take k values) v → of_block (renamed marks v) ≡ of_value v
      renamed-same (operand.Secret j) there = refl
      renamed-same (operand.Public j) there = refl
      renamed-same (operand.Block j) there = elim there [
        | inl shared ↦
            let at = IsSomeAnd-value (slice_get (take k values) j) (λ op. is_public op ≡ false) shared in
            own j (slice_get-front values k j at.0 at.1).0
        | inr public ↦
            let at = IsSomeAnd-value (slice_get (take k values) j) (λ op. is_public op ≡ true) public in
            own j (slice_get-front values k j at.0 at.1).0
      ]

      module _ (op : Op) (there : slice_get values k ≡ Some op) where
        -- a shared operand, or its refresh
        fresh-same : (position : ℕ) (v : Operand) → slice_get (shared_operands op) position ≡ Some v → position < 2 → IsSharedThere shape (take k values) v
            → of_block (refreshed marks k position v) ≡ of_value v
        fresh-same position v at few held =
            let w : Operand = slice_index_or (shared_operands op) position (operand.Secret 0) in
            let is : w ≡ v = get_or_from_slice_get (shared_operands op) position v (operand.Secret 0) at in
            elim (cases_Bool (marks k position)) [
              | inl on ↦
                  ap of_block (cond-true (marks k position) (operand.Block (refresh_block marks k position)) (renamed marks v) on)
                  ∙ settled (blocks_from marks 0 values) blocks_wired (refresh_block marks k position) (Refresh (renamed marks w))
                  (refresh-there marks values k position op there few on)
                  ∙ ap (λ (x : Operand). of_block (renamed marks x)) is
                  ∙ renamed-same v (inl held)
              | inr off ↦
                  ap of_block (cond-false (marks k position) (operand.Block (refresh_block marks k position)) (renamed marks v) off)
                  ∙ renamed-same v (inl held)
            ]

      -- an operator over the new numbers
      laid-same : (op : Op) → slice_get values k ≡ Some op → IsWired shape (take k values) op
          → value_by shape.field shape.maps of_block (with_operands_by (refreshed marks k) (renamed marks) op) ≡ value_by shape.field shape.maps of_value op
      laid-same (Const value) there wired = refl
      laid-same (PubAdd left right) there wired = rw (renamed-same left (inr wired.0), renamed-same right (inr wired.1)) refl
      laid-same (PubMul left right) there wired = rw (renamed-same left (inr wired.0), renamed-same right (inr wired.1)) refl
      laid-same (PubSq arg) there wired = rw (renamed-same arg (inr wired)) refl
      laid-same (PubMap m arg) there wired = rw (renamed-same arg (inr wired.1)) refl
      laid-same (Lift arg) there wired = renamed-same arg (inr wired)
      laid-same (Add left right) there wired =
          rw (fresh-same (Add left right) there 0 left refl (omega arith) wired.0, fresh-same (Add left right) there 1 right refl (omega arith) wired.1) refl
      laid-same (AddPub left right) there wired =
          rw (fresh-same (AddPub left right) there 0 left refl (omega arith) wired.0, renamed-same right (inr wired.1)) refl
      laid-same (Scale left right) there wired =
          rw (fresh-same (Scale left right) there 0 left refl (omega arith) wired.0, renamed-same right (inr wired.1)) refl
      laid-same (Sq arg) there wired = rw (fresh-same (Sq arg) there 0 arg refl (omega arith) wired) refl
      laid-same (Map m arg) there wired = rw (fresh-same (Map m arg) there 0 arg refl (omega arith) wired.1) refl
      laid-same (Mul left right) there wired =
          rw (fresh-same (Mul left right) there 0 left refl (omega arith) wired.0, fresh-same (Mul left right) there 1 right refl (omega arith) wired.1) refl
      laid-same (Refresh arg) there wired = fresh-same (Refresh arg) there 0 arg refl (omega arith) wired

    -- a value's own block stands for it
    own-same : (n k : ℕ) → k < n → k < length values → of_block (operand.Block (own_block marks k)) ≡ of_value (operand.Block k)
    own-same zero k below within = absurd (omega (arith, below))
    own-same (suc n) k below within =
        let op : Op = get_or values k (Const 0) in
        let there : slice_get values k ≡ Some op = slice_get-get_or values k (Const 0) within in
        let own : AreOwn k = λ j less. own-same n j (omega (arith, less, below)) (omega (arith, less, within)) in
        settled (blocks_from marks 0 values) blocks_wired (own_block marks k) (with_operands_by (refreshed marks k) (renamed marks) op) (own-there marks values k op there)
        ∙ laid-same k own op there (values_wired k op there)
        ∙ sym (settled values values_wired k op there)

    -- an output by its new number
    claim-same : (v : Operand) → IsSharedThere shape values v → of_block (renamed marks v) ≡ of_value v
    claim-same (operand.Secret j) there = refl
    claim-same (operand.Public j) there = absurd there
    claim-same (operand.Block j) there =
        let at = IsSomeAnd-value (slice_get values j) (λ op. is_public op ≡ false) there in
        own-same (length values) j (slice_get_within values j at.0 at.1) (slice_get_within values j at.0 at.1)

    -- so all outputs
    claims-same : (outs : List Operand) → AllByRecursion (IsSharedThere shape values) outs → map of_block (map (renamed marks) outs) ≡ map of_value outs
    claims-same [] all = refl
    claims-same (v ∷ vs) all = ap₂ (λ (a : ℕ) (as_ : List ℕ). a ∷ as_) (claim-same v all.0) (claims-same vs all.1)

-- the claims stand for what the outputs do
pub laid-meaning : (s : Values) → IsValues s → (marks : Marks) → Wired (shape_of_values s) (laid_out marks s).blocks → (publics secrets : List ℕ)
    → map (stands_for (shape_of_values s) (laid_out marks s).blocks publics secrets) (laid_out marks s).claims ≡ denoted s publics secrets
laid-meaning s fit marks wired publics secrets =
    claims-same (shape_of_values s) publics secrets marks s.values (λ k op there. wired-value s fit k op there)
    (λ k op there. wired-at (shape_of_values s) [] (blocks_from marks 0 s.values) k op wired there) s.outs
    (AllByRecursion-weaker (ssa.IsSharedThere (draft s)) (IsSharedThere (shape_of_values s) s.values) s.outs (out-there s)
    (recursion_from_All (ssa.IsSharedThere (draft s)) s.outs fit.outs))
