-- In a placed certificate each refresh is used once, and stands before the block that uses it.
use Rattle.std.proofs.Common.{◌≡◌, ◌⊎◌, ℕ, zero, suc, ◌+◌, ◌<◌, true, Some, IsSome, IsSomeAnd, List, [], ◌∷◌, ◌++◌, map, take, slice_get, get_or, slice_index_or, refl, sym, ◌∙◌, ap, subst, arith, inl, inr}
use Rattle.std.specs.List.{Contains}
use Rattle.std.proofs.lemmas.Bool.{cases_Bool}
use Rattle.std.proofs.lemmas.List.{length-append}
use Rattle.std.proofs.lemmas.Option.{slice_get_within, slice_get-get_or, same_Some}
use Rattle.mk_ssa.specs.declared.Op.{Op}
use Rattle.mk_ssa.specs.declared.Op.TheVariants.{Const, PubAdd, PubMul, PubSq, PubMap, Mul, Refresh}
use Rattle.mk_ssa.specs.declared.Operand.{Operand}
use Rattle.mk_ssa.specs.declared.Operand.TheVariants.{Secret, Block}
use Rattle.mk_ssa.specs.Kinds.{Linear, kind, shared_operands, public_operands}
use Rattle.mk_ssa.specs.Operators.{Operator, operator, operands, with_operands_by}
use Rattle.mk_ssa.specs.Values.{Values, IsValues}
use Rattle.mk_ssa.proofs.Lists.{IsSomeAnd-value, IsSomeAnd-from, slice_get-more}
use Rattle.mk_simplify.proofs.Operators.{operands-few}
use Rattle.mk_rules.specs.Claimed.{Claimed}
use Rattle.mk_rules.specs.Tiles.{value_number}
use Rattle.mk_rules.specs.Wired.{IsSharedThere}
use Rattle.mk_rules.proofs.Using.{IsUse, use-is}
use Rattle.mk_rules.specs.Uses.{Use}
use Rattle.mk_place.specs.Uses.{shape_of_values, uses}
use Rattle.mk_place.specs.Layout.{Marks, one, own_block, refresh_block, renamed, refreshed, blocks_from, laid_out}
use Rattle.mk_place.specs.Placed.{Placed}
use Rattle.mk_place.specs.Different.{IsRefresh}
use Rattle.mk_place.specs.TakenOut.{is_no_refresh}
use Rattle.mk_place.specs.Refreshes.{HasOperand, IsUsedOnce, StandsBefore}
use Rattle.mk_place.proofs.Wiring.{wired-value}
use Rattle.mk_place.proofs.Blocks.{own-there, refresh-there, each-block, refresh-once}
use Rattle.mk_place.proofs.Differing.{shared-laid, public-laid, block-once, renamed-fresh, fresh-on, fresh-off}
use Rattle.mk_place.proofs.Fitting.{AreAtUses, each-wired}
use Rattle.mk_place.proofs.Hops.{image-from, place-of, place-in, use-two}
use Rattle.mk_place.proofs.TakingOut.{values-plain, own-plain}

-- an element of two lists is one of either
slice_get-either : {X : Type 0} (xs ys : List X) (k : ℕ) (x : X) → slice_get (xs ++ ys) k ≡ Some x
    → (slice_get xs k ≡ Some x) ⊎ ((j : ℕ) × (slice_get ys j ≡ Some x))
slice_get-either [] ys k x there = inr (k, there)
slice_get-either (y ∷ xs) ys zero x there = inl there
slice_get-either (y ∷ xs) ys (suc k) x there = slice_get-either xs ys k x there

-- an operator with a shared operand that is no refresh is linear or a product
linear-or-product : (op : Op) (k : ℕ) (v : Operand) → is_no_refresh op ≡ true → slice_get (shared_operands op) k ≡ Some v
    → (kind op ≡ Linear) ⊎ (operator op ≡ Operator.Mul)
linear-or-product (Const value) k v plain there = absurd (cc)
linear-or-product (PubAdd left right) k v plain there = absurd (cc)
linear-or-product (PubMul left right) k v plain there = absurd (cc)
linear-or-product (PubSq arg) k v plain there = absurd (cc)
linear-or-product (PubMap m arg) k v plain there = absurd (cc)
linear-or-product (Mul left right) k v plain there = inr refl
linear-or-product (Refresh arg) k v plain there = absurd (cc)
linear-or-product _ k v plain there = inl refl

-- a refresh is none of the other blocks
refresh-plain : (op : Op) → IsRefresh op → is_no_refresh op ≡ true → ⊥
refresh-plain (Refresh arg) is plain = absurd (cc)
refresh-plain _ is plain = is

-- the use by value i at place k is of an operand that there is
pub record IsAtUse (values : List Op) (i k : ℕ) : Type 0 where
  pub op : Op
  pub operand : Operand
  pub there : slice_get values i ≡ Some op
  pub at : slice_get (shared_operands op) k ≡ Some operand
  pub few : k < 2

module _ (marks : Marks) (s : Values) (is : IsValues s) (used : (i k : ℕ) → marks i k ≡ true → IsAtUse s.values i k) where
  -- the blocks of the values
  abbrev blocks : List Op
  blocks = blocks_from marks 0 s.values

  -- the own block of a value
  abbrev own : ℕ → Op → Op
  own i op = with_operands_by (refreshed marks i) (renamed marks) op

  -- a refresh is that for a use
  record IsFor (r : ℕ) : Type 0 where
    pub value : ℕ
    pub place : ℕ
    pub on : marks value place ≡ true
    pub at : r ≡ refresh_block marks value place

  -- each refresh serves a marked use
  refresh-for : (r : ℕ) (x : Op) → slice_get blocks r ≡ Some x → IsRefresh x → IsFor r
  refresh-for r x there fresh = elim (each-block marks s.values r (slice_get_within blocks r x there)) [
    | inl at ↦
        let op : Op = get_or s.values at.0 (Const 0) in
        let held : slice_get s.values at.0 ≡ Some op = slice_get-get_or s.values at.0 (Const 0) at.1 in
        let same : own at.0 op ≡ x =
        same_Some (own at.0 op) x (sym (own-there marks s.values at.0 op held) ∙ ap (slice_get blocks) (sym at.2) ∙ there) in
        absurd (refresh-plain (own at.0 op) (subst IsRefresh (sym same) fresh)
        (own-plain (refreshed marks at.0) (renamed marks) op ∙ values-plain s is at.0 op held))
    | inr at ↦ record { value = at.0; place = at.1; on = at.4; at = at.5 }
  ]

  module _ (i k : ℕ) (on : marks i k ≡ true) where
    -- the use that it is for
    abbrev at_use : IsAtUse s.values i k
    at_use = used i k on

    -- no value stands at its place
    unnamed : (v : Operand) → renamed marks v ≡ Block (refresh_block marks i k) → ⊥
    unnamed v same = renamed-fresh marks v i k at_use.few on same

    -- an operand of an own block is it at one place only
    place-alone : (j l : ℕ) (v : Operand) → l < 2 → refreshed marks j l v ≡ Block (refresh_block marks i k) → (j ≡ i) × (l ≡ k)
    place-alone j l v few same = elim (cases_Bool (marks j l)) [
      | inl also ↦
          refresh-once marks j l i k few at_use.few also on
          (block-once (refresh_block marks j l) (refresh_block marks i k) (sym (fresh-on marks j l v also) ∙ same))
      | inr off ↦ absurd (unnamed v (sym (fresh-off marks j l v off) ∙ same))
    ]

    -- of the values' own blocks only that of the use has the refresh as an operand, and once
    own-alone : (j l : ℕ) (op : Op) → slice_get (operands (own j op)) l ≡ Some (Block (refresh_block marks i k)) → (j ≡ i) × (l ≡ k)
    own-alone j l op at = elim (slice_get-either (shared_operands (own j op)) (public_operands (own j op)) l (Block (refresh_block marks i k)) at) [
      | inl shared ↦
          let found = place-in (refreshed marks j) 0 (shared_operands op) l (Block (refresh_block marks i k))
          (ap (λ (vs : List Operand). slice_get vs l) (sym (shared-laid (refreshed marks j) (renamed marks) op)) ∙ shared) in
          let same : 0 + l ≡ l = omega arith in
          let few : l < 2 =
          omega (arith, slice_get_within (shared_operands op) l found.0 found.1, length-append (shared_operands op) (public_operands op), operands-few op) in
          place-alone j l found.0 few (ap (λ (n : ℕ). refreshed marks j n found.0) (sym same) ∙ found.2)
      | inr public ↦
          let found = image-from (renamed marks) (public_operands op) public.0 (Block (refresh_block marks i k))
          (ap (λ (vs : List Operand). slice_get vs public.0) (sym (public-laid (refreshed marks j) (renamed marks) op)) ∙ public.1) in
          absurd (unnamed found.0 found.2)
    ]

    -- a refresh does not have it
    fresh-alone : (v : Operand) (l : ℕ) → slice_get (operands (Refresh (renamed marks v))) l ≡ Some (Block (refresh_block marks i k)) → ⊥
    fresh-alone v zero at = unnamed v (same_Some (renamed marks v) (Block (refresh_block marks i k)) at)
    fresh-alone v (suc l) at = absurd (cc)

    -- so it is one operand of all
    alone : (b l : ℕ) → HasOperand blocks b l (refresh_block marks i k) → (b ≡ own_block marks i) × (l ≡ k)
    alone b l has =
        let held = IsSomeAnd-value (slice_get blocks b) (λ op. slice_get (operands op) l ≡ Some (Block (refresh_block marks i k))) has in
        elim (each-block marks s.values b (slice_get_within blocks b held.0 held.1)) [
          | inl at ↦
              let op : Op = get_or s.values at.0 (Const 0) in
              let there : slice_get s.values at.0 ≡ Some op = slice_get-get_or s.values at.0 (Const 0) at.1 in
              let same : held.0 ≡ own at.0 op =
              same_Some held.0 (own at.0 op) (sym held.1 ∙ ap (slice_get blocks) at.2 ∙ own-there marks s.values at.0 op there) in
              let found = own-alone at.0 l op (ap (λ (x : Op). slice_get (operands x) l) (sym same) ∙ held.2) in
              (at.2 ∙ ap (own_block marks) found.0, found.1)
          | inr at ↦
              let op : Op = get_or s.values at.0 (Const 0) in
              let there : slice_get s.values at.0 ≡ Some op = slice_get-get_or s.values at.0 (Const 0) at.2 in
              let v : Operand = slice_index_or (shared_operands op) at.1 (Secret 0) in
              let same : held.0 ≡ Refresh (renamed marks v) =
              same_Some held.0 (Refresh (renamed marks v))
              (sym held.1 ∙ ap (slice_get blocks) at.5 ∙ refresh-there marks s.values at.0 at.1 op there at.3 at.4) in
              absurd (fresh-alone v l (ap (λ (x : Op). slice_get (operands x) l) (sym same) ∙ held.2))
        ]

    -- and none of the outputs
    unclaimed : ¬ Contains (map (renamed marks) s.outs) (Block (refresh_block marks i k))
    unclaimed held =
        let found = image-from (renamed marks) s.outs held.0 (Block (refresh_block marks i k))
        (slice_get-get_or (map (renamed marks) s.outs) held.0 (Block (refresh_block marks i k)) held.1 ∙ ap (λ (v : Operand). Some v) held.2) in
        unnamed found.0 found.2

    -- the block that uses it
    user-at : slice_get blocks (own_block marks i) ≡ Some (own i at_use.op)
    user-at = own-there marks s.values i at_use.op at_use.there

    -- has it as a shared operand
    user-shared : slice_get (shared_operands (own i at_use.op)) k ≡ Some (Block (refresh_block marks i k))
    user-shared =
        let same : 0 + k ≡ k = omega arith in
        ap (λ (vs : List Operand). slice_get vs k) (shared-laid (refreshed marks i) (renamed marks) at_use.op)
        ∙ place-of (refreshed marks i) 0 (shared_operands at_use.op) k at_use.operand at_use.at
        ∙ ap (λ (n : ℕ). Some (refreshed marks i n at_use.operand)) same
        ∙ ap (λ (v : Operand). Some v) (fresh-on marks i k at_use.operand on)

    -- as one of its operands
    user-has : HasOperand blocks (own_block marks i) k (refresh_block marks i k)
    user-has =
        IsSomeAnd-from (slice_get blocks (own_block marks i)) (λ op. slice_get (operands op) k ≡ Some (Block (refresh_block marks i k)))
        (own i at_use.op) user-at
        (slice_get-more (shared_operands (own i at_use.op)) (public_operands (own i at_use.op)) k (Block (refresh_block marks i k)) user-shared)

    -- so it is used once
    used-once : IsUsedOnce (laid_out marks s) (refresh_block marks i k)
    used-once = record {
      user = own_block marks i;
      place = k;
      op = own i at_use.op;
      there = user-at;
      shared = user-shared;
      linear_or_product =
          linear-or-product (own i at_use.op) k (Block (refresh_block marks i k))
          (own-plain (refreshed marks i) (renamed marks) at_use.op ∙ values-plain s is i at_use.op at_use.there) user-shared;
      alone = alone;
      unclaimed = unclaimed;
    }

    -- the refresh is there
    refresh-is-there : IsSomeAnd (slice_get blocks (refresh_block marks i k)) IsRefresh
    refresh-is-there =
        let x : Op = Refresh (renamed marks (slice_index_or (shared_operands at_use.op) k (Secret 0))) in
        IsSomeAnd-from (slice_get blocks (refresh_block marks i k)) IsRefresh x (refresh-there marks s.values i k at_use.op at_use.there at_use.few on) tt

  -- where the refresh for the first operand stands
  first-stands : (i : ℕ) (on : marks i 0 ≡ true) → StandsBefore blocks (refresh_block marks i 0) (own_block marks i) 0
  first-stands i on = elim (cases_Bool (marks i 1)) [
    | inl also ↦
        let behind : refresh_block marks i 1 ≡ refresh_block marks i 0 + 1 = omega (arith, ap one on) in
        inr (
          refl,
          omega (arith, ap one on, ap one also),
          subst (λ (n : ℕ). IsSomeAnd (slice_get blocks n) IsRefresh) behind (refresh-is-there i 1 also),
          subst (HasOperand blocks (own_block marks i) 1) behind (user-has i 1 also),
        )
    | inr off ↦ inl (omega (arith, ap one on, ap one off))
  ]

  -- where any refresh stands
  stands : (i k : ℕ) (on : marks i k ≡ true) → k < 2 → StandsBefore blocks (refresh_block marks i k) (own_block marks i) k
  stands i zero on few = first-stands i on
  stands i (suc zero) on few = inl (omega (arith, ap one on))
  stands i (suc (suc k)) on few = absurd (omega (arith, few))

  -- each refresh is used once
  pub each-once : (r : ℕ) (x : Op) → slice_get blocks r ≡ Some x → IsRefresh x → IsUsedOnce (laid_out marks s) r
  each-once r x there fresh =
      let found : IsFor r = refresh-for r x there fresh in
      subst (IsUsedOnce (laid_out marks s)) (sym found.at) (used-once found.value found.place found.on)

  -- and stands before the block that uses it
  pub each-stands : (r b k : ℕ) (x : Op) → slice_get blocks r ≡ Some x → IsRefresh x → HasOperand blocks b k r → StandsBefore blocks r b k
  each-stands r b k x there fresh has =
      let found : IsFor r = refresh-for r x there fresh in
      let place : (b ≡ own_block marks found.value) × (k ≡ found.place) =
      alone found.value found.place found.on b k (subst (HasOperand blocks b k) found.at has) in
      subst (λ (n : ℕ). StandsBefore blocks n b k) (sym found.at)
      (subst (λ (n : ℕ). StandsBefore blocks (refresh_block marks found.value found.place) n k) (sym place.0)
      (subst (StandsBefore blocks (refresh_block marks found.value found.place) (own_block marks found.value)) (sym place.1)
      (stands found.value found.place found.on (used found.value found.place found.on).few)))

module _ (s : Values) (is : IsValues s) (cert : Claimed) (placed : Placed s cert) where
  -- a marked use is of an operand that there is
  placed-used : (i k : ℕ) → placed.marks i k ≡ true → IsAtUse s.values i k
  placed-used i k on =
      let found : (u : Use) × Contains (uses s) u × (u.value ≡ i) × (u.place ≡ k) = placed.used i k on in
      let found_use : IsUse (shape_of_values s) s.values found.0 = use-is (shape_of_values s) s.values found.0 found.1 in
      let operand = image-from (value_number (shape_of_values s)) (shared_operands found_use.op) found.0.place found.0.operand found_use.operand in
      record {
        op = found_use.op;
        operand = operand.0;
        there = ap (slice_get s.values) (sym found.2) ∙ found_use.there;
        at = ap (slice_get (shared_operands found_use.op)) (sym found.3) ∙ operand.1;
        few = subst (λ (n : ℕ). n < 2) found.3 (use-two s placed.marks is found.0 found.1);
      }

  -- so what is marked is there
  placed-there : AreAtUses placed.marks s.values
  placed-there i k op there on =
      let at_use : IsAtUse s.values i k = placed-used i k on in
      let same : at_use.op ≡ op = same_Some at_use.op op (sym at_use.there ∙ there) in
      subst (λ (x : Op). IsSome (slice_get (shared_operands x) k)) same (subst IsSome (sym at_use.at) refl)

  -- a refresh is of a shared value that is there
  pub placed-shared : (r : ℕ) (v : Operand) → slice_get cert.blocks r ≡ Some (Refresh v) → IsSharedThere (shape_of_values s) (take r cert.blocks) v
  placed-shared =
      subst (λ (c : Claimed). (r : ℕ) (v : Operand) → slice_get c.blocks r ≡ Some (Refresh v) → IsSharedThere (shape_of_values s) (take r c.blocks) v)
      (sym placed.laid)
      (λ r v there. each-wired placed.marks (shape_of_values s) s.values placed-there (λ i op at. wired-value s is i op at) r (Refresh v) there)

  -- it is used once
  pub placed-once : (r : ℕ) (v : Operand) → slice_get cert.blocks r ≡ Some (Refresh v) → IsUsedOnce cert r
  placed-once =
      subst (λ (c : Claimed). (r : ℕ) (v : Operand) → slice_get c.blocks r ≡ Some (Refresh v) → IsUsedOnce c r) (sym placed.laid)
      (λ r v there. each-once placed.marks s is placed-used r (Refresh v) there tt)

  -- and stands before the block that uses it
  pub placed-stands : (r b k : ℕ) (v : Operand) → slice_get cert.blocks r ≡ Some (Refresh v) → HasOperand cert.blocks b k r
      → StandsBefore cert.blocks r b k
  placed-stands =
      subst (λ (c : Claimed). (r b k : ℕ) (v : Operand) → slice_get c.blocks r ≡ Some (Refresh v) → HasOperand c.blocks b k r → StandsBefore c.blocks r b k)
      (sym placed.laid)
      (λ r b k v there has. each-stands placed.marks s is placed-used r b k (Refresh v) there tt has)
