-- The certificate of values without its refreshes has the values as blocks and the outputs as claims.
use Rattle.std.proofs.Common.{◌≡◌, ℕ, zero, suc, ◌+◌, ◌-◌, ◌<◌, ◌≤◌, Bool, true, false, cond, Option, Some, List, [], ◌∷◌, ◌++◌, length, map, take, slice_get, get_or, slice_index_or, refl, sym, ◌∙◌, ap, ap₂, subst, arith, inl, inr, append_assoc}
use Rattle.std.specs.List.{filter, count_by}
use Rattle.std.proofs.lemmas.Bool.{cases_Bool, cond-true, cond-false}
use Rattle.std.proofs.lemmas.List.{length-append, map-append}
use Rattle.std.proofs.lemmas.List.Elements.{filter-append}
use Rattle.std.proofs.lemmas.List.Sums.{sum_by-append}
use Rattle.std.proofs.lemmas.Option.{slice_get_within, slice_get-get_or, get_or_from_slice_get}
use Rattle.std.proofs.Math.Seq.{take-append_seam, take-append-add}
use Rattle.mk_ssa.specs.declared.Op.{Op}
use Rattle.mk_ssa.specs.declared.Op.TheVariants.{Const, Refresh}
use Rattle.mk_ssa.specs.declared.Operand.{Operand}
use Rattle.mk_ssa.specs.declared.Operand.TheVariants.{Secret, Public, Block}
use Rattle.mk_ssa.specs.Kinds.{is_public, shared_operands, public_operands}
use Rattle.mk_ssa.specs.Values as ssa
use Rattle.mk_ssa.specs.Values.{Values, Draft, draft, IsValues, Fits}
use Rattle.mk_ssa.proofs.Lists.{IsSomeAnd-value, slice_get-front}
use Rattle.mk_ssa.specs.Operators as operators
use Rattle.mk_simplify.specs.Renumbering as renumbering
use Rattle.mk_simplify.proofs.Operators.{operator-with, operands-with, operands-few, same-op}
use Rattle.mk_rules.specs.Claimed.{Claimed}
use Rattle.mk_rules.specs.Wired.{IsSharedThere, IsPublicThere}
use Rattle.mk_rules.proofs.Operators.{wired-operands}
use Rattle.mk_ssa.specs.Operators.{with_operands_by}
use Rattle.mk_place.specs.Uses.{shape_of_values}
use Rattle.mk_place.specs.Layout.{Marks, blocks_before, own_block, refresh_block, renamed, refreshed, refresh_at, blocks_of, blocks_from, laid_out}
use Rattle.mk_place.specs.TakenOut.{is_no_refresh, new_number, refreshed_or, unrefreshed, renumbered, new_operand, without_refreshes}
use Rattle.mk_place.specs.Placed.{Placed}
use Rattle.mk_place.proofs.Wiring.{wired-value, each-at}
use Rattle.mk_place.proofs.Placing.{cert_of}
use Rattle.mk_place.proofs.Blocks.{before-next, before-later, of-long, refreshes-long, refresh-is, own-there, refresh-there}
use Rattle.mk_place.proofs.Differing.{places, operator-laid, shared-laid, public-laid, fresh-on, fresh-off}

-- none of these is a refresh
abbrev pub AreNoRefreshes : List Op → Type 0
AreNoRefreshes ops = (k : ℕ) (op : Op) → slice_get ops k ≡ Some op → is_no_refresh op ≡ true

-- what fits is none
fits-plain : (d : Draft) (op : Op) → Fits d op → is_no_refresh op ≡ true
fits-plain d (Refresh arg) fits = absurd fits
fits-plain d _ fits = refl

-- so no value is one
pub values-plain : (s : Values) → IsValues s → AreNoRefreshes s.values
values-plain s is k op there = fits-plain (ssa.front (draft s) k) op (is.made.fit k op there)

-- other operands make no refresh
pub own-plain : (shared : ℕ → Operand → Operand) (public : Operand → Operand) (op : Op) → is_no_refresh (with_operands_by shared public op) ≡ is_no_refresh op
own-plain shared public (Const value) = refl
own-plain shared public _ = refl

-- what is no refresh stands for itself
or-plain : (op : Op) (v : Operand) → is_no_refresh op ≡ true → refreshed_or (Some op) v ≡ v
or-plain (Refresh arg) v is = absurd (cc)
or-plain _ v is = refl

-- how many of these are no refreshes
abbrev count : List Op → ℕ
count ops = count_by is_no_refresh ops

-- counts of two lists add up
count-append : (xs ys : List Op) → count (xs ++ ys) ≡ count xs + count ys
count-append xs ys = sum_by-append (λ (op : Op). cond (is_no_refresh op) 1 0) xs ys

-- the own blocks of values, of which the first has the number i
abbrev owns : Marks → ℕ → List Op → List Op
owns marks i [] = []
owns marks i (op ∷ ops) = with_operands_by (refreshed marks i) (renamed marks) op ∷ owns marks (suc i) ops

-- values without the first
rest-plain : (op : Op) (ops : List Op) → AreNoRefreshes (op ∷ ops) → AreNoRefreshes ops
rest-plain op ops plain k x there = plain (suc k) x there

module _ (marks : Marks) where
  -- a refresh for a use is none of those that stay
  filter-fresh : (i k : ℕ) (op : Op) → filter is_no_refresh (refresh_at marks i k op) ≡ []
  filter-fresh i k op = elim (cases_Bool (marks i k)) [
    | inl on ↦ ap (filter is_no_refresh) (refresh-is marks i k op on)
    | inr off ↦
        ap (filter is_no_refresh) (cond-false (marks i k) (Refresh (renamed marks (slice_index_or (shared_operands op) k (Secret 0))) ∷ []) [] off)
  ]

  -- a refresh isn't counted
  count-fresh : (i k : ℕ) (op : Op) → count (refresh_at marks i k op) ≡ 0
  count-fresh i k op = elim (cases_Bool (marks i k)) [
    | inl on ↦ ap count (refresh-is marks i k op on)
    | inr off ↦ ap count (cond-false (marks i k) (Refresh (renamed marks (slice_index_or (shared_operands op) k (Secret 0))) ∷ []) [] off)
  ]

  -- nor are both
  count-refreshes : (i : ℕ) (op : Op) → count (refresh_at marks i 0 op ++ refresh_at marks i 1 op) ≡ 0
  count-refreshes i op =
      omega (arith, count-append (refresh_at marks i 0 op) (refresh_at marks i 1 op), count-fresh i 0 op, count-fresh i 1 op)

  -- the own block stays
  filter-own : (i : ℕ) (op : Op) → is_no_refresh op ≡ true
      → filter is_no_refresh (with_operands_by (refreshed marks i) (renamed marks) op ∷ []) ≡ with_operands_by (refreshed marks i) (renamed marks) op ∷ []
  filter-own i op plain =
      let own : Op = with_operands_by (refreshed marks i) (renamed marks) op in
      cond-true (is_no_refresh own) (own ∷ []) [] (own-plain (refreshed marks i) (renamed marks) op ∙ plain)

  -- the value's own block is counted
  count-own : (i : ℕ) (op : Op) → is_no_refresh op ≡ true → count (with_operands_by (refreshed marks i) (renamed marks) op ∷ []) ≡ 1
  count-own i op plain =
      let own : Op = with_operands_by (refreshed marks i) (renamed marks) op in
      ap (λ (b : Bool). 0 + cond b 1 0) (own-plain (refreshed marks i) (renamed marks) op ∙ plain)

  -- of the blocks of a value
  filter-of : (i : ℕ) (op : Op) → is_no_refresh op ≡ true
      → filter is_no_refresh (blocks_of marks i op) ≡ with_operands_by (refreshed marks i) (renamed marks) op ∷ []
  filter-of i op plain =
      let own : List Op = with_operands_by (refreshed marks i) (renamed marks) op ∷ [] in
      filter-append is_no_refresh (refresh_at marks i 0 op ++ refresh_at marks i 1 op) own
      ∙ ap (λ (xs : List Op). xs ++ filter is_no_refresh own) (filter-append is_no_refresh (refresh_at marks i 0 op) (refresh_at marks i 1 op)
      ∙ ap₂ (λ (xs ys : List Op). xs ++ ys) (filter-fresh i 0 op) (filter-fresh i 1 op))
      ∙ filter-own i op plain

  -- so each value counts once
  count-of : (i : ℕ) (op : Op) → is_no_refresh op ≡ true → count (blocks_of marks i op) ≡ 1
  count-of i op plain =
      omega (
        arith,
        count-append (refresh_at marks i 0 op ++ refresh_at marks i 1 op) (with_operands_by (refreshed marks i) (renamed marks) op ∷ []),
        count-refreshes i op,
        count-own i op plain,
      )

  -- of the blocks of values only their own stay
  filter-from : (i : ℕ) (ops : List Op) → AreNoRefreshes ops → filter is_no_refresh (blocks_from marks i ops) ≡ owns marks i ops
  unfolding blocks_from
  filter-from i [] plain = refl
  filter-from i (op ∷ ops) plain =
      filter-append is_no_refresh (blocks_of marks i op) (blocks_from marks (suc i) ops)
      ∙ ap₂ (λ (xs ys : List Op). xs ++ ys) (filter-of i op (plain 0 op refl)) (filter-from (suc i) ops (rest-plain op ops plain))

  -- before the own block of value k of some there are k that stay
  count-before : (i : ℕ) (ops : List Op) (k m : ℕ) (op : Op) → AreNoRefreshes ops → slice_get ops k ≡ Some op
      → blocks_before marks i + m ≡ own_block marks (i + k) → count (take m (blocks_from marks i ops)) ≡ k
  unfolding blocks_from
  count-before i [] k m op plain there at = absurd (cc)
  count-before i (x ∷ ops) zero m op plain there at =
      let rs : List Op = refresh_at marks i 0 x ++ refresh_at marks i 1 x in
      let own : List Op = with_operands_by (refreshed marks i) (renamed marks) x ∷ [] in
      let same : i + 0 ≡ i = omega arith in
      let e : m ≡ length rs = omega (arith, at, refreshes-long marks i x, ap (own_block marks) same) in
      ap (λ (n : ℕ). count (take n (blocks_from marks i (x ∷ ops)))) e
      ∙ ap (λ (xs : List Op). count (take (length rs) xs)) (append_assoc rs own (blocks_from marks (suc i) ops))
      ∙ ap count (take-append_seam rs (own ++ blocks_from marks (suc i) ops))
      ∙ count-refreshes i x
  count-before i (x ∷ ops) (suc k) m op plain there at =
      let bs : List Op = blocks_of marks i x in
      let rest : ℕ = m - length bs in
      let same : i + suc k ≡ suc i + k = omega arith in
      let e : m ≡ length bs + rest =
      omega (arith, at, of-long marks i x, before-next marks i, before-later marks (suc i) k, ap (own_block marks) same) in
      let behind : count (take rest (blocks_from marks (suc i) ops)) ≡ k =
      count-before (suc i) ops k rest op (rest-plain x ops plain) there
      (omega (arith, at, e, of-long marks i x, before-next marks i, ap (own_block marks) same)) in
      let split : take m (bs ++ blocks_from marks (suc i) ops) ≡ bs ++ take rest (blocks_from marks (suc i) ops) =
      ap (λ (n : ℕ). take n (bs ++ blocks_from marks (suc i) ops)) e ∙ take-append-add bs (blocks_from marks (suc i) ops) rest in
      omega (arith, ap count split, count-append bs (take rest (blocks_from marks (suc i) ops)), count-of i x (plain 0 x refl), behind)

-- an operand that is a value is one of the first n
abbrev IsBelow : ℕ → Operand → Type 0
IsBelow n = renumbering.IsBelow n

-- shared operands are
shared-below : (s : Values) (i : ℕ) (v : Operand) → IsSharedThere (shape_of_values s) (take i s.values) v → IsBelow (length s.values) v
shared-below s i (Secret k) there = tt
shared-below s i (Public k) there = tt
shared-below s i (Block k) there =
    let at = IsSomeAnd-value (slice_get (take i s.values) k) (λ op. is_public op ≡ false) there in
    slice_get_within s.values k at.0 (slice_get-front s.values i k at.0 at.1).1

-- public ones too
public-below : (s : Values) (i : ℕ) (v : Operand) → IsPublicThere (shape_of_values s) (take i s.values) v → IsBelow (length s.values) v
public-below s i (Secret k) there = tt
public-below s i (Public k) there = tt
public-below s i (Block k) there =
    let at = IsSomeAnd-value (slice_get (take i s.values) k) (λ op. is_public op ≡ true) there in
    slice_get_within s.values k at.0 (slice_get-front s.values i k at.0 at.1).1

-- and outputs
draft-below : (s : Values) (v : Operand) → ssa.IsSharedThere (draft s) v → IsBelow (length s.values) v
draft-below s (Secret k) there = tt
draft-below s (Public k) there = tt
draft-below s (Block k) there =
    let at = IsSomeAnd-value (slice_get s.values k) (λ op. is_public op ≡ false) there in
    slice_get_within s.values k at.0 at.1

-- a function that takes back what others make of operands
map-back : (f g : Operand → Operand) (vs : List Operand) → ((k : ℕ) (v : Operand) → slice_get vs k ≡ Some v → f (g v) ≡ v) → map f (map g vs) ≡ vs
map-back f g [] back = refl
map-back f g (v ∷ vs) back = ap₂ (λ x xs. x ∷ xs) (back 0 v refl) (map-back f g vs (λ k w there. back (suc k) w there))

-- where these go by the place
places-back : (f : Operand → Operand) (g : ℕ → Operand → Operand) (n : ℕ) (vs : List Operand)
    → ((k : ℕ) (v : Operand) → slice_get vs k ≡ Some v → f (g (n + k) v) ≡ v) → map f (places g n vs) ≡ vs
unfolding places
places-back f g n [] back = refl
places-back f g n (v ∷ vs) back =
    let here : n + 0 ≡ n = omega arith in
    ap₂ (λ x xs. x ∷ xs) (ap (λ (m : ℕ). f (g m v)) (sym here) ∙ back 0 v refl)
    (places-back f g (suc n) vs (λ k w there.
    let next : suc n + k ≡ n + suc k = omega arith in
    ap (λ (m : ℕ). f (g m w)) next ∙ back (suc k) w there))

module _ (marks : Marks) (s : Values) (is : IsValues s) where
  -- the blocks of the values
  abbrev blocks : List Op
  blocks = blocks_from marks 0 s.values

  -- the new number of an own block is that of its value
  number-back : (i : ℕ) → i < length s.values → new_number blocks (own_block marks i) ≡ i
  unfolding blocks_before
  number-back i below =
      let op : Op = get_or s.values i (Const 0) in
      let same : 0 + i ≡ i = omega arith in
      count-before marks 0 s.values i (own_block marks i) op (values-plain s is) (slice_get-get_or s.values i (Const 0) below)
      (omega (arith, ap (own_block marks) same))

  -- so an operand comes back
  renumbered-back : (v : Operand) → IsBelow (length s.values) v → renumbered blocks (renamed marks v) ≡ v
  renumbered-back (Secret k) below = refl
  renumbered-back (Public k) below = refl
  renumbered-back (Block k) below = ap (λ (n : ℕ). Block n) (number-back k below)

  -- a value's own block stands for itself
  unrefreshed-own : (v : Operand) → IsBelow (length s.values) v → unrefreshed blocks (renamed marks v) ≡ renamed marks v
  unrefreshed-own (Secret k) below = refl
  unrefreshed-own (Public k) below = refl
  unrefreshed-own (Block k) below =
      let op : Op = get_or s.values k (Const 0) in
      let there : slice_get s.values k ≡ Some op = slice_get-get_or s.values k (Const 0) below in
      let own : Op = with_operands_by (refreshed marks k) (renamed marks) op in
      ap (λ (o : Option Op). refreshed_or o (Block (own_block marks k))) (own-there marks s.values k op there)
      ∙ or-plain own (Block (own_block marks k)) (own-plain (refreshed marks k) (renamed marks) op ∙ values-plain s is k op there)

  -- an operand by its number in the certificate
  own-back : (v : Operand) → IsBelow (length s.values) v → new_operand blocks (renamed marks v) ≡ v
  own-back v below = ap (renumbered blocks) (unrefreshed-own v below) ∙ renumbered-back v below

  module _ (i : ℕ) (op : Op) (there : slice_get s.values i ≡ Some op) where
    -- the operand of a wired value at a place
    shared-at : (k : ℕ) (v : Operand) → slice_get (shared_operands op) k ≡ Some v → IsBelow (length s.values) v
    shared-at k v at =
        shared-below s i v (each-at (IsSharedThere (shape_of_values s) (take i s.values)) (shared_operands op) k v
        (wired-operands (shape_of_values s) (take i s.values) op (wired-value s is i op there)).0 at)

    -- a public operand is of a value that is there
    public-at : (k : ℕ) (v : Operand) → slice_get (public_operands op) k ≡ Some v → IsBelow (length s.values) v
    public-at k v at =
        public-below s i v (each-at (IsPublicThere (shape_of_values s) (take i s.values)) (public_operands op) k v
        (wired-operands (shape_of_values s) (take i s.values) op (wired-value s is i op there)).1 at)

    -- the refresh for a use stands for its operand
    fresh-back : (k : ℕ) (v : Operand) → k < 2 → slice_get (shared_operands op) k ≡ Some v → marks i k ≡ true
        → unrefreshed blocks (refreshed marks i k v) ≡ renamed marks v
    fresh-back k v few at on =
        ap (unrefreshed blocks) (fresh-on marks i k v on)
        ∙ ap (λ (o : Option Op). refreshed_or o (Block (refresh_block marks i k))) (refresh-there marks s.values i k op there few on)
        ∙ ap (renamed marks) (get_or_from_slice_get (shared_operands op) k v (Secret 0) at)

    -- so what stands for a shared operand comes back
    place-back : (k : ℕ) (v : Operand) → k < 2 → slice_get (shared_operands op) k ≡ Some v → new_operand blocks (refreshed marks i k v) ≡ v
    place-back k v few at = elim (cases_Bool (marks i k)) [
      | inl on ↦ ap (renumbered blocks) (fresh-back k v few at on) ∙ renumbered-back v (shared-at k v at)
      | inr off ↦ ap (new_operand blocks) (fresh-off marks i k v off) ∙ own-back v (shared-at k v at)
    ]

    -- and so does the value
    value-back : operators.with_operands (new_operand blocks) (with_operands_by (refreshed marks i) (renamed marks) op) ≡ op
    value-back =
        let f : Operand → Operand = new_operand blocks in
        let own : Op = with_operands_by (refreshed marks i) (renamed marks) op in
        let short : length (shared_operands op) ≤ 2 =
        omega (arith, length-append (shared_operands op) (public_operands op), operands-few op) in
        same-op (operators.with_operands f own) op (operator-with f own ∙ operator-laid (refreshed marks i) (renamed marks) op)
        (operands-with f own ∙ map-append f (shared_operands own) (public_operands own)
        ∙ ap₂ (λ (xs ys : List Operand). xs ++ ys)
        (ap (map f) (shared-laid (refreshed marks i) (renamed marks) op)
        ∙ places-back f (refreshed marks i) 0 (shared_operands op)
        (λ k v at.
        let same : 0 + k ≡ k = omega arith in
        ap (λ (m : ℕ). f (refreshed marks i m v)) same
        ∙ place-back k v (omega (arith, short, slice_get_within (shared_operands op) k v at)) at))
        (ap (map f) (public-laid (refreshed marks i) (renamed marks) op)
        ∙ map-back f (renamed marks) (public_operands op) (λ k v at. own-back v (public-at k v at))))

  -- all values come back
  values-back : (i : ℕ) (ops : List Op) → ((k : ℕ) (op : Op) → slice_get ops k ≡ Some op → slice_get s.values (i + k) ≡ Some op)
      → map (operators.with_operands (new_operand blocks)) (owns marks i ops) ≡ ops
  values-back i [] there = refl
  values-back i (op ∷ ops) there =
      let here : i + 0 ≡ i = omega arith in
      ap₂ (λ x xs. x ∷ xs) (value-back i op (ap (slice_get s.values) (sym here) ∙ there 0 op refl))
      (values-back (suc i) ops (λ k x at.
      let next : suc i + k ≡ i + suc k = omega arith in
      ap (slice_get s.values) next ∙ there (suc k) x at))

  -- an output is a value that is there
  out-below : (k : ℕ) (v : Operand) → slice_get s.outs k ≡ Some v → IsBelow (length s.values) v
  out-below k v at =
      let there : ssa.IsSharedThere (draft s) v =
      subst (ssa.IsSharedThere (draft s)) (get_or_from_slice_get s.outs k v v at) (is.outs k v (slice_get_within s.outs k v at)) in
      draft-below s v there

  -- and all outputs
  outs-back : map (new_operand blocks) (map (renamed marks) s.outs) ≡ s.outs
  outs-back = map-back (new_operand blocks) (renamed marks) s.outs (λ k v at. own-back v (out-below k v at))

  -- the certificate without refreshes
  pub laid-without : without_refreshes (laid_out marks s) ≡ cert_of s.values s.outs
  laid-without =
      ap₂ cert_of
      (ap (map (operators.with_operands (new_operand blocks))) (filter-from marks 0 s.values (values-plain s is))
      ∙ values-back 0 s.values (λ k op at.
      let same : k ≡ 0 + k = omega arith in
      ap (slice_get s.values) (sym same) ∙ at))
      outs-back

-- a placed certificate without refreshes
pub placed-without : (s : Values) (cert : Claimed) → IsValues s → Placed s cert → without_refreshes cert ≡ record { blocks = s.values; claims = s.outs }
placed-without s cert is placed = ap without_refreshes placed.laid ∙ laid-without placed.marks s is
