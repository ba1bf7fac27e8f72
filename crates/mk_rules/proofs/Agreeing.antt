-- Two traces that agree at the probes, at public values and at needed shares: a block behind them shows each
-- view equally often, and traces that go on from equal views agree again.
use Rattle.std.proofs.Common.{◌≡◌, ◌≢◌, ℕ, ◌+◌, ◌*◌, ◌<◌, Bool, true, false, List, [], ◌∷◌, ◌++◌, length, map, slice_index, sym, ◌∙◌, ap, refl, subst, arith, inl, inr, eq-eqb}
use Rattle.std.specs.List.{Contains, flat_map}
use Rattle.std.proofs.lemmas.List.{get_or_append_left}
use Rattle.std.proofs.lemmas.List.Elements.{Contains-append_cases}
use Rattle.std.proofs.lemmas.Option.{slice_get-get_or}
use Rattle.mk_field.specs.declared.field.FieldId.{FieldId}
use Rattle.mk_field.specs.declared.map.AddMap.{AddMap}
use Rattle.mk_field.specs.Field.{size}
use Rattle.mk_code.specs.declared.instr.Instr.{Instr}
use Rattle.mk_code.specs.Listing.{AllFit}
use Rattle.mk_code.specs.Trace.{run, randoms}
use Rattle.mk_code.specs.Counting.{total, one_if_equal, AllBelow, Elements}
use Rattle.mk_code.specs.Private.{observation}
use Rattle.mk_code.proofs.Runs.{run-behind}
use Rattle.mk_field.proofs.Sum.{zero-element}
use Rattle.mk_ssa.specs.Kinds.{Kind, Public, Linear, Strong}
use Rattle.mk_gadget.specs.Gadget.{Gadget, placed}
use Rattle.mk_gadget.specs.Steady.{block_ways, DependsAt}
use Rattle.mk_gadget.specs.PlacedLaw.{placed_view}
use Rattle.mk_gadget.proofs.Placed.{PlacedLaw-holds}
use Rattle.mk_gadget.proofs.Steady.{share-inside}
use Rattle.mk_rules.proofs.Probes.{AllBelow-from, Contains-none, Contains-first, Contains-more, inside, behind, inside-below, inside-behind}
use Rattle.mk_rules.proofs.Blocks.{Block, block_len, IsHit, only, need, IsSingle, AllAskFew}
use Rattle.mk_rules.proofs.Needs.{need-few, need-below, need-asked, need-passed}
use Rattle.mk_rules.proofs.Views.{observation-append, observation-below, Contains-at, flat-at, flat-same}
use Rattle.mk_code.proofs.Observations.{length-observation, observation-at}
use Rattle.mk_rules.proofs.Standing.{bank, block_reads, block_placed, IsBlock, AreBanks, shared-long, publics-long, length-shared, length-publics, reads-below, reads-fit, reads-within}

-- two traces up to the place `base` have the same values at the probes so far, the same public values, and of
-- each shared value the same shares with the indexes that the blocks from there on need
pub record Agree (known : ℕ → Bool) (probes : List ℕ) (v base : ℕ) (banks : List (List ℕ)) (bs : List Block) (u w : List ℕ) : Type 0 where
  pub probed : (p : ℕ) → Contains probes p → p < base → slice_index u p ≡ slice_index w p
  pub publics : (x : ℕ) → x < v → known x ≡ true → slice_index u (slice_index (bank banks x) 0) ≡ slice_index w (slice_index (bank banks x) 0)
  pub needed : (x i : ℕ) → x < v → known x ≡ false → Contains (need probes (only x) base v bs) i
      → slice_index u (slice_index (bank banks x) i) ≡ slice_index w (slice_index (bank banks x) i)

-- which shares of a block's value are looked at: the one of a public value, and those that are needed of a
-- shared one
abbrev pub looked_at : Kind → List ℕ → List ℕ
looked_at Public needed = 0 ∷ []
looked_at Linear needed = needed
looked_at Strong needed = needed

-- an observer of a placed block sees what is seen of its gadget alone, in as many ways
placed-ways-at : (field : FieldId) (maps : List AddMap) (gadget : Gadget) (count base : ℕ) (reads entries probes outs seen : List ℕ) → length entries ≡ base
    → AllBelow base reads → AllFit field count (length reads) gadget.instrs
    → AllBelow (length gadget.instrs) probes → AllBelow (length reads + length gadget.instrs) gadget.outs
    → total (size field) (randoms (placed reads base gadget))
    (λ tape. one_if_equal (placed_view reads base gadget probes outs (run field maps (placed reads base gadget) tape entries)) seen)
    ≡ block_ways field maps gadget (observation reads entries) probes outs seen
placed-ways-at field maps gadget count base reads entries probes outs seen long below fit within bank =
    subst (λ (b : ℕ). AllBelow b reads
    → total (size field) (randoms (placed reads b gadget))
    (λ tape. one_if_equal (placed_view reads b gadget probes outs (run field maps (placed reads b gadget) tape entries)) seen)
    ≡ block_ways field maps gadget (observation reads entries) probes outs seen) long
    (λ under. (PlacedLaw-holds field maps).ways gadget count reads entries probes outs seen under fit within bank) below

-- entries that are equal at its one place show the same at a bank
one-place : (bank u w : List ℕ) → length bank ≡ 1 → slice_index u (slice_index bank 0) ≡ slice_index w (slice_index bank 0)
    → observation bank u ≡ observation bank w
one-place [] u w long same = absurd (omega (arith, long))
one-place (p ∷ []) u w long same = ap (λ (a : ℕ). a ∷ []) same
one-place (p ∷ q ∷ ps) u w long same = absurd (omega (arith, long))

-- the entries before a run stay
pub run-before : (field : FieldId) (maps : List AddMap) (is : List Instr) (tape entries : List ℕ) (p : ℕ) → p < length entries
    → slice_index (run field maps is tape entries) p ≡ slice_index entries p
run-before field maps is tape entries p before =
    let behind : (more : List ℕ) × (run field maps is tape entries ≡ entries ++ more) = run-behind field maps is tape entries in
    ap (λ (l : List ℕ). slice_index l p) behind.1 ∙ get_or_append_left entries behind.0 0 p before

module _ (field : FieldId) (maps : List AddMap) (n : ℕ) (known : ℕ → Bool) (probes : List ℕ) (v base : ℕ) (banks : List (List ℕ))
    (b : Block) (bs : List Block) (u w : List ℕ)
    (banked : AreBanks n known v base banks) (good : IsBlock field maps n known v b) (few : AllAskFew n bs)
    (single : (x : ℕ) → x < v → IsSingle (only x) v (b ∷ bs))
    (left : Elements (size field) base u) (right : Elements (size field) base w)
    (short : behind base probes < n) (agree : Agree known probes v base banks (b ∷ bs) u w) where
  -- an operand stands at its place
  operand-hit : (k : ℕ) → k < length b.shared → IsHit (only (slice_index b.shared k)) b.shared k
  operand-hit k inside = record {
    value = slice_index b.shared k;
    there = slice_get-get_or b.shared k 0 inside;
    is = eq-eqb (slice_index b.shared k) (slice_index b.shared k) refl;
  }

  -- it stands before the block, and is shared
  operand-shared : (k : ℕ) → k < length b.shared → (slice_index b.shared k < v) × (known (slice_index b.shared k) ≡ false)
  operand-shared k inside = good.shared (slice_index b.shared k) (Contains-at b.shared k (slice_index b.shared k) (slice_get-get_or b.shared k 0 inside))

  -- a share of an operand as the block's state has it
  operand-share : (z : List ℕ) (k i : ℕ) → k < length b.shared → i < n
      → slice_index (observation (flat_map (bank banks) b.shared) z) (n * k + i) ≡ slice_index z (slice_index (bank banks (slice_index b.shared k)) i)
  operand-share z k i first below =
      observation-at (flat_map (bank banks) b.shared) z (n * k + i)
      (omega (arith, length-shared field maps n known v base banks b banked good, share-inside n (length b.shared) k i first below))
      ∙ ap (slice_index z)
      (flat-at (bank banks) n b.shared k (slice_index b.shared k) i (shared-long field maps n known v base banks b banked good)
      (slice_get-get_or b.shared k 0 first) below)

  -- needed shares are the same
  needed-share : (k i : ℕ) → k < length b.shared → i < n → Contains (need probes (only (slice_index b.shared k)) base v (b ∷ bs)) i
      → slice_index (observation (flat_map (bank banks) b.shared) u) (n * k + i) ≡ slice_index (observation (flat_map (bank banks) b.shared) w) (n * k + i)
  needed-share k i first below held =
      let there : (slice_index b.shared k < v) × (known (slice_index b.shared k) ≡ false) = operand-shared k first in
      operand-share u k i first below ∙ agree.needed (slice_index b.shared k) i there.0 there.1 held ∙ sym (operand-share w k i first below)

  -- public operands are the same
  publics-same : observation (flat_map (bank banks) b.publics) u ≡ observation (flat_map (bank banks) b.publics) w
  publics-same =
      flat-same (bank banks) b.publics u w
      (λ x held. one-place (bank banks x) u w (publics-long field maps n known v base banks b banked good x held)
      (agree.publics x (good.publics x held).0 (good.publics x held).1))

  -- where a view depends on needed shares alone, both states show it equally often
  depends-same : (own outs : List ℕ) (asked : ℕ → List ℕ)
      → DependsAt field maps n (length b.shared) (length b.publics) b.gadget own outs asked
      → ((k i : ℕ) → k < length b.shared → Contains (asked k) i → Contains (need probes (only (slice_index b.shared k)) base v (b ∷ bs)) i)
      → (seen : List ℕ)
      → block_ways field maps b.gadget (observation (block_reads banks b) u) own outs seen
      ≡ block_ways field maps b.gadget (observation (block_reads banks b) w) own outs seen
  depends-same own outs asked depends needed seen =
      let shares : List ℕ = flat_map (bank banks) b.shared in
      let publics : List ℕ = flat_map (bank banks) b.publics in
      let q : ℕ = size field in
      let ways : List ℕ → ℕ = λ state. block_ways field maps b.gadget state own outs seen in
      let some : 0 < q = zero-element field in
      let shares_of : (z : List ℕ) → Elements q base z → Elements q (n * length b.shared) (observation shares z) = λ z here. record {
        count = length-observation shares z ∙ length-shared field maps n known v base banks b banked good;
        below = observation-below q shares z some here.below;
      } in
      let open_ones : Elements q (length b.publics) (observation publics u) = record {
        count = length-observation publics u ∙ length-publics field maps n known v base banks b banked good;
        below = observation-below q publics u some left.below;
      } in
      ap ways (observation-append shares publics u)
      ∙ depends (observation shares u) (observation shares w) (observation publics u) seen (shares_of u left) (shares_of w right) open_ones
      (λ k i first below held. needed-share k i first below (needed k i first held))
      ∙ ap (λ (l : List ℕ). ways (observation shares w ++ l)) publics-same
      ∙ sym (ap ways (observation-append shares publics w))

  -- the needed shares of the block's value are few
  wanted-few : length (inside base (block_len b) probes) + length (need probes (only v) (base + block_len b) (v + 1) bs) < n
  wanted-few =
      omega (
        arith,
        short,
        inside-behind base (block_len b) (base + block_len b) probes (omega arith),
        need-few n probes (only v) (base + block_len b) (v + 1) bs few,
      )

  -- they are shares that it has
  wanted-below : AllBelow n (need probes (only v) (base + block_len b) (v + 1) bs)
  wanted-below =
      AllBelow-from n (need probes (only v) (base + block_len b) (v + 1) bs)
      (λ i held. need-below n probes (only v) (base + block_len b) (v + 1) bs i few held)

  -- the block's state shows each view equally often, by its kind
  kind-same : (kind : Kind) → b.kind ≡ kind → (seen : List ℕ)
      → block_ways field maps b.gadget (observation (block_reads banks b) u) (inside base (block_len b) probes) (looked_at kind (need probes (only v) (base + block_len b) (v + 1) bs)) seen
      ≡ block_ways field maps b.gadget (observation (block_reads banks b) w) (inside base (block_len b) probes) (looked_at kind (need probes (only v) (base + block_len b) (v + 1) bs)) seen
  unfolding AllBelow
  kind-same Public is seen =
      let own : List ℕ = inside base (block_len b) probes in
      let outs : List ℕ = 0 ∷ [] in
      let weak : b.kind ≢ Strong = λ e. absurd (cc) in
      depends-same own outs (λ k. b.asks own outs k ++ outs)
      (good.weak weak own outs (inside-below base (block_len b) probes) (omega (arith, short), tt))
      (λ k i first held. absurd (omega (arith, first, good.unshared is))) seen
  kind-same Linear is seen =
      let own : List ℕ = inside base (block_len b) probes in
      let outs : List ℕ = need probes (only v) (base + block_len b) (v + 1) bs in
      let weak : b.kind ≢ Strong = λ e. absurd (cc) in
      depends-same own outs (λ k. b.asks own outs k ++ outs)
      (good.weak weak own outs (inside-below base (block_len b) probes) wanted-below)
      (λ k i first held.
      let x : ℕ = slice_index b.shared k in
      let there : (x < v) × (known x ≡ false) = operand-shared k first in
      elim (Contains-append_cases (b.asks own outs k) outs i held) [
        | inl asked ↦ need-asked n probes base v b bs good.asking few x (single x there.0) k i (operand-hit k first) asked
        | inr passed ↦ need-passed n probes base v b bs good.asking few x (single x there.0) k i is (operand-hit k first) passed
      ]) seen
  kind-same Strong is seen =
      let own : List ℕ = inside base (block_len b) probes in
      let outs : List ℕ = need probes (only v) (base + block_len b) (v + 1) bs in
      depends-same own outs (b.asks own outs)
      (good.strong is own outs (inside-below base (block_len b) probes) wanted-below wanted-few)
      (λ k i first held.
      let x : ℕ = slice_index b.shared k in
      let there : (x < v) × (known x ≡ false) = operand-shared k first in
      need-asked n probes base v b bs good.asking few x (single x there.0) k i (operand-hit k first) held) seen

  -- what is looked at of the block
  abbrev pub looked : List ℕ
  looked = looked_at b.kind (need probes (only v) (base + block_len b) (v + 1) bs)

  -- behind both traces the block shows each view equally often
  pub block-even : (seen : List ℕ)
      → total (size field) (randoms (block_placed banks base b))
      (λ s. one_if_equal (placed_view (block_reads banks b) base b.gadget (inside base (block_len b) probes) looked (run field maps (block_placed banks base b) s u)) seen)
      ≡ total (size field) (randoms (block_placed banks base b))
      (λ s. one_if_equal (placed_view (block_reads banks b) base b.gadget (inside base (block_len b) probes) looked (run field maps (block_placed banks base b) s w)) seen)
  block-even seen =
      let own : List ℕ = inside base (block_len b) probes in
      let at : (z : List ℕ) → Elements (size field) base z
      → total (size field) (randoms (block_placed banks base b))
      (λ s. one_if_equal (placed_view (block_reads banks b) base b.gadget own looked (run field maps (block_placed banks base b) s z)) seen)
      ≡ block_ways field maps b.gadget (observation (block_reads banks b) z) own looked seen =
      λ z here. placed-ways-at field maps b.gadget (length maps) base (block_reads banks b) z own looked seen here.count
      (reads-below field maps n known v base banks b banked good) (reads-fit field maps n known v base banks b banked good)
      (inside-below base (block_len b) probes) (reads-within field maps n known v base banks b banked good) in
      at u left ∙ kind-same b.kind refl seen ∙ sym (at w right)
