-- Traces that agree in front of blocks show each list of values at the probes equally often behind them.
use Rattle.std.proofs.Common.{◌≡◌, ℕ, ◌+◌, ◌-◌, ◌*◌, ◌<◌, Bool, true, false, List, [], ◌∷◌, length, map, slice_index, sym, ◌∙◌, ap, refl, subst, arith, inl, inr}
use Rattle.std.specs.List.{Contains}
use Rattle.std.proofs.lemmas.Bool.{cases_lt}
use Rattle.std.proofs.lemmas.List.{length-map, get_or_past}
use Rattle.mk_base.proofs.Lists.{Contains-map}
use Rattle.mk_field.specs.declared.field.FieldId.{FieldId}
use Rattle.mk_field.specs.declared.map.AddMap.{AddMap}
use Rattle.mk_field.specs.Field.{size}
use Rattle.mk_code.specs.declared.instr.Instr.{Instr}
use Rattle.mk_code.specs.Trace.{run, randoms}
use Rattle.mk_code.specs.Counting.{total, Elements}
use Rattle.mk_code.specs.Private.{observation}
use Rattle.mk_code.proofs.Matching.{total-matched}
use Rattle.mk_code.proofs.Runs.{run-counted}
use Rattle.mk_code.proofs.Steps.{AllBelow-at}
use Rattle.mk_ssa.specs.Kinds.{Kind, Public, Linear, Strong}
use Rattle.mk_gadget.specs.Gadget.{moved, placement}
use Rattle.mk_gadget.specs.PlacedLaw.{placed_view}
use Rattle.mk_rules.proofs.Probes.{Contains-first, inside, behind, inside-held, inside-behind}
use Rattle.mk_rules.proofs.Blocks.{Block, block_len, only, need, IsSingle, AllAskFew}
use Rattle.mk_rules.proofs.Needs.{need-below, need-later}
use Rattle.mk_rules.proofs.Views.{observation-same, observation-seen, same-parts}
use Rattle.mk_code.proofs.Observations.{length-observation, observation-at}
use Rattle.mk_rules.proofs.Values.{placed-elements}
use Rattle.mk_code.specs.Listing.{AreElementMaps}
use Rattle.mk_rules.proofs.Standing.{bank, block_reads, block_outs, banks_with, block_placed, blocks_laid, bank_length, is_known, IsBlock, AllBlocks, AllBlocks-few, AllSingle, AreBanks, AreBanks-next, bank-before, bank-next, length-outs}
use Rattle.mk_rules.proofs.Agreeing.{Agree, looked_at, run-before, block-even}

-- of a public block's value its one share is looked at
looked-public : (kind : Kind) (needed : List ℕ) → is_known kind ≡ true → looked_at kind needed ≡ 0 ∷ []
looked-public Public needed known = refl
looked-public Linear needed known = absurd (cc)
looked-public Strong needed known = absurd (cc)

-- of a shared one's those that are needed
looked-shared : (kind : Kind) (needed : List ℕ) → is_known kind ≡ false → looked_at kind needed ≡ needed
looked-shared Public needed shared = absurd (cc)
looked-shared Linear needed shared = refl
looked-shared Strong needed shared = refl

module _ (field : FieldId) (maps : List AddMap) (n : ℕ) (known : ℕ → Bool) (probes : List ℕ) (v base : ℕ) (banks : List (List ℕ))
    (b : Block) (bs : List Block) (u w s t : List ℕ)
    (banked : AreBanks n known v base banks) (good : IsBlock field maps n known v b) (few : AllAskFew n bs)
    (single : (x : ℕ) → x < v → IsSingle (only x) v (b ∷ bs))
    (left : Elements (size field) base u) (right : Elements (size field) base w)
    (agree : Agree known probes v base banks (b ∷ bs) u w)
    (same : placed_view (block_reads banks b) base b.gadget (inside base (block_len b) probes)
    (looked_at b.kind (need probes (only v) (base + block_len b) (v + 1) bs)) (run field maps (block_placed banks base b) s u)
    ≡ placed_view (block_reads banks b) base b.gadget (inside base (block_len b) probes)
    (looked_at b.kind (need probes (only v) (base + block_len b) (v + 1) bs)) (run field maps (block_placed banks base b) t w)) where
  -- the first trace behind the block
  abbrev first : List ℕ
  first = run field maps (block_placed banks base b) s u

  -- the second
  abbrev second : List ℕ
  second = run field maps (block_placed banks base b) t w

  -- the shares of its value that are looked at
  abbrev looked : List ℕ
  looked = looked_at b.kind (need probes (only v) (base + block_len b) (v + 1) bs)

  -- its probed instructions show the same, and so do the shares
  view-parts : (observation (map (λ k. base + k) (inside base (block_len b) probes)) first ≡ observation (map (λ k. base + k) (inside base (block_len b) probes)) second)
      × (observation looked (observation (block_outs banks base b) first) ≡ observation looked (observation (block_outs banks base b) second))
  view-parts =
      let at : List ℕ = map (λ k. base + k) (inside base (block_len b) probes) in
      same-parts (observation at first) (observation at second) (observation looked (observation (block_outs banks base b) first))
      (observation looked (observation (block_outs banks base b) second))
      (length-observation at first ∙ sym (length-observation at second)) same

  -- the probes so far
  next-probed : (p : ℕ) → Contains probes p → p < base + block_len b → slice_index first p ≡ slice_index second p
  next-probed p held below = elim (cases_lt p base) [
    | inl before ↦
        run-before field maps (block_placed banks base b) s u p (omega (arith, before, left.count))
        ∙ agree.probed p held before
        ∙ sym (run-before field maps (block_placed banks base b) t w p (omega (arith, before, right.count)))
    | inr late ↦
        let at : base + (p - base) ≡ p = omega arith in
        observation-seen (map (λ k. base + k) (inside base (block_len b) probes)) first second p view-parts.0
        (subst (λ (q : ℕ). Contains (map (λ k. base + k) (inside base (block_len b) probes)) q) at
        (Contains-map (λ k. base + k) (inside base (block_len b) probes) (p - base) (inside-held base (block_len b) probes p held late below)))
  ]

  -- a share of an earlier value
  share-before : (x i : ℕ) → x < v → i < length (bank banks x) → slice_index u (slice_index (bank banks x) i) ≡ slice_index w (slice_index (bank banks x) i)
      → slice_index first (slice_index (bank (banks_with banks base b) x) i) ≡ slice_index second (slice_index (bank (banks_with banks base b) x) i)
  share-before x i before inside_bank equal =
      let place : ℕ = slice_index (bank banks x) i in
      let here : place < base = AllBelow-at base (bank banks x) i (banked.below x before) inside_bank in
      let stays : bank (banks_with banks base b) x ≡ bank banks x = bank-before banks (block_outs banks base b) x (omega (arith, before, banked.count)) in
      ap (λ (l : List ℕ). slice_index first (slice_index l i)) stays
      ∙ run-before field maps (block_placed banks base b) s u place (omega (arith, here, left.count))
      ∙ equal
      ∙ sym (run-before field maps (block_placed banks base b) t w place (omega (arith, here, right.count)))
      ∙ ap (λ (l : List ℕ). slice_index second (slice_index l i)) (sym stays)

  -- a share of the block's value
  share-next : (x i : ℕ) → v ≡ x → i < bank_length n (known v) → Contains looked i
      → slice_index first (slice_index (bank (banks_with banks base b) x) i) ≡ slice_index second (slice_index (bank (banks_with banks base b) x) i)
  share-next x i last inside_bank held =
      let outs : List ℕ = block_outs banks base b in
      let here : bank (banks_with banks base b) x ≡ outs = bank-next banks outs x (banked.count ∙ last) in
      let there : i < length outs = omega (arith, inside_bank, length-outs field maps n known v base banks b banked good) in
      ap (λ (l : List ℕ). slice_index first (slice_index l i)) here
      ∙ sym (observation-at outs first i there)
      ∙ observation-seen looked (observation outs first) (observation outs second) i view-parts.1 held
      ∙ observation-at outs second i there
      ∙ ap (λ (l : List ℕ). slice_index second (slice_index l i)) (sym here)

  -- traces that go on from equal views agree behind the block
  pub agree-next : Agree known probes (v + 1) (base + block_len b) (banks_with banks base b) bs first second
  agree-next = record {
    probed = next-probed;
    publics = λ x below public. elim (cases_lt x v) [
      | inl before ↦
          share-before x 0 before (omega (arith, banked.long x before, ap (bank_length n) public)) (agree.publics x before public)
      | inr late ↦
          let last : v ≡ x = omega (arith, below, late) in
          let own : known v ≡ true = ap known last ∙ public in
          let all : looked ≡ 0 ∷ [] = looked-public b.kind (need probes (only v) (base + block_len b) (v + 1) bs) (sym good.own ∙ own) in
          share-next x 0 last (omega (arith, ap (bank_length n) own)) (subst (λ (l : List ℕ). Contains l 0) (sym all) (Contains-first 0 [] 0 refl))
    ];
    needed = λ x i below shared held. elim (cases_lt x v) [
      | inl before ↦
          let small : i < n = need-below n probes (only x) (base + block_len b) (v + 1) bs i few held in
          share-before x i before (omega (arith, small, banked.long x before, ap (bank_length n) shared))
          (agree.needed x i before shared (need-later n probes base v b bs good.asking few x (single x before) i before held))
      | inr late ↦
          let last : v ≡ x = omega (arith, below, late) in
          let own : known v ≡ false = ap known last ∙ shared in
          let wanted : List ℕ = need probes (only v) (base + block_len b) (v + 1) bs in
          let mine : Contains wanted i = subst (λ (y : ℕ). Contains (need probes (only y) (base + block_len b) (v + 1) bs) i) (sym last) held in
          let small : i < n = need-below n probes (only v) (base + block_len b) (v + 1) bs i few mine in
          let all : looked ≡ wanted = looked-shared b.kind wanted (sym good.own ∙ own) in
          share-next x i last (omega (arith, small, ap (bank_length n) own)) (subst (λ (l : List ℕ). Contains l i) (sym all) mine)
    ];
  }

-- traces that agree at all probes show the same
observation-agree : (known : ℕ → Bool) (probes : List ℕ) (q v base : ℕ) (banks : List (List ℕ)) (bs : List Block) (u w : List ℕ)
    → Elements q base u → Elements q base w → Agree known probes v base banks bs u w → observation probes u ≡ observation probes w
observation-agree known probes q v base banks bs u w left right agree =
    observation-same probes u w (λ p held. elim (cases_lt p base) [
      | inl before ↦ agree.probed p held before
      | inr past ↦ get_or_past u p 0 (omega (arith, past, left.count)) ∙ sym (get_or_past w p 0 (omega (arith, past, right.count)))
    ])

-- traces that agree in front of blocks have the same total of whatever is made of what the probes show behind
-- them
pub blocks-even : (field : FieldId) (maps : List AddMap) (n : ℕ) (known : ℕ → Bool) (probes : List ℕ) (h : List ℕ → ℕ)
    (v base : ℕ) (banks : List (List ℕ)) (bs : List Block) (u w : List ℕ)
    → AreElementMaps field maps → AreBanks n known v base banks → AllBlocks field maps n known v bs → AllSingle v bs
    → Elements (size field) base u → Elements (size field) base w → behind base probes < n → Agree known probes v base banks bs u w
    → total (size field) (randoms (blocks_laid banks base bs)) (λ s. h (observation probes (run field maps (blocks_laid banks base bs) s u)))
    ≡ total (size field) (randoms (blocks_laid banks base bs)) (λ s. h (observation probes (run field maps (blocks_laid banks base bs) s w)))
unfolding blocks_laid AllBlocks AllSingle total run randoms
blocks-even field maps n known probes h v base banks [] u w images banked all single left right short agree =
    ap h (observation-agree known probes (size field) v base banks [] u w left right agree)
blocks-even field maps n known probes h v base banks (b ∷ bs) u w images banked all single left right short agree =
    let q : ℕ = size field in
    let next : ℕ = base + block_len b in
    let more : List (List ℕ) = banks_with banks base b in
    let here : List Instr = block_placed banks base b in
    let later : List Instr = blocks_laid more next bs in
    let few : AllAskFew n bs = AllBlocks-few field maps n known (v + 1) bs all.1 in
    let long : length here ≡ block_len b = length-map b.gadget.instrs (moved (placement (block_reads banks b) base)) in
    let behind_it : behind next probes < n = omega (arith, short, inside-behind base (block_len b) next probes (omega arith)) in
    let goes_on : (s z : List ℕ) → Elements q (randoms here) s → Elements q base z → Elements q next (run field maps here s z) =
    λ s z random begun. placed-elements field maps (length maps) (n * length b.shared + length b.publics) base (block_reads banks b) b.gadget s z images
    all.0.fit random.below begun long in
    let view : List ℕ → List ℕ → List ℕ =
    λ z s. placed_view (block_reads banks b) base b.gadget (inside base (block_len b) probes)
    (looked_at b.kind (need probes (only v) next (v + 1) bs)) (run field maps here s z) in
    let seen : List ℕ → ℕ = λ z. total q (randoms later) (λ t. h (observation probes (run field maps later t z))) in
    run-counted field maps here later (λ z. h (observation probes z)) u
    ∙ total-matched q (randoms here) (view u) (view w) (λ s. seen (run field maps here s u)) (λ s. seen (run field maps here s w))
    (block-even field maps n known probes v base banks b bs u w banked all.0 few single.0 left right short agree)
    (λ s t first second same.
    blocks-even field maps n known probes h (v + 1) next more bs (run field maps here s u) (run field maps here t w) images
    (AreBanks-next field maps n known v base banks b banked all.0) all.1 single.1 (goes_on s u first left) (goes_on t w second right) behind_it
    (agree-next field maps n known probes v base banks b bs u w s t banked all.0 few single.0 left right agree same))
    ∙ sym (run-counted field maps here later (λ z. h (observation probes z)) w)
