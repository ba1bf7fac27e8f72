-- How many shares are needed, and which: one list of each block at most, and the more the more is marked.
use Rattle.std.proofs.Common.{◌≡◌, ◌≢◌, ◌⊎◌, ℕ, ◌+◌, ◌<◌, ◌≤◌, Bool, true, List, [], ◌∷◌, length, nat_eq, sym, ◌∙◌, ap, refl, arith, inl, inr, eq-eqb, ne_eqb}
use Rattle.std.specs.List.{Contains}
use Rattle.std.proofs.lemmas.Bool.{cases_eq, cond-true, cond-false, eqb-true}
use Rattle.std.proofs.lemmas.List.{length-append}
use Rattle.std.proofs.lemmas.List.Elements.{Contains-append_left, Contains-append_right, Contains-append_cases}
use Rattle.mk_ssa.specs.Kinds.{Kind, Public, Linear, Strong}
use Rattle.mk_rules.proofs.Probes.{Contains-none, inside, behind, inside-behind}
use Rattle.mk_rules.proofs.Blocks.{Block, block_len, IsHit, any_marked, asked_first, passed_on, carries, marked, only, need, IsSingle, AsksFew, AllAskFew, asked_first-few, asked_first-from, asked_first-at, any_marked-from, any_marked-at}

-- no more shares are needed than places are probed from the first block on
pub need-few : (n : ℕ) (probes : List ℕ) (marks : ℕ → Bool) (base v : ℕ) (bs : List Block) → AllAskFew n bs
    → length (need probes marks base v bs) ≤ behind base probes
unfolding need AllAskFew
need-few n probes marks base v [] few = omega arith
need-few n probes marks base v (b ∷ bs) few =
    let next : ℕ = base + block_len b in
    let outs : List ℕ = need probes (only v) next (v + 1) bs in
    let here : List ℕ = asked_first marks (b.asks (inside base (block_len b) probes) outs) b.shared in
    let more : List ℕ = need probes (marked marks v (carries marks b)) next (v + 1) bs in
    let short : length here ≤ length (inside base (block_len b) probes) =
    asked_first-few marks (b.asks (inside base (block_len b) probes) outs) b.shared (length (inside base (block_len b) probes))
    (λ k. few.0.few (inside base (block_len b) probes) outs k) in
    let rest : length more ≤ behind next probes = need-few n probes (marked marks v (carries marks b)) next (v + 1) bs few.1 in
    omega (arith, length-append here more, short, rest, inside-behind base (block_len b) next probes (omega arith))

-- only shares below n are needed
pub need-below : (n : ℕ) (probes : List ℕ) (marks : ℕ → Bool) (base v : ℕ) (bs : List Block) (i : ℕ) → AllAskFew n bs
    → Contains (need probes marks base v bs) i → i < n
unfolding need AllAskFew
need-below n probes marks base v [] i few held = absurd (Contains-none i held)
need-below n probes marks base v (b ∷ bs) i few held =
    let next : ℕ = base + block_len b in
    let outs : List ℕ = need probes (only v) next (v + 1) bs in
    let asks : ℕ → List ℕ = b.asks (inside base (block_len b) probes) outs in
    elim (Contains-append_cases (asked_first marks asks b.shared) (need probes (marked marks v (carries marks b)) next (v + 1) bs) i held) [
      | inl here ↦
          let from : (k : ℕ) × IsHit marks b.shared k × Contains (asks k) i = asked_first-from marks asks b.shared i here in
          few.0.below (inside base (block_len b) probes) outs from.0 i from.2
      | inr rest ↦ need-below n probes (marked marks v (carries marks b)) next (v + 1) bs i few.1 rest
    ]

-- what the first marks, the second mark too
pub record Covers (marks other : ℕ → Bool) : Type 0 where
  pub more : (w : ℕ) → marks w ≡ true → other w ≡ true

-- a place that is marked by the first is marked by the second
pub IsHit-covered : (marks other : ℕ → Bool) (xs : List ℕ) (k : ℕ) → Covers marks other → IsHit marks xs k → IsHit other xs k
IsHit-covered marks other xs k covers hit = record { value = hit.value; there = hit.there; is = covers.more hit.value hit.is }

-- a mark that is passed on is passed on from a linear block with a marked operand
pub carries-from : (kind : Kind) (hit : Bool) → passed_on kind hit ≡ true → (kind ≡ Linear) × (hit ≡ true)
carries-from Public hit on = absurd (cc)
carries-from Linear hit on = (refl, on)
carries-from Strong hit on = absurd (cc)

-- and so it is
pub carries-at : (kind : Kind) (hit : Bool) → kind ≡ Linear → hit ≡ true → passed_on kind hit ≡ true
carries-at Public hit linear on = absurd (cc)
carries-at Linear hit linear on = on
carries-at Strong hit linear on = absurd (cc)

-- a block passes on no fewer marks
pub carries-covered : (marks other : ℕ → Bool) (b : Block) → Covers marks other → carries marks b ≡ true → carries other b ≡ true
carries-covered marks other b covers on =
    let from : (b.kind ≡ Linear) × (any_marked marks b.shared ≡ true) = carries-from b.kind (any_marked marks b.shared) on in
    let hit : (k : ℕ) × IsHit marks b.shared k = any_marked-from marks b.shared from.1 in
    carries-at b.kind (any_marked other b.shared) from.0 (any_marked-at other b.shared hit.0 (IsHit-covered marks other b.shared hit.0 covers hit.1))

-- the mark of v itself
pub marked-own : (marks : ℕ → Bool) (v w : ℕ) (mark : Bool) → w ≡ v → marked marks v mark w ≡ mark
marked-own marks v w mark same = cond-true (nat_eq w v) mark (marks w) (eq-eqb w v same)

-- the others
pub marked-other : (marks : ℕ → Bool) (v w : ℕ) (mark : Bool) → (w ≡ v → ⊥) → marked marks v mark w ≡ marks w
marked-other marks v w mark differ = cond-false (nat_eq w v) mark (marks w) (ne_eqb w v differ)

-- marks with those of one value more
pub Covers-marked : (marks other : ℕ → Bool) (v : ℕ) (here there : Bool) → Covers marks other → (here ≡ true → there ≡ true)
    → Covers (marked marks v here) (marked other v there)
Covers-marked marks other v here there covers passes = record {
  more = λ w on. elim (cases_eq w v) [
    | inl same ↦ marked-own other v w there same ∙ passes (sym (marked-own marks v w here same) ∙ on)
    | inr differ ↦ marked-other other v w there differ ∙ covers.more w (sym (marked-other marks v w here differ) ∙ on)
  ];
}

-- whether a block is strong
pub strong_or : (kind : Kind) → (kind ≡ Strong) ⊎ (kind ≢ Strong)
strong_or Public = inr (λ e. absurd (cc))
strong_or Linear = inr (λ e. absurd (cc))
strong_or Strong = inl refl

-- what a block asks at a marked place is asked, where its marked places ask the same
pub asked-at : (n : ℕ) (marks : ℕ → Bool) (b : Block) (probes outs : List ℕ) (k i : ℕ) → AsksFew n b
    → (b.kind ≡ Strong → (j l : ℕ) → IsHit marks b.shared j → IsHit marks b.shared l → j ≡ l)
    → IsHit marks b.shared k → Contains (b.asks probes outs k) i → Contains (asked_first marks (b.asks probes outs) b.shared) i
asked-at n marks b probes outs k i few single hit held =
    asked_first-at marks (b.asks probes outs) b.shared k i hit held
    (λ j other. elim (strong_or b.kind) [
      | inl strong ↦ ap (b.asks probes outs) (single strong j k other hit)
      | inr weak ↦ few.even weak probes outs j k
    ])

-- the more values are marked, the more shares are needed, where the marks never come to two places of one
-- strong block
pub need-covered : (n : ℕ) (probes : List ℕ) (marks other : ℕ → Bool) (base v : ℕ) (bs : List Block) (i : ℕ) → AllAskFew n bs
    → Covers marks other → IsSingle other v bs → Contains (need probes marks base v bs) i → Contains (need probes other base v bs) i
unfolding need AllAskFew IsSingle
need-covered n probes marks other base v [] i few covers single held = held
need-covered n probes marks other base v (b ∷ bs) i few covers single held =
    let next : ℕ = base + block_len b in
    let outs : List ℕ = need probes (only v) next (v + 1) bs in
    let own : List ℕ = inside base (block_len b) probes in
    let here : List ℕ = asked_first other (b.asks own outs) b.shared in
    let more : List ℕ = need probes (marked other v (carries other b)) next (v + 1) bs in
    elim (Contains-append_cases (asked_first marks (b.asks own outs) b.shared) (need probes (marked marks v (carries marks b)) next (v + 1) bs) i held) [
      | inl asked ↦
          let from : (k : ℕ) × IsHit marks b.shared k × Contains (b.asks own outs k) i = asked_first-from marks (b.asks own outs) b.shared i asked in
          Contains-append_left here more i
          (asked-at n other b own outs from.0 i few.0 single.0 (IsHit-covered marks other b.shared from.0 covers from.1) from.2)
      | inr rest ↦
          Contains-append_right here more i
          (need-covered n probes (marked marks v (carries marks b)) (marked other v (carries other b)) next (v + 1) bs i few.1
          (Covers-marked marks other v (carries marks b) (carries other b) covers (carries-covered marks other b covers)) single.1 rest)
    ]

module _ (n : ℕ) (probes : List ℕ) (base v : ℕ) (b : Block) (bs : List Block) (asking : AsksFew n b) (few : AllAskFew n bs) (x : ℕ)
    (single : IsSingle (only x) v (b ∷ bs)) where
  -- what a block asks of an operand is needed of it
  pub need-asked : (k i : ℕ) → IsHit (only x) b.shared k
      → Contains (b.asks (inside base (block_len b) probes) (need probes (only v) (base + block_len b) (v + 1) bs) k) i
      → Contains (need probes (only x) base v (b ∷ bs)) i
  unfolding need IsSingle
  need-asked k i hit held =
      let next : ℕ = base + block_len b in
      let outs : List ℕ = need probes (only v) next (v + 1) bs in
      let own : List ℕ = inside base (block_len b) probes in
      Contains-append_left (asked_first (only x) (b.asks own outs) b.shared) (need probes (marked (only x) v (carries (only x) b)) next (v + 1) bs) i
      (asked-at n (only x) b own outs k i asking single.0 hit held)

  -- what is needed of the value of a linear block is needed of its operands
  pub need-passed : (k i : ℕ) → b.kind ≡ Linear → IsHit (only x) b.shared k → Contains (need probes (only v) (base + block_len b) (v + 1) bs) i
      → Contains (need probes (only x) base v (b ∷ bs)) i
  unfolding need IsSingle
  need-passed k i linear hit held =
      let next : ℕ = base + block_len b in
      let outs : List ℕ = need probes (only v) next (v + 1) bs in
      let own : List ℕ = inside base (block_len b) probes in
      let marks : ℕ → Bool = marked (only x) v (carries (only x) b) in
      let on : carries (only x) b ≡ true = carries-at b.kind (any_marked (only x) b.shared) linear (any_marked-at (only x) b.shared k hit) in
      let covers : Covers (only v) marks = record { more = λ y same. marked-own (only x) v y (carries (only x) b) (eqb-true y v same) ∙ on } in
      Contains-append_right (asked_first (only x) (b.asks own outs) b.shared) (need probes marks next (v + 1) bs) i
      (need-covered n probes (only v) marks next (v + 1) bs i few covers single.1 held)

  -- what is needed of an earlier value behind the block is needed of it
  pub need-later : (i : ℕ) → x < v → Contains (need probes (only x) (base + block_len b) (v + 1) bs) i → Contains (need probes (only x) base v (b ∷ bs)) i
  unfolding need IsSingle
  need-later i before held =
      let next : ℕ = base + block_len b in
      let outs : List ℕ = need probes (only v) next (v + 1) bs in
      let own : List ℕ = inside base (block_len b) probes in
      let marks : ℕ → Bool = marked (only x) v (carries (only x) b) in
      let covers : Covers (only x) marks =
      record { more = λ y same. marked-other (only x) v y (carries (only x) b) (λ e. absurd (omega (arith, e, eqb-true y x same, before))) ∙ same } in
      Contains-append_right (asked_first (only x) (b.asks own outs) b.shared) (need probes marks next (v + 1) bs) i
      (need-covered n probes (only x) marks next (v + 1) bs i few covers single.1 held)
