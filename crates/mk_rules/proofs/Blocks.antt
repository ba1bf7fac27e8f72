-- Blocks apart from their operators, on numbered values: which marks they pass on, and which shares of
-- marked values they and those behind them ask for.
use Rattle.std.proofs.Common.{◌≡◌, ◌≢◌, ℕ, zero, suc, ◌+◌, ◌<◌, ◌≤◌, Bool, true, false, List, [], ◌∷◌, ◌++◌, length, slice_get, Some, nat_eq, if◌then◌else◌, sym, ◌∙◌, ap, refl, subst, arith, inl, inr}
use Rattle.std.specs.List.{Contains}
use Rattle.std.proofs.lemmas.Bool.{cases_Bool, both_ways, cond-true, cond-false, false≢true}
use Rattle.std.proofs.lemmas.Option.{same_Some}
use Rattle.mk_ssa.specs.Kinds.{Kind, Public, Linear, Strong}
use Rattle.mk_gadget.specs.Gadget.{Gadget}
use Rattle.mk_rules.proofs.Probes.{Contains-none, inside}

-- a block: its kind, the numbers of its shared operands by place and of its public ones, its gadget, and
-- which shares of the operand at a place it asks for where these of its instructions are probed and these
-- shares of its value are seen
pub record Block : Type 0 where
  pub kind : Kind
  pub shared : List ℕ
  pub publics : List ℕ
  pub gadget : Gadget
  pub asks : List ℕ → List ℕ → ℕ → List ℕ

-- how many instructions it has
abbrev pub block_len : Block → ℕ
block_len b = length b.gadget.instrs

-- a marked value stands at place k of these
pub record IsHit (marks : ℕ → Bool) (values : List ℕ) (k : ℕ) : Type 0 where
  pub value : ℕ
  pub there : slice_get values k ≡ Some value
  pub is : marks value ≡ true

-- whether one of the values is marked
unfoldable pub any_marked : (ℕ → Bool) → List ℕ → Bool
any_marked marks [] = false
any_marked marks (x ∷ xs) = if marks x then true else any_marked marks xs

-- what is asked at the first place where a marked value stands
unfoldable pub asked_first : (ℕ → Bool) → (ℕ → List ℕ) → List ℕ → List ℕ
asked_first marks asks [] = []
asked_first marks asks (x ∷ xs) = if marks x then asks 0 else asked_first marks (λ k. asks (suc k)) xs

-- a linear block passes a mark on
abbrev pub passed_on : Kind → Bool → Bool
passed_on Public hit = false
passed_on Linear hit = hit
passed_on Strong hit = false

-- whether the block's value gets a mark
abbrev pub carries : (ℕ → Bool) → Block → Bool
carries marks b = passed_on b.kind (any_marked marks b.shared)

-- the marks, with that of the value v
abbrev pub marked : (ℕ → Bool) → ℕ → Bool → ℕ → Bool
marked marks v mark w = if nat_eq w v then mark else marks w

-- the mark of the value v alone
abbrev pub only : ℕ → ℕ → Bool
only v w = nat_eq w v

-- the shares of the marked values that the blocks ask for, the first at the place `base` of the trace and
-- with the value number v: each what it asks at the first marked place, its own value being needed by those
-- behind it
unfoldable pub need : List ℕ → (ℕ → Bool) → ℕ → ℕ → List Block → List ℕ
need probes marks base v [] = []
need probes marks base v (b ∷ bs) =
    asked_first marks (b.asks (inside base (block_len b) probes) (need probes (only v) (base + block_len b) (v + 1) bs)) b.shared
    ++ need probes (marked marks v (carries marks b)) (base + block_len b) (v + 1) bs

-- the marks never come to two places of one strong block
unfoldable pub IsSingle : (ℕ → Bool) → ℕ → List Block → Type 0
IsSingle marks v [] = Unit {0}
IsSingle marks v (b ∷ bs) =
    (b.kind ≡ Strong → (j k : ℕ) → IsHit marks b.shared j → IsHit marks b.shared k → j ≡ k)
    × IsSingle (marked marks v (carries marks b)) (v + 1) bs

-- what is asked is short, of shares below n, and at all places the same unless the block is strong
pub record AsksFew (n : ℕ) (b : Block) : Type 0 where
  pub few : (probes outs : List ℕ) (k : ℕ) → length (b.asks probes outs k) ≤ length probes
  pub below : (probes outs : List ℕ) (k i : ℕ) → Contains (b.asks probes outs k) i → i < n
  pub even : b.kind ≢ Strong → (probes outs : List ℕ) (j k : ℕ) → b.asks probes outs j ≡ b.asks probes outs k

-- each of the blocks asks so
unfoldable pub AllAskFew : ℕ → List Block → Type 0
AllAskFew n [] = Unit {0}
AllAskFew n (b ∷ bs) = AsksFew n b × AllAskFew n bs

-- a marked value at a place of the others
pub IsHit-more : (marks : ℕ → Bool) (x : ℕ) (xs : List ℕ) (k : ℕ) → IsHit marks xs k → IsHit marks (x ∷ xs) (suc k)
IsHit-more marks x xs k hit = record { value = hit.value; there = hit.there; is = hit.is }

-- at the first place
pub IsHit-first : (marks : ℕ → Bool) (x : ℕ) (xs : List ℕ) → marks x ≡ true → IsHit marks (x ∷ xs) 0
IsHit-first marks x xs is = record { value = x; there = refl; is = is }

-- a value that isn't marked isn't at the first place
pub IsHit-not : (marks : ℕ → Bool) (x : ℕ) (xs : List ℕ) → marks x ≡ false → IsHit marks (x ∷ xs) 0 → ⊥
IsHit-not marks x xs off hit =
    let same : x ≡ hit.value = same_Some x hit.value hit.there in
    both_ways (marks x) off (ap marks same ∙ hit.is)

-- no more is asked than at one place
pub asked_first-few : (marks : ℕ → Bool) (asks : ℕ → List ℕ) (xs : List ℕ) (m : ℕ) → ((k : ℕ) → length (asks k) ≤ m) → length (asked_first marks asks xs) ≤ m
unfolding asked_first
asked_first-few marks asks [] m few = omega arith
asked_first-few marks asks (x ∷ xs) m few = elim (cases_Bool (marks x)) [
  | inl on ↦ rw on (few 0)
  | inr off ↦ rw off (asked_first-few marks (λ k. asks (suc k)) xs m (λ k. few (suc k)))
]

-- what is asked is asked at a marked place
pub asked_first-from : (marks : ℕ → Bool) (asks : ℕ → List ℕ) (xs : List ℕ) (i : ℕ) → Contains (asked_first marks asks xs) i
    → (k : ℕ) × IsHit marks xs k × Contains (asks k) i
unfolding asked_first
asked_first-from marks asks [] i held = absurd (Contains-none i held)
asked_first-from marks asks (x ∷ xs) i held = elim (cases_Bool (marks x)) [
  | inl on ↦ (0, IsHit-first marks x xs on, subst (λ (l : List ℕ). Contains l i) (cond-true (marks x) (asks 0) (asked_first marks (λ k. asks (suc k)) xs) on) held)
  | inr off ↦
      let rest : (k : ℕ) × IsHit marks xs k × Contains (asks (suc k)) i =
      asked_first-from marks (λ k. asks (suc k)) xs i
      (subst (λ (l : List ℕ). Contains l i) (cond-false (marks x) (asks 0) (asked_first marks (λ k. asks (suc k)) xs) off) held) in
      (suc rest.0, IsHit-more marks x xs rest.0 rest.1, rest.2)
]

-- where the same is asked at each marked place, it is asked
pub asked_first-at : (marks : ℕ → Bool) (asks : ℕ → List ℕ) (xs : List ℕ) (k i : ℕ) → IsHit marks xs k → Contains (asks k) i
    → ((j : ℕ) → IsHit marks xs j → asks j ≡ asks k) → Contains (asked_first marks asks xs) i
unfolding asked_first
asked_first-at marks asks [] k i hit held same = absurd (cc (hit.there))
asked_first-at marks asks (x ∷ xs) zero i hit held same = elim (cases_Bool (marks x)) [
  | inl on ↦ rw on held
  | inr off ↦ absurd (IsHit-not marks x xs off hit)
]
asked_first-at marks asks (x ∷ xs) (suc k) i hit held same = elim (cases_Bool (marks x)) [
  | inl on ↦ rw on (subst (λ (l : List ℕ). Contains l i) (sym (same 0 (IsHit-first marks x xs on))) held)
  | inr off ↦
      let rest : IsHit marks xs k = record { value = hit.value; there = hit.there; is = hit.is } in
      rw off (asked_first-at marks (λ j. asks (suc j)) xs k i rest held (λ j other. same (suc j) (IsHit-more marks x xs j other)))
]

-- where one is marked, a marked one stands at some place
pub any_marked-from : (marks : ℕ → Bool) (xs : List ℕ) → any_marked marks xs ≡ true → (k : ℕ) × IsHit marks xs k
unfolding any_marked
any_marked-from marks [] any = absurd (false≢true any)
any_marked-from marks (x ∷ xs) any = elim (cases_Bool (marks x)) [
  | inl on ↦ (0, IsHit-first marks x xs on)
  | inr off ↦
      let rest : (k : ℕ) × IsHit marks xs k = any_marked-from marks xs (sym (cond-false (marks x) true (any_marked marks xs) off) ∙ any) in
      (suc rest.0, IsHit-more marks x xs rest.0 rest.1)
]

-- and the other way round
pub any_marked-at : (marks : ℕ → Bool) (xs : List ℕ) (k : ℕ) → IsHit marks xs k → any_marked marks xs ≡ true
unfolding any_marked
any_marked-at marks [] k hit = absurd (cc (hit.there))
any_marked-at marks (x ∷ xs) zero hit = elim (cases_Bool (marks x)) [
  | inl on ↦ rw on refl
  | inr off ↦ absurd (IsHit-not marks x xs off hit)
]
any_marked-at marks (x ∷ xs) (suc k) hit = elim (cases_Bool (marks x)) [
  | inl on ↦ rw on refl
  | inr off ↦ rw off (any_marked-at marks xs k (record { value = hit.value; there = hit.there; is = hit.is }))
]
