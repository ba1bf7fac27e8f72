-- The refresh in the making: the pairs whose instructions are appended, and the positions of the shares' sums.
use Rattle.std.proofs.Common.{arith, ◌≡◌, ℕ, suc, ◌+◌, ◌-◌, ◌*◌, ◌<◌, ◌≤◌, List, [], ◌∷◌, ◌++◌, length, slice_index, slice_set, inl, inr, refl, sym, ◌∙◌, ap, subst, append_assoc}
use Rattle.std.specs.List.{flat_map}
use Rattle.std.proofs.lemmas.Bool.{cases_eq}
use Rattle.std.proofs.lemmas.List.{length-append, length-set, get_or-set_same, get_or-set_other}
use Rattle.std.proofs.lemmas.List.FromFn.{fill_by_all}
use Rattle.mk_code.specs.declared.instr.Instr.{Instr}
use Rattle.mk_code.specs.declared.instr.Instr.TheVariants.{Rnd, Add}
use Rattle.mk_code.specs.Counting.{AllBelow}
use Rattle.mk_code.specs.Draft.{Draft, draft_len}
use Rattle.mk_gadget.specs.Gadget.{placement}
use Rattle.mk_gadget.specs.Emitted.{Emitted}
use Rattle.mk_gadget.specs.Pairs.{Pair, pairs_upto, pairs, pair_number}
use Rattle.mk_gadget.specs.Refresh.{refresh_random, refresh_sum, refresh_pair, refresh_gadget}
use Rattle.mk_gadget.proofs.Ranges.{map-map-range}
use Rattle.mk_gadget.proofs.Values.{placement-only}
use Rattle.mk_gadget.proofs.Pairs.{pair, pairs_before, length-pairs_before, pairs_before-none, pairs_before-more, pairs_before-all, pair_number-below}
use Rattle.mk_gadget.proofs.Blocks.{length-blocks, blocks-more}
use Rattle.mk_gadget.proofs.RefreshRun.{refresh_sum-same, refresh_sum-later, refresh_sum-earlier, refresh_sum-below, first-done, second-done, length-refresh}
use Rattle.mk_gadget.proofs.Placing.{Placing, Placing-start, Placing-length, Placing-len, pushed-numbers, Placing-push, Placing-same, Placing-all, placement-next, placement-below}

-- where a position of the refresh stands in the code
abbrev pub refresh_to : Draft → List ℕ → ℕ → ℕ
refresh_to old xs = placement xs (draft_len old)

-- the pairs of the shares before i, and those of share i with the shares before j, are done
pub record Refreshing (old now : Draft) (xs regs : List ℕ) (n i j : ℕ) : Type 0 where
  pub placing : Placing old now (refresh_to old xs) (flat_map (refresh_pair n) (pairs_before n i (j - (i + 1)))) (3 * length (pairs n))
  pub count : length regs ≡ n
  pub before : (s : ℕ) → s < i → slice_index regs s ≡ refresh_to old xs (refresh_sum n s n)
  pub current : i < n → slice_index regs i ≡ refresh_to old xs (refresh_sum n i j)
  pub done : (s : ℕ) → i < s → s < j → slice_index regs s ≡ refresh_to old xs (refresh_sum n s (suc i))
  pub behind : (s : ℕ) → i < s → j ≤ s → s < n → slice_index regs s ≡ refresh_to old xs (refresh_sum n s i)

-- no pair is done
pub Refreshing-start : (old now : Draft) (xs : List ℕ) (n : ℕ) → now ≡ record old { spare = now.spare } → 3 * length (pairs n) ≤ now.spare → length xs ≡ n
    → Refreshing old now xs xs n 0 0
unfolding pairs_upto refresh_sum
Refreshing-start old now xs n same room count = record {
  placing = Placing-start old now (refresh_to old xs) (3 * length (pairs n)) same room;
  count = count;
  before = λ s less. absurd (omega (arith, less));
  current = λ low. sym (placement-only xs (draft_len old) 0 (omega (arith, low, count)));
  done = λ s more less. absurd (omega (arith, less));
  behind = λ s more le low. sym (placement-only xs (draft_len old) s (omega (arith, low, count)));
}

-- share i has no pair with itself
pub Refreshing-first : (old now : Draft) (xs regs : List ℕ) (n i : ℕ) → Refreshing old now xs regs n i i → Refreshing old now xs regs n i (i + 1)
Refreshing-first old now xs regs n i so =
    let one : suc i ≡ i + 1 = omega arith in
    let none : i + 1 - (i + 1) ≡ i - (i + 1) = omega arith in
    record {
      placing = subst (λ (k : ℕ). Placing old now (refresh_to old xs) (flat_map (refresh_pair n) (pairs_before n i k)) (3 * length (pairs n))) (sym none) so.placing;
      count = so.count;
      before = so.before;
      current = λ low. so.current low ∙ ap (refresh_to old xs) (sym (refresh_sum-same n i i refl) ∙ ap (refresh_sum n i) one);
      done = λ s more less. absurd (omega (arith, more, less));
      behind = λ s more le low. so.behind s more (omega (arith, more)) low;
    }

-- all pairs of share i are done
pub Refreshing-next : (old now : Draft) (xs regs : List ℕ) (n i j : ℕ) → Refreshing old now xs regs n i j → i < n → j ≡ n → Refreshing old now xs regs n (i + 1) (i + 1)
Refreshing-next old now xs regs n i j so low end =
    let one : suc i ≡ i + 1 = omega arith in
    let none : i + 1 - (i + 1 + 1) ≡ 0 = omega arith in
    let same : flat_map (refresh_pair n) (pairs_before n i (j - (i + 1))) ≡ flat_map (refresh_pair n) (pairs_before n (i + 1) (i + 1 - (i + 1 + 1))) =
    ap (λ (k : ℕ). flat_map (refresh_pair n) (pairs_before n i (k - (i + 1)))) end
    ∙ ap (flat_map (refresh_pair n)) (pairs_before-all n i ∙ ap (pairs_upto n) one ∙ sym (pairs_before-none n (i + 1)) ∙ ap (pairs_before n (i + 1)) (sym none)) in
    record {
      placing = Placing-same old now (refresh_to old xs) _ _ (3 * length (pairs n)) same so.placing;
      count = so.count;
      before = λ s less. elim (cases_eq s i) [
        | inl here ↦ ap (slice_index regs) here ∙ so.current low ∙ ap (λ (k : ℕ). refresh_to old xs (refresh_sum n i k)) end ∙ ap (λ (k : ℕ). refresh_to old xs (refresh_sum n k n)) (sym here)
        | inr other ↦ so.before s (omega (arith, less, other))
      ];
      current = λ below. so.done (i + 1) (omega arith) (omega (arith, below, end)) ∙ ap (λ (k : ℕ). refresh_to old xs (refresh_sum n (i + 1) k)) one;
      done = λ s more less. absurd (omega (arith, more, less));
      behind = λ s more le below. so.done s (omega (arith, more)) (omega (arith, below, end)) ∙ ap (λ (k : ℕ). refresh_to old xs (refresh_sum n s k)) one;
    }

-- how many instructions there are
pub Refreshing-len : (old now : Draft) (xs regs : List ℕ) (n i j : ℕ) → Refreshing old now xs regs n i j → i < j
    → draft_len now ≡ draft_len old + 3 * pair_number n i j
Refreshing-len old now xs regs n i j so less =
    omega (
      arith,
      Placing-len old now (refresh_to old xs) _ (3 * length (pairs n)) so.placing,
      length-blocks (refresh_pair n) 3 (pair 0 0) (pairs_before n i (j - (i + 1))) (λ k below. refl),
      length-pairs_before n i (j - (i + 1)),
    )

-- there is room for the next pair
pub record HasRoom (old now : Draft) (n : ℕ) : Type 0 where
  pub spare : 3 ≤ now.spare
  pub few : length now.instrs + 3 ≤ length old.instrs + length (refresh_gadget n).instrs

-- before each pair
pub Refreshing-room : (old now : Draft) (xs regs : List ℕ) (n i j : ℕ) → Refreshing old now xs regs n i j → i < j → j < n → HasRoom old now n
Refreshing-room old now xs regs n i j so less high =
    let number : pair_number n i j < length (pairs n) = pair_number-below n n i j (omega (arith, less, high)) less high in
    let long : length (flat_map (refresh_pair n) (pairs_before n i (j - (i + 1)))) ≡ 3 * pair_number n i j =
    omega (arith, length-blocks (refresh_pair n) 3 (pair 0 0) (pairs_before n i (j - (i + 1))) (λ k below. refl), length-pairs_before n i (j - (i + 1))) in
    record {
      spare = omega (arith, so.placing.room, long, number);
      few = omega (arith, Placing-length old now (refresh_to old xs) _ (3 * length (pairs n)) so.placing, long, number, length-refresh n);
    }

-- the sums of a pair's shares stand before its instructions
pub record AreBefore (now : Draft) (regs : List ℕ) (i j : ℕ) : Type 0 where
  pub first : slice_index regs i < draft_len now
  pub second : slice_index regs j < draft_len now

-- they do while pairs are appended
pub Refreshing-before : (old now : Draft) (xs regs : List ℕ) (n i j : ℕ) → Refreshing old now xs regs n i j → i < j → j < n → length xs ≡ n
    → AllBelow (draft_len old) xs → AreBefore now regs i j
Refreshing-before old now xs regs n i j so less high count below =
    let k : ℕ = 3 * pair_number n i j in
    let len : draft_len now ≡ draft_len old + k = Refreshing-len old now xs regs n i j so less in
    let low : i < n = omega (arith, less, high) in
    record {
      first = omega (arith, len, so.current low, placement-below xs (draft_len old) (refresh_sum n i j) k below (omega (arith, refresh_sum-below n i j (pair_number n i j) low (first-done n i j less high), count)));
      second = omega (arith, len, so.behind j less (omega arith) high, placement-below xs (draft_len old) (refresh_sum n j i) k below (omega (arith, refresh_sum-below n j i (pair_number n i j) high (second-done n i j less high), count)));
    }

-- the three instructions of the next pair are appended
pub record PairAppended (now one two three : Draft) (regs : List ℕ) (i j random first second : ℕ) : Type 0 where
  pub one_is : one ≡ record now { instrs = now.instrs ++ Rnd ∷ []; spare = now.spare - 1 }
  pub random_is : random ≡ draft_len now
  pub two_is : two ≡ record one { instrs = one.instrs ++ Add (slice_index regs i) random ∷ []; spare = one.spare - 1 }
  pub first_is : first ≡ draft_len one
  pub three_is : three ≡ record two { instrs = two.instrs ++ Add (slice_index (slice_set regs i first) j) random ∷ []; spare = two.spare - 1 }
  pub second_is : second ≡ draft_len two

-- with them the pair is done
pub Refreshing-more : (old now one two three : Draft) (xs regs : List ℕ) (n i j random first second : ℕ) → Refreshing old now xs regs n i j
    → PairAppended now one two three regs i j random first second → i < j → j < n → length xs ≡ n
    → Refreshing old three xs (slice_set (slice_set regs i first) j second) n i (j + 1)
Refreshing-more old now one two three xs regs n i j random first second so is less high count =
    let to : ℕ → ℕ = refresh_to old xs in
    let total : ℕ = 3 * length (pairs n) in
    let low : i < n = omega (arith, less, high) in
    let done : List Pair = pairs_before n i (j - (i + 1)) in
    let k : ℕ = 3 * pair_number n i j in
    let front : List Instr = flat_map (refresh_pair n) done in
    let long : length front ≡ k = omega (arith, length-blocks (refresh_pair n) 3 (pair 0 0) done (λ l below. refl), length-pairs_before n i (j - (i + 1))) in
    let number : pair_number n i j < length (pairs n) = pair_number-below n n i j low less high in
    let len : draft_len now ≡ draft_len old + k = Refreshing-len old now xs regs n i j so less in
    let position : (t : ℕ) → to (refresh_random n i j + t) ≡ draft_len old + (k + t) =
    λ t. placement-next xs (draft_len old) (refresh_random n i j + t) (k + t) (omega (arith, count)) in
    let zeroth : refresh_random n i j ≡ refresh_random n i j + 0 = omega arith in
    let random_at : to (refresh_random n i j) ≡ random = ap to zeroth ∙ position 0 ∙ omega (arith, len, is.random_is) in
    let one_len : draft_len one ≡ draft_len now + 1 = (pushed-numbers now one Rnd is.one_is).len in
    let two_len : draft_len two ≡ draft_len one + 1 = (pushed-numbers one two (Add (slice_index regs i) random) is.two_is).len in
    let first_at : first ≡ to (refresh_random n i j + 1) = omega (arith, position 1, is.first_is, one_len, len) in
    let second_at : second ≡ to (refresh_random n i j + 2) = omega (arith, position 2, is.second_is, two_len, one_len, len) in
    let left : slice_index regs i ≡ to (refresh_sum n i j) = so.current low in
    let kept : (s : ℕ) → (s ≡ i → ⊥) → slice_index (slice_set regs i first) s ≡ slice_index regs s = λ s other. get_or-set_other regs i s first 0 other in
    let right : slice_index (slice_set regs i first) j ≡ to (refresh_sum n j i) = kept j (λ e. omega (arith, e, less)) ∙ so.behind j less (omega arith) high in
    let again : (s : ℕ) → (s ≡ j → ⊥) → slice_index (slice_set (slice_set regs i first) j second) s ≡ slice_index (slice_set regs i first) s =
    λ s other. get_or-set_other (slice_set regs i first) j s second 0 other in
    let a : Placing old one to (front ++ Rnd ∷ []) total =
    Placing-push old now one to front total Rnd Rnd so.placing (omega (arith, long, number)) is.one_is refl in
    let b : Placing old two to ((front ++ Rnd ∷ []) ++ Add (refresh_sum n i j) (refresh_random n i j) ∷ []) total =
    Placing-push old one two to (front ++ Rnd ∷ []) total (Add (refresh_sum n i j) (refresh_random n i j)) (Add (slice_index regs i) random) a
    (omega (arith, length-append front (Rnd ∷ []), long, number)) is.two_is
    (ap (λ (p : ℕ). Add p (to (refresh_random n i j))) (sym left) ∙ ap (Add (slice_index regs i)) random_at) in
    let c : Placing old three to (((front ++ Rnd ∷ []) ++ Add (refresh_sum n i j) (refresh_random n i j) ∷ []) ++ Add (refresh_sum n j i) (refresh_random n i j) ∷ []) total =
    Placing-push old two three to ((front ++ Rnd ∷ []) ++ Add (refresh_sum n i j) (refresh_random n i j) ∷ []) total (Add (refresh_sum n j i) (refresh_random n i j))
    (Add (slice_index (slice_set regs i first) j) random) b
    (omega (arith, length-append (front ++ Rnd ∷ []) (Add (refresh_sum n i j) (refresh_random n i j) ∷ []), length-append front (Rnd ∷ []), long, number)) is.three_is
    (ap (λ (p : ℕ). Add p (to (refresh_random n i j))) (sym right) ∙ ap (Add (slice_index (slice_set regs i first) j)) random_at) in
    let more : flat_map (refresh_pair n) (pairs_before n i (j + 1 - (i + 1))) ≡ front ++ refresh_pair n (pair i j) =
    let e : j + 1 - (i + 1) ≡ j - (i + 1) + 1 = omega (arith, less) in
    let f : i + 1 + (j - (i + 1)) ≡ j = omega (arith, less) in
    ap (λ (l : ℕ). flat_map (refresh_pair n) (pairs_before n i l)) e
    ∙ ap (flat_map (refresh_pair n)) (pairs_before-more n i (j - (i + 1)) ∙ ap (λ (l : ℕ). done ++ pair i l ∷ []) f)
    ∙ blocks-more (refresh_pair n) done (pair i j) in
    let same : ((front ++ Rnd ∷ []) ++ Add (refresh_sum n i j) (refresh_random n i j) ∷ []) ++ Add (refresh_sum n j i) (refresh_random n i j) ∷ []
    ≡ flat_map (refresh_pair n) (pairs_before n i (j + 1 - (i + 1))) =
    append_assoc (front ++ Rnd ∷ []) (Add (refresh_sum n i j) (refresh_random n i j) ∷ []) (Add (refresh_sum n j i) (refresh_random n i j) ∷ [])
    ∙ append_assoc front (Rnd ∷ []) (Add (refresh_sum n i j) (refresh_random n i j) ∷ Add (refresh_sum n j i) (refresh_random n i j) ∷ [])
    ∙ sym more in
    record {
      placing = Placing-same old three to _ _ total same c;
      count = length-set (slice_set regs i first) j second ∙ length-set regs i first ∙ so.count;
      before = λ s before. again s (λ e. omega (arith, e, before, less)) ∙ kept s (λ e. omega (arith, e, before)) ∙ so.before s before;
      current = λ below.
          let e : suc j ≡ j + 1 = omega arith in
          again i (λ e. omega (arith, e, less)) ∙ get_or-set_same regs i first 0 (omega (arith, low, so.count)) ∙ first_at
          ∙ ap to (sym (refresh_sum-later n i j less) ∙ ap (refresh_sum n i) e);
      done = λ s after before. elim (cases_eq s j) [
        | inl here ↦
            ap (slice_index (slice_set (slice_set regs i first) j second)) here
            ∙ get_or-set_same (slice_set regs i first) j second 0 (omega (arith, high, so.count, length-set regs i first)) ∙ second_at
            ∙ ap to (sym (refresh_sum-earlier n j i less)) ∙ ap (λ (l : ℕ). to (refresh_sum n l (suc i))) (sym here)
        | inr other ↦ again s other ∙ kept s (λ e. omega (arith, e, after)) ∙ so.done s after (omega (arith, before, other))
      ];
      behind = λ s after from within. again s (λ e. omega (arith, e, from)) ∙ kept s (λ e. omega (arith, e, after)) ∙ so.behind s after (omega (arith, from)) within;
    }

-- all pairs are done
pub Refreshing-all : (old now : Draft) (xs regs : List ℕ) (n i : ℕ) → Refreshing old now xs regs n i i → i ≡ n → Emitted old now xs (refresh_gadget n) regs
Refreshing-all old now xs regs n i so end =
    let none : i - (i + 1) ≡ 0 = omega arith in
    let whole : flat_map (refresh_pair n) (pairs_before n i (i - (i + 1))) ≡ (refresh_gadget n).instrs =
    ap (λ (k : ℕ). flat_map (refresh_pair n) (pairs_before n i k)) none
    ∙ ap (flat_map (refresh_pair n)) (pairs_before-none n i ∙ ap (pairs_upto n) end) in
    Placing-all old now xs regs (refresh_gadget n) (3 * length (pairs n)) (Placing-same old now (refresh_to old xs) _ _ (3 * length (pairs n)) whole so.placing)
    (fill_by_all (λ s. refresh_to old xs (refresh_sum n s n)) regs n 0 so.count (λ s low. so.before s (omega (arith, low, end)))
    ∙ sym (map-map-range (refresh_to old xs) (λ s. refresh_sum n s n) 0 n))
