-- What each instruction of the refresh computes, for every number of shares.
use Rattle.std.proofs.Common.{arith, ◌≡◌, ℕ, zero, suc, ◌+◌, ◌*◌, ◌<◌, ◌≤◌, List, [], ◌∷◌, ◌++◌, length, map, drop, get_or, slice_index, bit_xor, nat_lt, if◌then◌else◌, inl, inr, refl, sym, ◌∙◌, ap, subst, append_assoc, append-nil}
use Rattle.std.specs.List.{flat_map}
use Rattle.std.proofs.lemmas.Bool.{cases_order, lt-ltb, le-ltb, eq-eqb, ne_eqb}
use Rattle.std.proofs.lemmas.List.{length-append, length-map, get_or-map}
use Rattle.mk_field.specs.declared.field.FieldId.{FieldId}
use Rattle.mk_field.specs.declared.map.AddMap.{AddMap}
use Rattle.mk_code.specs.declared.instr.Instr.{Instr}
use Rattle.mk_code.specs.declared.instr.Instr.TheVariants.{Rnd, Add}
use Rattle.mk_code.specs.Listing.{AllFit}
use Rattle.mk_code.specs.Trace.{run, randoms}
use Rattle.mk_code.proofs.Runs.{index-drop, run-append}
use Rattle.mk_gadget.specs.Pairs.{Pair, pairs, pair_number}
use Rattle.mk_gadget.specs.Refresh.{refresh_random, refresh_sum, refresh_pair, refresh_gadget}
use Rattle.mk_gadget.proofs.Pairs.{pair, AreNumbered, pairs-numbered, pairs-induct, pair_number-below}
use Rattle.mk_gadget.proofs.Blocks.{length-blocks, blocks-at, blocks-more, map-blocks-more, old, own, run-next, run-done, randoms-blocks, AllFit-append, Each, each-none, each-cons, each-append}
use Rattle.mk_gadget.proofs.ShareSums.{share_sum, share_sum-same, share_sum-other}

-- the instructions of the refresh: the random element of shares i < j, and share i plus its random elements
-- with the shares below m
pub data RefreshLabel : Type 0 where
  Random : ℕ → ℕ → RefreshLabel
  Sum : ℕ → ℕ → RefreshLabel

-- those of a pair
abbrev pub refresh_labels_of : Pair → List RefreshLabel
refresh_labels_of (i, j) = Random i j ∷ Sum i (suc j) ∷ Sum j (suc i) ∷ []

-- those of all pairs, in order
abbrev pub refresh_labels : ℕ → List RefreshLabel
refresh_labels n = flat_map refresh_labels_of (pairs n)

-- the random element of two shares, in either order
abbrev pub random_of : ℕ → List ℕ → ℕ → ℕ → ℕ
random_of n tape i j = if nat_lt i j then slice_index tape (pair_number n i j) else slice_index tape (pair_number n j i)

-- the value of an instruction, with these shares and these random elements
abbrev pub refresh_value : (ℕ → ℕ) → (ℕ → ℕ → ℕ) → RefreshLabel → ℕ
refresh_value x r (Random i j) = r i j
refresh_value x r (Sum i m) = share_sum (x i) (r i) i m

-- the order of two shares doesn't matter
pub random_of-comm : (n : ℕ) (tape : List ℕ) (i j : ℕ) → i < j → random_of n tape j i ≡ random_of n tape i j
random_of-comm n tape i j order = rw (lt-ltb i j order) (rw (le-ltb j i (omega (arith, order))) refl)

-- nor whether they differ
pub random_of-ordered : (n : ℕ) (tape : List ℕ) (i j : ℕ) → i < j → random_of n tape i j ≡ slice_index tape (pair_number n i j)
random_of-ordered n tape i j order = rw (lt-ltb i j order) refl

-- where the sum of a share stands: at share i's own column it is the sum before,
pub refresh_sum-same : (n i m : ℕ) → i ≡ m → refresh_sum n i (suc m) ≡ refresh_sum n i m
unfolding refresh_sum
refresh_sum-same n i m same = rw (eq-eqb i m same) refl

-- at a later one the second instruction of the pair,
pub refresh_sum-later : (n i m : ℕ) → i < m → refresh_sum n i (suc m) ≡ refresh_random n i m + 1
unfolding refresh_sum
refresh_sum-later n i m less = rw (ne_eqb i m (λ e. omega (arith, e, less))) (rw (lt-ltb i m less) refl)

-- and at an earlier one the third
pub refresh_sum-earlier : (n i m : ℕ) → m < i → refresh_sum n i (suc m) ≡ refresh_random n m i + 2
unfolding refresh_sum
refresh_sum-earlier n i m less = rw (ne_eqb i m (λ e. omega (arith, e, less))) (rw (le-ltb i m (omega (arith, less))) refl)

-- the pairs of share s with the shares below m have numbers below k
abbrev pub AreDone : ℕ → ℕ → ℕ → ℕ → Type 0
AreDone n s m k = (j : ℕ) → j < m → (s < j → pair_number n s j < k) × (j < s → pair_number n j s < k)

-- they are done where share s is the first of a pair and m the second,
pub first-done : (n i j : ℕ) → i < j → j < n → AreDone n i j (pair_number n i j)
first-done n i j order high = λ m below. (λ later. omega (arith, below, later), λ earlier. omega (arith, pair_number-below n i m i earlier earlier (omega (arith, order, high))))

-- or the other way round,
pub second-done : (n i j : ℕ) → i < j → j < n → AreDone n j i (pair_number n i j)
second-done n i j order high = λ m below. (λ later. absurd (omega (arith, below, later, order)), λ earlier. omega (arith, pair_number-below n i m j below earlier high))

-- and at the end
pub all-done : (n i : ℕ) → i < n → AreDone n i n (length (pairs n))
all-done n i high = λ m below. (λ later. pair_number-below n n i m high later below, λ earlier. pair_number-below n n m i below earlier high)

-- the sum of a share stands before the pairs from number k on
pub refresh_sum-below : (n s m k : ℕ) → s < n → AreDone n s m k → refresh_sum n s m < n + 3 * k
unfolding refresh_sum
refresh_sum-below n s zero k low done = omega (arith, low)
refresh_sum-below n s (suc m) k low done = elim (cases_order s m) [
  | inl same ↦ omega (arith, refresh_sum-same n s m same, refresh_sum-below n s m k low (λ j below. done j (omega (arith, below))))
  | inr (inl less) ↦ omega (arith, refresh_sum-later n s m less, (done m (omega arith)).0 less)
  | inr (inr more) ↦ omega (arith, refresh_sum-earlier n s m more, (done m (omega arith)).1 more)
]

-- the entries behind a state once the instructions of these pairs are carried out
abbrev pub refresh_entries : ℕ → List ℕ → List ℕ → List Pair → List ℕ
refresh_entries n tape state ps = state ++ map (refresh_value (slice_index state) (random_of n tape)) (flat_map refresh_labels_of ps)

-- how many there are
pub length-refresh_entries : (n : ℕ) (tape state : List ℕ) (ps : List Pair) → length state ≡ n → length (refresh_entries n tape state ps) ≡ n + 3 * length ps
length-refresh_entries n tape state ps count =
    let value : RefreshLabel → ℕ = refresh_value (slice_index state) (random_of n tape) in
    omega (arith, count, length-append state (map value (flat_map refresh_labels_of ps)), length-map (flat_map refresh_labels_of ps) value, length-blocks refresh_labels_of 3 (pair 0 0) ps (λ k below. refl))

-- instruction t of a pair
refresh-pair_at : (n : ℕ) (tape state : List ℕ) (ps : List Pair) (i j t : ℕ) → length state ≡ n → AreNumbered n ps → i < j → j < n
    → pair_number n i j < length ps → t < 3
    → slice_index (refresh_entries n tape state ps) (refresh_random n i j + t)
    ≡ refresh_value (slice_index state) (random_of n tape) (get_or (refresh_labels_of (pair i j)) t (Random 0 0))
refresh-pair_at n tape state ps i j t count numbered order high here within =
    let value : RefreshLabel → ℕ = refresh_value (slice_index state) (random_of n tape) in
    let labels : List RefreshLabel = flat_map refresh_labels_of ps in
    let k : ℕ = pair_number n i j in
    let long : length labels ≡ 3 * length ps = length-blocks refresh_labels_of 3 (pair 0 0) ps (λ k below. refl) in
    own state (map value labels) (refresh_random n i j + t) (3 * k + t) (omega (arith, count))
    ∙ get_or-map value labels (3 * k + t) (Random 0 0) 0 (omega (arith, here, within, long))
    ∙ ap value (blocks-at refresh_labels_of 3 (pair 0 0) (Random 0 0) ps k t (λ l below. refl) here within)
    ∙ ap (λ (p : Pair). value (get_or (refresh_labels_of p) t (Random 0 0))) (numbered.at i j order high here)

-- the sum of share s
pub refresh-sum_at : (n : ℕ) (tape state : List ℕ) (ps : List Pair) (s m : ℕ) → length state ≡ n → AreNumbered n ps → s < n → m ≤ n
    → AreDone n s m (length ps)
    → slice_index (refresh_entries n tape state ps) (refresh_sum n s m) ≡ share_sum (slice_index state s) (random_of n tape s) s m
unfolding refresh_sum share_sum
refresh-sum_at n tape state ps s zero count numbered low le done =
    old state (map (refresh_value (slice_index state) (random_of n tape)) (flat_map refresh_labels_of ps)) s (omega (arith, count, low))
refresh-sum_at n tape state ps s (suc m) count numbered low le done = elim (cases_order s m) [
  | inl same ↦
      ap (slice_index (refresh_entries n tape state ps)) (refresh_sum-same n s m same)
      ∙ refresh-sum_at n tape state ps s m count numbered low (omega (arith, le)) (λ j below. done j (omega (arith, below)))
      ∙ sym (share_sum-same (slice_index state s) (random_of n tape s) s m same)
  | inr (inl less) ↦
      ap (slice_index (refresh_entries n tape state ps)) (refresh_sum-later n s m less)
      ∙ refresh-pair_at n tape state ps s m 1 count numbered less (omega (arith, le)) ((done m (omega arith)).0 less) (omega arith)
  | inr (inr more) ↦
      ap (slice_index (refresh_entries n tape state ps)) (refresh_sum-earlier n s m more)
      ∙ refresh-pair_at n tape state ps m s 2 count numbered more low ((done m (omega arith)).1 more) (omega arith)
]

-- the instructions of one more pair, behind those of the pairs before
refresh-step : (field : FieldId) (maps : List AddMap) (n : ℕ) (tape state : List ℕ) (i j : ℕ) (before : List Pair) → length state ≡ n → i < j → j < n
    → length before ≡ pair_number n i j → AreNumbered n before
    → run field maps (flat_map (refresh_pair n) before) tape state ≡ refresh_entries n tape state before
    → run field maps (flat_map (refresh_pair n) (before ++ pair i j ∷ [])) tape state ≡ refresh_entries n tape state (before ++ pair i j ∷ [])
unfolding randoms
refresh-step field maps n tape state i j before count order high number numbered ran =
    let x : ℕ → ℕ = slice_index state in
    let r : ℕ → ℕ → ℕ = random_of n tape in
    let entries : List ℕ = refresh_entries n tape state before in
    let position : ℕ = refresh_random n i j in
    let rest : List ℕ = drop (randoms (flat_map (refresh_pair n) before)) tape in
    let long : length entries ≡ n + 3 * length before = length-refresh_entries n tape state before count in
    let first : ℕ = share_sum (x i) (r i) i (suc j) in
    let second : ℕ = share_sum (x j) (r j) j (suc i) in
    let word : slice_index rest 0 ≡ r i j =
    index-drop (randoms (flat_map (refresh_pair n) before)) tape
    ∙ ap (slice_index tape) (let e : randoms (flat_map (refresh_pair n) before) ≡ 1 * length before = randoms-blocks (refresh_pair n) 1 (λ p. refl) before in omega (arith, e, number))
    ∙ sym (random_of-ordered n tape i j order) in
    let first_below : refresh_sum n i j < length entries =
    omega (arith, refresh_sum-below n i j (pair_number n i j) (omega (arith, order, high)) (first-done n i j order high), long, number) in
    let second_below : refresh_sum n j i < length entries =
    omega (arith, refresh_sum-below n j i (pair_number n i j) high (second-done n i j order high), long, number) in
    let first_at : slice_index entries (refresh_sum n i j) ≡ share_sum (x i) (r i) i j =
    refresh-sum_at n tape state before i j count numbered (omega (arith, order, high)) (omega (arith, high)) (subst (AreDone n i j) (sym number) (first-done n i j order high)) in
    let second_at : slice_index entries (refresh_sum n j i) ≡ share_sum (x j) (r j) j i =
    refresh-sum_at n tape state before j i count numbered high (omega (arith, order, high)) (subst (AreDone n j i) (sym number) (second-done n i j order high)) in
    let random_at : (more : List ℕ) → slice_index (entries ++ (r i j ∷ more)) position ≡ r i j =
    λ more. own entries (r i j ∷ more) position 0 (omega (arith, long, number)) in
    let first_value : bit_xor (slice_index (entries ++ (r i j ∷ [])) (refresh_sum n i j)) (slice_index (entries ++ (r i j ∷ [])) position) ≡ first =
    ap (λ (a : ℕ). bit_xor a (slice_index (entries ++ (r i j ∷ [])) position)) (old entries (r i j ∷ []) (refresh_sum n i j) first_below ∙ first_at)
    ∙ ap (bit_xor (share_sum (x i) (r i) i j)) (random_at [])
    ∙ sym (share_sum-other (x i) (r i) i j (λ e. omega (arith, e, order))) in
    let second_value : bit_xor (slice_index (entries ++ (r i j ∷ first ∷ [])) (refresh_sum n j i)) (slice_index (entries ++ (r i j ∷ first ∷ [])) position) ≡ second =
    ap (λ (a : ℕ). bit_xor a (slice_index (entries ++ (r i j ∷ first ∷ [])) position)) (old entries (r i j ∷ first ∷ []) (refresh_sum n j i) second_below ∙ second_at)
    ∙ ap (bit_xor (share_sum (x j) (r j) j i)) (random_at (first ∷ []) ∙ sym (random_of-comm n tape i j order))
    ∙ sym (share_sum-other (x j) (r j) j i (λ e. omega (arith, e, order))) in
    let one : List ℕ → List ℕ = λ (es : List ℕ). run field maps (refresh_pair n (pair i j)) rest es in
    ap (λ (is : List Instr). run field maps is tape state) (blocks-more (refresh_pair n) before (pair i j))
    ∙ run-append field maps (flat_map (refresh_pair n) before) (refresh_pair n (pair i j)) tape state
    ∙ ap one (ran ∙ sym (append-nil entries))
    ∙ run-next field maps Rnd _ rest entries [] (r i j) word
    ∙ run-next field maps (Add (refresh_sum n i j) position) _ (drop 1 rest) entries (r i j ∷ []) first first_value
    ∙ run-next field maps (Add (refresh_sum n j i) position) [] (drop 0 (drop 1 rest)) entries (r i j ∷ first ∷ []) second second_value
    ∙ run-done field maps _ (entries ++ (r i j ∷ first ∷ second ∷ []))
    ∙ append_assoc state (map (refresh_value x r) (flat_map refresh_labels_of before)) (r i j ∷ first ∷ second ∷ [])
    ∙ ap (λ (more : List ℕ). state ++ more) (sym (map-blocks-more (refresh_value x r) refresh_labels_of before (pair i j)))

-- behind a state of n shares stand the values of all instructions of the refresh
pub refresh-run : (field : FieldId) (maps : List AddMap) (n : ℕ) (tape state : List ℕ) → length state ≡ n
    → run field maps (refresh_gadget n).instrs tape state ≡ state ++ map (refresh_value (slice_index state) (random_of n tape)) (refresh_labels n)
refresh-run field maps n tape state count =
    pairs-induct n (λ ps. run field maps (flat_map (refresh_pair n) ps) tape state ≡ refresh_entries n tape state ps) n (omega arith)
    (λ i j before order high number numbered ran. refresh-step field maps n tape state i j before count order high number numbered ran)
    (run-done field maps tape state ∙ sym (append-nil state))

-- the instructions read what stands before them
pub refresh-fits : (field : FieldId) (maps n : ℕ) → AllFit field maps n (refresh_gadget n).instrs
refresh-fits field maps n =
    pairs-induct n (λ ps. AllFit field maps n (flat_map (refresh_pair n) ps)) n (omega arith)
    (λ i j before order high number numbered fit.
    let long : length (flat_map (refresh_pair n) before) ≡ 3 * length before = length-blocks (refresh_pair n) 3 (pair 0 0) before (λ k below. refl) in
    let first : refresh_sum n i j < n + 3 * pair_number n i j = refresh_sum-below n i j (pair_number n i j) (omega (arith, order, high)) (first-done n i j order high) in
    let second : refresh_sum n j i < n + 3 * pair_number n i j = refresh_sum-below n j i (pair_number n i j) high (second-done n i j order high) in
    subst (AllFit field maps n) (sym (blocks-more (refresh_pair n) before (pair i j)))
    (AllFit-append field maps n (flat_map (refresh_pair n) before) (refresh_pair n (pair i j)) fit
    (tt, ((omega (arith, first, long, number), omega (arith, long, number)), ((omega (arith, second, long, number), omega (arith, long, number)), tt)))))
    tt

-- how many instructions there are, and random elements
pub length-refresh : (n : ℕ) → length (refresh_gadget n).instrs ≡ 3 * length (pairs n)
length-refresh n = length-blocks (refresh_pair n) 3 (pair 0 0) (pairs n) (λ k below. refl)

-- one for each pair
pub randoms-refresh : (n : ℕ) → randoms (refresh_gadget n).instrs ≡ length (pairs n)
unfolding randoms
randoms-refresh n = omega (arith, randoms-blocks (refresh_pair n) 1 (λ p. refl) (pairs n))

-- share s of the out bank
pub refresh-out : (field : FieldId) (maps : List AddMap) (n : ℕ) (tape state : List ℕ) (s : ℕ) → length state ≡ n → s < n
    → slice_index (run field maps (refresh_gadget n).instrs tape state) (refresh_sum n s n) ≡ share_sum (slice_index state s) (random_of n tape s) s n
refresh-out field maps n tape state s count low =
    ap (λ (es : List ℕ). slice_index es (refresh_sum n s n)) (refresh-run field maps n tape state count)
    ∙ refresh-sum_at n tape state (pairs n) s n count (pairs-numbered n) low (omega arith) (all-done n s low)

-- the labels that there are with n shares
abbrev pub IsRefreshLabel : ℕ → RefreshLabel → Type 0
IsRefreshLabel n (Random i j) = (i < j) × (j < n)
IsRefreshLabel n (Sum i m) = (i < n) × (m ≤ n)

-- each label is one of these
pub refresh-labels_each : (n : ℕ) → Each (IsRefreshLabel n) (Random 0 0) (refresh_labels n)
refresh-labels_each n =
    let P : RefreshLabel → Type 0 = IsRefreshLabel n in
    pairs-induct n (λ ps. Each P (Random 0 0) (flat_map refresh_labels_of ps)) n (omega arith)
    (λ i j before order high number numbered all.
    subst (Each P (Random 0 0)) (sym (blocks-more refresh_labels_of before (pair i j)))
    (each-append P (Random 0 0) (flat_map refresh_labels_of before) (refresh_labels_of (pair i j)) all
    (each-cons P (Random 0 0) (Random i j) (Sum i (suc j) ∷ Sum j (suc i) ∷ []) (order, high)
    (each-cons P (Random 0 0) (Sum i (suc j)) (Sum j (suc i) ∷ []) (omega (arith, order, high), omega (arith, high))
    (each-cons P (Random 0 0) (Sum j (suc i)) [] (high, omega (arith, order, high)) (each-none P (Random 0 0)))))))
    (each-none P (Random 0 0))

-- how many there are
pub length-refresh_labels : (n : ℕ) → length (refresh_labels n) ≡ length (refresh_gadget n).instrs
length-refresh_labels n = length-blocks refresh_labels_of 3 (pair 0 0) (pairs n) (λ k below. refl) ∙ sym (length-refresh n)

-- the value of instruction k is that of its label
pub refresh-instr : (field : FieldId) (maps : List AddMap) (n : ℕ) (tape state : List ℕ) (k : ℕ) → length state ≡ n → k < length (refresh_gadget n).instrs
    → slice_index (run field maps (refresh_gadget n).instrs tape state) (n + k)
    ≡ refresh_value (slice_index state) (random_of n tape) (get_or (refresh_labels n) k (Random 0 0))
refresh-instr field maps n tape state k count below =
    let value : RefreshLabel → ℕ = refresh_value (slice_index state) (random_of n tape) in
    ap (λ (es : List ℕ). slice_index es (n + k)) (refresh-run field maps n tape state count)
    ∙ own state (map value (refresh_labels n)) (n + k) k (omega (arith, count))
    ∙ get_or-map value (refresh_labels n) k (Random 0 0) 0 (omega (arith, below, length-refresh_labels n))
