-- The pairs of shares: how many there are, where each stands in their list, and how a fact about a list of
-- pairs comes to all of them.
use Rattle.std.proofs.Common.{arith, Bool, ◌≡◌, ℕ, zero, suc, ◌+◌, ◌-◌, ◌*◌, ◌<◌, ◌≤◌, List, [], ◌∷◌, ◌++◌, length, map, get_or, if◌then◌else◌, inl, inr, refl, sym, ◌∙◌, ap, subst, append_assoc, append-nil}
use Rattle.std.specs.List.{range_with_len}
use Rattle.std.proofs.lemmas.Bool.{cases_lt, cases_eq, cases_order, eq-eqb, ne_eqb}
use Rattle.std.proofs.lemmas.List.{length-append, get_or_append_left, get_or-append-add}
use Rattle.std.proofs.lemmas.List.FromFn.{length-map-range_with_len, get_or-map-range_with_len, map-range_with_len_more}
use Rattle.mk_gadget.specs.Pairs.{Pair, pairs_of, pairs_upto, pairs, pair_number, others}

-- a share and another
abbrev pub pair : ℕ → ℕ → Pair
pair i j = (i, j)

-- the pairs of the shares before i, and `count` pairs of share i
abbrev pub pairs_before : ℕ → ℕ → ℕ → List Pair
pairs_before n i count = pairs_upto n i ++ map (pair i) (range_with_len (i + 1) count)

-- how many these are
pub length-pairs_before : (n i count : ℕ) → length (pairs_before n i count) ≡ length (pairs_upto n i) + count
length-pairs_before n i count =
    length-append (pairs_upto n i) (map (pair i) (range_with_len (i + 1) count))
    ∙ ap (λ (k : ℕ). length (pairs_upto n i) + k) (length-map-range_with_len (pair i) (i + 1) count)

-- no pair of share i
pub pairs_before-none : (n i : ℕ) → pairs_before n i 0 ≡ pairs_upto n i
pairs_before-none n i = append-nil (pairs_upto n i)

-- one pair more
pub pairs_before-more : (n i count : ℕ) → pairs_before n i (count + 1) ≡ pairs_before n i count ++ pair i (i + 1 + count) ∷ []
pairs_before-more n i count =
    ap (λ (ps : List Pair). pairs_upto n i ++ ps) (map-range_with_len_more (pair i) (i + 1) count (i + 1 + count) refl)
    ∙ sym (append_assoc (pairs_upto n i) (map (pair i) (range_with_len (i + 1) count)) (pair i (i + 1 + count) ∷ []))

-- all pairs of share i
pub pairs_before-all : (n i : ℕ) → pairs_before n i (n - (i + 1)) ≡ pairs_upto n (suc i)
unfolding pairs_upto
pairs_before-all n i = refl

-- how many pairs the first shares have
pub length-pairs_upto : (n m : ℕ) → length (pairs_upto n (suc m)) ≡ length (pairs_upto n m) + (n - (m + 1))
length-pairs_upto n m = ap length (sym (pairs_before-all n m)) ∙ length-pairs_before n m (n - (m + 1))

-- more shares have no fewer
pub pairs_upto-grow : (n m d : ℕ) → length (pairs_upto n m) ≤ length (pairs_upto n (m + d))
pairs_upto-grow n m zero = let e : m + 0 ≡ m = omega arith in omega (arith, ap (λ (k : ℕ). length (pairs_upto n k)) e)
pairs_upto-grow n m (suc d) =
    let e : m + suc d ≡ suc (m + d) = omega arith in
    omega (arith, ap (λ (k : ℕ). length (pairs_upto n k)) e, length-pairs_upto n (m + d), pairs_upto-grow n m d)

-- more shares have no fewer
pub pairs_upto-mono : (n m k : ℕ) → m ≤ k → length (pairs_upto n m) ≤ length (pairs_upto n k)
pairs_upto-mono n m k le =
    let e : m + (k - m) ≡ k = omega (arith, le) in
    omega (arith, pairs_upto-grow n m (k - m), ap (λ (l : ℕ). length (pairs_upto n l)) e)

-- twice the number of pairs, as a product
pub twice-pairs : (n m : ℕ) → m ≤ n → 2 * length (pairs_upto n m) + m * (m + 1) ≡ 2 * (n * m)
unfolding pairs_upto
twice-pairs n zero le = omega arith
twice-pairs n (suc m) le =
    let before : 2 * length (pairs_upto n m) + m * (m + 1) ≡ 2 * (n * m) = twice-pairs n m (omega (arith, le)) in
    omega (arith, before, length-pairs_upto n m, le)

-- a pair of one of the first shares stands among theirs
pub pair_number-below : (n m i j : ℕ) → i < m → i < j → j < n → pair_number n i j < length (pairs_upto n m)
pair_number-below n m i j low order high =
    omega (arith, length-pairs_upto n i, pairs_upto-mono n (suc i) m (omega (arith, low)), order, high)

-- a pair of share i stands behind those of the shares before it
pub pairs_of-at : (n i count j : ℕ) (d : Pair) → i < j → j < i + 1 + count → get_or (pairs_before n i count) (pair_number n i j) d ≡ pair i j
pairs_of-at n i count j d order within =
    get_or-append-add (pairs_upto n i) (map (pair i) (range_with_len (i + 1) count)) (j - (i + 1)) d
    ∙ get_or-map-range_with_len (pair i) (i + 1) count (j - (i + 1)) j d (omega (arith, order, within)) (omega (arith, order))

-- where a pair stands among those of the first shares
pub pairs_upto-at : (n m i j : ℕ) (d : Pair) → i < m → i < j → j < n → get_or (pairs_upto n m) (pair_number n i j) d ≡ pair i j
unfolding pairs_upto
pairs_upto-at n zero i j d low order high = absurd (omega (arith, low))
pairs_upto-at n (suc m) i j d low order high = elim (cases_lt i m) [
  | inl less ↦
      get_or_append_left (pairs_upto n m) (pairs_of n m) d (pair_number n i j) (pair_number-below n m i j less order high)
      ∙ pairs_upto-at n m i j d less order high
  | inr more ↦
      let same : i ≡ m = omega (arith, low, more) in
      subst (λ (k : ℕ). get_or (pairs_upto n k ++ pairs_of n k) (pair_number n i j) d ≡ pair i j) same
      (pairs_of-at n i (n - (i + 1)) j d order (omega (arith, order, high)))
]

-- each pair stands in a list of pairs where its number is
pub record AreNumbered (n : ℕ) (ps : List Pair) : Type 0 where
  pub at : (i j : ℕ) → i < j → j < n → pair_number n i j < length ps → get_or ps (pair_number n i j) (pair 0 0) ≡ pair i j

-- the pairs so far stand where their numbers are
pub pairs_before-numbered : (n i count : ℕ) → i + 1 + count ≤ n → AreNumbered n (pairs_before n i count)
pairs_before-numbered n i count within = record {
  at = λ a b order high here. elim (cases_order a i) [
    | inl same ↦
        let number : pair_number n a b ≡ pair_number n i b = ap (λ (k : ℕ). pair_number n k b) same in
        ap (λ (k : ℕ). get_or (pairs_before n i count) k (pair 0 0)) number
        ∙ pairs_of-at n i count b (pair 0 0) (omega (arith, order, same)) (omega (arith, here, number, length-pairs_before n i count, order, same))
        ∙ ap (λ (k : ℕ). pair k b) (sym same)
    | inr (inl less) ↦
        get_or_append_left (pairs_upto n i) (map (pair i) (range_with_len (i + 1) count)) (pair 0 0) (pair_number n a b) (pair_number-below n i a b less order high)
        ∙ pairs_upto-at n i a b (pair 0 0) less order high
    | inr (inr more) ↦
        absurd (omega (arith, here, length-pairs_before n i count, length-pairs_upto n i, pairs_upto-mono n (suc i) a (omega (arith, more)), within))
  ];
}

-- all pairs do
pub pairs-numbered : (n : ℕ) → AreNumbered n (pairs n)
pairs-numbered n = record { at = λ i j order high here. pairs_upto-at n n i j (pair 0 0) (omega (arith, order, high)) order high }

-- a fact that each pair hands on to the list with it comes to the pairs of share i
pairs_before-induct : (n : ℕ) (P : List Pair → Type 0) (i count : ℕ) → i + 1 + count ≤ n
    → ((i j : ℕ) (before : List Pair) → i < j → j < n → length before ≡ pair_number n i j → AreNumbered n before → P before → P (before ++ pair i j ∷ []))
    → P (pairs_upto n i) → P (pairs_before n i count)
pairs_before-induct n P i zero within step start = subst P (sym (pairs_before-none n i)) start
pairs_before-induct n P i (suc count) within step start =
    let one : suc count ≡ count + 1 = omega arith in
    subst (λ (k : ℕ). P (pairs_before n i k)) (sym one)
    (subst P (sym (pairs_before-more n i count))
    (step i (i + 1 + count) (pairs_before n i count) (omega arith) (omega (arith, within))
    (let e : count ≡ i + 1 + count - (i + 1) = omega arith in length-pairs_before n i count ∙ ap (λ (k : ℕ). length (pairs_upto n i) + k) e)
    (pairs_before-numbered n i count (omega (arith, within)))
    (pairs_before-induct n P i count (omega (arith, within)) step start)))

-- and to the pairs of the first shares
pub pairs-induct : (n : ℕ) (P : List Pair → Type 0) (m : ℕ) → m ≤ n
    → ((i j : ℕ) (before : List Pair) → i < j → j < n → length before ≡ pair_number n i j → AreNumbered n before → P before → P (before ++ pair i j ∷ []))
    → P [] → P (pairs_upto n m)
unfolding pairs_upto
pairs-induct n P zero within step start = start
pairs-induct n P (suc m) within step start =
    pairs_before-induct n P m (n - (m + 1)) (omega (arith, within)) step (pairs-induct n P m (omega (arith, within)) step start)

-- share i itself is left out,
pub others-same : (i m : ℕ) → i ≡ m → others i (suc m) ≡ others i m
unfolding others
others-same i m same = ap (λ (b : Bool). others i m ++ (if b then [] else m ∷ [])) (eq-eqb i m same) ∙ append-nil (others i m)

-- and each other share isn't
pub others-other : (i m : ℕ) → (i ≡ m → ⊥) → others i (suc m) ≡ others i m ++ m ∷ []
unfolding others
others-other i m other = ap (λ (b : Bool). others i m ++ (if b then [] else m ∷ [])) (ne_eqb i m other)

-- how many shares below m there are but share i, which isn't among them,
pub length-others_low : (i m : ℕ) → m ≤ i → length (others i m) ≡ m
unfolding others
length-others_low i zero le = refl
length-others_low i (suc m) le =
    omega (arith, ap length (others-other i m (λ e. omega (arith, e, le))), length-append (others i m) (m ∷ []), length-others_low i m (omega (arith, le)))

-- and where it is
pub length-others_high : (i m : ℕ) → i < m → length (others i m) + 1 ≡ m
length-others_high i zero less = absurd (omega (arith, less))
length-others_high i (suc m) less = elim (cases_eq i m) [
  | inl same ↦ omega (arith, ap length (others-same i m same), length-others_low i m (omega (arith, same)), same)
  | inr other ↦
      let before : length (others i m) + 1 ≡ m = length-others_high i m (omega (arith, less, other)) in
      omega (arith, ap length (others-other i m other), length-append (others i m) (m ∷ []), before)
]
