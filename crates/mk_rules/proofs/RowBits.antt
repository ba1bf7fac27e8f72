-- Bits of rows: of the or of two words, of a word with both bits of a pair, and where they stand in a row.
use Rattle.std.proofs.Common.{◌≡◌, ◌≢◌, ℕ, zero, suc, ◌+◌, ◌-◌, ◌*◌, ◌/◌, ◌%◌, ◌^◌, ◌<◌, ◌≤◌, Bool, true, List, length, slice_index, slice_set, bit_or, bit_and, min, max, not, nat_eq, IsTrue, ◌⊎◌, inl, inr, ◌↔◌, refl, sym, ◌∙◌, ap, subst, arith, w64}
use Rattle.std.specs.Int.{bit_at, trailing_zeros}
use Rattle.std.proofs.lemmas.Bool.{cases_eq, cases_lt, cases_order, eqb-true, and_parts}
use Rattle.std.proofs.Math.Dec.{eqb-suc-zero}
use Rattle.std.proofs.Math.Pow.{pow-lt}
use Rattle.std.proofs.lemmas.List.{get_or_past, get_or-set_same, get_or-set_other}
use Rattle.std.specs.List.{range_with_len, list_all}
use Rattle.std.proofs.lemmas.Nat.Bits.{bit_at_and, bit_at_or, bit_at-suc, bit_at-lt, bit_at-zero, bit_at-pow_same, bit_at-pow_other, bit_at-trailing_zeros, bit_at_above}
use Rattle.mk_rules.specs.Rows.{HasBit, HasBitIn, HasPair, HasPairAt, Clash}

-- the greater of two bits is set where one of them is
max-set : (x y : ℕ) → x < 2 → y < 2 → max x y ≡ 1 → (x ≡ 1) ⊎ (y ≡ 1)
max-set x y one two set = elim (cases_lt x 1) [
  | inl none ↦ inr (omega (arith, set, none))
  | inr some ↦ inl (omega (arith, one, some))
]

-- and the other way round
set-max : (x y : ℕ) → x < 2 → y < 2 → (x ≡ 1) ⊎ (y ≡ 1) → max x y ≡ 1
set-max x y one two (inl set) = omega (arith, set, two)
set-max x y one two (inr set) = omega (arith, set, one)

-- a bit that is set in the or of two words is set in one of them
pub or-set : (a b i : ℕ) → bit_at (bit_or a b) i ≡ 1 → (bit_at a i ≡ 1) ⊎ (bit_at b i ≡ 1)
or-set a b i set = max-set (bit_at a i) (bit_at b i) (bit_at-lt a i) (bit_at-lt b i) (sym (bit_at_or a b i) ∙ set)

-- and the other way round
pub set-or : (a b i : ℕ) → (bit_at a i ≡ 1) ⊎ (bit_at b i ≡ 1) → bit_at (bit_or a b) i ≡ 1
set-or a b i set = bit_at_or a b i ∙ set-max (bit_at a i) (bit_at b i) (bit_at-lt a i) (bit_at-lt b i) set

-- where bits 2r and 2r + 1 stand
pub pair-place : (r : ℕ) → ((2 * r) / 64 ≡ r / 32) × ((2 * r) % 64 ≡ 2 * (r % 32)) × ((2 * r + 1) / 64 ≡ r / 32) × ((2 * r + 1) % 64 ≡ 2 * (r % 32) + 1)
pair-place r = (omega arith, omega arith, omega arith, omega arith)

-- where each word of a row is the or of those of two others, so is each bit
pub joined-bits : (row other new : List ℕ) → length row ≡ length other → length new ≡ length row
    → ((j : ℕ) → j < length row → slice_index new j ≡ bit_or (slice_index row j) (slice_index other j)) → (k : ℕ) → HasBit new k ↔ HasBitIn row other k
joined-bits row other new count same each k = (from, to)
  where
    word : (j : ℕ) → slice_index new j ≡ bit_or (slice_index row j) (slice_index other j)
    word j = elim (cases_lt j (length row)) [
      | inl inside ↦ each j inside
      | inr beyond ↦ get_or_past new j 0 (omega (arith, same, beyond))
          ∙ sym (ap (λ (a : ℕ). bit_or a (slice_index other j)) (get_or_past row j 0 beyond) ∙ ap (bit_or 0) (get_or_past other j 0 (omega (arith, count, beyond))))
    ]

    from : HasBit new k → HasBitIn row other k
    from set = or-set (slice_index row (k / 64)) (slice_index other (k / 64)) (k % 64) (ap (λ (w : ℕ). bit_at w (k % 64)) (sym (word (k / 64))) ∙ set)

    to : HasBitIn row other k → HasBit new k
    to set = ap (λ (w : ℕ). bit_at w (k % 64)) (word (k / 64)) ∙ set-or (slice_index row (k / 64)) (slice_index other (k / 64)) (k % 64) set

-- ---- a word with both bits of a pair

-- the bits 0, 2, 4 and so on
abbrev even : ℕ
even = 0x5555555555555555

-- where a test holds of each number of a range, it holds of one of them
all-at : (test : ℕ → Bool) (n a i : ℕ) → list_all test (range_with_len a n) ≡ true → a ≤ i → i < a + n → test i ≡ true
all-at test zero a i all low high = absurd (omega (arith, low, high))
all-at test (suc n) a i all low high =
    let both = and_parts (test a) (list_all test (range_with_len (a + 1) n)) all in
    elim (cases_order a i) [
      | inl same ↦ subst (λ (k : ℕ). test k ≡ true) same both.0
      | inr (inl below) ↦ all-at test n (a + 1) i both.1 (omega (arith, below)) (omega (arith, high))
      | inr (inr above) ↦ absurd (omega (arith, low, above))
    ]

-- these are the bits of even number
even-bits : (i : ℕ) → i < 64 → bit_at even i ≡ 1 - i % 2
even-bits i below = eqb-true (bit_at even i) (1 - i % 2) (all-at (λ k. nat_eq (bit_at even k) (1 - k % 2)) 64 0 i refl (omega arith) (omega (arith, below)))

-- the lesser of two bits is set where both are
min-set : (x y : ℕ) → min x y ≡ 1 → x < 2 → y < 2 → (x ≡ 1) × (y ≡ 1)
min-set x y set one two = (omega (arith, set, one, two), omega (arith, set, one, two))

-- the test that a number isn't 0
pub test-some : (n : ℕ) → IsTrue (not (nat_eq n 0)) → n ≢ 0
test-some zero holds none = absurd (cc (holds))
test-some (suc n) holds none = absurd (omega (arith, none))

-- it holds where the number isn't 0
pub some-test : (n : ℕ) → n ≢ 0 → IsTrue (not (nat_eq n 0))
some-test zero some = absurd (some refl)
some-test (suc n) some = ap not (eqb-suc-zero n)

-- the bits of a word that are set in it, in it moved by one place, and in the mask are those of its pairs
pub pair-bits : (word i : ℕ) → bit_at (bit_and (bit_and word (word / 2)) even) i ≡ 1 ↔ ((j : ℕ) × (i ≡ 2 * j) × HasPairAt word j)
pair-bits word i = (from, to)
  where
    from : bit_at (bit_and (bit_and word (word / 2)) even) i ≡ 1 → (j : ℕ) × (i ≡ 2 * j) × HasPairAt word j
    from set =
        let both = min-set (bit_at (bit_and word (word / 2)) i) (bit_at even i) (sym (bit_at_and (bit_and word (word / 2)) even i) ∙ set) (bit_at-lt _ i) (bit_at-lt _ i) in
        let two = min-set (bit_at word i) (bit_at (word / 2) i) (sym (bit_at_and word (word / 2) i) ∙ both.0) (bit_at-lt _ i) (bit_at-lt _ i) in
        let low : i < 64 = elim (cases_lt i 64) [
          | inl below ↦ below
          | inr above ↦ absurd (omega (arith, both.1, bit_at_above even 64 i (omega arith) above))
        ] in
        let e : i % 2 ≡ 0 = omega (arith, even-bits i low, both.1) in
        let half : i ≡ 2 * (i / 2) = omega (arith, e) in (
          i / 2,
          half,
          (
            omega (arith, low),
            subst (λ (k : ℕ). bit_at word k ≡ 1) half two.0,
            subst (λ (k : ℕ). bit_at word k ≡ 1) (let s : suc i ≡ 2 * (i / 2) + 1 = omega (arith, e) in s) (bit_at-suc word i ∙ two.1),
          ),
        )

    to : (j : ℕ) × (i ≡ 2 * j) × HasPairAt word j → bit_at (bit_and (bit_and word (word / 2)) even) i ≡ 1
    to (j, is, (below, low, high)) =
        let up : bit_at (word / 2) (2 * j) ≡ 1 = sym (bit_at-suc word (2 * j)) ∙ (let s : 2 * j + 1 ≡ suc (2 * j) = omega arith in subst (λ (k : ℕ). bit_at word k ≡ 1) s high) in
        let both : bit_at (bit_and word (word / 2)) (2 * j) ≡ 1 = bit_at_and word (word / 2) (2 * j) ∙ omega (arith, low, up) in
        let is_even : bit_at even (2 * j) ≡ 1 = even-bits (2 * j) (omega (arith, below)) ∙ omega arith in
        ap (bit_at (bit_and (bit_and word (word / 2)) even)) is
        ∙ bit_at_and (bit_and word (word / 2)) even (2 * j) ∙ omega (arith, both, is_even)

-- these are the bits for a word's pairs
abbrev pub ArePairs : ℕ → ℕ → Type 0
ArePairs word pairs = (i : ℕ) → bit_at pairs i ≡ 1 ↔ ((j : ℕ) × (i ≡ 2 * j) × HasPairAt word j)

module _ (word pairs : ℕ) (small : pairs < 2 ^ 64) (are : ArePairs word pairs) where
  -- where no bit is set the word has none
  pub no-pair : pairs ≡ 0 → (j : ℕ) → HasPairAt word j → ⊥
  no-pair none j pair =
      omega (arith, (are (2 * j)).1 (j, refl, pair), ap (λ (n : ℕ). bit_at n (2 * j)) none ∙ bit_at-zero (2 * j))

  -- else the lowest bit is that of the first pair
  pub lowest-pair : pairs ≢ 0 → HasPairAt word (trailing_zeros w64 pairs / 2) × ((j : ℕ) → HasPairAt word j → trailing_zeros w64 pairs / 2 ≤ j)
  lowest-pair some =
      let low = bit_at-trailing_zeros w64 pairs (omega (arith, some)) small in
      let at = (are (trailing_zeros w64 pairs)).0 low.1 in
      let half : at.0 ≡ trailing_zeros w64 pairs / 2 = omega (arith, at.1) in (
        subst (HasPairAt word) half at.2,
        λ j pair. elim (cases_lt j (trailing_zeros w64 pairs / 2)) [
          | inr late ↦ late
          | inl early ↦ absurd (omega (arith, (are (2 * j)).1 (j, refl, pair), low.2 (2 * j) (omega (arith, early))))
        ],
      )

-- ---- two rows

-- a pair of one word is a clash of the rows
pub pair-clash : (row other : List ℕ) (k : ℕ) → HasPair (bit_or (slice_index row k) (slice_index other k)) → Clash row other
pair-clash row other k (j, (below, low, high)) =
    let at = pair-place (32 * k + j) in
    let word : (32 * k + j) / 32 ≡ k = omega (arith, below) in
    let bit : (32 * k + j) % 32 ≡ j = omega (arith, below) in (
      32 * k + j,
      placed (2 * (32 * k + j)) (2 * j) (at.0 ∙ word) (at.1 ∙ ap (λ (n : ℕ). 2 * n) bit) (or-set (slice_index row k) (slice_index other k) (2 * j) low),
      placed (2 * (32 * k + j) + 1) (2 * j + 1) (at.2 ∙ word) (at.3 ∙ ap (λ (n : ℕ). 2 * n + 1) bit) (or-set (slice_index row k) (slice_index other k) (2 * j + 1) high),
    )
  where
    placed : (n i : ℕ) → n / 64 ≡ k → n % 64 ≡ i → (bit_at (slice_index row k) i ≡ 1) ⊎ (bit_at (slice_index other k) i ≡ 1) → HasBitIn row other n
    placed n i word bit (inl set) = inl (subst (λ (w : ℕ). bit_at (slice_index row w) (n % 64) ≡ 1) (sym word) (subst (λ (b : ℕ). bit_at (slice_index row k) b ≡ 1) (sym bit) set))
    placed n i word bit (inr set) = inr (subst (λ (w : ℕ). bit_at (slice_index other w) (n % 64) ≡ 1) (sym word) (subst (λ (b : ℕ). bit_at (slice_index other k) b ≡ 1) (sym bit) set))

-- and a clash of the rows is a pair of one of their words
pub clash-pair : (row other : List ℕ) → length row ≡ length other → Clash row other
    → (k : ℕ) × (k < length row) × HasPair (bit_or (slice_index row k) (slice_index other k))
clash-pair row other count (r, low, high) =
    let at = pair-place r in
    let a = taken (2 * r) (r / 32) (2 * (r % 32)) at.0 at.1 low in
    let b = taken (2 * r + 1) (r / 32) (2 * (r % 32) + 1) at.2 at.3 high in
    (r / 32, inside a, (r % 32, (omega arith, a, b)))
  where
    taken : (n k i : ℕ) → n / 64 ≡ k → n % 64 ≡ i → HasBitIn row other n → bit_at (bit_or (slice_index row k) (slice_index other k)) i ≡ 1
    taken n k i word bit set =
        subst (λ (w : ℕ). bit_at (bit_or (slice_index row w) (slice_index other w)) i ≡ 1) word
        (subst (λ (b : ℕ). bit_at (bit_or (slice_index row (n / 64)) (slice_index other (n / 64))) b ≡ 1) bit
        (set-or (slice_index row (n / 64)) (slice_index other (n / 64)) (n % 64) set))

    inside : bit_at (bit_or (slice_index row (r / 32)) (slice_index other (r / 32))) (2 * (r % 32)) ≡ 1 → r / 32 < length row
    inside set = elim (cases_lt (r / 32) (length row)) [
      | inl below ↦ below
      | inr beyond ↦
          let none : bit_or (slice_index row (r / 32)) (slice_index other (r / 32)) ≡ 0 =
          ap (λ (x : ℕ). bit_or x (slice_index other (r / 32))) (get_or_past row (r / 32) 0 beyond) ∙ ap (bit_or 0) (get_or_past other (r / 32) 0 (omega (arith, count, beyond))) in
          absurd (omega (arith, set, ap (λ (n : ℕ). bit_at n (2 * (r % 32))) none ∙ bit_at-zero (2 * (r % 32))))
    ]

-- a word that has no pair keeps that none so far has one
pub none-more : (row other : List ℕ) (k : ℕ) → ((j : ℕ) → j < k → HasPair (bit_or (slice_index row j) (slice_index other j)) → ⊥)
    → (HasPair (bit_or (slice_index row k) (slice_index other k)) → ⊥)
    → (j : ℕ) → j < k + 1 → HasPair (bit_or (slice_index row j) (slice_index other j)) → ⊥
none-more row other k before here j below pair =
    elim (cases_lt j k) [
      | inl less ↦ before j less pair
      | inr last ↦ here (subst (λ (i : ℕ). HasPair (bit_or (slice_index row i) (slice_index other i))) (omega (arith, below, last)) pair)
    ]

-- ---- one bit of a row

-- a word with one bit has that one alone
pub one-bit : (b i : ℕ) → b < 64 → bit_at (1 * 2 ^ b % 2 ^ 64) i ≡ 1 ↔ (i ≡ b)
one-bit b i below = (from, to)
  where
    alone : 1 * 2 ^ b % 2 ^ 64 ≡ 2 ^ b
    alone = let small : 2 ^ b < 2 ^ 64 = pow-lt below in omega (arith, small)

    from : bit_at (1 * 2 ^ b % 2 ^ 64) i ≡ 1 → i ≡ b
    from set = elim (cases_eq i b) [
      | inl same ↦ same
      | inr differ ↦ absurd (omega (arith, ap (λ (n : ℕ). bit_at n i) (sym alone) ∙ set, bit_at-pow_other b i differ))
    ]

    to : i ≡ b → bit_at (1 * 2 ^ b % 2 ^ 64) i ≡ 1
    to same = ap (λ (n : ℕ). bit_at n i) alone ∙ ap (bit_at (2 ^ b)) same ∙ bit_at-pow_same b

-- a word with one bit more has that one and those that it had
one-more : (a b i : ℕ) → b < 64 → bit_at (bit_or a (1 * 2 ^ b % 2 ^ 64)) i ≡ 1 ↔ ((bit_at a i ≡ 1) ⊎ (i ≡ b))
one-more a b i below = (from, to)
  where
    from : bit_at (bit_or a (1 * 2 ^ b % 2 ^ 64)) i ≡ 1 → (bit_at a i ≡ 1) ⊎ (i ≡ b)
    from set = elim (or-set a (1 * 2 ^ b % 2 ^ 64) i set) [
      | inl old ↦ inl old
      | inr new ↦ inr ((one-bit b i below).0 new)
    ]

    to : (bit_at a i ≡ 1) ⊎ (i ≡ b) → bit_at (bit_or a (1 * 2 ^ b % 2 ^ 64)) i ≡ 1
    to (inl old) = set-or a (1 * 2 ^ b % 2 ^ 64) i (inl old)
    to (inr same) = set-or a (1 * 2 ^ b % 2 ^ 64) i (inr ((one-bit b i below).1 same))

-- so has a row with a bit more in the word where that one stands
pub with-bit : (row : List ℕ) (k : ℕ) → k < 64 * length row → (j : ℕ)
    → HasBit (slice_set row (k / 64) (bit_or (slice_index row (k / 64)) (1 * 2 ^ (k % 64) % 2 ^ 64))) j ↔ (HasBit row j ⊎ (j ≡ k))
with-bit row k below j = elim (cases_eq (j / 64) (k / 64)) [
  | inl same ↦
      let word : slice_index (slice_set row (k / 64) new) (j / 64) ≡ new =
      ap (slice_index (slice_set row (k / 64) new)) same ∙ get_or-set_same row (k / 64) new 0 inside in
      let old : slice_index row (j / 64) ≡ slice_index row (k / 64) = ap (slice_index row) same in
      let more = one-more (slice_index row (k / 64)) (k % 64) (j % 64) (omega arith) in (
        λ set. elim (more.0 (ap (λ (w : ℕ). bit_at w (j % 64)) (sym word) ∙ set)) [
          | inl had ↦ inl (ap (λ (w : ℕ). bit_at w (j % 64)) old ∙ had)
          | inr own ↦ inr (omega (arith, same, own))
        ],
        λ set. ap (λ (w : ℕ). bit_at w (j % 64)) word ∙ more.1 (elim set [
          | inl had ↦ inl (ap (λ (w : ℕ). bit_at w (j % 64)) (sym old) ∙ had)
          | inr own ↦ inr (ap (λ (n : ℕ). n % 64) own)
        ]),
      )
  | inr differ ↦
      let word : slice_index (slice_set row (k / 64) new) (j / 64) ≡ slice_index row (j / 64) = get_or-set_other row (k / 64) (j / 64) new 0 differ in (
        λ set. inl (ap (λ (w : ℕ). bit_at w (j % 64)) (sym word) ∙ set),
        λ set. elim set [
          | inl had ↦ ap (λ (w : ℕ). bit_at w (j % 64)) word ∙ had
          | inr own ↦ absurd (differ (ap (λ (n : ℕ). n / 64) own))
        ],
      )
]
  where
    new : ℕ
    new = bit_or (slice_index row (k / 64)) (1 * 2 ^ (k % 64) % 2 ^ 64)

    inside : k / 64 < length row
    inside = omega (arith, below)
