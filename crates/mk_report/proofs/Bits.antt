-- The bits of a row that are set, in order: which they are, how many, and the first of them.
use Rattle.std.proofs.Common.{◌≡◌, ℕ, zero, suc, ◌+◌, ◌-◌, ◌*◌, ◌/◌, ◌%◌, ◌^◌, ◌<◌, ◌≤◌, true, false, List, [], ◌∷◌, ◌++◌, length, map, take, slice_index, nat_eq, refl, sym, ◌∙◌, ap, subst, inl, inr, arith, append_assoc, append-nil}
use Rattle.std.specs.Int.{bit_at}
use Rattle.std.specs.Int.Count.{ones_step}
use Rattle.std.specs.Int.RustNames.{count_ones}
use Rattle.std.specs.List.{Contains}
use Rattle.std.proofs.lemmas.Bool.{cases_Bool, cases_eq, cases_lt, eq-eqb, eqb-true}
use Rattle.std.proofs.lemmas.List.{length-append, length-take, map-append, take_all, take-append-le, get_or_past}
use Rattle.std.proofs.lemmas.Nat.Bits.{bit_at-suc, bit_at-zero, bit_at_lowest}
use Rattle.mk_base.proofs.Lists.{Contains-cases}
use Rattle.mk_rules.specs.Rows.{HasBit}
use Rattle.mk_rules.proofs.Probes.{Contains-none, Contains-front, Contains-more}
use Rattle.mk_report.specs.declared.need.ProductPlace.{ProductPlace}
use Rattle.mk_report.specs.Rows.{has, bits_between, set_bits}

-- ---- fronts of lists

-- a front of a list and others has the front of all
pub take-front : {X : Type 0} (n : ℕ) (xs ys : List X) → take n (take n xs ++ ys) ≡ take n (xs ++ ys)
take-front zero xs ys = refl
take-front (suc n) [] ys = refl
take-front (suc n) (x ∷ xs) ys = ap (λ (zs : List _). x ∷ zs) (take-front n xs ys)

-- a front that is long enough is that of all
pub take-full : {X : Type 0} (n : ℕ) (xs ys : List X) → n ≤ length (take n xs) → take n (xs ++ ys) ≡ take n xs
take-full n xs ys long = take-append-le n xs ys (omega (arith, length-take n xs, long))

-- one that isn't has one more
pub take-short : {X : Type 0} (n : ℕ) (xs : List X) (y : X) → length (take n xs) < n → take n (xs ++ y ∷ []) ≡ take n xs ++ y ∷ []
take-short zero xs y short = absurd (omega (arith, short))
take-short (suc n) [] y short = ap (λ (zs : List _). y ∷ zs) (take_all n [] (omega arith))
take-short (suc n) (x ∷ xs) y short = ap (λ (zs : List _). x ∷ zs) (take-short n xs y (omega (arith, short)))

-- ---- which they are

module _ (row : List ℕ) where
  -- the first bit is set
  pub bits-on : (a n : ℕ) → has row a ≡ true → bits_between row a (suc n) ≡ a ∷ bits_between row (a + 1) n
  bits-on a n on = rw on refl

  -- it isn't
  pub bits-off : (a n : ℕ) → has row a ≡ false → bits_between row a (suc n) ≡ bits_between row (a + 1) n
  bits-off a n off = rw off refl

  -- some bits, and those behind them
  pub bits-split : (a n m : ℕ) → bits_between row a (n + m) ≡ bits_between row a n ++ bits_between row (a + n) m
  bits-split a zero m =
      let e : a ≡ a + 0 = omega arith in
      let more : 0 + m ≡ m = omega arith in
      ap (bits_between row a) more ∙ ap (λ (b : ℕ). bits_between row b m) e
  bits-split a (suc n) m =
      let e : a + 1 + n ≡ a + suc n = omega arith in
      let more : suc n + m ≡ suc (n + m) = omega arith in
      let rest : bits_between row (a + 1) (n + m) ≡ bits_between row (a + 1) n ++ bits_between row (a + suc n) m =
      bits-split (a + 1) n m ∙ ap (λ (b : ℕ). bits_between row (a + 1) n ++ bits_between row b m) e in
      elim (cases_Bool (has row a)) [
        | inl on ↦
            ap (bits_between row a) more ∙ bits-on a (n + m) on ∙ ap (λ (bs : List ℕ). a ∷ bs) rest
            ∙ ap (λ (bs : List ℕ). bs ++ bits_between row (a + suc n) m) (sym (bits-on a n on))
        | inr off ↦
            ap (bits_between row a) more ∙ bits-off a (n + m) off ∙ rest ∙ ap (λ (bs : List ℕ). bs ++ bits_between row (a + suc n) m) (sym (bits-off a n off))
      ]

  -- one more that is set
  pub bits-more : (a n : ℕ) → has row (a + n) ≡ true → bits_between row a (n + 1) ≡ bits_between row a n ++ (a + n) ∷ []
  bits-more a n on = bits-split a n 1 ∙ ap (λ (bs : List ℕ). bits_between row a n ++ bs) (bits-on (a + n) 0 on)

  -- one more that isn't
  pub bits-same : (a n : ℕ) → has row (a + n) ≡ false → bits_between row a (n + 1) ≡ bits_between row a n
  bits-same a n off =
      bits-split a n 1 ∙ ap (λ (bs : List ℕ). bits_between row a n ++ bs) (bits-off (a + n) 0 off) ∙ append-nil (bits_between row a n)

  -- each of them is set
  pub bits-from : (a n k : ℕ) → Contains (bits_between row a n) k → (a ≤ k) × ((k < a + n) × HasBit row k)
  bits-from a zero k held = absurd (Contains-none k held)
  bits-from a (suc n) k held = elim (cases_Bool (has row a)) [
    | inl on ↦ elim (Contains-cases a (bits_between row (a + 1) n) k (subst (λ (bs : List ℕ). Contains bs k) (bits-on a n on) held)) [
      | inl own ↦ (
        omega (arith, own),
        (omega (arith, own), subst (HasBit row) own (eqb-true (bit_at (slice_index row (a / 64)) (a % 64)) 1 on)),
      )
      | inr rest ↦ let found = bits-from (a + 1) n k rest in (omega (arith, found.0), (omega (arith, found.1.0), found.1.1))
    ]
    | inr off ↦
        let found = bits-from (a + 1) n k (subst (λ (bs : List ℕ). Contains bs k) (bits-off a n off) held) in
        (omega (arith, found.0), (omega (arith, found.1.0), found.1.1))
  ]

  -- and each that is set is one of them
  pub bits-at : (a n k : ℕ) → a ≤ k → k < a + n → HasBit row k → Contains (bits_between row a n) k
  bits-at a zero k low high set = absurd (omega (arith, low, high))
  bits-at a (suc n) k low high set = elim (cases_Bool (has row a)) [
    | inl on ↦ subst (λ (bs : List ℕ). Contains bs k) (sym (bits-on a n on)) (elim (cases_eq a k) [
      | inl same ↦ subst (Contains (a ∷ bits_between row (a + 1) n)) same (Contains-front a (bits_between row (a + 1) n))
      | inr other ↦ Contains-more a (bits_between row (a + 1) n) k (bits-at (a + 1) n k (omega (arith, low, other)) (omega (arith, high)) set)
    ])
    | inr off ↦ subst (λ (bs : List ℕ). Contains bs k) (sym (bits-off a n off)) (elim (cases_eq a k) [
      | inl same ↦
          let on : has row a ≡ true = eq-eqb (bit_at (slice_index row (a / 64)) (a % 64)) 1 (subst (HasBit row) (sym same) set) in
          absurd (cc (on, off))
      | inr other ↦ bits-at (a + 1) n k (omega (arith, low, other)) (omega (arith, high)) set
    ])
  ]

  -- a bit is set or isn't
  pub has-on : (k : ℕ) → HasBit row k → has row k ≡ true
  has-on k set = eq-eqb (bit_at (slice_index row (k / 64)) (k % 64)) 1 set

  -- a bit that is not set reads false
  pub has-off : (k : ℕ) → (HasBit row k → ⊥) → has row k ≡ false
  has-off k unset = elim (cases_Bool (has row k)) [
    | inl on ↦ absurd (unset (eqb-true (bit_at (slice_index row (k / 64)) (k % 64)) 1 on))
    | inr off ↦ off
  ]

  -- a bit that is set is one of a word of the row
  pub bit-within : (k : ℕ) → HasBit row k → k < 64 * length row
  bit-within k set = elim (cases_lt (k / 64) (length row)) [
    | inl below ↦ omega (arith, below)
    | inr beyond ↦
        absurd (omega (arith, set, ap (λ (w : ℕ). bit_at w (k % 64)) (get_or_past row (k / 64) 0 beyond), bit_at-zero (k % 64)))
  ]

  -- ---- how many

  -- the bits with those of one word more
  words-split : (k : ℕ) → bits_between row 0 (64 * (k + 1)) ≡ bits_between row 0 (64 * k) ++ bits_between row (64 * k) 64
  words-split k =
      let e : 64 * (k + 1) ≡ 64 * k + 64 = omega arith in
      let start : 0 + 64 * k ≡ 64 * k = omega arith in
      ap (bits_between row 0) e ∙ bits-split 0 (64 * k) 64 ∙ ap (λ (b : ℕ). bits_between row 0 (64 * k) ++ bits_between row b 64) start

  -- as many as a number has ones, where they are its bits
  pub bits-ones : (n a w : ℕ) → ((i : ℕ) → i < n → has row (a + i) ≡ nat_eq (bit_at w i) 1) → w < 2 ^ n → length (bits_between row a n) ≡ count_ones w
  unfolding count_ones
  bits-ones zero a w each small = let e : 0 ≡ w = omega (arith, small) in ap count_ones e
  bits-ones (suc n) a w each small =
      let rest : length (bits_between row (a + 1) n) ≡ count_ones (w / 2) =
      bits-ones n (a + 1) (w / 2)
      (λ i below.
      let e : a + suc i ≡ a + 1 + i = omega arith in
      ap (has row) (sym e) ∙ each (suc i) (omega (arith, below)) ∙ ap (λ (b : ℕ). nat_eq b 1) (bit_at-suc w i))
      (omega (arith, small)) in
      let first : has row a ≡ nat_eq (w % 2) 1 = let e : a + 0 ≡ a = omega arith in ap (has row) (sym e) ∙ each 0 (omega arith) ∙ ap (λ (b : ℕ). nat_eq b 1) (bit_at_lowest w) in
      elim (cases_eq (w % 2) 1) [
        | inl odd ↦
            omega (arith, ap (λ (bs : List ℕ). length bs) (bits-on a n (first ∙ eq-eqb (w % 2) 1 odd)), rest, ones_step w, odd)
        | inr even ↦
            omega (arith, ap (λ (bs : List ℕ). length bs) (bits-off a n (first ∙ unequal (w % 2) even)), rest, ones_step w, even)
      ]
    where
      unequal : (b : ℕ) → (b ≡ 1 → ⊥) → nat_eq b 1 ≡ false
      unequal b differ = elim (cases_Bool (nat_eq b 1)) [
        | inl same ↦ absurd (differ (eqb-true b 1 same))
        | inr other ↦ other
      ]

  -- the bits of a word
  pub word-has : (k i : ℕ) → i < 64 → has row (64 * k + i) ≡ nat_eq (bit_at (slice_index row k) i) 1
  word-has k i below =
      let word : (64 * k + i) / 64 ≡ k = omega (arith, below) in
      let bit : (64 * k + i) % 64 ≡ i = omega (arith, below) in
      ap (λ (j : ℕ). nat_eq (bit_at (slice_index row j) ((64 * k + i) % 64)) 1) word ∙ ap (λ (b : ℕ). nat_eq (bit_at (slice_index row k) b) 1) bit

  -- there are as many as it has ones
  pub word-ones : (k : ℕ) → slice_index row k < 2 ^ 64 → length (bits_between row (64 * k) 64) ≡ count_ones (slice_index row k)
  word-ones k small = bits-ones 64 (64 * k) (slice_index row k) (λ i below. word-has k i below) small

  -- no bit of a word of zero is set
  pub word-none : (k : ℕ) → slice_index row k ≡ 0 → bits_between row (64 * k) 64 ≡ []
  word-none k none = nothing (bits_between row (64 * k) 64) (λ j held.
      let found = bits-from (64 * k) 64 j held in
      let word : j / 64 ≡ k = omega (arith, found.0, found.1.0) in
      omega (arith, found.1.1, ap (λ (w : ℕ). bit_at (slice_index row w) (j % 64)) word, ap (λ (w : ℕ). bit_at w (j % 64)) none, bit_at-zero (j % 64)))
    where
      nothing : (xs : List ℕ) → ((x : ℕ) → Contains xs x → ⊥) → xs ≡ []
      nothing [] empty = refl
      nothing (x ∷ xs) empty = absurd (empty x (Contains-front x xs))

  -- so many more are those of one word more
  pub words-ones : (k : ℕ) → slice_index row k < 2 ^ 64
      → length (bits_between row 0 (64 * (k + 1))) ≡ length (bits_between row 0 (64 * k)) + count_ones (slice_index row k)
  words-ones k small =
      ap (λ (bs : List ℕ). length bs) (words-split k) ∙ length-append (bits_between row 0 (64 * k)) (bits_between row (64 * k) 64)
      ∙ ap (λ (n : ℕ). length (bits_between row 0 (64 * k)) + n) (word-ones k small)

  -- ---- the first of them

  module _ (f : ℕ → ProductPlace) where
    -- the places for the bits of one word more
    words-more : (k : ℕ) → map f (bits_between row 0 (64 * (k + 1))) ≡ map f (bits_between row 0 (64 * k)) ++ map f (bits_between row (64 * k) 64)
    words-more k = ap (map f) (words-split k) ∙ map-append f (bits_between row 0 (64 * k)) (bits_between row (64 * k) 64)

    module _ (front shown : List ProductPlace) (a n : ℕ) (so_far : shown ≡ take 8 (front ++ map f (bits_between row a n))) where
      -- the places with that for one bit more
      one-more : has row (a + n) ≡ true → front ++ map f (bits_between row a (n + 1)) ≡ (front ++ map f (bits_between row a n)) ++ f (a + n) ∷ []
      one-more on =
          ap (λ (bs : List ℕ). front ++ map f bs) (bits-more a n on)
          ∙ ap (λ (ps : List ProductPlace). front ++ ps) (map-append f (bits_between row a n) ((a + n) ∷ []))
          ∙ sym (append_assoc front (map f (bits_between row a n)) (f (a + n) ∷ []))

      -- a bit that isn't set shows no place
      pub show-still : has row (a + n) ≡ false → shown ≡ take 8 (front ++ map f (bits_between row a (n + 1)))
      show-still off = so_far ∙ ap (λ (bs : List ℕ). take 8 (front ++ map f bs)) (sym (bits-same a n off))

      -- where eight are shown, no more is
      pub show-full : 8 ≤ length shown → shown ≡ take 8 (front ++ map f (bits_between row a (n + 1)))
      show-full long = elim (cases_Bool (has row (a + n))) [
        | inr off ↦ show-still off
        | inl on ↦
            so_far
            ∙ sym (take-full 8 (front ++ map f (bits_between row a n)) (f (a + n) ∷ []) (omega (arith, long, ap (λ (ps : List ProductPlace). length ps) so_far)))
            ∙ ap (take 8) (sym (one-more on))
      ]

      -- and else the place is
      pub show-more : has row (a + n) ≡ true → length shown < 8 → shown ++ f (a + n) ∷ [] ≡ take 8 (front ++ map f (bits_between row a (n + 1)))
      show-more on short =
          ap (λ (ps : List ProductPlace). ps ++ f (a + n) ∷ []) so_far
          ∙ sym (take-short 8 (front ++ map f (bits_between row a n)) (f (a + n)) (omega (arith, short, ap (λ (ps : List ProductPlace). length ps) so_far)))
          ∙ ap (take 8) (sym (one-more on))

    module _ (k : ℕ) (shown : List ProductPlace) (so_far : shown ≡ take 8 (map f (bits_between row 0 (64 * k)))) where
      -- with the places for the bits of a word
      pub word-shown : (after : List ProductPlace) → after ≡ take 8 (shown ++ map f (bits_between row (64 * k) 64))
          → after ≡ take 8 (map f (bits_between row 0 (64 * (k + 1))))
      word-shown after is =
          is ∙ ap (λ (ps : List ProductPlace). take 8 (ps ++ map f (bits_between row (64 * k) 64))) so_far
          ∙ take-front 8 (map f (bits_between row 0 (64 * k))) (map f (bits_between row (64 * k) 64)) ∙ ap (take 8) (sym (words-more k))

      -- a word of zero shows none
      pub word-skipped : slice_index row k ≡ 0 → shown ≡ take 8 (map f (bits_between row 0 (64 * (k + 1))))
      word-skipped none =
          so_far ∙ ap (take 8) (sym (append-nil (map f (bits_between row 0 (64 * k)))))
          ∙ ap (λ (bs : List ℕ). take 8 (map f (bits_between row 0 (64 * k)) ++ map f bs)) (sym (word-none k none))
          ∙ ap (take 8) (sym (words-more k))

      -- where eight are shown, they are the first of all
      pub all-shown : k ≤ length row → 8 ≤ length shown → shown ≡ take 8 (map f (set_bits row))
      all-shown within long =
          let rest : 64 * length row ≡ 64 * k + (64 * length row - 64 * k) = omega (arith, within) in
          let start : 0 + 64 * k ≡ 64 * k = omega arith in
          let behind : List ℕ = bits_between row (0 + 64 * k) (64 * length row - 64 * k) in
          so_far
          ∙ sym (take-full 8 (map f (bits_between row 0 (64 * k))) (map f behind) (omega (arith, long, ap (λ (ps : List ProductPlace). length ps) so_far)))
          ∙ ap (take 8) (sym (map-append f (bits_between row 0 (64 * k)) behind))
          ∙ ap (λ (bs : List ℕ). take 8 (map f bs)) (sym (bits-split 0 (64 * k) (64 * length row - 64 * k)))
          ∙ ap (λ (n : ℕ). take 8 (map f (bits_between row 0 n))) (sym rest)
