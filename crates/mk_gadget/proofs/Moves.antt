-- By what the random elements and the cells of a product move, so that an observer sees the same of two
-- states: the cells of probed rows stay, the element of a pair takes what is left of an output, and all else
-- moves as little as the products of shares allow.
use Rattle.std.proofs.Common.{arith, Bool, true, false, ◌≡◌, ◌≢◌, ℕ, ◌<◌, bit_xor, nat_eq, nat_lt, if◌then◌else◌, inl, inr, refl, sym, ◌∙◌, ap}
use Rattle.std.proofs.lemmas.Bool.{cases_Bool, cases_eq, cases_order, eq-eqb, ne_eqb, lt-ltb, le-ltb, true≢false}
use Rattle.mk_field.specs.declared.field.FieldId.{FieldId}
use Rattle.mk_field.specs.Field.{size}
use Rattle.mk_field.proofs.Sum.{sum-self, sum-comm, sum-cancel, sum-cancel_right, sum-zero_left, sum-zero_right, sum-in_field, zero-element}
use Rattle.mk_gadget.proofs.ShareSums.{share_sum, share_sum-none}
use Rattle.mk_gadget.proofs.Mended.{share_sum-congruent, with_column, with_column-here, with_column-other, share_sum-column, share_sum-in_field}

-- of a product of n shares, the rows that are probed, the outputs that are seen, a share that is neither,
-- and by what the products of share i of the first operand and share j of the second differ
pub record Plan : Type 0 where
  pub shares : ℕ
  pub is_row : ℕ → Bool
  pub is_seen : ℕ → Bool
  pub free : ℕ
  pub gap : ℕ → ℕ → ℕ

-- the free share is neither, and the products of rows don't differ
pub record IsPlan (p : Plan) : Type 0 where
  pub below : p.free < p.shares
  pub no_row : p.is_row p.free ≡ false
  pub no_seen : p.is_seen p.free ≡ false
  pub still : (i j : ℕ) → i < p.shares → j < p.shares → p.is_row i ≡ true → p.is_row j ≡ true → p.gap i j ≡ 0

-- by what both products of a pair differ together
abbrev pub both : Plan → ℕ → ℕ → ℕ
both p i j = bit_xor (p.gap i j) (p.gap j i)

-- the order of the shares doesn't matter
both-comm : (p : Plan) (i j : ℕ) → both p j i ≡ both p i j
both-comm p i j = sum-comm (p.gap j i) (p.gap i j)

-- by what the cell of row i and column j moves where no output is concerned
abbrev pub plain : Plan → ℕ → ℕ → ℕ
plain p i j = if p.is_row i then 0 else if p.is_row j then both p i j else if nat_lt i j then 0 else both p i j

-- not at all in a row,
pub plain-row : (p : Plan) (i j : ℕ) → p.is_row i ≡ true → plain p i j ≡ 0
plain-row p i j row = rw row refl

-- by all where the other share is a row,
pub plain-column : (p : Plan) (i j : ℕ) → p.is_row i ≡ false → p.is_row j ≡ true → plain p i j ≡ both p i j
plain-column p i j other row = rw other (rw row refl)

-- and else the random element stays,
pub plain-later : (p : Plan) (i j : ℕ) → p.is_row i ≡ false → p.is_row j ≡ false → i < j → plain p i j ≡ 0
plain-later p i j one two order = rw one (rw two (rw (lt-ltb i j order) refl))

-- and the last sum moves by all
pub plain-earlier : (p : Plan) (i j : ℕ) → p.is_row i ≡ false → p.is_row j ≡ false → j < i → plain p i j ≡ both p i j
plain-earlier p i j one two order = rw one (rw two (rw (le-ltb i j (omega (arith, order))) refl))

-- the cells of a pair move by what its products differ by
plain-both : (p : Plan) (i j : ℕ) → IsPlan p → i < p.shares → j < p.shares → i ≢ j → bit_xor (plain p i j) (plain p j i) ≡ both p i j
plain-both p i j fits low high differ = elim (cases_Bool (p.is_row i)) [
  | inl one ↦ elim (cases_Bool (p.is_row j)) [
    | inl two ↦
        ap (λ (a : ℕ). bit_xor a (plain p j i)) (plain-row p i j one) ∙ ap (bit_xor 0) (plain-row p j i two)
        ∙ sym (ap (λ (a : ℕ). bit_xor a (p.gap j i)) (fits.still i j low high one two) ∙ ap (bit_xor 0) (fits.still j i high low two one))
    | inr two ↦
        ap (λ (a : ℕ). bit_xor a (plain p j i)) (plain-row p i j one) ∙ ap (bit_xor 0) (plain-column p j i two one)
        ∙ sum-zero_left (both p j i) ∙ both-comm p i j
  ]
  | inr one ↦ elim (cases_Bool (p.is_row j)) [
    | inl two ↦
        ap (λ (a : ℕ). bit_xor a (plain p j i)) (plain-column p i j one two) ∙ ap (bit_xor (both p i j)) (plain-row p j i two)
        ∙ sum-zero_right (both p i j)
    | inr two ↦ elim (cases_order i j) [
      | inl same ↦ absurd (differ same)
      | inr (inl less) ↦
          ap (λ (a : ℕ). bit_xor a (plain p j i)) (plain-later p i j one two less) ∙ ap (bit_xor 0) (plain-earlier p j i two one less)
          ∙ sum-zero_left (both p j i) ∙ both-comm p i j
      | inr (inr more) ↦
          ap (λ (a : ℕ). bit_xor a (plain p j i)) (plain-earlier p i j one two more) ∙ ap (bit_xor (both p i j)) (plain-later p j i two one more)
          ∙ sum-zero_right (both p i j)
    ]
  ]
]

-- by what output i moves with the cells of its row but the one in the free column
abbrev pub left_over : Plan → ℕ → ℕ
left_over p i = share_sum (p.gap i i) (with_column p.free 0 (plain p i)) i p.shares

-- the cell of row i and column j mends output i: the output is seen, no row, and the column is the free one
abbrev pub mends : Plan → ℕ → ℕ → Bool
mends p i j = if nat_eq j p.free then (if p.is_row i then false else p.is_seen i) else false

-- no other column mends,
mends-other : (p : Plan) (i j : ℕ) → j ≢ p.free → mends p i j ≡ false
mends-other p i j differ = rw (ne_eqb j p.free differ) refl

-- nor is a row mended,
mends-row : (p : Plan) (i j : ℕ) → p.is_row i ≡ true → mends p i j ≡ false
mends-row p i j row = elim (cases_eq j p.free) [
  | inl same ↦ rw (eq-eqb j p.free same) (rw row refl)
  | inr differ ↦ mends-other p i j differ
]

-- nor an output that isn't seen
mends-unseen : (p : Plan) (i j : ℕ) → p.is_seen i ≡ false → mends p i j ≡ false
mends-unseen p i j unseen = elim (cases_Bool (p.is_row i)) [
  | inl row ↦ mends-row p i j row
  | inr other ↦ elim (cases_eq j p.free) [
    | inl same ↦ rw (eq-eqb j p.free same) (rw other unseen)
    | inr differ ↦ mends-other p i j differ
  ]
]

-- the free column mends the others
mends-seen : (p : Plan) (i j : ℕ) → j ≡ p.free → p.is_row i ≡ false → p.is_seen i ≡ true → mends p i j ≡ true
mends-seen p i j same other seen = rw (eq-eqb j p.free same) (rw other seen)

-- if so, the column is the free one
mends-free : (p : Plan) (i j : ℕ) → mends p i j ≡ true → j ≡ p.free
mends-free p i j mended = elim (cases_eq j p.free) [
  | inl same ↦ same
  | inr differ ↦ absurd (true≢false (sym mended ∙ mends-other p i j differ))
]

-- the row of the free share mends nothing
mends-once : (p : Plan) (i j : ℕ) → IsPlan p → mends p i j ≡ true → mends p j i ≡ false
mends-once p i j fits mended = mends-unseen p j i (ap p.is_seen (mends-free p i j mended) ∙ fits.no_seen)

-- by what the cell of row i and column j moves
abbrev pub move : Plan → ℕ → ℕ → ℕ
move p i j = if mends p i j then left_over p i else if mends p j i then bit_xor (both p i j) (left_over p j) else plain p i j

-- where it mends
move-mends : (p : Plan) (i j : ℕ) → mends p i j ≡ true → move p i j ≡ left_over p i
move-mends p i j mended = rw mended refl

-- where the other cell of the pair does
move-mended : (p : Plan) (i j : ℕ) → mends p i j ≡ false → mends p j i ≡ true → move p i j ≡ bit_xor (both p i j) (left_over p j)
move-mended p i j plain mended = rw plain (rw mended refl)

-- where neither does
move-plain : (p : Plan) (i j : ℕ) → mends p i j ≡ false → mends p j i ≡ false → move p i j ≡ plain p i j
move-plain p i j one two = rw one (rw two refl)

-- the cells of a pair move by what its products differ by
pub move-both : (p : Plan) (i j : ℕ) → IsPlan p → i < p.shares → j < p.shares → i ≢ j → bit_xor (move p i j) (move p j i) ≡ both p i j
move-both p i j fits low high differ = elim (cases_Bool (mends p i j)) [
  | inl one ↦
      ap (λ (a : ℕ). bit_xor a (move p j i)) (move-mends p i j one)
      ∙ ap (bit_xor (left_over p i)) (move-mended p j i (mends-once p i j fits one) one ∙ sum-comm (both p j i) (left_over p i))
      ∙ sum-cancel (left_over p i) (both p j i) ∙ both-comm p i j
  | inr one ↦ elim (cases_Bool (mends p j i)) [
    | inl two ↦
        ap (λ (a : ℕ). bit_xor a (move p j i)) (move-mended p i j one two) ∙ ap (bit_xor (bit_xor (both p i j) (left_over p j))) (move-mends p j i two)
        ∙ sum-cancel_right (both p i j) (left_over p j)
    | inr two ↦
        ap (λ (a : ℕ). bit_xor a (move p j i)) (move-plain p i j one two) ∙ ap (bit_xor (plain p i j)) (move-plain p j i two one)
        ∙ plain-both p i j fits low high differ
  ]
]

-- a number with another answer is another number
other-number : (test : ℕ → Bool) (i j : ℕ) → test i ≡ true → test j ≡ false → i ≢ j
other-number test i j one two same = true≢false (sym one ∙ ap test same ∙ two)

-- the cells of a row stay
pub move-row : (p : Plan) (i j : ℕ) → IsPlan p → p.is_row i ≡ true → move p i j ≡ 0
move-row p i j fits row =
    move-plain p i j (mends-row p i j row) (mends-other p j i (other-number p.is_row i p.free row fits.no_row)) ∙ plain-row p i j row

-- and with them its sums
pub row-kept : (p : Plan) (i m : ℕ) → IsPlan p → i < p.shares → p.is_row i ≡ true → share_sum (p.gap i i) (move p i) i m ≡ 0
row-kept p i m fits low row =
    share_sum-congruent (p.gap i i) 0 (move p i) (λ j. 0) i m (fits.still i i low low row row) (λ j below differ. move-row p i j fits row) ∙ share_sum-none 0 i m

-- the cells of an output that is no row move, but for the free column, as where no output is concerned
move-seen : (p : Plan) (i j : ℕ) → IsPlan p → p.is_row i ≡ false → p.is_seen i ≡ true → move p i j ≡ with_column p.free (left_over p i) (plain p i) j
move-seen p i j fits other seen = elim (cases_eq j p.free) [
  | inl same ↦ move-mends p i j (mends-seen p i j same other seen) ∙ sym (with_column-here p.free (left_over p i) (plain p i) j same)
  | inr differ ↦
      move-plain p i j (mends-other p i j differ) (mends-other p j i (other-number p.is_seen i p.free seen fits.no_seen))
      ∙ sym (with_column-other p.free (left_over p i) (plain p i) j differ)
]

-- seen outputs stay
pub output-kept : (p : Plan) (i : ℕ) → IsPlan p → i < p.shares → p.is_seen i ≡ true → share_sum (p.gap i i) (move p i) i p.shares ≡ 0
output-kept p i fits low seen = elim (cases_Bool (p.is_row i)) [
  | inl row ↦ row-kept p i p.shares fits low row
  | inr other ↦
      share_sum-congruent (p.gap i i) (p.gap i i) (move p i) (with_column p.free (left_over p i) (plain p i)) i p.shares refl
      (λ j below differ. move-seen p i j fits other seen)
      ∙ share_sum-column (p.gap i i) (left_over p i) p.free (plain p i) i p.shares fits.below (other-number p.is_seen i p.free seen fits.no_seen)
      ∙ sum-self (left_over p i)
]

-- a pair of shares that mends no output
pub record IsUnmended (p : Plan) (i j : ℕ) : Type 0 where
  pub first : i ≡ p.free → p.is_seen j ≡ false
  pub second : j ≡ p.free → p.is_seen i ≡ false

-- its cells move as where no output is concerned
pub move-unmended : (p : Plan) (i j : ℕ) → IsUnmended p i j → move p i j ≡ plain p i j
move-unmended p i j un = move-plain p i j
    (elim (cases_eq j p.free) [ inl same ↦ mends-unseen p i j (un.second same) | inr differ ↦ mends-other p i j differ ])
    (elim (cases_eq i p.free) [ inl same ↦ mends-unseen p j i (un.first same) | inr differ ↦ mends-other p j i differ ])

-- its half sum stays, if the products that it is made of do
pub half-kept : (p : Plan) (i j : ℕ) → IsUnmended p i j → i < j
    → (p.is_row i ≡ true → p.gap i j ≡ 0)
    → (p.is_row i ≡ false → p.is_row j ≡ true → p.gap j i ≡ 0)
    → (p.is_row i ≡ false → p.is_row j ≡ false → p.gap i j ≡ 0)
    → bit_xor (move p i j) (p.gap i j) ≡ 0
half-kept p i j un order first second third = elim (cases_Bool (p.is_row i)) [
  | inl one ↦
      ap (λ (a : ℕ). bit_xor a (p.gap i j)) (move-unmended p i j un ∙ plain-row p i j one) ∙ ap (bit_xor 0) (first one)
  | inr one ↦ elim (cases_Bool (p.is_row j)) [
    | inl two ↦
        ap (λ (a : ℕ). bit_xor a (p.gap i j)) (move-unmended p i j un ∙ plain-column p i j one two)
        ∙ ap (λ (a : ℕ). bit_xor (bit_xor (p.gap i j) a) (p.gap i j)) (second one two)
        ∙ ap (λ (a : ℕ). bit_xor a (p.gap i j)) (sum-zero_right (p.gap i j)) ∙ sum-self (p.gap i j)
    | inr two ↦
        ap (λ (a : ℕ). bit_xor a (p.gap i j)) (move-unmended p i j un ∙ plain-later p i j one two order) ∙ ap (bit_xor 0) (third one two)
  ]
]

-- where no output is concerned, a cell moves by an element, if the products differ by elements;
plain-element : (field : FieldId) (p : Plan) (i j : ℕ) → ((i j : ℕ) → p.gap i j < size field) → plain p i j < size field
plain-element field p i j small =
    let all : both p i j < size field = sum-in_field field (p.gap i j) (p.gap j i) (small i j) (small j i) in
    elim (cases_Bool (p.is_row i)) [
      | inl one ↦ omega (arith, zero-element field, plain-row p i j one)
      | inr one ↦ elim (cases_Bool (p.is_row j)) [
        | inl two ↦ omega (arith, all, plain-column p i j one two)
        | inr two ↦ elim (cases_Bool (nat_lt i j)) [
          | inl less ↦ rw one (rw two (rw less (zero-element field)))
          | inr more ↦ rw one (rw two (rw more all))
        ]
      ]
    ]

-- so does an output,
left_over-element : (field : FieldId) (p : Plan) (i : ℕ) → ((i j : ℕ) → p.gap i j < size field) → left_over p i < size field
left_over-element field p i small =
    share_sum-in_field field (p.gap i i) (with_column p.free 0 (plain p i)) i p.shares (small i i) (λ j. elim (cases_eq j p.free) [
      | inl same ↦ omega (arith, zero-element field, with_column-here p.free 0 (plain p i) j same)
      | inr differ ↦ omega (arith, plain-element field p i j small, with_column-other p.free 0 (plain p i) j differ)
    ])

-- and each cell
pub move-element : (field : FieldId) (p : Plan) (i j : ℕ) → ((i j : ℕ) → p.gap i j < size field) → move p i j < size field
move-element field p i j small = elim (cases_Bool (mends p i j)) [
  | inl one ↦ omega (arith, left_over-element field p i small, move-mends p i j one)
  | inr one ↦ elim (cases_Bool (mends p j i)) [
    | inl two ↦
        omega (arith, sum-in_field field (both p i j) (left_over p j) (sum-in_field field (p.gap i j) (p.gap j i) (small i j) (small j i)) (left_over-element field p j small), move-mended p i j one two)
    | inr two ↦ omega (arith, plain-element field p i j small, move-plain p i j one two)
  ]
]
