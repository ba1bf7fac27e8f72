-- Sums of a row to which other sums are added, and a column that takes what the other columns leave.
use Rattle.std.proofs.Common.{arith, ◌≡◌, ◌≢◌, ℕ, zero, suc, ◌<◌, List, [], ◌∷◌, slice_index, bit_xor, nat_eq, if◌then◌else◌, inl, inr, refl, sym, ◌∙◌, ap}
use Rattle.std.proofs.lemmas.Bool.{cases_eq, eq-eqb, ne_eqb}
use Rattle.mk_field.specs.declared.field.FieldId.{FieldId}
use Rattle.mk_field.specs.Field.{size}
use Rattle.mk_field.proofs.Sum.{sum-assoc, sum-comm, sum-interchange, sum-zero_right, sum-in_field, zero-element}
use Rattle.mk_code.specs.Counting.{AllBelow}
use Rattle.mk_gadget.proofs.ShareSums.{share_sum, share_sum-same, share_sum-other}

-- the same start and the same cells of the columns below m but i
pub share_sum-congruent : (a b : ℕ) (f g : ℕ → ℕ) (i m : ℕ) → a ≡ b → ((j : ℕ) → j < m → i ≢ j → f j ≡ g j) → share_sum a f i m ≡ share_sum b g i m
unfolding share_sum
share_sum-congruent a b f g i zero start cells = start
share_sum-congruent a b f g i (suc m) start cells =
    let before : share_sum a f i m ≡ share_sum b g i m = share_sum-congruent a b f g i m start (λ j below other. cells j (omega (arith, below)) other) in
    elim (cases_eq i m) [
      | inl same ↦ share_sum-same a f i m same ∙ before ∙ sym (share_sum-same b g i m same)
      | inr other ↦
          let last : f m ≡ g m = cells m (omega arith) other in
          share_sum-other a f i m other
          ∙ ap (λ (s : ℕ). bit_xor s (f m)) before
          ∙ ap (bit_xor (share_sum b g i m)) last
          ∙ sym (share_sum-other b g i m other)
    ]

-- sums of starts and of cells
pub share_sum-sums : (a b : ℕ) (f g : ℕ → ℕ) (i m : ℕ)
    → share_sum (bit_xor a b) (λ j. bit_xor (f j) (g j)) i m ≡ bit_xor (share_sum a f i m) (share_sum b g i m)
unfolding share_sum
share_sum-sums a b f g i zero = refl
share_sum-sums a b f g i (suc m) =
    let h : ℕ → ℕ = λ j. bit_xor (f j) (g j) in
    elim (cases_eq i m) [
      | inl same ↦
          share_sum-same (bit_xor a b) h i m same ∙ share_sum-sums a b f g i m
          ∙ ap (λ (s : ℕ). bit_xor s (share_sum b g i m)) (sym (share_sum-same a f i m same))
          ∙ ap (bit_xor (share_sum a f i (suc m))) (sym (share_sum-same b g i m same))
      | inr other ↦
          share_sum-other (bit_xor a b) h i m other
          ∙ ap (λ (s : ℕ). bit_xor s (h m)) (share_sum-sums a b f g i m)
          ∙ sum-interchange (share_sum a f i m) (share_sum b g i m) (f m) (g m)
          ∙ ap (λ (s : ℕ). bit_xor s (bit_xor (share_sum b g i m) (g m))) (sym (share_sum-other a f i m other))
          ∙ ap (bit_xor (share_sum a f i (suc m))) (sym (share_sum-other b g i m other))
    ]

-- the cells with the one of column f replaced
abbrev pub with_column : ℕ → ℕ → (ℕ → ℕ) → ℕ → ℕ
with_column f e cell j = if nat_eq j f then e else cell j

-- in column f it is the new one,
pub with_column-here : (f e : ℕ) (cell : ℕ → ℕ) (j : ℕ) → j ≡ f → with_column f e cell j ≡ e
with_column-here f e cell j same = rw (eq-eqb j f same) refl

-- in another the old one
pub with_column-other : (f e : ℕ) (cell : ℕ → ℕ) (j : ℕ) → j ≢ f → with_column f e cell j ≡ cell j
with_column-other f e cell j other = rw (ne_eqb j f other) refl

-- what column f adds to the sum of the others
pub share_sum-column : (a e f : ℕ) (cell : ℕ → ℕ) (i m : ℕ) → f < m → i ≢ f
    → share_sum a (with_column f e cell) i m ≡ bit_xor (share_sum a (with_column f 0 cell) i m) e
unfolding share_sum
share_sum-column a e f cell i zero below free = absurd (omega (arith, below))
share_sum-column a e f cell i (suc m) below free =
    let new : ℕ → ℕ = with_column f e cell in
    let old : ℕ → ℕ = with_column f 0 cell in
    elim (cases_eq m f) [
      | inl here ↦
          let other : i ≢ m = λ s. free (s ∙ here) in
          let front : share_sum a new i m ≡ share_sum a old i m =
          share_sum-congruent a a new old i m refl
          (λ j less apart.
          let differ : j ≢ f = λ s. omega (arith, s, here, less) in
          with_column-other f e cell j differ ∙ sym (with_column-other f 0 cell j differ)) in
          share_sum-other a new i m other
          ∙ ap (bit_xor (share_sum a new i m)) (with_column-here f e cell m here)
          ∙ ap (λ (s : ℕ). bit_xor s e) front
          ∙ ap (λ (s : ℕ). bit_xor s e) (sym (sum-zero_right (share_sum a old i m)))
          ∙ ap (λ (s : ℕ). bit_xor (bit_xor (share_sum a old i m) s) e) (sym (with_column-here f 0 cell m here))
          ∙ ap (λ (s : ℕ). bit_xor s e) (sym (share_sum-other a old i m other))
      | inr there ↦
          let before : share_sum a new i m ≡ bit_xor (share_sum a old i m) e =
          share_sum-column a e f cell i m (let l : m ≡ f → ⊥ = there in omega (arith, below, l)) free in
          elim (cases_eq i m) [
            | inl same ↦
                share_sum-same a new i m same ∙ before ∙ ap (λ (s : ℕ). bit_xor s e) (sym (share_sum-same a old i m same))
            | inr other ↦
                share_sum-other a new i m other
                ∙ ap (λ (s : ℕ). bit_xor s (new m)) before
                ∙ ap (bit_xor (bit_xor (share_sum a old i m) e)) (with_column-other f e cell m there ∙ sym (with_column-other f 0 cell m there))
                ∙ sum-assoc (share_sum a old i m) e (old m)
                ∙ ap (bit_xor (share_sum a old i m)) (sum-comm e (old m))
                ∙ sym (sum-assoc (share_sum a old i m) (old m) e)
                ∙ ap (λ (s : ℕ). bit_xor s e) (sym (share_sum-other a old i m other))
          ]
    ]

-- sums of elements are elements
pub share_sum-in_field : (field : FieldId) (a : ℕ) (cell : ℕ → ℕ) (i m : ℕ) → a < size field → ((j : ℕ) → cell j < size field) → share_sum a cell i m < size field
unfolding share_sum
share_sum-in_field field a cell i zero start cells = start
share_sum-in_field field a cell i (suc m) start cells =
    let before : share_sum a cell i m < size field = share_sum-in_field field a cell i m start cells in
    elim (cases_eq i m) [
      | inl same ↦ omega (arith, before, share_sum-same a cell i m same)
      | inr other ↦ omega (arith, sum-in_field field (share_sum a cell i m) (cell m) before (cells m), share_sum-other a cell i m other)
    ]

-- what stands at a position of a list of elements, or behind it, is an element
pub element-at : (field : FieldId) (xs : List ℕ) (i : ℕ) → AllBelow (size field) xs → slice_index xs i < size field
unfolding AllBelow
element-at field [] i below = zero-element field
element-at field (x ∷ xs) zero below = below.0
element-at field (x ∷ xs) (suc i) below = element-at field xs i below.1
