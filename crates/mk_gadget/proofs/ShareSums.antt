-- Sums of a share and cells, column by column, and what such sums of all shares are together.
use Rattle.std.proofs.Common.{arith, Bool, ◌≡◌, ℕ, zero, suc, ◌+◌, ◌<◌, ◌≤◌, List, [], ◌∷◌, ◌++◌, length, map, slice_index, bit_xor, nat_eq, if◌then◌else◌, inl, inr, refl, sym, ◌∙◌, ap}
use Rattle.std.specs.List.{range_with_len}
use Rattle.std.proofs.lemmas.Bool.{cases_eq, eq-eqb, ne_eqb}
use Rattle.std.proofs.lemmas.List.{length-append, length-map, map-append, append-nil, get_or_push}
use Rattle.std.proofs.lemmas.List.FromFn.{map-range_with_len_more}
use Rattle.mk_field.specs.Sharing.{field_sum}
use Rattle.mk_field.proofs.Sum.{sum-assoc, sum-comm, sum-interchange, sum-zero_right, field_sum-append}
use Rattle.mk_gadget.specs.Pairs.{others}
use Rattle.mk_gadget.proofs.Ranges.{map-range-same, field_sum-sums}

-- `start` plus the cells of the columns below m but column i
unfoldable pub share_sum : ℕ → (ℕ → ℕ) → ℕ → ℕ → ℕ
share_sum start cell i zero = start
share_sum start cell i (suc m) = if nat_eq i m then share_sum start cell i m else bit_xor (share_sum start cell i m) (cell m)

-- column i itself adds nothing
pub share_sum-same : (start : ℕ) (cell : ℕ → ℕ) (i m : ℕ) → i ≡ m → share_sum start cell i (suc m) ≡ share_sum start cell i m
unfolding share_sum
share_sum-same start cell i m same = rw (eq-eqb i m same) refl

-- any other column adds its cell
pub share_sum-other : (start : ℕ) (cell : ℕ → ℕ) (i m : ℕ) → (i ≡ m → ⊥) → share_sum start cell i (suc m) ≡ bit_xor (share_sum start cell i m) (cell m)
unfolding share_sum
share_sum-other start cell i m other = rw (ne_eqb i m other) refl

-- the sum of n numbers
abbrev pub sum_upto : ℕ → (ℕ → ℕ) → ℕ
sum_upto n f = field_sum (map f (range_with_len 0 n))

-- one number more
pub sum_upto-more : (n : ℕ) (f : ℕ → ℕ) → sum_upto (suc n) f ≡ bit_xor (sum_upto n f) (f n)
unfolding field_sum
sum_upto-more n f =
    let one : suc n ≡ n + 1 = omega arith in
    ap (λ (k : ℕ). sum_upto k f) one
    ∙ ap field_sum (map-range_with_len_more f 0 n n (omega arith))
    ∙ field_sum-append (map f (range_with_len 0 n)) (f n ∷ [])
    ∙ ap (bit_xor (sum_upto n f)) (sum-zero_right (f n))

-- the same numbers
pub sum_upto-same : (n : ℕ) (f g : ℕ → ℕ) → ((i : ℕ) → i < n → f i ≡ g i) → sum_upto n f ≡ sum_upto n g
sum_upto-same n f g same = ap field_sum (map-range-same f g 0 n (λ i low high. same i (omega (arith, high))))

-- sums of two numbers each
pub sum_upto-sums : (n : ℕ) (f g : ℕ → ℕ) → sum_upto n (λ i. bit_xor (f i) (g i)) ≡ bit_xor (sum_upto n f) (sum_upto n g)
sum_upto-sums n f g = field_sum-sums f g 0 n

-- the columns before column i all add their cells
pub share_sum-low : (start : ℕ) (cell : ℕ → ℕ) (i m : ℕ) → m ≤ i → share_sum start cell i m ≡ bit_xor start (sum_upto m cell)
unfolding share_sum field_sum
share_sum-low start cell i zero le = sym (sum-zero_right start)
share_sum-low start cell i (suc m) le =
    share_sum-other start cell i m (λ e. omega (arith, e, le))
    ∙ ap (λ (s : ℕ). bit_xor s (cell m)) (share_sum-low start cell i m (omega (arith, le)))
    ∙ sum-assoc start (sum_upto m cell) (cell m)
    ∙ ap (bit_xor start) (sym (sum_upto-more m cell))

-- where the start is what column i would add, all columns are summed
pub share_sum-all : (f : ℕ → ℕ) (i m : ℕ) → i < m → share_sum (f i) f i m ≡ sum_upto m f
share_sum-all f i zero below = absurd (omega (arith, below))
share_sum-all f i (suc m) below = elim (cases_eq i m) [
  | inl same ↦
      share_sum-same (f i) f i m same ∙ share_sum-low (f i) f i m (omega (arith, same))
      ∙ sum-comm (f i) (sum_upto m f) ∙ ap (λ (k : ℕ). bit_xor (sum_upto m f) (f k)) same ∙ sym (sum_upto-more m f)
  | inr other ↦
      share_sum-other (f i) f i m other
      ∙ ap (λ (s : ℕ). bit_xor s (f m)) (share_sum-all f i m (omega (arith, below, other)))
      ∙ sym (sum_upto-more m f)
]

-- cells that are 0 add nothing
pub share_sum-none : (start i m : ℕ) → share_sum start (λ j. 0) i m ≡ start
unfolding share_sum
share_sum-none start i zero = refl
share_sum-none start i (suc m) = elim (cases_eq i m) [
  | inl same ↦ share_sum-same start (λ j. 0) i m same ∙ share_sum-none start i m
  | inr other ↦ share_sum-other start (λ j. 0) i m other ∙ sum-zero_right (share_sum start (λ j. 0) i m) ∙ share_sum-none start i m
]

-- of the sums of a row, column by column, the one behind the columns below m
pub share_sum-at : (start : ℕ) (cell : ℕ → ℕ) (i m : ℕ)
    → slice_index (share_sum start cell i 0 ∷ map (λ j. share_sum start cell i (suc j)) (others i m)) (length (others i m)) ≡ share_sum start cell i m
unfolding others
share_sum-at start cell i zero = refl
share_sum-at start cell i (suc m) =
    let sums : List ℕ → List ℕ = λ js. share_sum start cell i 0 ∷ map (λ j. share_sum start cell i (suc j)) js in
    let at : List ℕ → ℕ = λ js. slice_index (sums js) (length js) in
    elim (cases_eq i m) [
      | inl same ↦
          ap (λ (b : Bool). at (others i m ++ (if b then [] else m ∷ []))) (eq-eqb i m same)
          ∙ ap at (append-nil (others i m)) ∙ share_sum-at start cell i m ∙ sym (share_sum-same start cell i m same)
      | inr other ↦
          let long : length (sums (others i m)) ≡ length (others i m ++ m ∷ []) =
          omega (arith, length-map (others i m) (λ (j : ℕ). share_sum start cell i (suc j)), length-append (others i m) (m ∷ [])) in
          ap (λ (b : Bool). at (others i m ++ (if b then [] else m ∷ []))) (ne_eqb i m other)
          ∙ ap (λ (xs : List ℕ). slice_index (share_sum start cell i 0 ∷ xs) (length (others i m ++ m ∷ [])))
          (map-append (λ (j : ℕ). share_sum start cell i (suc j)) (others i m) (m ∷ []))
          ∙ get_or_push (sums (others i m)) (share_sum start cell i (suc m)) 0 (length (others i m ++ m ∷ [])) long
    ]

-- the sums of m shares and m columns, and of one more: they differ by the start of the last share, and for
-- each other share by the two cells of both
pub share_sums-more : (start : ℕ → ℕ) (cell : ℕ → ℕ → ℕ) (m : ℕ)
    → sum_upto (suc m) (λ i. share_sum (start i) (cell i) i (suc m))
    ≡ bit_xor (sum_upto m (λ i. share_sum (start i) (cell i) i m)) (bit_xor (start m) (sum_upto m (λ i. bit_xor (cell i m) (cell m i))))
share_sums-more start cell m =
    let s : ℕ → ℕ → ℕ = λ i k. share_sum (start i) (cell i) i k in
    let a : ℕ = sum_upto m (λ i. s i m) in
    let b : ℕ = sum_upto m (λ i. cell i m) in
    let c : ℕ = sum_upto m (cell m) in
    let front : sum_upto m (λ i. s i (suc m)) ≡ bit_xor a b =
    sum_upto-same m (λ i. s i (suc m)) (λ i. bit_xor (s i m) (cell i m)) (λ i below. share_sum-other (start i) (cell i) i m (λ e. omega (arith, e, below)))
    ∙ sum_upto-sums m (λ i. s i m) (λ i. cell i m) in
    let last : s m (suc m) ≡ bit_xor (start m) c =
    share_sum-same (start m) (cell m) m m refl ∙ share_sum-low (start m) (cell m) m m (omega arith) in
    sum_upto-more m (λ i. s i (suc m))
    ∙ ap (λ (x : ℕ). bit_xor x (s m (suc m))) front
    ∙ ap (bit_xor (bit_xor a b)) last
    ∙ sum-interchange a b (start m) c
    ∙ sum-assoc a (start m) (bit_xor b c)
    ∙ ap (λ (x : ℕ). bit_xor a (bit_xor (start m) x)) (sym (sum_upto-sums m (λ i. cell i m) (cell m)))

-- so they are the same where the starts are, and for each pair the sum of its cells
pub share_sums-same : (first second : ℕ → ℕ) (f g : ℕ → ℕ → ℕ) (n : ℕ)
    → ((i : ℕ) → i < n → first i ≡ second i)
    → ((i j : ℕ) → i < j → j < n → bit_xor (f i j) (f j i) ≡ bit_xor (g i j) (g j i))
    → sum_upto n (λ i. share_sum (first i) (f i) i n) ≡ sum_upto n (λ i. share_sum (second i) (g i) i n)
share_sums-same first second f g zero starts cells = refl
share_sums-same first second f g (suc n) starts cells =
    let before : sum_upto n (λ i. share_sum (first i) (f i) i n) ≡ sum_upto n (λ i. share_sum (second i) (g i) i n) =
    share_sums-same first second f g n (λ i below. starts i (omega (arith, below))) (λ i j order high. cells i j order (omega (arith, high))) in
    let both : sum_upto n (λ i. bit_xor (f i n) (f n i)) ≡ sum_upto n (λ i. bit_xor (g i n) (g n i)) =
    sum_upto-same n (λ i. bit_xor (f i n) (f n i)) (λ i. bit_xor (g i n) (g n i)) (λ i below. cells i n below (omega arith)) in
    share_sums-more first f n
    ∙ ap (λ (x : ℕ). bit_xor x (bit_xor (first n) (sum_upto n (λ i. bit_xor (f i n) (f n i))))) before
    ∙ ap (λ (x : ℕ). bit_xor (sum_upto n (λ i. share_sum (second i) (g i) i n)) (bit_xor x (sum_upto n (λ i. bit_xor (f i n) (f n i))))) (starts n (omega arith))
    ∙ ap (λ (x : ℕ). bit_xor (sum_upto n (λ i. share_sum (second i) (g i) i n)) (bit_xor (second n) x)) both
    ∙ sym (share_sums-more second g n)
