-- What each instruction of the product computes, for every number of shares.
use Rattle.std.proofs.Common.{arith, ◌≡◌, ℕ, suc, ◌+◌, ◌*◌, ◌<◌, List, [], ◌∷◌, ◌++◌, length, map, drop, get_or, slice_index, bit_xor, nat_lt, if◌then◌else◌, inl, inr, refl, sym, ◌∙◌, ap, subst, append_assoc, append-nil}
use Rattle.std.specs.List.{flat_map, range_with_len}
use Rattle.std.proofs.lemmas.Bool.{cases_order, lt-ltb, le-ltb}
use Rattle.std.proofs.lemmas.List.{length-append, length-map, get_or-map}
use Rattle.mk_field.specs.declared.field.FieldId.{FieldId}
use Rattle.mk_field.specs.declared.map.AddMap.{AddMap}
use Rattle.mk_field.specs.Field.{product}
use Rattle.mk_field.proofs.Sum.{sum-assoc, sum-cancel}
use Rattle.mk_code.specs.declared.instr.Instr.{Instr}
use Rattle.mk_code.specs.declared.instr.Instr.TheVariants.{Rnd, Add, Mul}
use Rattle.mk_code.specs.Listing.{AllFit}
use Rattle.mk_code.specs.Trace.{run, randoms}
use Rattle.mk_code.proofs.Runs.{index-drop, run-append}
use Rattle.mk_gadget.specs.Pairs.{Pair, pairs, pair_number, others}
use Rattle.mk_gadget.specs.Product.{pair_position, cell_position, product_pair}
use Rattle.mk_gadget.proofs.Pairs.{pair, AreNumbered, pairs-numbered, pairs-induct, pair_number-below}
use Rattle.mk_gadget.proofs.Blocks.{length-blocks, blocks-at, blocks-more, map-blocks-more, old, own, run-next, run-done, randoms-blocks, AllFit-append}
use Rattle.mk_gadget.proofs.ShareSums.{share_sum}

-- the instructions of the product: the cell of row i and column j, the cross product of share i of the first
-- operand and share j of the second, the sum of the random element of shares i < j and their first cross
-- product, and the product of the shares i plus the cells of row i in the columns below m
pub data ProductLabel : Type 0 where
  Cell : ℕ → ℕ → ProductLabel
  Cross : ℕ → ℕ → ProductLabel
  Half : ℕ → ℕ → ProductLabel
  Sum : ℕ → ℕ → ProductLabel

-- those of a pair
abbrev pub product_labels_of : Pair → List ProductLabel
product_labels_of (i, j) = Cell i j ∷ Cross i j ∷ Half i j ∷ Cross j i ∷ Cell j i ∷ []

-- those of a row, as far as the columns below m
abbrev pub product_row_labels : ℕ → ℕ → List ProductLabel
product_row_labels m i = Sum i 0 ∷ map (λ j. Sum i (suc j)) (others i m)

-- all of them, in order
abbrev pub product_labels : ℕ → List ProductLabel
product_labels n = flat_map product_labels_of (pairs n) ++ flat_map (product_row_labels n) (range_with_len 0 n)

-- the cell of row i and column j, with these shares and these random elements of shares i < j
abbrev pub cell_value : FieldId → (ℕ → ℕ) → (ℕ → ℕ) → (ℕ → ℕ → ℕ) → ℕ → ℕ → ℕ
cell_value field x y z i j =
    if nat_lt i j then z i j else bit_xor (bit_xor (z j i) (product field (x j) (y i))) (product field (x i) (y j))

-- the value of an instruction
abbrev pub product_value : FieldId → (ℕ → ℕ) → (ℕ → ℕ) → (ℕ → ℕ → ℕ) → ProductLabel → ℕ
product_value field x y z (Cell i j) = cell_value field x y z i j
product_value field x y z (Cross i j) = product field (x i) (y j)
product_value field x y z (Half i j) = bit_xor (z i j) (product field (x i) (y j))
product_value field x y z (Sum i m) = share_sum (product field (x i) (y i)) (cell_value field x y z i) i m

-- it is so with the shares of a state and the elements of a tape
abbrev pub product_value_of : FieldId → ℕ → List ℕ → List ℕ → ProductLabel → ℕ
product_value_of field n tape state =
    product_value field (slice_index state) (λ j. slice_index state (n + j)) (λ i j. slice_index tape (pair_number n i j))

-- and so with cells
abbrev pub cell_of : FieldId → ℕ → List ℕ → List ℕ → ℕ → ℕ → ℕ
cell_of field n tape state i j = product_value_of field n tape state (Cell i j)

-- the cell of a later column is the random element,
pub cell-later : (field : FieldId) (x y : ℕ → ℕ) (z : ℕ → ℕ → ℕ) (i j : ℕ) → i < j → cell_value field x y z i j ≡ z i j
cell-later field x y z i j less = rw (lt-ltb i j less) refl

-- and that of an earlier one also has both cross products
pub cell-earlier : (field : FieldId) (x y : ℕ → ℕ) (z : ℕ → ℕ → ℕ) (i j : ℕ) → j < i
    → cell_value field x y z i j ≡ bit_xor (bit_xor (z j i) (product field (x j) (y i))) (product field (x i) (y j))
cell-earlier field x y z i j less = rw (le-ltb i j (omega (arith, less))) refl

-- the two cells of a pair are together both of its cross products
pub cells-pair : (field : FieldId) (x y : ℕ → ℕ) (z : ℕ → ℕ → ℕ) (i j : ℕ) → i < j
    → bit_xor (cell_value field x y z i j) (cell_value field x y z j i) ≡ bit_xor (product field (x i) (y j)) (product field (x j) (y i))
cells-pair field x y z i j order =
    let a : ℕ = product field (x i) (y j) in
    let b : ℕ = product field (x j) (y i) in
    ap (λ (c : ℕ). bit_xor c (cell_value field x y z j i)) (cell-later field x y z i j order)
    ∙ ap (bit_xor (z i j)) (cell-earlier field x y z j i order ∙ sum-assoc (z i j) a b)
    ∙ sum-cancel (z i j) (bit_xor a b)

-- where a cell stands
pub cell_position-later : (n i j : ℕ) → i < j → cell_position n i j ≡ pair_position n i j
cell_position-later n i j less = rw (lt-ltb i j less) refl

-- if its column is an earlier one
pub cell_position-earlier : (n i j : ℕ) → j < i → cell_position n i j ≡ pair_position n j i + 4
cell_position-earlier n i j less = rw (le-ltb i j (omega (arith, less))) refl

-- each cell stands among the instructions of the pairs
pub cell_position-below : (n i j : ℕ) → i < n → j < n → (i ≡ j → ⊥) → cell_position n i j < 2 * n + 5 * length (pairs n)
cell_position-below n i j low high other = elim (cases_order i j) [
  | inl same ↦ absurd (other same)
  | inr (inl less) ↦ omega (arith, cell_position-later n i j less, pair_number-below n n i j low less high)
  | inr (inr more) ↦ omega (arith, cell_position-earlier n i j more, pair_number-below n n j i high more low)
]

-- the entries behind a state once the instructions of these pairs are carried out
abbrev pub product_entries : FieldId → ℕ → List ℕ → List ℕ → List Pair → List ℕ
product_entries field n tape state ps = state ++ map (product_value_of field n tape state) (flat_map product_labels_of ps)

-- how many there are
pub length-product_entries : (field : FieldId) (n : ℕ) (tape state : List ℕ) (ps : List Pair) → length state ≡ 2 * n
    → length (product_entries field n tape state ps) ≡ 2 * n + 5 * length ps
length-product_entries field n tape state ps count =
    let value : ProductLabel → ℕ = product_value_of field n tape state in
    omega (arith, count, length-append state (map value (flat_map product_labels_of ps)), length-map (flat_map product_labels_of ps) value, length-blocks product_labels_of 5 (pair 0 0) ps (λ k below. refl))

-- instruction t of a pair
product-pair_at : (field : FieldId) (n : ℕ) (tape state : List ℕ) (ps : List Pair) (i j t : ℕ) → length state ≡ 2 * n → AreNumbered n ps → i < j → j < n
    → pair_number n i j < length ps → t < 5
    → slice_index (product_entries field n tape state ps) (pair_position n i j + t)
    ≡ product_value_of field n tape state (get_or (product_labels_of (pair i j)) t (Cell 0 0))
product-pair_at field n tape state ps i j t count numbered order high here within =
    let value : ProductLabel → ℕ = product_value_of field n tape state in
    let labels : List ProductLabel = flat_map product_labels_of ps in
    let k : ℕ = pair_number n i j in
    let long : length labels ≡ 5 * length ps = length-blocks product_labels_of 5 (pair 0 0) ps (λ l below. refl) in
    own state (map value labels) (pair_position n i j + t) (5 * k + t) (omega (arith, count))
    ∙ get_or-map value labels (5 * k + t) (Cell 0 0) 0 (omega (arith, here, within, long))
    ∙ ap value (blocks-at product_labels_of 5 (pair 0 0) (Cell 0 0) ps k t (λ l below. refl) here within)
    ∙ ap (λ (p : Pair). value (get_or (product_labels_of p) t (Cell 0 0))) (numbered.at i j order high here)

-- the cell of a row and another column
pub product-cell_at : (field : FieldId) (n : ℕ) (tape state : List ℕ) (i j : ℕ) → length state ≡ 2 * n → i < n → j < n → (i ≡ j → ⊥)
    → slice_index (product_entries field n tape state (pairs n)) (cell_position n i j) ≡ cell_of field n tape state i j
product-cell_at field n tape state i j count low high other =
    let entries : List ℕ = product_entries field n tape state (pairs n) in
    elim (cases_order i j) [
      | inl same ↦ absurd (other same)
      | inr (inl less) ↦
          ap (slice_index entries) (let e : pair_position n i j ≡ pair_position n i j + 0 = omega arith in cell_position-later n i j less ∙ e)
          ∙ product-pair_at field n tape state (pairs n) i j 0 count (pairs-numbered n) less high (pair_number-below n n i j low less high) (omega arith)
      | inr (inr more) ↦
          ap (slice_index entries) (cell_position-earlier n i j more)
          ∙ product-pair_at field n tape state (pairs n) j i 4 count (pairs-numbered n) more low (pair_number-below n n j i high more low) (omega arith)
    ]

-- the instructions of one more pair, behind those of the pairs before
product-step : (field : FieldId) (maps : List AddMap) (n : ℕ) (tape state : List ℕ) (i j : ℕ) (before : List Pair) → length state ≡ 2 * n → i < j → j < n
    → length before ≡ pair_number n i j
    → run field maps (flat_map (product_pair n) before) tape state ≡ product_entries field n tape state before
    → run field maps (flat_map (product_pair n) (before ++ pair i j ∷ [])) tape state ≡ product_entries field n tape state (before ++ pair i j ∷ [])
unfolding randoms
product-step field maps n tape state i j before count order high number ran =
    let x : ℕ → ℕ = slice_index state in
    let y : ℕ → ℕ = λ k. slice_index state (n + k) in
    let z : ℕ → ℕ → ℕ = λ k l. slice_index tape (pair_number n k l) in
    let value : ProductLabel → ℕ = product_value_of field n tape state in
    let more : List ℕ = map value (flat_map product_labels_of before) in
    let entries : List ℕ = state ++ more in
    let position : ℕ = pair_position n i j in
    let rest : List ℕ = drop (randoms (flat_map (product_pair n) before)) tape in
    let long : length entries ≡ position = omega (arith, length-product_entries field n tape state before count, number) in
    let word : slice_index rest 0 ≡ value (Cell i j) =
    index-drop (randoms (flat_map (product_pair n) before)) tape
    ∙ ap (slice_index tape) (let e : randoms (flat_map (product_pair n) before) ≡ 1 * length before = randoms-blocks (product_pair n) 1 (λ p. refl) before in omega (arith, e, number))
    ∙ sym (cell-later field x y z i j order) in
    let share : (k : ℕ) (vs : List ℕ) → k < 2 * n → slice_index (entries ++ vs) k ≡ slice_index state k =
    λ k vs below. old entries vs k (omega (arith, below, length-append state more, count)) ∙ old state more k (omega (arith, below, count)) in
    let cross : (a b : ℕ) (vs : List ℕ) → a < n → b < n → product field (slice_index (entries ++ vs) a) (slice_index (entries ++ vs) (n + b)) ≡ value (Cross a b) =
    λ a b vs first second.
    ap (λ (u : ℕ). product field u (slice_index (entries ++ vs) (n + b))) (share a vs (omega (arith, first)))
    ∙ ap (product field (x a)) (share (n + b) vs (omega (arith, second))) in
    let at : (t : ℕ) (vs : List ℕ) → slice_index (entries ++ vs) (position + t) ≡ slice_index vs t =
    λ t vs. own entries vs (position + t) t (omega (arith, long)) in
    let vs1 : List ℕ = value (Cell i j) ∷ [] in
    let vs2 : List ℕ = value (Cell i j) ∷ value (Cross i j) ∷ [] in
    let vs3 : List ℕ = value (Cell i j) ∷ value (Cross i j) ∷ value (Half i j) ∷ [] in
    let vs4 : List ℕ = value (Cell i j) ∷ value (Cross i j) ∷ value (Half i j) ∷ value (Cross j i) ∷ [] in
    let half : bit_xor (slice_index (entries ++ vs2) position) (slice_index (entries ++ vs2) (position + 1)) ≡ value (Half i j) =
    ap (λ (u : ℕ). bit_xor u (slice_index (entries ++ vs2) (position + 1))) (own entries vs2 position 0 (omega (arith, long)) ∙ cell-later field x y z i j order)
    ∙ ap (bit_xor (z i j)) (at 1 vs2) in
    let cell : bit_xor (slice_index (entries ++ vs4) (position + 2)) (slice_index (entries ++ vs4) (position + 3)) ≡ value (Cell j i) =
    ap (λ (u : ℕ). bit_xor u (slice_index (entries ++ vs4) (position + 3))) (at 2 vs4)
    ∙ ap (bit_xor (value (Half i j))) (at 3 vs4)
    ∙ sym (cell-earlier field x y z j i order) in
    let one : List ℕ → List ℕ = λ (es : List ℕ). run field maps (product_pair n (pair i j)) rest es in
    ap (λ (is : List Instr). run field maps is tape state) (blocks-more (product_pair n) before (pair i j))
    ∙ run-append field maps (flat_map (product_pair n) before) (product_pair n (pair i j)) tape state
    ∙ ap one (ran ∙ sym (append-nil entries))
    ∙ run-next field maps Rnd _ rest entries [] (value (Cell i j)) word
    ∙ run-next field maps (Mul i (n + j)) _ (drop 1 rest) entries vs1 (value (Cross i j)) (cross i j vs1 (omega (arith, order, high)) high)
    ∙ run-next field maps (Add position (position + 1)) _ (drop 0 (drop 1 rest)) entries vs2 (value (Half i j)) half
    ∙ run-next field maps (Mul j (n + i)) _ (drop 0 (drop 0 (drop 1 rest))) entries vs3 (value (Cross j i)) (cross j i vs3 high (omega (arith, order, high)))
    ∙ run-next field maps (Add (position + 2) (position + 3)) [] (drop 0 (drop 0 (drop 0 (drop 1 rest)))) entries vs4 (value (Cell j i)) cell
    ∙ run-done field maps _ (entries ++ (vs4 ++ value (Cell j i) ∷ []))
    ∙ append_assoc state more (vs4 ++ value (Cell j i) ∷ [])
    ∙ ap (λ (vs : List ℕ). state ++ vs) (sym (map-blocks-more value product_labels_of before (pair i j)))

-- behind a state of 2 * n shares stand the values of the instructions of all pairs
pub product-pairs_run : (field : FieldId) (maps : List AddMap) (n : ℕ) (tape state : List ℕ) → length state ≡ 2 * n
    → run field maps (flat_map (product_pair n) (pairs n)) tape state ≡ product_entries field n tape state (pairs n)
product-pairs_run field maps n tape state count =
    pairs-induct n (λ ps. run field maps (flat_map (product_pair n) ps) tape state ≡ product_entries field n tape state ps) n (omega arith)
    (λ i j before order high number numbered ran. product-step field maps n tape state i j before count order high number ran)
    (run-done field maps tape state ∙ sym (append-nil state))

-- the instructions of the pairs read what stands before them
pub product-pairs_fit : (field : FieldId) (maps n : ℕ) → AllFit field maps (2 * n) (flat_map (product_pair n) (pairs n))
product-pairs_fit field maps n =
    pairs-induct n (λ ps. AllFit field maps (2 * n) (flat_map (product_pair n) ps)) n (omega arith)
    (λ i j before order high number numbered fit.
    let long : length (flat_map (product_pair n) before) ≡ 5 * length before = length-blocks (product_pair n) 5 (pair 0 0) before (λ k below. refl) in
    subst (AllFit field maps (2 * n)) (sym (blocks-more (product_pair n) before (pair i j)))
    (AllFit-append field maps (2 * n) (flat_map (product_pair n) before) (product_pair n (pair i j)) fit (
      tt,
      (
        (omega (arith, order, high), omega (arith, high)),
        (
          (omega (arith, long, number), omega (arith, long, number)),
          (
            (omega (arith, high), omega (arith, order, high)),
            ((omega (arith, long, number), omega (arith, long, number)), tt),
          ),
        ),
      ),
    )))
    tt
