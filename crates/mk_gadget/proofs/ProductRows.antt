-- What the rows of the product compute behind the instructions of its pairs, and with it the whole product.
use Rattle.std.proofs.Common.{arith, ◌≡◌, ℕ, zero, suc, ◌+◌, ◌*◌, ◌<◌, ◌≤◌, List, [], ◌∷◌, ◌++◌, length, map, drop, get_or, slice_index, bit_xor, inl, inr, refl, sym, ◌∙◌, ap, subst, append_assoc, append-nil}
use Rattle.std.specs.List.{flat_map, range_with_len}
use Rattle.std.proofs.Math.Nat.{mul-le-mul_left}
use Rattle.std.proofs.lemmas.Bool.{cases_eq}
use Rattle.std.proofs.lemmas.List.{length-append, length-map, get_or-map, map-append}
use Rattle.std.proofs.lemmas.List.FromFn.{length-range_with_len, get_or-range_with_len}
use Rattle.mk_field.specs.declared.field.FieldId.{FieldId}
use Rattle.mk_field.specs.declared.map.AddMap.{AddMap}
use Rattle.mk_field.specs.Field.{product}
use Rattle.mk_code.specs.declared.instr.Instr.{Instr}
use Rattle.mk_code.specs.declared.instr.Instr.TheVariants.{Add, Mul}
use Rattle.mk_code.specs.Listing.{AllFit}
use Rattle.mk_code.specs.Trace.{run, randoms, entry}
use Rattle.mk_code.proofs.Runs.{run-append, run-push, randoms-append}
use Rattle.mk_gadget.specs.Pairs.{pairs, others}
use Rattle.mk_gadget.specs.Product.{cell_position, row_position, sum_position, product_pair, product_row, product_gadget}
use Rattle.mk_share.proofs.Banks.{range-more}
use Rattle.mk_gadget.proofs.Pairs.{pair, pairs-induct, others-same, others-other, length-others_high}
use Rattle.mk_gadget.proofs.Blocks.{length-blocks, blocks-at, blocks-more, map-blocks-more, old, own, run-next, run-done, randoms-blocks, AllFit-append, Each, each-none, each-cons, each-append}
use Rattle.mk_gadget.proofs.ShareSums.{share_sum, share_sum-other, share_sum-at}
use Rattle.mk_gadget.proofs.ProductRun.{ProductLabel, Cell, Cross, Half, Sum, product_labels_of, product_row_labels, product_labels, product_value_of, cell_of, cell_position-below, product_entries, length-product_entries, product-cell_at, product-pairs_run, product-pairs_fit}

-- a function of each of another function's values
map-map : {X Y Z : Type 0} (f : Y → Z) (g : X → Y) (xs : List X) → map f (map g xs) ≡ map (λ x. f (g x)) xs
map-map f g [] = refl
map-map f g (x ∷ xs) = ap (λ (ys : List _). f (g x) ∷ ys) (map-map f g xs)

-- one share more
pub range-last : (n : ℕ) → range_with_len 0 (suc n) ≡ range_with_len 0 n ++ n ∷ []
range-last n =
    let one : suc n ≡ n + 1 = omega arith in
    let here : 0 + n ≡ n = omega arith in
    ap (range_with_len 0) one ∙ range-more 0 n ∙ ap (λ (k : ℕ). range_with_len 0 n ++ k ∷ []) here

-- an instruction of row i
abbrev pub row_sum : ℕ → ℕ → ℕ → Instr
row_sum n i j = Add (sum_position n i j) (cell_position n i j)

-- how many instructions a row has
pub length-product_row : (n i : ℕ) → i < n → length (product_row n i) ≡ n
length-product_row n i low = omega (arith, length-map (others i n) (row_sum n i), length-others_high i n low)

-- and labels
length-row_labels : (n i : ℕ) → i < n → length (product_row_labels n i) ≡ n
length-row_labels n i low = omega (arith, length-map (others i n) (λ (j : ℕ). Sum i (suc j)), length-others_high i n low)

-- the first r shares are below r
range-each : {A : Type 0} (f : ℕ → List A) (n r : ℕ) → r ≤ n → ((i : ℕ) → i < n → length (f i) ≡ n)
    → (k : ℕ) → k < length (range_with_len 0 r) → length (f (get_or (range_with_len 0 r) k 0)) ≡ n
range-each f n r le each k below =
    let here : get_or (range_with_len 0 r) k 0 ≡ 0 + k = get_or-range_with_len 0 r k 0 (omega (arith, below, length-range_with_len 0 r)) in
    each (get_or (range_with_len 0 r) k 0) (omega (arith, here, below, length-range_with_len 0 r, le))

-- how many instructions r rows have
pub length-product_rows : (n r : ℕ) → r ≤ n → length (flat_map (product_row n) (range_with_len 0 r)) ≡ n * r
length-product_rows n r le =
    length-blocks (product_row n) n 0 (range_with_len 0 r) (range-each (product_row n) n r le (length-product_row n))
    ∙ ap (λ (k : ℕ). n * k) (length-range_with_len 0 r)

-- and labels
length-rows_labels : (n r : ℕ) → r ≤ n → length (flat_map (product_row_labels n) (range_with_len 0 r)) ≡ n * r
length-rows_labels n r le =
    length-blocks (product_row_labels n) n 0 (range_with_len 0 r) (range-each (product_row_labels n) n r le (length-row_labels n))
    ∙ ap (λ (k : ℕ). n * k) (length-range_with_len 0 r)

-- the shares and cells stand among the entries
record HasCells (field : FieldId) (n : ℕ) (tape state entries : List ℕ) : Type 0 where
  long : 2 * n + 5 * length (pairs n) ≤ length entries
  share : (k : ℕ) → k < 2 * n → slice_index entries k ≡ slice_index state k
  cell : (i j : ℕ) → i < n → j < n → (i ≡ j → ⊥) → slice_index entries (cell_position n i j) ≡ cell_of field n tape state i j

-- they do behind the instructions of the pairs,
pairs-cells : (field : FieldId) (n : ℕ) (tape state : List ℕ) → length state ≡ 2 * n → HasCells field n tape state (product_entries field n tape state (pairs n))
pairs-cells field n tape state count = record {
  long = omega (arith, length-product_entries field n tape state (pairs n) count);
  share = λ k below. old state (map (product_value_of field n tape state) (flat_map product_labels_of (pairs n))) k (omega (arith, below, count));
  cell = λ i j low high other. product-cell_at field n tape state i j count low high other;
}

-- and with more entries behind
more-cells : (field : FieldId) (n : ℕ) (tape state entries more : List ℕ) → HasCells field n tape state entries → HasCells field n tape state (entries ++ more)
more-cells field n tape state entries more has = record {
  long = omega (arith, has.long, length-append entries more);
  share = λ k below. old entries more k (omega (arith, below, has.long)) ∙ has.share k below;
  cell = λ i j low high other. old entries more (cell_position n i j) (omega (arith, cell_position-below n i j low high other, has.long)) ∙ has.cell i j low high other;
}

-- the value of a sum, among those of its row
row-sum_at : (field : FieldId) (n : ℕ) (tape state : List ℕ) (i m : ℕ)
    → slice_index (map (product_value_of field n tape state) (product_row_labels m i)) (length (others i m)) ≡ product_value_of field n tape state (Sum i m)
row-sum_at field n tape state i m =
    let value : ProductLabel → ℕ = product_value_of field n tape state in
    let start : ℕ = product field (slice_index state i) (slice_index state (n + i)) in
    ap (λ (vs : List ℕ). slice_index (value (Sum i 0) ∷ vs) (length (others i m))) (map-map value (λ (j : ℕ). Sum i (suc j)) (others i m))
    ∙ share_sum-at start (cell_of field n tape state i) i m

-- one sum more
row-more : (value : ProductLabel → ℕ) (i m : ℕ) (js : List ℕ)
    → map value (Sum i 0 ∷ map (λ j. Sum i (suc j)) (js ++ m ∷ [])) ≡ map value (Sum i 0 ∷ map (λ j. Sum i (suc j)) js) ++ value (Sum i (suc m)) ∷ []
row-more value i m js =
    ap (λ (ls : List ProductLabel). map value (Sum i 0 ∷ ls)) (map-append (λ (j : ℕ). Sum i (suc j)) js (m ∷ []))
    ∙ map-append value (Sum i 0 ∷ map (λ (j : ℕ). Sum i (suc j)) js) (Sum i (suc m) ∷ [])

-- the sums of row i in the columns below m
product-sums_run : (field : FieldId) (maps : List AddMap) (n : ℕ) (tape state rest entries : List ℕ) (i m : ℕ) → HasCells field n tape state entries
    → length entries ≡ row_position n i → i < n → m ≤ n
    → run field maps (map (row_sum n i) (others i m)) rest (entries ++ product_value_of field n tape state (Sum i 0) ∷ [])
    ≡ entries ++ map (product_value_of field n tape state) (product_row_labels m i)
unfolding others share_sum
product-sums_run field maps n tape state rest entries i zero has long low le = run-done field maps rest (entries ++ product_value_of field n tape state (Sum i 0) ∷ [])
product-sums_run field maps n tape state rest entries i (suc m) has long low le =
    let value : ProductLabel → ℕ = product_value_of field n tape state in
    let start : List ℕ = entries ++ value (Sum i 0) ∷ [] in
    let before : run field maps (map (row_sum n i) (others i m)) rest start ≡ entries ++ map value (product_row_labels m i) =
    product-sums_run field maps n tape state rest entries i m has long low (omega (arith, le)) in
    elim (cases_eq i m) [
      | inl same ↦
          ap (λ (js : List ℕ). run field maps (map (row_sum n i) js) rest start) (others-same i m same)
          ∙ before
          ∙ ap (λ (js : List ℕ). entries ++ map value (Sum i 0 ∷ map (λ j. Sum i (suc j)) js)) (sym (others-same i m same))
      | inr other ↦
          let vs : List ℕ = map value (product_row_labels m i) in
          let sum : slice_index (entries ++ vs) (sum_position n i m) ≡ value (Sum i m) =
          own entries vs (sum_position n i m) (length (others i m)) (omega (arith, long)) ∙ row-sum_at field n tape state i m in
          let cell : slice_index (entries ++ vs) (cell_position n i m) ≡ value (Cell i m) =
          (more-cells field n tape state entries vs has).cell i m low (omega (arith, le)) other in
          let next : bit_xor (slice_index (entries ++ vs) (sum_position n i m)) (slice_index (entries ++ vs) (cell_position n i m)) ≡ value (Sum i (suc m)) =
          ap (λ (u : ℕ). bit_xor u (slice_index (entries ++ vs) (cell_position n i m))) sum
          ∙ ap (bit_xor (value (Sum i m))) cell
          ∙ sym (share_sum-other (value (Sum i 0)) (cell_of field n tape state i) i m other) in
          ap (λ (js : List ℕ). run field maps (map (row_sum n i) js) rest start) (others-other i m other)
          ∙ ap (λ (is : List Instr). run field maps is rest start) (map-append (row_sum n i) (others i m) (m ∷ []))
          ∙ run-push field maps (map (row_sum n i) (others i m)) (row_sum n i m) rest start
          ∙ ap (λ (es : List ℕ). es ++ entry field maps (row_sum n i m) (slice_index rest (randoms (map (row_sum n i) (others i m)))) es ∷ []) before
          ∙ ap (λ (v : ℕ). (entries ++ vs) ++ v ∷ []) next
          ∙ append_assoc entries vs (value (Sum i (suc m)) ∷ [])
          ∙ ap (λ (ws : List ℕ). entries ++ ws) (sym (row-more value i m (others i m)))
          ∙ ap (λ (js : List ℕ). entries ++ map value (Sum i 0 ∷ map (λ j. Sum i (suc j)) js)) (sym (others-other i m other))
    ]

-- row i
product-row_run : (field : FieldId) (maps : List AddMap) (n : ℕ) (tape state rest entries : List ℕ) (i : ℕ) → HasCells field n tape state entries
    → length entries ≡ row_position n i → i < n
    → run field maps (product_row n i) rest entries ≡ entries ++ map (product_value_of field n tape state) (product_row_labels n i)
unfolding share_sum
product-row_run field maps n tape state rest entries i has long low =
    let value : ProductLabel → ℕ = product_value_of field n tape state in
    let first : product field (slice_index (entries ++ []) i) (slice_index (entries ++ []) (n + i)) ≡ value (Sum i 0) =
    ap (λ (es : List ℕ). product field (slice_index es i) (slice_index es (n + i))) (append-nil entries)
    ∙ ap (λ (u : ℕ). product field u (slice_index entries (n + i))) (has.share i (omega (arith, low)))
    ∙ ap (product field (slice_index state i)) (has.share (n + i) (omega (arith, low))) in
    ap (run field maps (product_row n i) rest) (sym (append-nil entries))
    ∙ run-next field maps (Mul i (n + i)) (map (row_sum n i) (others i n)) rest entries [] (value (Sum i 0)) first
    ∙ product-sums_run field maps n tape state (drop 0 rest) entries i n has long low (omega arith)

-- the first r rows, behind the instructions of the pairs
product-rows_run : (field : FieldId) (maps : List AddMap) (n : ℕ) (tape state rest : List ℕ) (r : ℕ) → length state ≡ 2 * n → r ≤ n
    → run field maps (flat_map (product_row n) (range_with_len 0 r)) rest (product_entries field n tape state (pairs n))
    ≡ product_entries field n tape state (pairs n) ++ map (product_value_of field n tape state) (flat_map (product_row_labels n) (range_with_len 0 r))
product-rows_run field maps n tape state rest zero count le =
    run-done field maps rest (product_entries field n tape state (pairs n)) ∙ sym (append-nil (product_entries field n tape state (pairs n)))
product-rows_run field maps n tape state rest (suc r) count le =
    let value : ProductLabel → ℕ = product_value_of field n tape state in
    let entries : List ℕ = product_entries field n tape state (pairs n) in
    let rows : List Instr = flat_map (product_row n) (range_with_len 0 r) in
    let vs : List ℕ = map value (flat_map (product_row_labels n) (range_with_len 0 r)) in
    let before : run field maps rows rest entries ≡ entries ++ vs = product-rows_run field maps n tape state rest r count (omega (arith, le)) in
    let long : length (entries ++ vs) ≡ row_position n r =
    omega (arith, length-append entries vs, length-product_entries field n tape state (pairs n) count, length-map (flat_map (product_row_labels n) (range_with_len 0 r)) value, length-rows_labels n r (omega (arith, le))) in
    ap (λ (is : List ℕ). run field maps (flat_map (product_row n) is) rest entries) (range-last r)
    ∙ ap (λ (is : List Instr). run field maps is rest entries) (blocks-more (product_row n) (range_with_len 0 r) r)
    ∙ run-append field maps rows (product_row n r) rest entries
    ∙ ap (run field maps (product_row n r) (drop (randoms rows) rest)) before
    ∙ product-row_run field maps n tape state (drop (randoms rows) rest) (entries ++ vs) r
    (more-cells field n tape state entries vs (pairs-cells field n tape state count)) long (omega (arith, le))
    ∙ append_assoc entries vs (map value (product_row_labels n r))
    ∙ ap (λ (ws : List ℕ). entries ++ ws) (sym (map-blocks-more value (product_row_labels n) (range_with_len 0 r) r))
    ∙ ap (λ (is : List ℕ). entries ++ map value (flat_map (product_row_labels n) is)) (sym (range-last r))

-- behind a state of 2 * n shares stand the values of all instructions of the product
pub product-run : (field : FieldId) (maps : List AddMap) (n : ℕ) (tape state : List ℕ) → length state ≡ 2 * n
    → run field maps (product_gadget n).instrs tape state ≡ state ++ map (product_value_of field n tape state) (product_labels n)
product-run field maps n tape state count =
    let value : ProductLabel → ℕ = product_value_of field n tape state in
    let crosses : List Instr = flat_map (product_pair n) (pairs n) in
    let front : List ProductLabel = flat_map product_labels_of (pairs n) in
    let back : List ProductLabel = flat_map (product_row_labels n) (range_with_len 0 n) in
    run-append field maps crosses (flat_map (product_row n) (range_with_len 0 n)) tape state
    ∙ ap (run field maps (flat_map (product_row n) (range_with_len 0 n)) (drop (randoms crosses) tape)) (product-pairs_run field maps n tape state count)
    ∙ product-rows_run field maps n tape state (drop (randoms crosses) tape) n count (omega arith)
    ∙ append_assoc state (map value front) (map value back)
    ∙ ap (λ (vs : List ℕ). state ++ vs) (sym (map-append value front back))

-- share s of the out bank
pub product-out : (field : FieldId) (maps : List AddMap) (n : ℕ) (tape state : List ℕ) (s : ℕ) → length state ≡ 2 * n → s < n
    → slice_index (run field maps (product_gadget n).instrs tape state) (sum_position n s n) ≡ product_value_of field n tape state (Sum s n)
product-out field maps n tape state s count low =
    let value : ProductLabel → ℕ = product_value_of field n tape state in
    let front : List ProductLabel = flat_map product_labels_of (pairs n) in
    let back : List ProductLabel = flat_map (product_row_labels n) (range_with_len 0 n) in
    let t : ℕ = length (others s n) in
    let within : t < n = omega (arith, length-others_high s n low) in
    let long : length front ≡ 5 * length (pairs n) = length-blocks product_labels_of 5 (pair 0 0) (pairs n) (λ k below. refl) in
    let many : length back ≡ n * n = length-rows_labels n n (omega arith) in
    let here : get_or (range_with_len 0 n) s 0 ≡ s = get_or-range_with_len 0 n s 0 low ∙ omega arith in
    let row : s + 1 ≤ n = omega (arith, low) in
    let inside : n * s + t < n * n = omega (arith, mul-le-mul_left n row, within) in
    ap (λ (es : List ℕ). slice_index es (sum_position n s n)) (product-run field maps n tape state count)
    ∙ ap (λ (vs : List ℕ). slice_index (state ++ vs) (sum_position n s n)) (map-append value front back)
    ∙ own state (map value front ++ map value back) (sum_position n s n) (5 * length (pairs n) + (n * s + t)) (omega (arith, count))
    ∙ own (map value front) (map value back) (5 * length (pairs n) + (n * s + t)) (n * s + t) (omega (arith, length-map front value, long))
    ∙ get_or-map value back (n * s + t) (Cell 0 0) 0 (omega (arith, inside, many))
    ∙ ap value (blocks-at (product_row_labels n) n 0 (Cell 0 0) (range_with_len 0 n) s t (range-each (product_row_labels n) n n (omega arith) (length-row_labels n)) (omega (arith, low, length-range_with_len 0 n)) within)
    ∙ ap (λ (i : ℕ). value (get_or (product_row_labels n i) t (Cell 0 0))) here
    ∙ sym (get_or-map value (product_row_labels n s) t (Cell 0 0) 0 (omega (arith, within, length-row_labels n s low)))
    ∙ row-sum_at field n tape state s n

-- where share s of the out bank stands
pub sum_position-inside : (n s : ℕ) → s < n → sum_position n s n < 2 * n + (5 * length (pairs n) + n * n)
sum_position-inside n s low =
    let row : s + 1 ≤ n = omega (arith, low) in
    omega (arith, mul-le-mul_left n row, length-others_high s n low)

-- how many instructions there are
pub length-product : (n : ℕ) → length (product_gadget n).instrs ≡ 5 * length (pairs n) + n * n
length-product n =
    omega (
      arith,
      length-append (flat_map (product_pair n) (pairs n)) (flat_map (product_row n) (range_with_len 0 n)),
      length-blocks (product_pair n) 5 (pair 0 0) (pairs n) (λ k below. refl),
      length-product_rows n n (omega arith),
    )

-- sums take no random element
randoms-sums : (n i : ℕ) (js : List ℕ) → randoms (map (row_sum n i) js) ≡ 0
unfolding randoms
randoms-sums n i [] = refl
randoms-sums n i (j ∷ js) = omega (arith, randoms-sums n i js)

-- nor do rows
randoms-row : (n i : ℕ) → randoms (product_row n i) ≡ 0
unfolding randoms
randoms-row n i = omega (arith, randoms-sums n i (others i n))

-- each pair takes one
pub randoms-product : (n : ℕ) → randoms (product_gadget n).instrs ≡ length (pairs n)
unfolding randoms
randoms-product n =
    omega (
      arith,
      randoms-append (flat_map (product_pair n) (pairs n)) (flat_map (product_row n) (range_with_len 0 n)),
      randoms-blocks (product_pair n) 1 (λ p. refl) (pairs n),
      randoms-blocks (product_row n) 0 (randoms-row n) (range_with_len 0 n),
    )

-- the sums of a row read what stands before them
product-sums_fit : (field : FieldId) (maps n len i m : ℕ) → i < n → m ≤ n → len ≡ row_position n i → AllFit field maps (len + 1) (map (row_sum n i) (others i m))
unfolding others
product-sums_fit field maps n len i zero low le here = tt
product-sums_fit field maps n len i (suc m) low le here =
    let before : AllFit field maps (len + 1) (map (row_sum n i) (others i m)) = product-sums_fit field maps n len i m low (omega (arith, le)) here in
    elim (cases_eq i m) [
      | inl same ↦ subst (λ (js : List ℕ). AllFit field maps (len + 1) (map (row_sum n i) js)) (sym (others-same i m same)) before
      | inr other ↦
          let long : length (map (row_sum n i) (others i m)) ≡ length (others i m) = length-map (others i m) (row_sum n i) in
          subst (λ (js : List ℕ). AllFit field maps (len + 1) (map (row_sum n i) js)) (sym (others-other i m other))
          (subst (AllFit field maps (len + 1)) (sym (map-append (row_sum n i) (others i m) (m ∷ [])))
          (AllFit-append field maps (len + 1) (map (row_sum n i) (others i m)) (row_sum n i m ∷ []) before
          ((omega (arith, long, here), omega (arith, here, cell_position-below n i m low (omega (arith, le)) other)), tt)))
    ]

-- and so do the rows
product-rows_fit : (field : FieldId) (maps n len r : ℕ) → r ≤ n → len ≡ 2 * n + 5 * length (pairs n) → AllFit field maps len (flat_map (product_row n) (range_with_len 0 r))
product-rows_fit field maps n len zero le here = tt
product-rows_fit field maps n len (suc r) le here =
    let rows : List Instr = flat_map (product_row n) (range_with_len 0 r) in
    let at : len + length rows ≡ row_position n r = omega (arith, here, length-product_rows n r (omega (arith, le))) in
    subst (λ (is : List ℕ). AllFit field maps len (flat_map (product_row n) is)) (sym (range-last r))
    (subst (AllFit field maps len) (sym (blocks-more (product_row n) (range_with_len 0 r) r))
    (AllFit-append field maps len rows (product_row n r) (product-rows_fit field maps n len r (omega (arith, le)) here)
    ((omega (arith, le, here), omega (arith, le, here)), product-sums_fit field maps n (len + length rows) r n (omega (arith, le)) (omega arith) at)))

-- the instructions read what stands before them
pub product-fits : (field : FieldId) (maps n : ℕ) → AllFit field maps (2 * n) (product_gadget n).instrs
product-fits field maps n =
    let crosses : List Instr = flat_map (product_pair n) (pairs n) in
    AllFit-append field maps (2 * n) crosses (flat_map (product_row n) (range_with_len 0 n)) (product-pairs_fit field maps n)
    (product-rows_fit field maps n (2 * n + length crosses) n (omega arith) (omega (arith, length-blocks (product_pair n) 5 (pair 0 0) (pairs n) (λ k below. refl))))

-- the labels that there are with n shares
abbrev pub IsProductLabel : ℕ → ProductLabel → Type 0
IsProductLabel n (Cell i j) = (i < n) × (j < n) × (i ≡ j → ⊥)
IsProductLabel n (Cross i j) = (i < n) × (j < n) × (i ≡ j → ⊥)
IsProductLabel n (Half i j) = (i < j) × (j < n)
IsProductLabel n (Sum i m) = (i < n) × (m ≤ n)

-- each label of a pair is one of these
pair-labels_each : (n i j : ℕ) → i < j → j < n → Each (IsProductLabel n) (Cell 0 0) (product_labels_of (pair i j))
pair-labels_each n i j order high =
    let P : ProductLabel → Type 0 = IsProductLabel n in
    let d : ProductLabel = Cell 0 0 in
    let low : i < n = omega (arith, order, high) in
    let there : (i < n) × (j < n) × (i ≡ j → ⊥) = (low, high, λ e. omega (arith, e, order)) in
    let back : (j < n) × (i < n) × (j ≡ i → ⊥) = (high, low, λ e. omega (arith, e, order)) in
    each-cons P d (Cell i j) (Cross i j ∷ Half i j ∷ Cross j i ∷ Cell j i ∷ []) there
    (each-cons P d (Cross i j) (Half i j ∷ Cross j i ∷ Cell j i ∷ []) there
    (each-cons P d (Half i j) (Cross j i ∷ Cell j i ∷ []) (order, high)
    (each-cons P d (Cross j i) (Cell j i ∷ []) back
    (each-cons P d (Cell j i) [] back (each-none P d)))))

-- each label of a row
row-labels_each : (n i m : ℕ) → i < n → m ≤ n → Each (IsProductLabel n) (Cell 0 0) (product_row_labels m i)
unfolding others
row-labels_each n i zero low le =
    each-cons (IsProductLabel n) (Cell 0 0) (Sum i 0) [] (low, le) (each-none (IsProductLabel n) (Cell 0 0))
row-labels_each n i (suc m) low le =
    let P : ProductLabel → Type 0 = IsProductLabel n in
    let d : ProductLabel = Cell 0 0 in
    let labels : List ℕ → List ProductLabel = λ js. Sum i 0 ∷ map (λ j. Sum i (suc j)) js in
    let before : Each P d (labels (others i m)) = row-labels_each n i m low (omega (arith, le)) in
    elim (cases_eq i m) [
      | inl same ↦ subst (λ (js : List ℕ). Each P d (labels js)) (sym (others-same i m same)) before
      | inr other ↦
          subst (λ (js : List ℕ). Each P d (labels js)) (sym (others-other i m other))
          (subst (λ (ls : List ProductLabel). Each P d (Sum i 0 ∷ ls)) (sym (map-append (λ (j : ℕ). Sum i (suc j)) (others i m) (m ∷ [])))
          (each-append P d (labels (others i m)) (Sum i (suc m) ∷ []) before (each-cons P d (Sum i (suc m)) [] (low, le) (each-none P d))))
    ]

-- each label of the first r rows
rows-labels_each : (n r : ℕ) → r ≤ n → Each (IsProductLabel n) (Cell 0 0) (flat_map (product_row_labels n) (range_with_len 0 r))
rows-labels_each n zero le = each-none (IsProductLabel n) (Cell 0 0)
rows-labels_each n (suc r) le =
    let P : ProductLabel → Type 0 = IsProductLabel n in
    subst (λ (is : List ℕ). Each P (Cell 0 0) (flat_map (product_row_labels n) is)) (sym (range-last r))
    (subst (Each P (Cell 0 0)) (sym (blocks-more (product_row_labels n) (range_with_len 0 r) r))
    (each-append P (Cell 0 0) (flat_map (product_row_labels n) (range_with_len 0 r)) (product_row_labels n r)
    (rows-labels_each n r (omega (arith, le))) (row-labels_each n r n (omega (arith, le)) (omega arith))))

-- each label
pub product-labels_each : (n : ℕ) → Each (IsProductLabel n) (Cell 0 0) (product_labels n)
product-labels_each n =
    let P : ProductLabel → Type 0 = IsProductLabel n in
    each-append P (Cell 0 0) (flat_map product_labels_of (pairs n)) (flat_map (product_row_labels n) (range_with_len 0 n))
    (pairs-induct n (λ ps. Each P (Cell 0 0) (flat_map product_labels_of ps)) n (omega arith)
    (λ i j before order high number numbered all.
    subst (Each P (Cell 0 0)) (sym (blocks-more product_labels_of before (pair i j)))
    (each-append P (Cell 0 0) (flat_map product_labels_of before) (product_labels_of (pair i j)) all (pair-labels_each n i j order high)))
    (each-none P (Cell 0 0)))
    (rows-labels_each n n (omega arith))

-- how many there are
pub length-product_labels : (n : ℕ) → length (product_labels n) ≡ length (product_gadget n).instrs
length-product_labels n =
    omega (
      arith,
      length-append (flat_map product_labels_of (pairs n)) (flat_map (product_row_labels n) (range_with_len 0 n)),
      length-blocks product_labels_of 5 (pair 0 0) (pairs n) (λ k below. refl),
      length-rows_labels n n (omega arith),
      length-product n,
    )

-- the value of instruction k is that of its label
pub product-instr : (field : FieldId) (maps : List AddMap) (n : ℕ) (tape state : List ℕ) (k : ℕ) → length state ≡ 2 * n → k < length (product_gadget n).instrs
    → slice_index (run field maps (product_gadget n).instrs tape state) (2 * n + k)
    ≡ product_value_of field n tape state (get_or (product_labels n) k (Cell 0 0))
product-instr field maps n tape state k count below =
    let value : ProductLabel → ℕ = product_value_of field n tape state in
    ap (λ (es : List ℕ). slice_index es (2 * n + k)) (product-run field maps n tape state count)
    ∙ own state (map value (product_labels n)) (2 * n + k) k (omega (arith, count))
    ∙ get_or-map value (product_labels n) k (Cell 0 0) 0 (omega (arith, below, length-product_labels n))
