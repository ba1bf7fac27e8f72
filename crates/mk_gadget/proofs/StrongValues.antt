-- The refresh gives its operand's value, and the product that of both.
use Rattle.std.proofs.Common.{arith, ◌≡◌, ℕ, ◌+◌, ◌*◌, ◌<◌, List, ◌++◌, length, map, slice_index, bit_xor, refl, sym, ◌∙◌, ap, subst}
use Rattle.std.specs.List.{range_with_len}
use Rattle.std.proofs.lemmas.List.{map-append}
use Rattle.std.proofs.lemmas.List.FromFn.{length-map-range_with_len, fill_by_all}
use Rattle.mk_field.specs.declared.field.FieldId.{FieldId}
use Rattle.mk_field.specs.declared.map.AddMap.{AddMap}
use Rattle.mk_field.specs.Field.{size, product}
use Rattle.mk_field.specs.Sharing.{field_sum}
use Rattle.mk_field.proofs.Sum.{sum-self}
use Rattle.mk_field.proofs.Product.{product-sum_left, product-sum_right, product-zero_left, product-zero_right}
use Rattle.mk_code.specs.Listing.{AllFit}
use Rattle.mk_code.specs.Trace.{run}
use Rattle.mk_code.specs.Counting.{AllBelow}
use Rattle.mk_code.specs.Private.{observation}
use Rattle.mk_code.proofs.Totals.{AllBelow-append}
use Rattle.mk_gadget.specs.Gadget.{Gadget, placement, placed, placed_outs}
use Rattle.mk_gadget.specs.Emitted.{Gives, shared_at}
use Rattle.mk_gadget.specs.Pairs.{pairs, pair_number}
use Rattle.mk_gadget.specs.Refresh.{refresh_sum, refresh_gadget}
use Rattle.mk_gadget.specs.Product.{sum_position, product_gadget}
use Rattle.mk_gadget.proofs.Ranges.{map-range-same, map-map-range}
use Rattle.mk_code.proofs.Steps.{AllBelow-at}
use Rattle.mk_gadget.proofs.Rows.{field_sum-additive}
use Rattle.mk_gadget.proofs.Values.{two-banks}
use Rattle.mk_gadget.proofs.Placed.{PlacedLaw-holds}
use Rattle.mk_code.proofs.Observations.{length-observation, observation-at}
use Rattle.mk_gadget.proofs.Blocks.{old, own}
use Rattle.mk_gadget.proofs.ShareSums.{share_sum, share_sum-none, share_sum-all, share_sums-same, sum_upto, sum_upto-same}
use Rattle.mk_gadget.proofs.RefreshRun.{random_of, random_of-comm, refresh_sum-below, all-done, refresh-fits, length-refresh, refresh-out}
use Rattle.mk_gadget.proofs.ProductRun.{Sum, product_value, cell_value, cells-pair}
use Rattle.mk_gadget.proofs.ProductRows.{product-fits, length-product, product-out, sum_position-inside}

-- the out bank of a placed gadget, share by share
placed-bank : (field : FieldId) (maps : List AddMap) (gadget : Gadget) (count n : ℕ) (share : ℕ → ℕ) (reads tape entries : List ℕ)
    → AllBelow (length entries) reads → AllFit field count (length reads) gadget.instrs
    → gadget.outs ≡ map share (range_with_len 0 n) → ((s : ℕ) → s < n → share s < length reads + length gadget.instrs)
    → observation (placed_outs reads (length entries) gadget) (run field maps (placed reads (length entries) gadget) tape entries)
    ≡ map (λ s. slice_index (run field maps gadget.instrs tape (observation reads entries)) (share s)) (range_with_len 0 n)
placed-bank field maps gadget count n share reads tape entries below fit outs inside =
    let to : ℕ → ℕ = placement reads (length entries) in
    let after : List ℕ = run field maps (placed reads (length entries) gadget) tape entries in
    let alone : List ℕ = run field maps gadget.instrs tape (observation reads entries) in
    ap (λ (positions : List ℕ). observation (map to positions) after) outs
    ∙ ap (λ (positions : List ℕ). observation positions after) (map-map-range to share 0 n)
    ∙ map-map-range (λ (p : ℕ). slice_index after p) (λ (s : ℕ). to (share s)) 0 n
    ∙ map-range-same (λ s. slice_index after (to (share s))) (λ s. slice_index alone (share s)) 0 n
    (λ s low high. (PlacedLaw-holds field maps).entry gadget count (share s) reads tape entries below fit (inside s (omega (arith, high))))

-- a list is its entries
listed : (xs : List ℕ) (n : ℕ) → length xs ≡ n → sum_upto n (slice_index xs) ≡ field_sum xs
listed xs n count = ap field_sum (sym (fill_by_all (slice_index xs) xs n 0 count (λ k below. refl)))

-- the refresh gives its operand's value
pub refresh-gives : (field : FieldId) (maps : List AddMap) (n base : ℕ) (xs : List ℕ) → length xs ≡ n → AllBelow base xs
    → Gives field maps n base xs (refresh_gadget n) (λ entries. shared_at xs entries)
refresh-gives field maps n base xs count here tape entries len elements =
    let state : List ℕ = observation xs entries in
    let shares : length state ≡ n = length-observation xs entries ∙ count in
    let x : ℕ → ℕ = slice_index state in
    let r : ℕ → ℕ → ℕ = random_of n tape in
    let outs : List ℕ = map (λ s. share_sum (x s) (r s) s n) (range_with_len 0 n) in
    let seen : observation (placed_outs xs base (refresh_gadget n)) (run field maps (placed xs base (refresh_gadget n)) tape entries) ≡ outs =
    subst (λ (b : ℕ). observation (placed_outs xs b (refresh_gadget n)) (run field maps (placed xs b (refresh_gadget n)) tape entries) ≡ outs) len
    (placed-bank field maps (refresh_gadget n) 0 n (λ s. refresh_sum n s n) xs tape entries (subst (λ (b : ℕ). AllBelow b xs) (sym len) here)
    (subst (λ (k : ℕ). AllFit field 0 k (refresh_gadget n).instrs) (sym count) (refresh-fits field 0 n)) refl
    (λ s low. omega (arith, refresh_sum-below n s n (length (pairs n)) low (all-done n s low), count, length-refresh n))
    ∙ map-range-same (λ s. slice_index (run field maps (refresh_gadget n).instrs tape state) (refresh_sum n s n)) (λ s. share_sum (x s) (r s) s n) 0 n
    (λ s low high. refresh-out field maps n tape state s shares (omega (arith, high)))) in
    let sum : sum_upto n (λ s. share_sum (x s) (r s) s n) ≡ shared_at xs entries =
    share_sums-same x x r (λ i j. 0) n (λ i below. refl)
    (λ i j order high. ap (bit_xor (r i j)) (random_of-comm n tape i j order) ∙ sum-self (r i j))
    ∙ sum_upto-same n (λ s. share_sum (x s) (λ j. 0) s n) x (λ s below. share_sum-none (x s) s n)
    ∙ listed state n shares in
    record { count = ap length seen ∙ length-map-range_with_len (λ s. share_sum (x s) (r s) s n) 0 n; sum = ap field_sum seen ∙ sum }

-- the sums of the products of each share with each are the product of the sums
product-of_sums : (field : FieldId) (x y : ℕ → ℕ) (n : ℕ) → ((i : ℕ) → i < n → x i < size field) → ((j : ℕ) → j < n → y j < size field)
    → sum_upto n (λ i. sum_upto n (λ j. product field (x i) (y j))) ≡ product field (sum_upto n x) (sum_upto n y)
product-of_sums field x y n left right =
    sum_upto-same n (λ i. sum_upto n (λ j. product field (x i) (y j))) (λ i. product field (x i) (sum_upto n y))
    (λ i below. field_sum-additive field (product field (x i)) y 0 n (λ a b first second. product-sum_right field (x i) a b) (product-zero_right field (x i))
    (λ j low high. right j (omega (arith, high))))
    ∙ field_sum-additive field (λ a. product field a (sum_upto n y)) x 0 n (λ a b first second. product-sum_left field a b (sum_upto n y) first second)
    (product-zero_left field (sum_upto n y)) (λ i low high. left i (omega (arith, high)))

-- the rows of the product share the product
product-sums : (field : FieldId) (n : ℕ) (x y : ℕ → ℕ) (z : ℕ → ℕ → ℕ) → ((i : ℕ) → i < n → x i < size field) → ((j : ℕ) → j < n → y j < size field)
    → sum_upto n (λ s. product_value field x y z (Sum s n)) ≡ product field (sum_upto n x) (sum_upto n y)
product-sums field n x y z left right =
    let xy : ℕ → ℕ → ℕ = λ i j. product field (x i) (y j) in
    share_sums-same (λ s. xy s s) (λ s. xy s s) (cell_value field x y z) xy n (λ i below. refl) (λ i j order high. cells-pair field x y z i j order)
    ∙ sum_upto-same n (λ s. share_sum (xy s s) (xy s) s n) (λ s. sum_upto n (xy s)) (λ s below. share_sum-all (xy s) s n below)
    ∙ product-of_sums field x y n left right

-- the product gives that of its operands' values
pub product-gives : (field : FieldId) (maps : List AddMap) (n base : ℕ) (xs ys : List ℕ) → length xs ≡ n → length ys ≡ n → AllBelow base xs → AllBelow base ys
    → Gives field maps n base (xs ++ ys) (product_gadget n) (λ entries. product field (shared_at xs entries) (shared_at ys entries))
product-gives field maps n base xs ys left right here there tape entries len elements =
    let reads : List ℕ = xs ++ ys in
    let state : List ℕ = observation reads entries in
    let count : length reads ≡ 2 * n = two-banks xs ys n left right in
    let shares : length state ≡ 2 * n = length-observation reads entries ∙ count in
    let parts : state ≡ observation xs entries ++ observation ys entries = map-append (λ p. slice_index entries p) xs ys in
    let first : length (observation xs entries) ≡ n = length-observation xs entries ∙ left in
    let second : length (observation ys entries) ≡ n = length-observation ys entries ∙ right in
    let x : ℕ → ℕ = slice_index state in
    let y : ℕ → ℕ = λ j. slice_index state (n + j) in
    let z : ℕ → ℕ → ℕ = λ i j. slice_index tape (pair_number n i j) in
    let share : ℕ → ℕ = λ s. product_value field x y z (Sum s n) in
    let below : AllBelow (length entries) reads = subst (λ (b : ℕ). AllBelow b reads) (sym len) (AllBelow-append base xs ys here there) in
    let element : (k : ℕ) → k < 2 * n → slice_index state k < size field =
    λ k low. subst (λ (v : ℕ). v < size field) (sym (observation-at reads entries k (omega (arith, low, count))))
    (AllBelow-at (size field) entries (slice_index reads k) elements (AllBelow-at (length entries) reads k below (omega (arith, low, count)))) in
    let seen : observation (placed_outs reads base (product_gadget n)) (run field maps (placed reads base (product_gadget n)) tape entries) ≡ map share (range_with_len 0 n) =
    subst (λ (b : ℕ). observation (placed_outs reads b (product_gadget n)) (run field maps (placed reads b (product_gadget n)) tape entries) ≡ map share (range_with_len 0 n)) len
    (placed-bank field maps (product_gadget n) 0 n (λ s. sum_position n s n) reads tape entries below
    (subst (λ (k : ℕ). AllFit field 0 k (product_gadget n).instrs) (sym count) (product-fits field 0 n)) refl
    (λ s low. omega (arith, sum_position-inside n s low, count, length-product n))
    ∙ map-range-same (λ s. slice_index (run field maps (product_gadget n).instrs tape state) (sum_position n s n)) share 0 n
    (λ s low high. product-out field maps n tape state s shares (omega (arith, high)))) in
    let left_sum : sum_upto n x ≡ shared_at xs entries =
    sum_upto-same n x (slice_index (observation xs entries))
    (λ i low. ap (λ (vs : List ℕ). slice_index vs i) parts ∙ old (observation xs entries) (observation ys entries) i (omega (arith, low, first)))
    ∙ listed (observation xs entries) n first in
    let right_sum : sum_upto n y ≡ shared_at ys entries =
    sum_upto-same n y (slice_index (observation ys entries))
    (λ j low. ap (λ (vs : List ℕ). slice_index vs (n + j)) parts ∙ own (observation xs entries) (observation ys entries) (n + j) j (omega (arith, first)))
    ∙ listed (observation ys entries) n second in
    let sum : sum_upto n share ≡ product field (shared_at xs entries) (shared_at ys entries) =
    product-sums field n x y z (λ i low. element i (omega (arith, low))) (λ j low. element (n + j) (omega (arith, low)))
    ∙ ap (λ (a : ℕ). product field a (sum_upto n y)) left_sum
    ∙ ap (product field (shared_at xs entries)) right_sum in
    record { count = ap length seen ∙ length-map-range_with_len share 0 n; sum = ap field_sum seen ∙ sum }
