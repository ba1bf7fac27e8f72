-- The product is strong. A probed cell or sum makes its share a row, and each other probed instruction
-- belongs to a pair of shares. A share is free that is no row, no seen output, and of whose pairs with seen
-- outputs none is probed.
use Rattle.std.proofs.Common.{arith, Bool, true, false, ◌≡◌, ◌≢◌, ℕ, zero, suc, ◌+◌, ◌*◌, ◌<◌, ◌≤◌, List, ◌++◌, length, map, get_or, slice_index, bit_xor, nat_eq, if◌then◌else◌, inl, inr, refl, sym, ◌∙◌, ap, subst, eq-eqb}
use Rattle.std.specs.List.{Contains, list_any}
use Rattle.std.proofs.lemmas.Bool.{cases_Bool, cond-true, cond-false, eqb-true, true≢false, false_from_ne_true}
use Rattle.std.proofs.lemmas.List.{length-append, length-map}
use Rattle.std.proofs.lemmas.List.Elements.{Contains-append_left, Contains-append_right}
use Rattle.mk_base.proofs.Lists.{Contains-map}
use Rattle.mk_field.specs.declared.field.FieldId.{FieldId}
use Rattle.mk_field.specs.declared.map.AddMap.{AddMap}
use Rattle.mk_field.specs.Field.{size, product}
use Rattle.mk_field.specs.Sharing.{added}
use Rattle.mk_field.proofs.Sum.{sum-in_field}
use Rattle.mk_field.proofs.Product.{product-in_field}
use Rattle.mk_code.specs.Trace.{run}
use Rattle.mk_code.specs.Counting.{AllBelow}
use Rattle.mk_code.specs.Private.{observation}
use Rattle.mk_code.proofs.LeftOut.{IsLeftOut, left_out}
use Rattle.mk_gadget.specs.Pairs.{Pair, pairs, pair_number}
use Rattle.mk_gadget.specs.Product.{sum_position, product_gadget}
use Rattle.mk_gadget.specs.Steady.{block_view, IsStrong}
use Rattle.mk_gadget.proofs.Steady.{below-held}
use Rattle.mk_gadget.proofs.ProductRun.{ProductLabel, Cell, Cross, Half, Sum, product_labels}
use Rattle.mk_gadget.proofs.ProductRows.{IsProductLabel, product-labels_each, length-product_labels, product-instr, product-out, randoms-product}
use Rattle.mk_gadget.proofs.Coupling.{coupled, depends-unpublic, view-same, out-at, for_pairs, for_pairs-below, for_pairs-added, left_out-other, any-held, any-found}
use Rattle.mk_gadget.proofs.Mended.{element-at}
use Rattle.mk_gadget.proofs.Moves.{Plan, IsPlan, IsUnmended, move, half-kept, move-element}
use Rattle.mk_gadget.proofs.ProductKept.{IsKept, Runs, AreMoved, gap-none, value-kept, output-stays}

-- an instruction of row i
abbrev is_of_row : ℕ → ProductLabel → Bool
is_of_row i (Cell row j) = nat_eq row i
is_of_row i (Cross a b) = false
is_of_row i (Half a b) = false
is_of_row i (Sum row m) = nat_eq row i

-- the share of the first operand that an instruction asks for: its row, or the first of a pair, or the other
-- of a pair whose first is a row
abbrev left_of : (ℕ → Bool) → ProductLabel → ℕ
left_of is_row (Cell row j) = row
left_of is_row (Cross a b) = if is_row a then b else a
left_of is_row (Half a b) = if is_row a then b else a
left_of is_row (Sum row m) = row

-- and of the second operand: its row, or the second of a pair, or the other of a pair whose second is a row
abbrev right_of : (ℕ → Bool) → ProductLabel → ℕ
right_of is_row (Cell row j) = row
right_of is_row (Cross a b) = if is_row b then a else b
right_of is_row (Half a b) = if is_row b then a else b
right_of is_row (Sum row m) = row

-- the share that can't be free: its row, or one of a pair, if possible not a seen output
abbrev barred : (ℕ → Bool) → ProductLabel → ℕ
barred is_seen (Cell row j) = row
barred is_seen (Cross a b) = if is_seen a then b else a
barred is_seen (Half a b) = if is_seen a then b else a
barred is_seen (Sum row m) = row

-- an instruction of a row asks for the row of the first operand,
row-left : (is_row : ℕ → Bool) (i : ℕ) (label : ProductLabel) → is_of_row i label ≡ true → left_of is_row label ≡ i
row-left is_row i (Cell row j) own = eqb-true row i own
row-left is_row i (Cross a b) own = absurd (true≢false (sym own))
row-left is_row i (Half a b) own = absurd (true≢false (sym own))
row-left is_row i (Sum row m) own = eqb-true row i own

-- and of the second,
row-right : (is_row : ℕ → Bool) (i : ℕ) (label : ProductLabel) → is_of_row i label ≡ true → right_of is_row label ≡ i
row-right is_row i (Cell row j) own = eqb-true row i own
row-right is_row i (Cross a b) own = absurd (true≢false (sym own))
row-right is_row i (Half a b) own = absurd (true≢false (sym own))
row-right is_row i (Sum row m) own = eqb-true row i own

-- and bars it
row-barred : (is_seen : ℕ → Bool) (i : ℕ) (label : ProductLabel) → is_of_row i label ≡ true → barred is_seen label ≡ i
row-barred is_seen i (Cell row j) own = eqb-true row i own
row-barred is_seen i (Cross a b) own = absurd (true≢false (sym own))
row-barred is_seen i (Half a b) own = absurd (true≢false (sym own))
row-barred is_seen i (Sum row m) own = eqb-true row i own

-- the instruction of this number
abbrev label_of : ℕ → ℕ → ProductLabel
label_of n k = get_or (product_labels n) k (Cell 0 0)

-- whether a probed instruction is of this row
abbrev rows : ℕ → List ℕ → ℕ → Bool
rows n probes i = list_any (λ k. is_of_row i (label_of n k)) probes

-- whether this output is seen
abbrev shown : List ℕ → ℕ → Bool
shown outs i = list_any (λ o. nat_eq o i) outs

-- the shares that are asked for, of the first operand and of the second
abbrev asked_of : ℕ → List ℕ → ℕ → List ℕ
asked_of n probes zero = map (λ k. left_of (rows n probes) (label_of n k)) probes
asked_of n probes (suc operand) = map (λ k. right_of (rows n probes) (label_of n k)) probes

-- they are no more than the probes
length-asked : (n : ℕ) (probes : List ℕ) (operand : ℕ) → length (asked_of n probes operand) ≤ length probes
length-asked n probes zero = omega (arith, length-map probes (λ k. left_of (rows n probes) (label_of n k)))
length-asked n probes (suc operand) = omega (arith, length-map probes (λ k. right_of (rows n probes) (label_of n k)))

-- the shares that can't be free
abbrev taken : ℕ → List ℕ → List ℕ → List ℕ
taken n probes outs = map (λ k. barred (shown outs) (label_of n k)) probes ++ outs

-- the free share is no row,
free-no_row : (n free : ℕ) (probes outs : List ℕ) → IsLeftOut free (taken n probes outs) → rows n probes free ≡ false
free-no_row n free probes outs out = false_from_ne_true (rows n probes free) (λ row.
    let found : (k : ℕ) × Contains probes k × (is_of_row free (label_of n k) ≡ true) = any-found (λ k. is_of_row free (label_of n k)) probes row in
    let bars : List ℕ = map (λ k. barred (shown outs) (label_of n k)) probes in
    left_out-other free (taken n probes outs) (barred (shown outs) (label_of n found.0)) out
    (Contains-append_left bars outs (barred (shown outs) (label_of n found.0)) (Contains-map (λ k. barred (shown outs) (label_of n k)) probes found.0 found.1))
    (row-barred (shown outs) free (label_of n found.0) found.2))

-- nor a seen output,
free-no_seen : (n free : ℕ) (probes outs : List ℕ) → IsLeftOut free (taken n probes outs) → shown outs free ≡ false
free-no_seen n free probes outs out = false_from_ne_true (shown outs free) (λ seen.
    let found : (o : ℕ) × Contains outs o × (nat_eq o free ≡ true) = any-found (λ o. nat_eq o free) outs seen in
    left_out-other free (taken n probes outs) found.0 out
    (Contains-append_right (map (λ k. barred (shown outs) (label_of n k)) probes) outs found.0 found.1)
    (eqb-true found.0 free found.2))

-- the states, and the tapes
abbrev runs_of : ℕ → List ℕ → List ℕ → List ℕ → List ℕ → Runs
runs_of n first second tape moved = record {
  x = slice_index first;
  y = λ j. slice_index first (n + j);
  x2 = slice_index second;
  y2 = λ j. slice_index second (n + j);
  z = λ i j. slice_index tape (pair_number n i j);
  z2 = λ i j. slice_index moved (pair_number n i j);
}

-- what is planned for the probes and outputs of an observer
abbrev plan_of : FieldId → ℕ → ℕ → List ℕ → List ℕ → List ℕ → List ℕ → Plan
plan_of field n free first second probes outs = record {
  shares = n;
  is_row = rows n probes;
  is_seen = shown outs;
  free = free;
  gap = λ i j. bit_xor (product field (slice_index first i) (slice_index first (n + j))) (product field (slice_index second i) (slice_index second (n + j)));
}

-- what an instruction asks for of the first operand is a share,
left-low : (n : ℕ) (is_row : ℕ → Bool) (label : ProductLabel) → IsProductLabel n label → left_of is_row label < n
left-low n is_row (Cell row j) fits = fits.0
left-low n is_row (Cross a b) fits = elim (cases_Bool (is_row a)) [
  | inl one ↦ omega (arith, fits.1, cond-true (is_row a) b a one)
  | inr one ↦ omega (arith, fits.0, cond-false (is_row a) b a one)
]
left-low n is_row (Half a b) fits = elim (cases_Bool (is_row a)) [
  | inl one ↦ omega (arith, fits.1, cond-true (is_row a) b a one)
  | inr one ↦ omega (arith, fits.0, fits.1, cond-false (is_row a) b a one)
]
left-low n is_row (Sum row m) fits = fits.0

-- and so it is of the second
right-low : (n : ℕ) (is_row : ℕ → Bool) (label : ProductLabel) → IsProductLabel n label → right_of is_row label < n
right-low n is_row (Cell row j) fits = fits.0
right-low n is_row (Cross a b) fits = elim (cases_Bool (is_row b)) [
  | inl one ↦ omega (arith, fits.0, cond-true (is_row b) a b one)
  | inr one ↦ omega (arith, fits.1, cond-false (is_row b) a b one)
]
right-low n is_row (Half a b) fits = elim (cases_Bool (is_row b)) [
  | inl one ↦ omega (arith, fits.0, fits.1, cond-true (is_row b) a b one)
  | inr one ↦ omega (arith, fits.1, cond-false (is_row b) a b one)
]
right-low n is_row (Sum row m) fits = fits.0

-- states that agree where the rows are, and where an instruction asks
record Agree (p : Plan) (r : Runs) (label : ProductLabel) : Type 0 where
  row_left : (i : ℕ) → i < p.shares → p.is_row i ≡ true → r.x i ≡ r.x2 i
  row_right : (i : ℕ) → i < p.shares → p.is_row i ≡ true → r.y i ≡ r.y2 i
  left : r.x (left_of p.is_row label) ≡ r.x2 (left_of p.is_row label)
  right : r.y (right_of p.is_row label) ≡ r.y2 (right_of p.is_row label)

-- they agree in the first share of a pair,
cross-left : (p : Plan) (r : Runs) (a b : ℕ) → Agree p r (Cross a b) → a < p.shares → r.x a ≡ r.x2 a
cross-left p r a b agree low = elim (cases_Bool (p.is_row a)) [
  | inl one ↦ agree.row_left a low one
  | inr one ↦ subst (λ (i : ℕ). r.x i ≡ r.x2 i) (cond-false (p.is_row a) b a one) agree.left
]

-- and in the second
cross-right : (p : Plan) (r : Runs) (a b : ℕ) → Agree p r (Cross a b) → b < p.shares → r.y b ≡ r.y2 b
cross-right p r a b agree low = elim (cases_Bool (p.is_row b)) [
  | inl one ↦ agree.row_right b low one
  | inr one ↦ subst (λ (i : ℕ). r.y i ≡ r.y2 i) (cond-false (p.is_row b) a b one) agree.right
]

-- a pair that is probed mends no output
pair-unmended : (p : Plan) (a b : ℕ) → IsPlan p → barred p.is_seen (Half a b) ≢ p.free → IsUnmended p a b
pair-unmended p a b fits other = record {
  first = λ same. absurd (other (cond-false (p.is_seen a) b a (ap p.is_seen same ∙ fits.no_seen) ∙ same));
  second = λ same. false_from_ne_true (p.is_seen a) (λ seen. other (cond-true (p.is_seen a) b a seen ∙ same));
}

-- a probed instruction keeps its value
label-kept : (field : FieldId) (p : Plan) (r : Runs) (label : ProductLabel) → AreMoved field p r → IsProductLabel p.shares label → Agree p r label
    → ((i : ℕ) → is_of_row i label ≡ true → p.is_row i ≡ true) → barred p.is_seen label ≢ p.free → IsKept p r label
label-kept field p r (Cell row j) moved fits agree own other = own row (eq-eqb row row refl)
label-kept field p r (Cross a b) moved fits agree own other = (cross-left p r a b agree fits.0, cross-right p r a b agree fits.1)
label-kept field p r (Half a b) moved fits agree own other =
    let low : a < p.shares = omega (arith, fits.0, fits.1) in
    let pair : Agree p r (Cross a b) = record { row_left = agree.row_left; row_right = agree.row_right; left = agree.left; right = agree.right } in
    let here : p.gap a b ≡ 0 = gap-none field p r a b moved.gap (cross-left p r a b pair low) (cross-right p r a b pair fits.1) in
    half-kept p a b (pair-unmended p a b moved.plan other) fits.0 (λ one. here)
    (λ one two. gap-none field p r b a moved.gap (agree.row_left b fits.1 two)
    (subst (λ (i : ℕ). r.y i ≡ r.y2 i) (cond-true (p.is_row b) a b two) agree.right))
    (λ one two. here)
label-kept field p r (Sum row m) moved fits agree own other =
    let here : p.is_row row ≡ true = own row (eq-eqb row row refl) in
    (here, agree.row_left row fits.0 here, agree.row_right row fits.0 here)

-- states that agree at what is asked for
record AgreeAt (n : ℕ) (probes first second : List ℕ) : Type 0 where
  left : (i : ℕ) → i < n → Contains (asked_of n probes 0) i → slice_index first i ≡ slice_index second i
  right : (i : ℕ) → i < n → Contains (asked_of n probes 1) i → slice_index first (n + i) ≡ slice_index second (n + i)

-- agree where the rows are,
rows-left : (n : ℕ) (probes first second : List ℕ) (i : ℕ) → AgreeAt n probes first second → i < n → rows n probes i ≡ true → slice_index first i ≡ slice_index second i
rows-left n probes first second i agree low row =
    let found : (k : ℕ) × Contains probes k × (is_of_row i (label_of n k) ≡ true) = any-found (λ k. is_of_row i (label_of n k)) probes row in
    agree.left i low (subst (Contains (asked_of n probes 0)) (row-left (rows n probes) i (label_of n found.0) found.2)
    (Contains-map (λ k. left_of (rows n probes) (label_of n k)) probes found.0 found.1))

-- in both operands
rows-right : (n : ℕ) (probes first second : List ℕ) (i : ℕ) → AgreeAt n probes first second → i < n → rows n probes i ≡ true
    → slice_index first (n + i) ≡ slice_index second (n + i)
rows-right n probes first second i agree low row =
    let found : (k : ℕ) × Contains probes k × (is_of_row i (label_of n k) ≡ true) = any-found (λ k. is_of_row i (label_of n k)) probes row in
    agree.right i low (subst (Contains (asked_of n probes 1)) (row-right (rows n probes) i (label_of n found.0) found.2)
    (Contains-map (λ k. right_of (rows n probes) (label_of n k)) probes found.0 found.1))

-- the tape for the second state
abbrev moved_by : Plan → List ℕ → List ℕ
moved_by p tape = added (for_pairs p.shares (move p)) tape

-- the plan is one, and the tape is moved by it
are-moved : (field : FieldId) (n free : ℕ) (first second probes outs tape : List ℕ) → free < n → IsLeftOut free (taken n probes outs) → AgreeAt n probes first second
    → AreMoved field (plan_of field n free first second probes outs) (runs_of n first second tape (moved_by (plan_of field n free first second probes outs) tape))
are-moved field n free first second probes outs tape below out agree =
    let p : Plan = plan_of field n free first second probes outs in
    let r : Runs = runs_of n first second tape (moved_by p tape) in
    record {
      plan = record {
        below = below;
        no_row = free-no_row n free probes outs out;
        no_seen = free-no_seen n free probes outs out;
        still = λ i j low high one two. gap-none field p r i j (λ a b. refl) (rows-left n probes first second i agree low one) (rows-right n probes first second j agree high two);
      };
      gap = λ i j. refl;
      tape = λ i j order high. for_pairs-added n (move p) tape i j order high;
    }

-- an observer who sees fewer than n values sees the same of both states, the tape being moved for the second
views-equal : (field : FieldId) (maps : List AddMap) (n free : ℕ) (first second probes outs tape : List ℕ) → length first ≡ 2 * n → length second ≡ 2 * n
    → AllBelow (length (product_gadget n).instrs) probes → AllBelow n outs
    → free < n → IsLeftOut free (taken n probes outs) → AgreeAt n probes first second
    → block_view (length first) (product_gadget n) probes outs (run field maps (product_gadget n).instrs tape first)
    ≡ block_view (length second) (product_gadget n) probes outs
    (run field maps (product_gadget n).instrs (moved_by (plan_of field n free first second probes outs) tape) second)
views-equal field maps n free first second probes outs tape left right inside within below out agree =
    let p : Plan = plan_of field n free first second probes outs in
    let after : List ℕ = moved_by p tape in
    let r : Runs = runs_of n first second tape after in
    let moved : AreMoved field p r = are-moved field n free first second probes outs tape below out agree in
    let u : List ℕ = run field maps (product_gadget n).instrs tape first in
    let v : List ℕ = run field maps (product_gadget n).instrs after second in
    let probed : (k : ℕ) → Contains probes k → slice_index u (length first + k) ≡ slice_index v (length first + k) =
    λ k held.
    let label : ProductLabel = label_of n k in
    let low : k < length (product_gadget n).instrs = below-held (length (product_gadget n).instrs) probes k inside held in
    let fits : IsProductLabel n label = product-labels_each n k (omega (arith, low, length-product_labels n)) in
    let at : Agree p r label = record {
      row_left = λ i lt row. rows-left n probes first second i agree lt row;
      row_right = λ i lt row. rows-right n probes first second i agree lt row;
      left = agree.left (left_of p.is_row label) (left-low n p.is_row label fits) (Contains-map (λ k. left_of (rows n probes) (label_of n k)) probes k held);
      right = agree.right (right_of p.is_row label) (right-low n p.is_row label fits) (Contains-map (λ k. right_of (rows n probes) (label_of n k)) probes k held);
    } in
    let kept : IsKept p r label =
    label-kept field p r label moved fits at (λ i own. any-held (λ k. is_of_row i (label_of n k)) probes k held own)
    (left_out-other free (taken n probes outs) (barred (shown outs) label) out
    (Contains-append_left (map (λ k. barred (shown outs) (label_of n k)) probes) outs (barred (shown outs) label) (Contains-map (λ k. barred (shown outs) (label_of n k)) probes k held))) in
    ap (λ (b : ℕ). slice_index u (b + k)) left
    ∙ product-instr field maps n tape first k left low
    ∙ value-kept field p r label moved fits kept
    ∙ sym (product-instr field maps n after second k right low)
    ∙ ap (λ (b : ℕ). slice_index v (b + k)) (sym left) in
    let put : (o : ℕ) → Contains outs o → slice_index (observation (product_gadget n).outs u) o ≡ slice_index (observation (product_gadget n).outs v) o =
    λ o held.
    let low : o < n = below-held n outs o within held in
    out-at (λ s. sum_position n s n) n o u low ∙ product-out field maps n tape first o left low
    ∙ output-stays field p r o moved low (any-held (λ i. nat_eq i o) outs o held (eq-eqb o o refl))
    ∙ sym (product-out field maps n after second o right low) ∙ sym (out-at (λ s. sum_position n s n) n o v low) in
    view-same (length first) (product_gadget n) probes outs u v probed put
    ∙ ap (λ (b : ℕ). block_view b (product_gadget n) probes outs v) (left ∙ sym right)

-- the product is strong
pub product-strong : (field : FieldId) (maps : List AddMap) (n : ℕ) → IsStrong field maps n 2 0 (product_gadget n)
product-strong field maps n probes outs inside within few =
    let bars : List ℕ = map (λ k. barred (shown outs) (label_of n k)) probes in
    let found : (f : ℕ) × (f < n) × IsLeftOut f (taken n probes outs) =
    left_out n (taken n probes outs) (omega (arith, length-append bars outs, length-map probes (λ k. barred (shown outs) (label_of n k)), few)) in
    let free : ℕ = found.0 in (
      asked_of n probes,
      length-asked n probes,
      depends-unpublic field maps n 2 (product_gadget n) probes outs (asked_of n probes) (λ first second seen left right agree.
          let p : Plan = plan_of field n free first second probes outs in
          let two : n * 2 ≡ 2 * n = omega arith in
          let small : (i j : ℕ) → p.gap i j < size field =
          λ i j. sum-in_field field (product field (slice_index first i) (slice_index first (n + j))) (product field (slice_index second i) (slice_index second (n + j)))
          (product-in_field field (slice_index first i) (slice_index first (n + j)) (element-at field first i left.below))
          (product-in_field field (slice_index second i) (slice_index second (n + j)) (element-at field second i right.below)) in
          let same : AgreeAt n probes first second = record {
            left = λ i low held. let here : n * 0 + i ≡ i = omega arith in subst (λ (q : ℕ). slice_index first q ≡ slice_index second q) here (agree 0 i (omega arith) low held);
            right = λ i low held. let here : n * 1 + i ≡ n + i = omega arith in subst (λ (q : ℕ). slice_index first q ≡ slice_index second q) here (agree 1 i (omega arith) low held);
          } in
          coupled field maps (product_gadget n) first second probes outs seen (for_pairs n (move p))
          (omega (arith, length-map (pairs n) (λ (q : Pair). move p q.0 q.1), randoms-product n))
          (for_pairs-below (size field) (move p) (pairs n) (λ i j. move-element field p i j small))
          (λ tape here. views-equal field maps n free first second probes outs tape (left.count ∙ two) (right.count ∙ two) inside within found.1 found.2 same)),
    )
