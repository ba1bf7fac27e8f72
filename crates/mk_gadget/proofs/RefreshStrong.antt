-- The refresh is strong. A probed instruction belongs to a share, its row. Where two states have the same
-- shares at the rows, the random elements of the pairs of a share that is neither a row nor a seen output
-- take what the other shares differ by.
use Rattle.std.proofs.Common.{arith, ◌≡◌, ◌≢◌, ℕ, ◌+◌, ◌*◌, ◌<◌, List, ◌++◌, length, map, get_or, slice_index, bit_xor, nat_eq, if◌then◌else◌, inl, inr, refl, sym, ◌∙◌, ap, subst}
use Rattle.std.specs.List.{Contains}
use Rattle.std.proofs.lemmas.Bool.{cases_eq, cases_order, eq-eqb, ne_eqb}
use Rattle.std.proofs.lemmas.List.{length-append, length-map}
use Rattle.std.proofs.lemmas.List.Elements.{Contains-append_left, Contains-append_right}
use Rattle.mk_base.proofs.Lists.{Contains-map}
use Rattle.mk_field.specs.declared.field.FieldId.{FieldId}
use Rattle.mk_field.specs.declared.map.AddMap.{AddMap}
use Rattle.mk_field.specs.Field.{size}
use Rattle.mk_field.specs.Sharing.{added}
use Rattle.mk_field.proofs.Sum.{sum-self, sum-comm, sum-assoc, sum-zero_left, sum-in_field, zero-element}
use Rattle.mk_code.specs.Trace.{run}
use Rattle.mk_code.specs.Counting.{AllBelow}
use Rattle.mk_code.specs.Private.{observation}
use Rattle.mk_code.proofs.LeftOut.{IsLeftOut, left_out}
use Rattle.mk_gadget.specs.Pairs.{Pair, pairs, pair_number}
use Rattle.mk_gadget.specs.Refresh.{refresh_sum, refresh_gadget}
use Rattle.mk_gadget.specs.Steady.{block_view, IsStrong}
use Rattle.mk_gadget.proofs.ShareSums.{share_sum, share_sum-none}
use Rattle.mk_gadget.proofs.Steady.{below-held}
use Rattle.mk_gadget.proofs.RefreshRun.{RefreshLabel, Random, Sum, refresh_labels, random_of, refresh_value, random_of-comm, random_of-ordered, IsRefreshLabel, refresh-labels_each, length-refresh_labels, refresh-instr, randoms-refresh, refresh-out}
use Rattle.mk_gadget.proofs.Coupling.{coupled, depends-unpublic, view-same, out-at, for_pairs, for_pairs-below, for_pairs-added, left_out-other}
use Rattle.mk_gadget.proofs.Mended.{share_sum-congruent, share_sum-sums, with_column, with_column-here, with_column-other, share_sum-column, element-at}

-- the share that an instruction belongs to: the first of a pair, or the one that is summed
abbrev row : RefreshLabel → ℕ
row (Random i j) = i
row (Sum i m) = i

-- it is one of the n shares
row-low : (n : ℕ) (label : RefreshLabel) → IsRefreshLabel n label → row label < n
row-low n (Random i j) fits = omega (arith, fits.0, fits.1)
row-low n (Sum i m) fits = fits.0

-- what two states differ by in a share
abbrev apart : (ℕ → ℕ) → (ℕ → ℕ) → ℕ → ℕ
apart x y i = bit_xor (x i) (y i)

-- what is added to the random element of shares i and j: what the one differs by, if the other is the free one
abbrev move : (ℕ → ℕ) → (ℕ → ℕ) → ℕ → ℕ → ℕ → ℕ
move x y free i j = if nat_eq i free then apart x y j else with_column free (apart x y i) (λ k. 0) j

-- so to those of the free share
move-free : (x y : ℕ → ℕ) (free i j : ℕ) → i ≡ free → move x y free i j ≡ apart x y j
move-free x y free i j same = rw (eq-eqb i free same) refl

-- and to those of any other
move-row : (x y : ℕ → ℕ) (free i j : ℕ) → i ≢ free → move x y free i j ≡ with_column free (apart x y i) (λ k. 0) j
move-row x y free i j other = rw (ne_eqb i free other) refl

-- it is the same for both shares
move-comm : (x y : ℕ → ℕ) (free i j : ℕ) → i ≢ free → move x y free j i ≡ move x y free i j
move-comm x y free i j other = elim (cases_eq j free) [
  | inl same ↦
      move-free x y free j i same ∙ sym (with_column-here free (apart x y i) (λ k. 0) j same) ∙ sym (move-row x y free i j other)
  | inr differ ↦
      move-row x y free j i differ ∙ with_column-other free (apart x y j) (λ k. 0) i other
      ∙ sym (with_column-other free (apart x y i) (λ k. 0) j differ) ∙ sym (move-row x y free i j other)
]

-- it is an element
move-element : (field : FieldId) (x y : ℕ → ℕ) (free i j : ℕ) → ((k : ℕ) → apart x y k < size field) → move x y free i j < size field
move-element field x y free i j small = elim (cases_eq i free) [
  | inl same ↦ omega (arith, small j, move-free x y free i j same)
  | inr other ↦ elim (cases_eq j free) [
    | inl here ↦ omega (arith, small i, move-row x y free i j other, with_column-here free (apart x y i) (λ k. 0) j here)
    | inr there ↦ omega (arith, zero-element field, move-row x y free i j other, with_column-other free (apart x y i) (λ k. 0) j there)
  ]
]

-- the random element of a share that isn't free and another share, over the tape that is moved
random-moved : (n : ℕ) (x y : ℕ → ℕ) (free : ℕ) (tape : List ℕ) (i j : ℕ) → i ≢ free → i < n → j < n → i ≢ j
    → random_of n (added (for_pairs n (move x y free)) tape) i j ≡ bit_xor (with_column free (apart x y i) (λ k. 0) j) (random_of n tape i j)
random-moved n x y free tape i j other low high differ =
    let moved : List ℕ = added (for_pairs n (move x y free)) tape in
    elim (cases_order i j) [
      | inl same ↦ absurd (differ same)
      | inr (inl less) ↦
          random_of-ordered n moved i j less ∙ for_pairs-added n (move x y free) tape i j less high
          ∙ ap (λ (a : ℕ). bit_xor a (slice_index tape (pair_number n i j))) (move-row x y free i j other)
          ∙ ap (bit_xor (with_column free (apart x y i) (λ k. 0) j)) (sym (random_of-ordered n tape i j less))
      | inr (inr more) ↦
          random_of-comm n moved j i more ∙ random_of-ordered n moved j i more ∙ for_pairs-added n (move x y free) tape j i more low
          ∙ ap (λ (a : ℕ). bit_xor a (slice_index tape (pair_number n j i))) (move-comm x y free i j other ∙ move-row x y free i j other)
          ∙ ap (bit_xor (with_column free (apart x y i) (λ k. 0) j)) (sym (random_of-ordered n tape j i more) ∙ sym (random_of-comm n tape j i more))
    ]

-- those of a share in which the states agree stay
random-kept : (n : ℕ) (x y : ℕ → ℕ) (free : ℕ) (tape : List ℕ) (i j : ℕ) → i ≢ free → i < n → j < n → i ≢ j → x i ≡ y i
    → random_of n tape i j ≡ random_of n (added (for_pairs n (move x y free)) tape) i j
random-kept n x y free tape i j other low high differ same =
    let none : apart x y i ≡ 0 = ap (λ (a : ℕ). bit_xor a (y i)) same ∙ sum-self (y i) in
    let still : with_column free (apart x y i) (λ k. 0) j ≡ 0 = elim (cases_eq j free) [
      | inl here ↦ with_column-here free (apart x y i) (λ k. 0) j here ∙ none
      | inr there ↦ with_column-other free (apart x y i) (λ k. 0) j there
    ] in
    sym (random-moved n x y free tape i j other low high differ
    ∙ ap (λ (a : ℕ). bit_xor a (random_of n tape i j)) still ∙ sum-zero_left (random_of n tape i j))

-- an instruction of such a share keeps its value
value-kept : (n : ℕ) (x y : ℕ → ℕ) (free : ℕ) (tape : List ℕ) (label : RefreshLabel) → IsRefreshLabel n label → row label ≢ free → x (row label) ≡ y (row label)
    → refresh_value x (random_of n tape) label ≡ refresh_value y (random_of n (added (for_pairs n (move x y free)) tape)) label
value-kept n x y free tape (Random i j) fits other same =
    random-kept n x y free tape i j other (omega (arith, fits.0, fits.1)) fits.1 (λ e. omega (arith, fits.0, e)) same
value-kept n x y free tape (Sum i m) fits other same =
    share_sum-congruent (x i) (y i) (random_of n tape i) (random_of n (added (for_pairs n (move x y free)) tape) i) i m same
    (λ j below differ. random-kept n x y free tape i j other fits.0 (omega (arith, below, fits.1)) differ same)

-- and so does any output but the free one
output-kept : (n : ℕ) (x y : ℕ → ℕ) (free : ℕ) (tape : List ℕ) (i : ℕ) → i ≢ free → i < n → free < n
    → share_sum (x i) (random_of n tape i) i n ≡ share_sum (y i) (random_of n (added (for_pairs n (move x y free)) tape) i) i n
output-kept n x y free tape i other low below =
    let e : ℕ = apart x y i in
    let column : ℕ → ℕ = with_column free e (λ k. 0) in
    let r : ℕ → ℕ = random_of n tape i in
    let zeros : share_sum e (with_column free 0 (λ k. 0)) i n ≡ e =
    share_sum-congruent e e (with_column free 0 (λ k. 0)) (λ k. 0) i n refl (λ j less differ. elim (cases_eq j free) [
      | inl here ↦ with_column-here free 0 (λ k. 0) j here
      | inr there ↦ with_column-other free 0 (λ k. 0) j there
    ]) ∙ share_sum-none e i n in
    let none : share_sum e column i n ≡ 0 =
    share_sum-column e e free (λ k. 0) i n below other ∙ ap (λ (s : ℕ). bit_xor s e) zeros ∙ sum-self e in
    let start : bit_xor e (x i) ≡ y i = ap (λ (s : ℕ). bit_xor s (x i)) (sum-comm (x i) (y i)) ∙ sum-assoc (y i) (x i) (x i) ∙ ap (bit_xor (y i)) (sum-self (x i)) ∙ sum-comm (y i) 0 ∙ sum-zero_left (y i) in
    sym (sum-zero_left (share_sum (x i) r i n))
    ∙ ap (λ (s : ℕ). bit_xor s (share_sum (x i) r i n)) (sym none)
    ∙ sym (share_sum-sums e (x i) column r i n)
    ∙ share_sum-congruent (bit_xor e (x i)) (y i) (λ j. bit_xor (column j) (r j)) (random_of n (added (for_pairs n (move x y free)) tape) i) i n start
    (λ j less differ. sym (random-moved n x y free tape i j other low less differ))

-- the instruction of this number
abbrev label_of : ℕ → ℕ → RefreshLabel
label_of n k = get_or (refresh_labels n) k (Random 0 0)

-- the rows of the probed instructions
abbrev rows_of : ℕ → List ℕ → List ℕ
rows_of n probes = map (λ k. row (label_of n k)) probes

-- an observer who sees fewer than n values sees the same of both states, the tape being moved for the second
views-equal : (field : FieldId) (maps : List AddMap) (n free : ℕ) (first second probes outs tape : List ℕ) → length first ≡ n → length second ≡ n → free < n
    → AllBelow (length (refresh_gadget n).instrs) probes → AllBelow n outs
    → ((i : ℕ) → Contains (rows_of n probes) i → i < n → (i ≢ free) × (slice_index first i ≡ slice_index second i))
    → ((o : ℕ) → Contains outs o → o ≢ free)
    → block_view (length first) (refresh_gadget n) probes outs (run field maps (refresh_gadget n).instrs tape first)
    ≡ block_view (length second) (refresh_gadget n) probes outs
    (run field maps (refresh_gadget n).instrs (added (for_pairs n (move (slice_index first) (slice_index second) free)) tape) second)
views-equal field maps n free first second probes outs tape left right below inside within rows shown =
    let x : ℕ → ℕ = slice_index first in
    let y : ℕ → ℕ = slice_index second in
    let after : List ℕ = added (for_pairs n (move x y free)) tape in
    let u : List ℕ = run field maps (refresh_gadget n).instrs tape first in
    let v : List ℕ = run field maps (refresh_gadget n).instrs after second in
    let position : ℕ → ℕ = λ s. refresh_sum n s n in
    let probed : (k : ℕ) → Contains probes k → slice_index u (length first + k) ≡ slice_index v (length first + k) =
    λ k held.
    let label : RefreshLabel = label_of n k in
    let low : k < length (refresh_gadget n).instrs = below-held (length (refresh_gadget n).instrs) probes k inside held in
    let fits : IsRefreshLabel n label = refresh-labels_each n k (omega (arith, low, length-refresh_labels n)) in
    let at : (row label ≢ free) × (x (row label) ≡ y (row label)) = rows (row label) (Contains-map (λ k. row (label_of n k)) probes k held) (row-low n label fits) in
    ap (λ (b : ℕ). slice_index u (b + k)) left
    ∙ refresh-instr field maps n tape first k left low
    ∙ value-kept n x y free tape label fits at.0 at.1
    ∙ sym (refresh-instr field maps n after second k right low)
    ∙ ap (λ (b : ℕ). slice_index v (b + k)) (sym left) in
    let put : (o : ℕ) → Contains outs o → slice_index (observation (refresh_gadget n).outs u) o ≡ slice_index (observation (refresh_gadget n).outs v) o =
    λ o held.
    let low : o < n = below-held n outs o within held in
    out-at position n o u low ∙ refresh-out field maps n tape first o left low
    ∙ output-kept n x y free tape o (shown o held) low below
    ∙ sym (refresh-out field maps n after second o right low) ∙ sym (out-at position n o v low) in
    view-same (length first) (refresh_gadget n) probes outs u v probed put
    ∙ ap (λ (b : ℕ). block_view b (refresh_gadget n) probes outs v) (left ∙ sym right)

-- the refresh is strong: it asks for the rows of the probed instructions
pub refresh-strong : (field : FieldId) (maps : List AddMap) (n : ℕ) → IsStrong field maps n 1 0 (refresh_gadget n)
refresh-strong field maps n probes outs inside within few =
    let rows : List ℕ = rows_of n probes in
    let count : length rows ≡ length probes = length-map probes (λ k. row (label_of n k)) in
    let found : (f : ℕ) × (f < n) × IsLeftOut f (rows ++ outs) = left_out n (rows ++ outs) (omega (arith, length-append rows outs, count, few)) in
    let free : ℕ = found.0 in (
      λ k. rows,
      λ k. omega (arith, count),
      depends-unpublic field maps n 1 (refresh_gadget n) probes outs (λ k. rows) (λ first second seen left right agree.
          let x : ℕ → ℕ = slice_index first in
          let y : ℕ → ℕ = slice_index second in
          let one : n * 1 ≡ n = omega arith in
          let small : (k : ℕ) → apart x y k < size field =
          λ k. sum-in_field field (x k) (y k) (element-at field first k left.below) (element-at field second k right.below) in
          let same : (i : ℕ) → Contains rows i → i < n → x i ≡ y i =
          λ i held low. let here : n * 0 + i ≡ i = omega arith in subst (λ (p : ℕ). x p ≡ y p) here (agree 0 i (omega arith) low held) in
          coupled field maps (refresh_gadget n) first second probes outs seen (for_pairs n (move x y free))
          (omega (arith, length-map (pairs n) (λ (p : Pair). move x y free p.0 p.1), randoms-refresh n))
          (for_pairs-below (size field) (move x y free) (pairs n) (λ i j. move-element field x y free i j small))
          (λ tape here. views-equal field maps n free first second probes outs tape (left.count ∙ one) (right.count ∙ one) found.1 inside within
          (λ i held low. (left_out-other free (rows ++ outs) i found.2 (Contains-append_left rows outs i held), same i held low))
          (λ o held. left_out-other free (rows ++ outs) o found.2 (Contains-append_right rows outs o held)))),
    )
