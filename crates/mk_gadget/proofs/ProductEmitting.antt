-- The product in the making: first the pairs whose instructions are appended, and then the rows.
use Rattle.std.proofs.Common.{arith, ◌≡◌, ℕ, suc, ◌+◌, ◌-◌, ◌*◌, ◌<◌, ◌≤◌, List, [], ◌∷◌, ◌++◌, length, map, replicate, slice_index, slice_set, inl, inr, refl, sym, ◌∙◌, ap, subst, append_assoc, append-nil}
use Rattle.std.specs.List.{flat_map, range_with_len}
use Rattle.std.proofs.Math.Nat.{mul-le-mul_left}
use Rattle.std.proofs.lemmas.Bool.{cases_eq, cases_order}
use Rattle.std.proofs.lemmas.List.{length-append, length-map, length-set, length-replicate, map-append, get_or-set_same, get_or-set_other}
use Rattle.std.proofs.lemmas.List.FromFn.{fill_by_all}
use Rattle.mk_code.specs.declared.instr.Instr.{Instr}
use Rattle.mk_code.specs.declared.instr.Instr.TheVariants.{Rnd, Add, Mul}
use Rattle.mk_code.specs.Draft.{Draft, draft_len}
use Rattle.mk_gadget.specs.Gadget.{placement, moved}
use Rattle.mk_gadget.specs.Emitted.{Emitted}
use Rattle.mk_gadget.specs.Pairs.{Pair, pairs_upto, pairs, pair_number, others}
use Rattle.mk_gadget.specs.Product.{pair_position, cell_position, row_position, sum_position, product_pair, product_row, product_gadget}
use Rattle.mk_gadget.proofs.Ranges.{map-map-range, placement-left, placement-right}
use Rattle.mk_gadget.proofs.Values.{two-banks}
use Rattle.mk_gadget.proofs.Pairs.{pair, pairs_before, length-pairs_before, pairs_before-none, pairs_before-more, pairs_before-all, pair_number-below, others-same, others-other, length-others_low, length-others_high}
use Rattle.mk_gadget.proofs.Blocks.{length-blocks, blocks-more}
use Rattle.mk_gadget.proofs.ProductRun.{cell_position-later, cell_position-earlier}
use Rattle.mk_gadget.proofs.ProductRows.{range-last, row_sum, length-product_rows, length-product}
use Rattle.mk_gadget.proofs.Placing.{Placing, Placing-start, Placing-length, Placing-len, pushed-numbers, Placing-push, Placing-same, Placing-all, placement-next}

-- where a position of the product stands in the code
abbrev pub product_to : Draft → List ℕ → List ℕ → ℕ → ℕ
product_to old xs ys = placement (xs ++ ys) (draft_len old)

-- how many instructions the product has
abbrev pub product_total : ℕ → ℕ
product_total n = 5 * length (pairs n) + n * n

-- the pairs of the shares before i, and those of share i with the shares before j, are done
abbrev pub Crossing : Draft → Draft → List ℕ → List ℕ → ℕ → ℕ → ℕ → Type 0
Crossing old now xs ys n i j = Placing old now (product_to old xs ys) (flat_map (product_pair n) (pairs_before n i (j - (i + 1)))) (product_total n)

-- no pair is done
pub Crossing-start : (old now : Draft) (xs ys : List ℕ) (n : ℕ) → now ≡ record old { spare = now.spare } → product_total n ≤ now.spare → Crossing old now xs ys n 0 0
unfolding pairs_upto
Crossing-start old now xs ys n same room = Placing-start old now (product_to old xs ys) (product_total n) same room

-- share i has no pair with itself
pub Crossing-first : (old now : Draft) (xs ys : List ℕ) (n i : ℕ) → Crossing old now xs ys n i i → Crossing old now xs ys n i (i + 1)
Crossing-first old now xs ys n i so =
    let none : i + 1 - (i + 1) ≡ i - (i + 1) = omega arith in
    subst (λ (k : ℕ). Placing old now (product_to old xs ys) (flat_map (product_pair n) (pairs_before n i k)) (product_total n)) (sym none) so

-- all pairs of share i are done
pub Crossing-next : (old now : Draft) (xs ys : List ℕ) (n i j : ℕ) → Crossing old now xs ys n i j → j ≡ n → Crossing old now xs ys n (i + 1) (i + 1)
Crossing-next old now xs ys n i j so end =
    let one : suc i ≡ i + 1 = omega arith in
    let none : i + 1 - (i + 1 + 1) ≡ 0 = omega arith in
    let same : flat_map (product_pair n) (pairs_before n i (j - (i + 1))) ≡ flat_map (product_pair n) (pairs_before n (i + 1) (i + 1 - (i + 1 + 1))) =
    ap (λ (k : ℕ). flat_map (product_pair n) (pairs_before n i (k - (i + 1)))) end
    ∙ ap (flat_map (product_pair n)) (pairs_before-all n i ∙ ap (pairs_upto n) one ∙ sym (pairs_before-none n (i + 1)) ∙ ap (pairs_before n (i + 1)) (sym none)) in
    Placing-same old now (product_to old xs ys) _ _ (product_total n) same so

-- how many instructions the pairs have so far
pub length-crosses : (n i j : ℕ) → i < j → length (flat_map (product_pair n) (pairs_before n i (j - (i + 1)))) ≡ 5 * pair_number n i j
length-crosses n i j less =
    omega (arith, length-blocks (product_pair n) 5 (pair 0 0) (pairs_before n i (j - (i + 1))) (λ k below. refl), length-pairs_before n i (j - (i + 1)))

-- how long the trace is
pub Crossing-len : (old now : Draft) (xs ys : List ℕ) (n i j : ℕ) → Crossing old now xs ys n i j → i < j
    → draft_len now ≡ draft_len old + 5 * pair_number n i j
Crossing-len old now xs ys n i j so less = omega (arith, Placing-len old now (product_to old xs ys) _ (product_total n) so, length-crosses n i j less)

-- there is room for `count` more instructions
pub record HasRoomFor (old now : Draft) (n count : ℕ) : Type 0 where
  pub spare : count ≤ now.spare
  pub few : length now.instrs + count ≤ length old.instrs + length (product_gadget n).instrs

-- for those of the next pair
pub Crossing-room : (old now : Draft) (xs ys : List ℕ) (n i j : ℕ) → Crossing old now xs ys n i j → i < j → j < n → HasRoomFor old now n 5
Crossing-room old now xs ys n i j so less high =
    let number : pair_number n i j < length (pairs n) = pair_number-below n n i j (omega (arith, less, high)) less high in
    let long : length (flat_map (product_pair n) (pairs_before n i (j - (i + 1)))) ≡ 5 * pair_number n i j = length-crosses n i j less in
    record {
      spare = omega (arith, so.room, long, number);
      few = omega (arith, Placing-length old now (product_to old xs ys) _ (product_total n) so, long, number, length-product n);
    }

-- the five instructions of the next pair are appended
pub record CrossAppended (now one two three four five : Draft) (xs ys : List ℕ) (i j random first half second : ℕ) : Type 0 where
  pub one_is : one ≡ record now { instrs = now.instrs ++ Rnd ∷ []; spare = now.spare - 1 }
  pub random_is : random ≡ draft_len now
  pub two_is : two ≡ record one { instrs = one.instrs ++ Mul (slice_index xs i) (slice_index ys j) ∷ []; spare = one.spare - 1 }
  pub first_is : first ≡ draft_len one
  pub three_is : three ≡ record two { instrs = two.instrs ++ Add random first ∷ []; spare = two.spare - 1 }
  pub half_is : half ≡ draft_len two
  pub four_is : four ≡ record three { instrs = three.instrs ++ Mul (slice_index xs j) (slice_index ys i) ∷ []; spare = three.spare - 1 }
  pub second_is : second ≡ draft_len three
  pub five_is : five ≡ record four { instrs = four.instrs ++ Add half second ∷ []; spare = four.spare - 1 }

-- with them the pair is done
pub Crossing-more : (old now one two three four five : Draft) (xs ys : List ℕ) (n i j random first half second : ℕ) → Crossing old now xs ys n i j
    → CrossAppended now one two three four five xs ys i j random first half second → i < j → j < n → length xs ≡ n → length ys ≡ n
    → Crossing old five xs ys n i (j + 1)
Crossing-more old now one two three four five xs ys n i j random first half second so is less high left right =
    let to : ℕ → ℕ = product_to old xs ys in
    let base : ℕ = draft_len old in
    let total : ℕ = product_total n in
    let low : i < n = omega (arith, less, high) in
    let done : List Pair = pairs_before n i (j - (i + 1)) in
    let position : ℕ = pair_position n i j in
    let k : ℕ = 5 * pair_number n i j in
    let i0 : List Instr = flat_map (product_pair n) done in
    let n0 : length i0 ≡ k = length-crosses n i j less in
    let number : pair_number n i j < length (pairs n) = pair_number-below n n i j low less high in
    let len : draft_len now ≡ base + k = Crossing-len old now xs ys n i j so less in
    let count : length (xs ++ ys) ≡ 2 * n = two-banks xs ys n left right in
    let at : (t : ℕ) → to (position + t) ≡ base + (k + t) = λ t. placement-next (xs ++ ys) base (position + t) (k + t) (omega (arith, count)) in
    let zeroth : position ≡ position + 0 = omega arith in
    let len1 : draft_len one ≡ draft_len now + 1 = (pushed-numbers now one Rnd is.one_is).len in
    let len2 : draft_len two ≡ draft_len one + 1 = (pushed-numbers one two (Mul (slice_index xs i) (slice_index ys j)) is.two_is).len in
    let len3 : draft_len three ≡ draft_len two + 1 = (pushed-numbers two three (Add random first) is.three_is).len in
    let random_at : to position ≡ random = ap to zeroth ∙ at 0 ∙ omega (arith, len, is.random_is) in
    let first_at : to (position + 1) ≡ first = at 1 ∙ omega (arith, len, len1, is.first_is) in
    let half_at : to (position + 2) ≡ half = at 2 ∙ omega (arith, len, len1, len2, is.half_is) in
    let second_at : to (position + 3) ≡ second = at 3 ∙ omega (arith, len, len1, len2, len3, is.second_is) in
    let cross : (a b : ℕ) → a < n → b < n → moved to (Mul a (n + b)) ≡ Mul (slice_index xs a) (slice_index ys b) =
    λ a b u v. ap (λ (p : ℕ). Mul p (to (n + b))) (placement-left xs ys base n a left u) ∙ ap (Mul (slice_index xs a)) (placement-right xs ys base n b left right v) in
    let sum : (a b p q : ℕ) → to a ≡ p → to b ≡ q → moved to (Add a b) ≡ Add p q =
    λ a b p q u v. ap (λ (r : ℕ). Add r (to b)) u ∙ ap (Add p) v in
    let i1 : List Instr = i0 ++ Rnd ∷ [] in
    let i2 : List Instr = i1 ++ Mul i (n + j) ∷ [] in
    let i3 : List Instr = i2 ++ Add position (position + 1) ∷ [] in
    let i4 : List Instr = i3 ++ Mul j (n + i) ∷ [] in
    let i5 : List Instr = i4 ++ Add (position + 2) (position + 3) ∷ [] in
    let n1 : length i1 ≡ k + 1 = length-append i0 (Rnd ∷ []) ∙ omega (arith, n0) in
    let n2 : length i2 ≡ k + 2 = length-append i1 (Mul i (n + j) ∷ []) ∙ omega (arith, n1) in
    let n3 : length i3 ≡ k + 3 = length-append i2 (Add position (position + 1) ∷ []) ∙ omega (arith, n2) in
    let n4 : length i4 ≡ k + 4 = length-append i3 (Mul j (n + i) ∷ []) ∙ omega (arith, n3) in
    let p1 : Placing old one to i1 total = Placing-push old now one to i0 total Rnd Rnd so (omega (arith, n0, number)) is.one_is refl in
    let p2 : Placing old two to i2 total =
    Placing-push old one two to i1 total (Mul i (n + j)) (Mul (slice_index xs i) (slice_index ys j)) p1 (omega (arith, n1, number)) is.two_is (cross i j low high) in
    let p3 : Placing old three to i3 total =
    Placing-push old two three to i2 total (Add position (position + 1)) (Add random first) p2 (omega (arith, n2, number)) is.three_is (sum position (position + 1) random first random_at first_at) in
    let p4 : Placing old four to i4 total =
    Placing-push old three four to i3 total (Mul j (n + i)) (Mul (slice_index xs j) (slice_index ys i)) p3 (omega (arith, n3, number)) is.four_is (cross j i high low) in
    let p5 : Placing old five to i5 total =
    Placing-push old four five to i4 total (Add (position + 2) (position + 3)) (Add half second) p4 (omega (arith, n4, number)) is.five_is (sum (position + 2) (position + 3) half second half_at second_at) in
    let more : flat_map (product_pair n) (pairs_before n i (j + 1 - (i + 1))) ≡ i0 ++ product_pair n (pair i j) =
    let e : j + 1 - (i + 1) ≡ j - (i + 1) + 1 = omega (arith, less) in
    let f : i + 1 + (j - (i + 1)) ≡ j = omega (arith, less) in
    ap (λ (l : ℕ). flat_map (product_pair n) (pairs_before n i l)) e
    ∙ ap (flat_map (product_pair n)) (pairs_before-more n i (j - (i + 1)) ∙ ap (λ (l : ℕ). done ++ pair i l ∷ []) f)
    ∙ blocks-more (product_pair n) done (pair i j) in
    let same : i5 ≡ flat_map (product_pair n) (pairs_before n i (j + 1 - (i + 1))) =
    append_assoc i3 (Mul j (n + i) ∷ []) (Add (position + 2) (position + 3) ∷ [])
    ∙ append_assoc i2 (Add position (position + 1) ∷ []) (Mul j (n + i) ∷ Add (position + 2) (position + 3) ∷ [])
    ∙ append_assoc i1 (Mul i (n + j) ∷ []) (Add position (position + 1) ∷ Mul j (n + i) ∷ Add (position + 2) (position + 3) ∷ [])
    ∙ append_assoc i0 (Rnd ∷ []) (Mul i (n + j) ∷ Add position (position + 1) ∷ Mul j (n + i) ∷ Add (position + 2) (position + 3) ∷ [])
    ∙ sym more in
    Placing-same old five to i5 _ total same p5

-- the instructions of all pairs, and of the first r rows
abbrev pub crosses_rows : ℕ → ℕ → List Instr
crosses_rows n r = flat_map (product_pair n) (pairs n) ++ flat_map (product_row n) (range_with_len 0 r)

-- how many these are
pub length-crosses_rows : (n r : ℕ) → r ≤ n → length (crosses_rows n r) ≡ 5 * length (pairs n) + n * r
length-crosses_rows n r le =
    omega (
      arith,
      length-append (flat_map (product_pair n) (pairs n)) (flat_map (product_row n) (range_with_len 0 r)),
      length-blocks (product_pair n) 5 (pair 0 0) (pairs n) (λ k below. refl),
      length-product_rows n r le,
    )

-- the first r rows are done, and so are the shares of their numbers
pub record Rowing (old now : Draft) (xs ys regs : List ℕ) (n r : ℕ) : Type 0 where
  pub placing : Placing old now (product_to old xs ys) (crosses_rows n r) (product_total n)
  pub count : length regs ≡ n
  pub done : (s : ℕ) → s < r → slice_index regs s ≡ product_to old xs ys (sum_position n s n)

-- behind all pairs
pub Rowing-start : (old now : Draft) (xs ys : List ℕ) (n i : ℕ) → Crossing old now xs ys n i i → i ≡ n → Rowing old now xs ys (replicate n 0) n 0
Rowing-start old now xs ys n i so end =
    let none : i - (i + 1) ≡ 0 = omega arith in
    let whole : flat_map (product_pair n) (pairs_before n i (i - (i + 1))) ≡ crosses_rows n 0 =
    ap (λ (k : ℕ). flat_map (product_pair n) (pairs_before n i k)) none
    ∙ ap (flat_map (product_pair n)) (pairs_before-none n i ∙ ap (pairs_upto n) end)
    ∙ sym (append-nil (flat_map (product_pair n) (pairs n))) in
    record {
      placing = Placing-same old now (product_to old xs ys) _ _ (product_total n) whole so;
      count = length-replicate n 0;
      done = λ s less. absurd (omega (arith, less));
    }

-- the row's product and its sums in the columns below m are done too; the last of them is `sum`
pub record Columning (old now : Draft) (xs ys : List ℕ) (n r m sum : ℕ) : Type 0 where
  pub placing : Placing old now (product_to old xs ys) (crosses_rows n r ++ Mul r (n + r) ∷ map (row_sum n r) (others r m)) (product_total n)
  pub last : sum ≡ product_to old xs ys (sum_position n r m)

-- before a row: how long the trace is, and that there is room
pub Rowing-len : (old now : Draft) (xs ys regs : List ℕ) (n r : ℕ) → Rowing old now xs ys regs n r → r < n
    → draft_len now ≡ draft_len old + (5 * length (pairs n) + n * r)
Rowing-len old now xs ys regs n r so low =
    omega (arith, Placing-len old now (product_to old xs ys) _ (product_total n) so.placing, length-crosses_rows n r (omega (arith, low)))

-- for its product
pub Rowing-room : (old now : Draft) (xs ys regs : List ℕ) (n r : ℕ) → Rowing old now xs ys regs n r → r < n → HasRoomFor old now n 1
Rowing-room old now xs ys regs n r so low =
    let long : length (crosses_rows n r) ≡ 5 * length (pairs n) + n * r = length-crosses_rows n r (omega (arith, low)) in
    let row : r + 1 ≤ n = omega (arith, low) in
    let within : n * (r + 1) ≤ n * n = mul-le-mul_left n row in
    record {
      spare = omega (arith, so.placing.room, long, within, low);
      few = omega (arith, Placing-length old now (product_to old xs ys) _ (product_total n) so.placing, long, within, low, length-product n);
    }

-- where the last sum of a row stands
pub sum-at : (old : Draft) (xs ys : List ℕ) (n r m : ℕ) → length xs ≡ n → length ys ≡ n
    → product_to old xs ys (sum_position n r m) ≡ draft_len old + (5 * length (pairs n) + n * r + length (others r m))
sum-at old xs ys n r m left right =
    placement-next (xs ++ ys) (draft_len old) (sum_position n r m) (5 * length (pairs n) + n * r + length (others r m)) (omega (arith, two-banks xs ys n left right))

-- the row's product is appended
pub Columning-start : (old now next : Draft) (xs ys regs : List ℕ) (n r sum : ℕ) → Rowing old now xs ys regs n r → r < n → length xs ≡ n → length ys ≡ n
    → next ≡ record now { instrs = now.instrs ++ Mul (slice_index xs r) (slice_index ys r) ∷ []; spare = now.spare - 1 } → sum ≡ draft_len now
    → Columning old next xs ys n r 0 sum
unfolding others
Columning-start old now next xs ys regs n r sum so low left right is here =
    let to : ℕ → ℕ = product_to old xs ys in
    let long : length (crosses_rows n r) ≡ 5 * length (pairs n) + n * r = length-crosses_rows n r (omega (arith, low)) in
    let row : r + 1 ≤ n = omega (arith, low) in
    let within : n * (r + 1) ≤ n * n = mul-le-mul_left n row in
    record {
      placing = Placing-push old now next to (crosses_rows n r) (product_total n) (Mul r (n + r)) (Mul (slice_index xs r) (slice_index ys r)) so.placing
          (omega (arith, long, within, low)) is
          (ap (λ (p : ℕ). Mul p (to (n + r))) (placement-left xs ys (draft_len old) n r left low) ∙ ap (Mul (slice_index xs r)) (placement-right xs ys (draft_len old) n r left right low));
      last = omega (arith, sum-at old xs ys n r 0 left right, here, Rowing-len old now xs ys regs n r so low);
    }

-- before another column one share at least is left out
others-few : (r m n : ℕ) → r < n → m < n → (r ≡ m → ⊥) → length (others r m) + 1 < n
others-few r m n low high other = elim (cases_order r m) [
  | inl same ↦ absurd (other same)
  | inr (inl less) ↦ omega (arith, length-others_high r m less, high)
  | inr (inr more) ↦ omega (arith, length-others_low r m (omega (arith, more)), low, more)
]

-- how many instructions there are with the row's so far
length-columns : (n r m : ℕ) → r ≤ n
    → length (crosses_rows n r ++ Mul r (n + r) ∷ map (row_sum n r) (others r m)) ≡ 5 * length (pairs n) + n * r + (length (others r m) + 1)
length-columns n r m le =
    omega (arith, length-append (crosses_rows n r) (Mul r (n + r) ∷ map (row_sum n r) (others r m)), length-crosses_rows n r le, length-map (others r m) (row_sum n r))

-- before another column there is room
pub Columning-room : (old now : Draft) (xs ys : List ℕ) (n r m sum : ℕ) → Columning old now xs ys n r m sum → r < n → m < n → (r ≡ m → ⊥) → HasRoomFor old now n 1
Columning-room old now xs ys n r m sum so low high other =
    let long : length (crosses_rows n r ++ Mul r (n + r) ∷ map (row_sum n r) (others r m)) ≡ 5 * length (pairs n) + n * r + (length (others r m) + 1) =
    length-columns n r m (omega (arith, low)) in
    let row : r + 1 ≤ n = omega (arith, low) in
    let within : n * (r + 1) ≤ n * n = mul-le-mul_left n row in
    let few : length (others r m) + 1 < n = others-few r m n low high other in
    record {
      spare = omega (arith, so.placing.room, long, within, few);
      few = omega (arith, Placing-length old now (product_to old xs ys) _ (product_total n) so.placing, long, within, few, length-product n);
    }

-- before it, how long the trace is
pub Columning-len : (old now : Draft) (xs ys : List ℕ) (n r m sum : ℕ) → Columning old now xs ys n r m sum → r < n
    → draft_len now ≡ draft_len old + (5 * length (pairs n) + n * r + (length (others r m) + 1))
Columning-len old now xs ys n r m sum so low =
    omega (arith, Placing-len old now (product_to old xs ys) _ (product_total n) so.placing, length-columns n r m (omega (arith, low)))

-- where a cell stands: behind the shares
cell_position-above : (n r m : ℕ) → (r ≡ m → ⊥) → 2 * n ≤ cell_position n r m
cell_position-above n r m other = elim (cases_order r m) [
  | inl same ↦ absurd (other same)
  | inr (inl less) ↦ omega (arith, cell_position-later n r m less)
  | inr (inr more) ↦ omega (arith, cell_position-earlier n r m more)
]

-- so in the code it stands where it is computed to be
pub cell-at : (old : Draft) (xs ys : List ℕ) (n r m cell : ℕ) → length xs ≡ n → length ys ≡ n → (r ≡ m → ⊥)
    → 2 * n + cell ≡ draft_len old + cell_position n r m → product_to old xs ys (cell_position n r m) ≡ cell
cell-at old xs ys n r m cell left right other is =
    let above : 2 * n ≤ cell_position n r m = cell_position-above n r m other in
    placement-next (xs ++ ys) (draft_len old) (cell_position n r m) (cell_position n r m - 2 * n) (omega (arith, two-banks xs ys n left right, above))
    ∙ omega (arith, above, is)

-- the sum of another column is appended
pub Columning-more : (old now next : Draft) (xs ys : List ℕ) (n r m sum cell position : ℕ) → Columning old now xs ys n r m sum → r < n → m < n → (r ≡ m → ⊥)
    → length xs ≡ n → length ys ≡ n → product_to old xs ys (cell_position n r m) ≡ cell
    → next ≡ record now { instrs = now.instrs ++ Add sum cell ∷ []; spare = now.spare - 1 } → position ≡ draft_len now
    → Columning old next xs ys n r (m + 1) position
Columning-more old now next xs ys n r m sum cell position so low high other left right cell_is is here =
    let to : ℕ → ℕ = product_to old xs ys in
    let one : suc m ≡ m + 1 = omega arith in
    let front : List Instr = crosses_rows n r ++ Mul r (n + r) ∷ map (row_sum n r) (others r m) in
    let long : length front ≡ 5 * length (pairs n) + n * r + (length (others r m) + 1) = length-columns n r m (omega (arith, low)) in
    let row : r + 1 ≤ n = omega (arith, low) in
    let within : n * (r + 1) ≤ n * n = mul-le-mul_left n row in
    let few : length (others r m) + 1 < n = others-few r m n low high other in
    let more : others r (m + 1) ≡ others r m ++ m ∷ [] = ap (others r) (sym one) ∙ others-other r m other in
    let grown : length (others r (m + 1)) ≡ length (others r m) + 1 = ap length more ∙ length-append (others r m) (m ∷ []) in
    let same : front ++ row_sum n r m ∷ [] ≡ crosses_rows n r ++ Mul r (n + r) ∷ map (row_sum n r) (others r (m + 1)) =
    append_assoc (crosses_rows n r) (Mul r (n + r) ∷ map (row_sum n r) (others r m)) (row_sum n r m ∷ [])
    ∙ ap (λ (is : List Instr). crosses_rows n r ++ Mul r (n + r) ∷ is)
    (sym (map-append (row_sum n r) (others r m) (m ∷ [])) ∙ ap (map (row_sum n r)) (sym more)) in
    record {
      placing = Placing-same old next to (front ++ row_sum n r m ∷ []) _ (product_total n) same
          (Placing-push old now next to front (product_total n) (row_sum n r m) (Add sum cell) so.placing (omega (arith, long, within, few)) is
          (ap (λ (p : ℕ). Add p (to (cell_position n r m))) (sym so.last) ∙ ap (Add sum) cell_is));
      last = omega (arith, sum-at old xs ys n r (m + 1) left right, here, Columning-len old now xs ys n r m sum so low, grown);
    }

-- at its own column nothing is appended
pub Columning-same : (old now : Draft) (xs ys : List ℕ) (n r m sum : ℕ) → Columning old now xs ys n r m sum → r ≡ m → Columning old now xs ys n r (m + 1) sum
Columning-same old now xs ys n r m sum so here =
    let one : suc m ≡ m + 1 = omega arith in
    let same : others r (m + 1) ≡ others r m = ap (others r) (sym one) ∙ others-same r m here in
    record {
      placing = Placing-same old now (product_to old xs ys) _ _ (product_total n) (ap (λ (js : List ℕ). crosses_rows n r ++ Mul r (n + r) ∷ map (row_sum n r) js) (sym same)) so.placing;
      last = so.last ∙ ap (λ (js : List ℕ). product_to old xs ys (row_position n r + length js)) (sym same);
    }

-- the row is done
pub Rowing-more : (old before now : Draft) (xs ys regs : List ℕ) (n r m sum : ℕ) → Rowing old before xs ys regs n r → Columning old now xs ys n r m sum → r < n → m ≡ n
    → Rowing old now xs ys (slice_set regs r sum) n (r + 1)
Rowing-more old before now xs ys regs n r m sum rows so low end =
    let one : suc r ≡ r + 1 = omega arith in
    let same : crosses_rows n r ++ Mul r (n + r) ∷ map (row_sum n r) (others r m) ≡ crosses_rows n (r + 1) =
    ap (λ (k : ℕ). crosses_rows n r ++ Mul r (n + r) ∷ map (row_sum n r) (others r k)) end
    ∙ append_assoc (flat_map (product_pair n) (pairs n)) (flat_map (product_row n) (range_with_len 0 r)) (product_row n r)
    ∙ ap (λ (is : List Instr). flat_map (product_pair n) (pairs n) ++ is)
    (sym (blocks-more (product_row n) (range_with_len 0 r) r) ∙ ap (flat_map (product_row n)) (sym (range-last r) ∙ ap (range_with_len 0) one)) in
    record {
      placing = Placing-same old now (product_to old xs ys) _ _ (product_total n) same so.placing;
      count = length-set regs r sum ∙ rows.count;
      done = λ s less. elim (cases_eq s r) [
        | inl here ↦
            ap (slice_index (slice_set regs r sum)) here ∙ get_or-set_same regs r sum 0 (omega (arith, low, rows.count)) ∙ so.last
            ∙ ap (λ (k : ℕ). product_to old xs ys (sum_position n r k)) end ∙ ap (λ (k : ℕ). product_to old xs ys (sum_position n k n)) (sym here)
        | inr other ↦ get_or-set_other regs r s sum 0 other ∙ rows.done s (omega (arith, less, other))
      ];
    }

-- all rows are done
pub Rowing-all : (old now : Draft) (xs ys regs : List ℕ) (n r : ℕ) → Rowing old now xs ys regs n r → r ≡ n → Emitted old now (xs ++ ys) (product_gadget n) regs
Rowing-all old now xs ys regs n r so end =
    Placing-all old now (xs ++ ys) regs (product_gadget n) (product_total n)
    (Placing-same old now (product_to old xs ys) _ _ (product_total n) (ap (crosses_rows n) end) so.placing)
    (fill_by_all (λ s. product_to old xs ys (sum_position n s n)) regs n 0 so.count (λ s low. so.done s (omega (arith, low, end)))
    ∙ sym (map-map-range (product_to old xs ys) (λ s. sum_position n s n) 0 n))
