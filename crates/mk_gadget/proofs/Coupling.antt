-- Two states of a gadget show an observer the same in equally many ways where adding fixed elements to each
-- tape takes what the first shows him to what the second shows him.
use Rattle.std.proofs.Common.{arith, ◌≡◌, ◌≢◌, Bool, true, ◌||◌, ℕ, zero, suc, ◌+◌, ◌*◌, ◌<◌, ◌≤◌, List, [], ◌∷◌, ◌++◌, length, map, slice_index, bit_xor, inl, inr, refl, sym, ◌∙◌, ap, append-nil}
use Rattle.std.specs.List.{range_with_len, Contains, list_any}
use Rattle.std.proofs.lemmas.Simd.{map-map}
use Rattle.std.proofs.lemmas.Bool.{cases_Bool, true≢false}
use Rattle.std.proofs.lemmas.List.{get_or-map}
use Rattle.std.proofs.lemmas.List.FromFn.{get_or-map-range_with_len}
use Rattle.std.proofs.lemmas.List.Folds.{list_any_at}
use Rattle.mk_field.specs.declared.field.FieldId.{FieldId}
use Rattle.mk_field.specs.declared.map.AddMap.{AddMap}
use Rattle.mk_field.specs.Field.{bits, size}
use Rattle.mk_field.specs.Sharing.{added}
use Rattle.mk_field.proofs.Sum.{sum-zero_left, sum-zero_right}
use Rattle.mk_code.specs.Trace.{run, randoms}
use Rattle.mk_code.specs.Counting.{one_if_equal, AllBelow, Elements}
use Rattle.mk_code.specs.Private.{observation}
use Rattle.mk_code.proofs.LeftOut.{IsLeftOut}
use Rattle.mk_code.proofs.Totals.{total-same, total-moved}
use Rattle.mk_gadget.specs.Gadget.{Gadget}
use Rattle.mk_gadget.specs.Pairs.{Pair, pairs, pair_number}
use Rattle.mk_gadget.specs.Steady.{block_view, block_ways, DependsAt}
use Rattle.mk_gadget.proofs.Pairs.{pair, pairs-numbered, pair_number-below}
use Rattle.mk_gadget.proofs.Steady.{map-same, nothing}

-- the ways are equal where a translation of the tape takes one view to the other
pub coupled : (field : FieldId) (maps : List AddMap) (gadget : Gadget) (first second probes outs seen d : List ℕ)
    → length d ≤ randoms gadget.instrs → AllBelow (size field) d
    → ((tape : List ℕ) → Elements (size field) (randoms gadget.instrs) tape
    → block_view (length first) gadget probes outs (run field maps gadget.instrs tape first)
    ≡ block_view (length second) gadget probes outs (run field maps gadget.instrs (added d tape) second))
    → block_ways field maps gadget first probes outs seen ≡ block_ways field maps gadget second probes outs seen
coupled field maps gadget first second probes outs seen d fits below same =
    let count : ℕ = randoms gadget.instrs in
    let after : List ℕ → ℕ = λ tape. one_if_equal (block_view (length second) gadget probes outs (run field maps gadget.instrs tape second)) seen in
    total-same (size field) count (λ tape. one_if_equal (block_view (length first) gadget probes outs (run field maps gadget.instrs tape first)) seen) (λ tape. after (added d tape))
    (λ tape here. ap (λ (xs : List ℕ). one_if_equal xs seen) (same tape here))
    ∙ total-moved (bits field) count d after fits below

-- without public operands it is enough to look at the shares
pub depends-unpublic : (field : FieldId) (maps : List AddMap) (n m : ℕ) (gadget : Gadget) (probes outs : List ℕ) (asked : ℕ → List ℕ)
    → ((first second seen : List ℕ) → Elements (size field) (n * m) first → Elements (size field) (n * m) second
    → ((k i : ℕ) → k < m → i < n → Contains (asked k) i → slice_index first (n * k + i) ≡ slice_index second (n * k + i))
    → block_ways field maps gadget first probes outs seen ≡ block_ways field maps gadget second probes outs seen)
    → DependsAt field maps n m 0 gadget probes outs asked
depends-unpublic field maps n m gadget probes outs asked same first second publics seen left right none agree =
    let whole : (xs : List ℕ) → xs ++ publics ≡ xs =
    λ xs. ap (λ (ys : List ℕ). xs ++ ys) (nothing 0 publics none.count) ∙ append-nil xs in
    let ways : List ℕ → ℕ = λ state. block_ways field maps gadget state probes outs seen in
    ap ways (whole first) ∙ same first second seen left right agree ∙ sym (ap ways (whole second))

-- what is seen is the same where each entry seen is
pub view-same : (base : ℕ) (gadget : Gadget) (probes outs u v : List ℕ)
    → ((k : ℕ) → Contains probes k → slice_index u (base + k) ≡ slice_index v (base + k))
    → ((o : ℕ) → Contains outs o → slice_index (observation gadget.outs u) o ≡ slice_index (observation gadget.outs v) o)
    → block_view base gadget probes outs u ≡ block_view base gadget probes outs v
view-same base gadget probes outs u v inside shown =
    let seen : List ℕ → List ℕ = λ (es : List ℕ). map (λ k. slice_index es (base + k)) probes in
    let apart : (es : List ℕ) → observation (map (λ k. base + k) probes) es ≡ seen es =
    λ es. map-map (λ p. slice_index es p) (λ k. base + k) probes in
    let front : observation (map (λ k. base + k) probes) u ≡ observation (map (λ k. base + k) probes) v =
    apart u ∙ map-same (λ k. slice_index u (base + k)) (λ k. slice_index v (base + k)) probes inside ∙ sym (apart v) in
    let back : observation outs (observation gadget.outs u) ≡ observation outs (observation gadget.outs v) =
    map-same (λ o. slice_index (observation gadget.outs u) o) (λ o. slice_index (observation gadget.outs v) o) outs shown in
    cc

-- a share of an out bank of n shares stands where its position says
pub out-at : (position : ℕ → ℕ) (n o : ℕ) (entries : List ℕ) → o < n
    → slice_index (observation (map position (range_with_len 0 n)) entries) o ≡ slice_index entries (position o)
out-at position n o entries below =
    ap (λ (xs : List ℕ). slice_index xs o) (map-map (λ p. slice_index entries p) position (range_with_len 0 n))
    ∙ get_or-map-range_with_len (λ i. slice_index entries (position i)) 0 n o o 0 below (omega arith)

-- two lists added, position by position
pub slice_index-added : (xs ys : List ℕ) (k : ℕ) → slice_index (added xs ys) k ≡ bit_xor (slice_index xs k) (slice_index ys k)
unfolding added
slice_index-added [] ys k = sym (sum-zero_left (slice_index ys k))
slice_index-added (x ∷ xs) [] k = sym (sum-zero_right (slice_index (x ∷ xs) k))
slice_index-added (x ∷ xs) (y ∷ ys) zero = refl
slice_index-added (x ∷ xs) (y ∷ ys) (suc k) = slice_index-added xs ys k

-- an element for each pair of shares
abbrev pub for_pairs : ℕ → (ℕ → ℕ → ℕ) → List ℕ
for_pairs n move = map (λ (p : Pair). move p.0 p.1) (pairs n)

-- elements they are
pub for_pairs-below : (q : ℕ) (move : ℕ → ℕ → ℕ) (ps : List Pair) → ((i j : ℕ) → move i j < q) → AllBelow q (map (λ (p : Pair). move p.0 p.1) ps)
unfolding AllBelow
for_pairs-below q move [] small = tt
for_pairs-below q move (p ∷ ps) small = (small p.0 p.1, for_pairs-below q move ps small)

-- they are added to the random elements of the pairs
pub for_pairs-added : (n : ℕ) (move : ℕ → ℕ → ℕ) (tape : List ℕ) (i j : ℕ) → i < j → j < n
    → slice_index (added (for_pairs n move) tape) (pair_number n i j) ≡ bit_xor (move i j) (slice_index tape (pair_number n i j))
for_pairs-added n move tape i j order high =
    let k : ℕ = pair_number n i j in
    let here : k < length (pairs n) = pair_number-below n n i j (omega (arith, order, high)) order high in
    slice_index-added (for_pairs n move) tape k
    ∙ ap (λ (a : ℕ). bit_xor a (slice_index tape k))
    (get_or-map (λ (p : Pair). move p.0 p.1) (pairs n) k (pair 0 0) 0 here
    ∙ ap (λ (p : Pair). move p.0 p.1) ((pairs-numbered n).at i j order high here))

-- a number that is left out is none of the list
pub left_out-other : (f : ℕ) (xs : List ℕ) (x : ℕ) → IsLeftOut f xs → Contains xs x → x ≢ f
unfolding IsLeftOut
left_out-other f [] x out held = absurd (omega (arith, held.1))
left_out-other f (y ∷ ys) x out (zero, inside, here) = λ e. out.0 (here ∙ e)
left_out-other f (y ∷ ys) x out (suc k, inside, here) = left_out-other f ys x out.1 (k, omega (arith, inside), here)

-- a number of the list that passes the test
pub any-held : (test : ℕ → Bool) (xs : List ℕ) (x : ℕ) → Contains xs x → test x ≡ true → list_any test xs ≡ true
any-held test xs x held passes = list_any_at test xs held.0 x held.1 (ap test held.2 ∙ passes)

-- if one passes, there is one
pub any-found : (test : ℕ → Bool) (xs : List ℕ) → list_any test xs ≡ true → (x : ℕ) × Contains xs x × (test x ≡ true)
any-found test [] passes = absurd (true≢false (sym passes))
any-found test (y ∷ ys) passes = elim (cases_Bool (test y)) [
  | inl here ↦ (y, (0, omega arith, refl), here)
  | inr there ↦
      let behind : list_any test ys ≡ true = ap (λ (b : Bool). b || list_any test ys) (sym there) ∙ passes in
      let rest : (x : ℕ) × Contains ys x × (test x ≡ true) = any-found test ys behind in
      (rest.0, (suc rest.1.0, omega (arith, rest.1.1), rest.1.2), rest.2)
]
