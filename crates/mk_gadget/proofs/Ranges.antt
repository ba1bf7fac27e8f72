-- Lists made from ranges, where the positions of a placed template are, and what is observed at positions.
use Rattle.std.proofs.Common.{◌≡◌, ℕ, zero, suc, ◌+◌, ◌-◌, ◌<◌, ◌≤◌, List, [], ◌∷◌, ◌++◌, length, map, slice_index, bit_xor, refl, sym, ◌∙◌, ap, arith}
use Rattle.std.specs.List.{range_with_len}
use Rattle.std.proofs.lemmas.List.{length-append, get_or_append_left, get_or-append-add}
use Rattle.std.proofs.lemmas.Bool.{lt-ltb, le-ltb}
use Rattle.mk_field.specs.Sharing.{field_sum}
use Rattle.mk_field.proofs.Sum.{sum-interchange}
use Rattle.mk_code.specs.Counting.{AllBelow}
use Rattle.mk_code.specs.Private.{observation}
use Rattle.mk_gadget.specs.Gadget.{placement}

-- two functions that agree on a range give the same list
pub map-range-same : {X : Type 0} (f g : ℕ → X) (a n : ℕ) → ((i : ℕ) → a ≤ i → i < a + n → f i ≡ g i)
    → map f (range_with_len a n) ≡ map g (range_with_len a n)
map-range-same f g a zero same = refl
map-range-same f g a (suc n) same =
    let here : f a ≡ g a = same a (omega arith) (omega arith) in
    let rest : map f (range_with_len (a + 1) n) ≡ map g (range_with_len (a + 1) n) =
    map-range-same f g (a + 1) n (λ i low high. same i (omega arith) (omega arith)) in
    cc

-- a list made from a list made from a range
pub map-map-range : {X Y : Type 0} (f : X → Y) (g : ℕ → X) (a n : ℕ)
    → map f (map g (range_with_len a n)) ≡ map (λ i. f (g i)) (range_with_len a n)
map-map-range f g a zero = refl
map-map-range f g a (suc n) = ap (λ (xs : List _). f (g a) ∷ xs) (map-map-range f g (a + 1) n)

-- a range, moved
pub range-moved : (a b n : ℕ) → map (λ i. b + (i - a)) (range_with_len a n) ≡ range_with_len b n
range-moved a b zero = refl
range-moved a b (suc n) =
    let here : b + (a - a) ≡ b = omega arith in
    let rest : map (λ i. b + (i - a)) (range_with_len (a + 1) n) ≡ range_with_len (b + 1) n =
    map-range-same (λ i. b + (i - a)) (λ i. (b + 1) + (i - (a + 1))) (a + 1) n (λ i low high. omega arith)
    ∙ range-moved (a + 1) (b + 1) n in
    cc

-- a position of the first operand stands where that operand is
pub placement-left : (xs ys : List ℕ) (base n i : ℕ) → length xs ≡ n → i < n → placement (xs ++ ys) base i ≡ slice_index xs i
placement-left xs ys base n i count below =
    let inside : i < length (xs ++ ys) = omega (arith, length-append xs ys) in
    let within : i < length xs = omega arith in
    rw (lt-ltb i (length (xs ++ ys)) inside) (get_or_append_left xs ys 0 i within)

-- a position of the second operand stands where that operand is
pub placement-right : (xs ys : List ℕ) (base n i : ℕ) → length xs ≡ n → length ys ≡ n → i < n → placement (xs ++ ys) base (n + i) ≡ slice_index ys i
placement-right xs ys base n i left right below =
    let inside : n + i < length (xs ++ ys) = omega (arith, length-append xs ys) in
    rw (lt-ltb (n + i) (length (xs ++ ys)) inside)
    (ap (λ (k : ℕ). slice_index (xs ++ ys) (k + i)) (sym left) ∙ get_or-append-add xs ys i 0)

-- the gadget's own positions stand from the base on
pub placement-own : (reads : List ℕ) (base i : ℕ) → length reads ≤ i → placement reads base i ≡ base + (i - length reads)
placement-own reads base i beyond = rw (le-ltb i (length reads) beyond) refl

-- a range is below its end
pub AllBelow-range : (q a n : ℕ) → a + n ≤ q → AllBelow q (range_with_len a n)
unfolding AllBelow
AllBelow-range q a zero within = tt
AllBelow-range q a (suc n) within = (omega (arith, within), AllBelow-range q (a + 1) n (omega (arith, within)))

-- what is observed at positions that a function tells one by one
observed-each : (entries xs : List ℕ) (at : ℕ → ℕ) (k : ℕ) → ((i : ℕ) → i < length xs → at (k + i) ≡ slice_index xs i)
    → observation xs entries ≡ map (λ i. slice_index entries (at i)) (range_with_len k (length xs))
observed-each entries [] at k same = refl
observed-each entries (x ∷ xs) at k same =
    let e : k ≡ k + 0 = omega arith in
    let position : at k ≡ x = ap at e ∙ same 0 (omega arith) in
    let here : slice_index entries x ≡ slice_index entries (at k) = ap (slice_index entries) (sym position) in
    let rest : observation xs entries ≡ map (λ i. slice_index entries (at i)) (range_with_len (k + 1) (length xs)) =
    observed-each entries xs at (k + 1) (λ i below. let f : k + 1 + i ≡ k + suc i = omega arith in ap at f ∙ same (suc i) (omega (arith, below))) in
    cc

-- what is observed at a list of positions, position by position
pub observed-by_index : (entries xs : List ℕ) (n : ℕ) → length xs ≡ n
    → observation xs entries ≡ map (λ i. slice_index entries (slice_index xs i)) (range_with_len 0 n)
observed-by_index entries xs n count =
    observed-each entries xs (slice_index xs) 0 (λ i below. let e : 0 + i ≡ i = omega arith in ap (slice_index xs) e)
    ∙ ap (λ (m : ℕ). map (λ i. slice_index entries (slice_index xs i)) (range_with_len 0 m)) count

-- what stands behind the entries is observed there
observed-from : (all more : List ℕ) (a : ℕ) → ((i : ℕ) → i < length more → slice_index all (a + i) ≡ slice_index more i)
    → observation (range_with_len a (length more)) all ≡ more
observed-from all [] a same = refl
observed-from all (m ∷ more) a same =
    let e : a ≡ a + 0 = omega arith in
    let here : slice_index all a ≡ m = ap (slice_index all) e ∙ same 0 (omega arith) in
    let rest : observation (range_with_len (a + 1) (length more)) all ≡ more =
    observed-from all more (a + 1) (λ i below. let f : a + 1 + i ≡ a + suc i = omega arith in ap (slice_index all) f ∙ same (suc i) (omega (arith, below))) in
    cc

-- and so are the values behind all the entries
pub observed-behind : (entries more : List ℕ) (n : ℕ) → length more ≡ n → observation (range_with_len (length entries) n) (entries ++ more) ≡ more
observed-behind entries more n count =
    ap (λ (m : ℕ). observation (range_with_len (length entries) m) (entries ++ more)) (sym count)
    ∙ observed-from (entries ++ more) more (length entries) (λ i below. get_or-append-add entries more i 0)

-- the sum of sums is the sum of the two sums
pub field_sum-sums : (f g : ℕ → ℕ) (a n : ℕ)
    → field_sum (map (λ i. bit_xor (f i) (g i)) (range_with_len a n)) ≡ bit_xor (field_sum (map f (range_with_len a n))) (field_sum (map g (range_with_len a n)))
unfolding field_sum
field_sum-sums f g a zero = refl
field_sum-sums f g a (suc n) =
    ap (λ (s : ℕ). bit_xor (bit_xor (f a) (g a)) s) (field_sum-sums f g (a + 1) n)
    ∙ sum-interchange (f a) (g a) (field_sum (map f (range_with_len (a + 1) n))) (field_sum (map g (range_with_len (a + 1) n)))
