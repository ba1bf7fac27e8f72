-- A count has one table: its rows are those of the tuples that come, in order.
use Rattle.std.proofs.Common.{◌≡◌, ℕ, zero, suc, ◌+◌, ◌<◌, List, [], ◌∷◌, length, map, ◌⊎◌, inl, inr, refl, sym, ◌∙◌, ap, subst, arith}
use Rattle.std.specs.List.{All, Contains}
use Rattle.std.specs.List.Sorted.{IsStrictlySortedBy}
use Rattle.std.specs.declared.cmp.Ordering.{Ordering}
use Rattle.std.specs.declared.cmp.Ordering.TheVariants.{Less}
use Rattle.std.specs.Ordering.{nat_cmp, ordering_reverse}
use Rattle.std.specs.Cmp.{IsTotalOrder}
use Rattle.std.specs.Cmp.Lexicographic.{slice_cmp, nat_list_cmp_total}
use Rattle.std.proofs.lemmas.List.Elements.{All-head, All-tail, All-contains, All-from_recursion}
use Rattle.mk_run.specs.declared.table.Row.{Row}
use Rattle.mk_run.specs.Table.{IsTable, OneTable}

-- an element of a list is its first or one of the others
first-or : {K : Type 0} (x y : K) (xs : List K) → Contains (x ∷ xs) y → (x ≡ y) ⊎ Contains xs y
first-or x y xs (zero, below, is) = inl is
first-or x y xs (suc k, below, is) = inr (k, omega (arith, below), is)

-- what is in a list is in one with one more in front
behind : {K : Type 0} (x y : K) (xs : List K) → Contains xs y → Contains (x ∷ xs) y
behind x y xs (k, below, is) = (suc k, omega (arith, below), is)

-- the first is in a list
front : {K : Type 0} (x : K) (xs : List K) → Contains (x ∷ xs) x
front x xs = (zero, omega arith, refl)

module _ {K : Type 0} (c : K → K → Ordering) (total : IsTotalOrder c) where
  -- of two, one alone is less
  one-less : (x y : K) → c x y ≡ Less → c y x ≡ Less → ⊥
  one-less x y less more = absurd (let turned : c x y ≡ ordering_reverse (c y x) = total.antisymm x y in cc)

  -- what is in a list behind its first is greater
  greater : (x y : K) (xs : List K) → IsStrictlySortedBy c (x ∷ xs) → Contains xs y → c x y ≡ Less
  unfolding IsStrictlySortedBy
  greater x y xs sorted there = All-contains (λ w. c x w ≡ Less) xs y (All-from_recursion (λ w. c x w ≡ Less) xs sorted.0) there

  -- sorted lists with the same elements have the same first
  same-first : (x y : K) (xs ys : List K) → IsStrictlySortedBy c (x ∷ xs) → IsStrictlySortedBy c (y ∷ ys)
      → Contains (y ∷ ys) x → Contains (x ∷ xs) y → x ≡ y
  same-first x y xs ys one two there here = elim (first-or y x ys there) [
    | inl same ↦ sym same
    | inr later ↦ elim (first-or x y xs here) [
      | inl same ↦ same
      | inr behind_it ↦ absurd (one-less x y (greater x y xs one behind_it) (greater y x ys two later))
    ]
  ]

  -- what is in the rest of one is in the rest of the other
  in-rest : (x y z : K) (xs ys : List K) → IsStrictlySortedBy c (x ∷ xs) → x ≡ y → Contains xs z → Contains (y ∷ ys) z → Contains ys z
  in-rest x y z xs ys sorted same there other = elim (first-or y z ys other) [
    | inl first ↦ absurd (let less : c x z ≡ Less = greater x z xs sorted there in
        let itself : c x x ≡ Less = subst (λ (w : K). c x w ≡ Less) (sym (same ∙ first)) less in one-less x x itself itself)
    | inr later ↦ later
  ]

  -- sorted lists with the same elements are the same
  pub same-list : (xs ys : List K) → IsStrictlySortedBy c xs → IsStrictlySortedBy c ys
      → ((z : K) → Contains xs z → Contains ys z) → ((z : K) → Contains ys z → Contains xs z) → xs ≡ ys
  unfolding IsStrictlySortedBy
  same-list [] [] one two to from = refl
  same-list [] (y ∷ ys) one two to from = let none = from y (front y ys) in absurd (omega (arith, none.1))
  same-list (x ∷ xs) [] one two to from = let none = to x (front x xs) in absurd (omega (arith, none.1))
  same-list (x ∷ xs) (y ∷ ys) one two to from =
      let same : x ≡ y = same-first x y xs ys one two (to x (front x xs)) (from y (front y ys)) in
      let rest : xs ≡ ys = same-list xs ys one.1 two.1
      (λ z there. in-rest x y z xs ys one same there (to z (behind x z xs there)))
      (λ z there. in-rest y x z ys xs two (sym same) there (from z (behind y z ys there))) in
      cc

-- the row of these parts
abbrev row : List ℕ → ℕ → ℕ → Row
row seen first second = record { seen = seen; first = first; second = second }

-- rows of the same parts are the same
same-row : (r s : Row) → r.seen ≡ s.seen → r.first ≡ s.first → r.second ≡ s.second → r ≡ s
same-row r s seen first second =
    ap (λ (xs : List ℕ). row xs r.first r.second) seen ∙ ap (λ (n : ℕ). row s.seen n r.second) first ∙ ap (row s.seen s.first) second

module _ (first second : List ℕ → ℕ) where
  -- what a row tells of its tuple
  abbrev Tells : Row → Type 0
  Tells r = (r.first ≡ first r.seen) × (r.second ≡ second r.seen)

  -- the tuples of rows come in one of the worlds
  positive : (rows : List Row) → All Tells rows → All (λ r. 0 < r.first + r.second) rows → (tuple : List ℕ)
      → Contains (map (λ r. r.seen) rows) tuple → 0 < first tuple + second tuple
  positive [] numbers seen tuple there = absurd (omega (arith, there.1))
  positive (r ∷ rs) numbers seen tuple there = elim (first-or r.seen tuple (map (λ r. r.seen) rs) there) [
    | inl same ↦ subst (λ (w : List ℕ). 0 < first w + second w) same
        (let told : Tells r = All-head Tells r rs numbers in omega (arith, told.0, told.1, All-head (λ r. 0 < r.first + r.second) r rs seen))
    | inr more ↦ positive rs (All-tail Tells r rs numbers) (All-tail (λ r. 0 < r.first + r.second) r rs seen) tuple more
  ]

  -- rows of the same tuples are the same
  same-rows : (rows others : List Row) → All Tells rows → All Tells others → map (λ r. r.seen) rows ≡ map (λ r. r.seen) others → rows ≡ others
  same-rows [] [] one two same = refl
  same-rows [] (s ∷ ss) one two same = absurd cc
  same-rows (r ∷ rs) [] one two same = absurd cc
  same-rows (r ∷ rs) (s ∷ ss) one two same =
      let a : Tells r = All-head Tells r rs one in
      let b : Tells s = All-head Tells s ss two in
      let seen : r.seen ≡ s.seen = cc in
      let tail : map (λ r. r.seen) rs ≡ map (λ r. r.seen) ss = cc in
      let here : r ≡ s = same-row r s seen (a.0 ∙ ap first seen ∙ sym b.0) (a.1 ∙ ap second seen ∙ sym b.1) in
      let rest : rs ≡ ss = same-rows rs ss (All-tail Tells r rs one) (All-tail Tells s ss two) tail in
      cc

-- so a count has one table
pub one-table : OneTable
one-table first second rows others one two =
    same-rows first second rows others one.numbers two.numbers
    (same-list (slice_cmp nat_cmp) nat_list_cmp_total (map (λ r. r.seen) rows) (map (λ r. r.seen) others) one.ascending two.ascending
    (λ tuple there. two.all tuple (positive first second rows one.numbers one.seen tuple there))
    (λ tuple there. one.all tuple (positive first second others two.numbers two.seen tuple there)))
