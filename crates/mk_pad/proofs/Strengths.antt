-- A gadget whose sets are all shown is strong.
use Rattle.std.proofs.Common.{◌≡◌, ◌⊎◌, inl, inr, ℕ, zero, suc, ◌+◌, ◌*◌, ◌≤◌, ◌<◌, Bool, true, false, List, [], ◌∷◌, ◌++◌, length, map, not, nat_eq, nat_lt, slice_index, cond, if◌then◌else◌, refl, sym, ◌∙◌, ap, subst, arith, eq-eqb, ne_eqb, length-append, drop, ◌-◌, suc-mul, zero-mul}
use Rattle.std.proofs.Math.Nat.{mul_comm}
use Rattle.std.specs.Prelude.{◌||◌}
use Rattle.std.specs.List.{AllByRecursion, Contains, filter, count_by, range_with_len}
use Rattle.std.proofs.lemmas.Bool.{cases_eq, cases_lt, false≢true, lt-ltb, le-ltb}
use Rattle.std.proofs.lemmas.List.{map-append, get_or-map, length-map}
use Rattle.std.proofs.lemmas.Simd.{map-map}
use Rattle.std.proofs.lemmas.List.Sums.{length-filter, sum_by-cons}
use Rattle.mk_field.specs.declared.field.FieldId.{FieldId}
use Rattle.mk_field.specs.declared.map.AddMap.{AddMap}
use Rattle.mk_field.specs.Field.{size}
use Rattle.mk_code.specs.declared.instr.Instr.{Instr}
use Rattle.mk_code.specs.declared.instr.Instr.TheVariants.{Rnd, Const, Copy, Add, Mul, Sq, Map}
use Rattle.mk_code.specs.Counting.{AllBelow, Elements, total, one_if_equal}
use Rattle.mk_code.specs.Listing.{FitsAt, AllFit}
use Rattle.mk_code.specs.Private.{observation}
use Rattle.mk_code.specs.Trace.{takes, entry, randoms, run}
use Rattle.mk_code.proofs.Totals.{total-same}
use Rattle.mk_gadget.specs.Steady.{block_view, block_ways, DependsAt, IsStrong}
use Rattle.mk_gadget.proofs.Coupling.{depends-unpublic}
use Rattle.mk_gadget.proofs.Steady.{map-same}
use Rattle.mk_pad.specs.Form.{GadgetForm, IsGadget, operands, share_count, position_count}
use Rattle.mk_pad.specs.Polynomial.{value}
use Rattle.mk_pad.specs.Positions.{polynomials}
use Rattle.mk_pad.specs.Shown.{occurs, polynomial_of, is_in, Leaves, occurs_in, inner, IsShown, Ascend, AreAllShown, standing}
use Rattle.mk_pad.proofs.Entries.{value-at}
use Rattle.mk_pad.proofs.Right.{polynomials-length, polynomials-run}
use Rattle.mk_pad.proofs.Members.{any-some, in-first, in-later, in-cases, in-filter, not-true}
use Rattle.mk_pad.proofs.Hiding.{at, rest-decides}

-- ---- numbers that a test keeps

-- what is in a list stands somewhere in it
pub contains-in : (xs : List ℕ) (x : ℕ) → is_in xs x ≡ true → Contains xs x
contains-in [] x e = absurd (false≢true e)
contains-in (y ∷ ys) x e = elim (in-cases y ys x e) [
  | inl here ↦ (0, omega arith, sym here)
  | inr there ↦ (
      let found = contains-in ys x there in
      (suc found.0, omega (arith, found.1), found.2))
]

-- and the other way round
pub in-contains : (xs : List ℕ) (x : ℕ) → Contains xs x → is_in xs x ≡ true
in-contains [] x (k, within, is) = absurd (omega (arith, within))
in-contains (y ∷ ys) x (zero, within, is) = in-first y ys x (sym is)
in-contains (y ∷ ys) x (suc k, within, is) = in-later y ys x (in-contains ys x (k, omega (arith, within), is))

-- ascending numbers, from an earlier one on
pub ascend-from : (low from end : ℕ) (ps : List ℕ) → low ≤ from → Ascend from end ps → Ascend low end ps
unfolding Ascend
ascend-from low from end [] least up = tt
ascend-from low from end (p ∷ ps) least up = (omega (arith, least, up.0), up.1, up.2)

-- one number more, or not
ascend-one : (b : Bool) (from end : ℕ) (ps : List ℕ) → from < end → Ascend (from + 1) end ps → Ascend from end (cond b (from ∷ ps) ps)
unfolding Ascend
ascend-one true from end ps below up = (omega arith, below, up)
ascend-one false from end ps below up = ascend-from from (from + 1) end ps (omega arith) up

-- what a test keeps of a range ascends
pub ascend-filter : (test : ℕ → Bool) (from n end : ℕ) → from + n ≤ end → Ascend from end (filter test (range_with_len from n))
unfolding Ascend
ascend-filter test from zero end room = tt
ascend-filter test from (suc n) end room =
    ascend-one (test from) from end (filter test (range_with_len (from + 1) n)) (omega (arith, room))
    (ascend-filter test (from + 1) n end (omega (arith, room)))

-- the numbers of a range are in it
pub in-range : (from n p : ℕ) → from ≤ p → p < from + n → is_in (range_with_len from n) p ≡ true
in-range from zero p least below = absurd (omega (arith, least, below))
in-range from (suc n) p least below = elim (cases_eq p from) [
  | inl same ↦ in-first from (range_with_len (from + 1) n) p same
  | inr differ ↦ in-later from (range_with_len (from + 1) n) p (in-range (from + 1) n p (omega (arith, least, differ)) (omega (arith, below)))
]

-- the first number is counted where it passes
counted : (test : ℕ → Bool) (x : ℕ) (xs : List ℕ) → count_by test (x ∷ xs) ≡ cond (test x) 1 0 + count_by test xs
counted test x xs = sum_by-cons (λ y. cond (test y) 1 0) x xs

-- one test more is counted, or not
count-one : (a b : Bool) (i j k : ℕ) → i ≤ j + k → cond (a || b) 1 0 + i ≤ (cond a 1 0 + j) + (cond b 1 0 + k)
count-one true true i j k most = omega (arith, most)
count-one true false i j k most = omega (arith, most)
count-one false true i j k most = omega (arith, most)
count-one false false i j k most = omega (arith, most)

-- what passes one of two tests is counted with one of them
count-or : (first second : ℕ → Bool) (xs : List ℕ) → count_by (λ p. first p || second p) xs ≤ count_by first xs + count_by second xs
count-or first second [] = omega arith
count-or first second (x ∷ xs) =
    omega (
      arith,
      counted (λ p. first p || second p) x xs,
      counted first x xs,
      counted second x xs,
      count-one (first x) (second x) (count_by (λ p. first p || second p) xs) (count_by first xs) (count_by second xs) (count-or first second xs),
    )

-- no number of a later range is this one
count-later : (v from n : ℕ) → v < from → count_by (λ p. nat_eq p v) (range_with_len from n) ≡ 0
count-later v from zero less = refl
count-later v from (suc n) less =
    omega (
      arith,
      counted (λ p. nat_eq p v) from (range_with_len (from + 1) n),
      ap {B = ℕ} (λ (b : Bool). cond b 1 0) (ne_eqb from v (λ e. absurd (omega (arith, less, e)))),
      count-later v (from + 1) n (omega (arith, less)),
    )

-- a number is at most once in a range
count-single : (v from n : ℕ) → count_by (λ p. nat_eq p v) (range_with_len from n) ≤ 1
count-single v from zero = omega arith
count-single v from (suc n) = elim (cases_eq from v) [
  | inl same ↦
      omega (
        arith,
        counted (λ p. nat_eq p v) from (range_with_len (from + 1) n),
        ap {B = ℕ} (λ (b : Bool). cond b 1 0) (eq-eqb from v same),
        count-later v (from + 1) n (omega (arith, same)),
      )
  | inr differ ↦
      omega (
        arith,
        counted (λ p. nat_eq p v) from (range_with_len (from + 1) n),
        ap {B = ℕ} (λ (b : Bool). cond b 1 0) (ne_eqb from v differ),
        count-single v (from + 1) n,
      )
]

-- where no test passes, nothing is counted
count-none : (xs : List ℕ) → count_by (λ p. false) xs ≡ 0
count-none [] = refl
count-none (x ∷ xs) = count-none xs

-- the numbers of a range that are in a list are no more than the list
pub count-in : (vs : List ℕ) (from n : ℕ) → count_by (is_in vs) (range_with_len from n) ≤ length vs
count-in [] from n = omega (arith, count-none (range_with_len from n))
count-in (v ∷ vs) from n =
    omega (arith, count-or (λ p. nat_eq p v) (is_in vs) (range_with_len from n), count-single v from n, count-in vs from n)

-- one number more, by three tests
kept-one : (s t u : Bool) (x : ℕ) (test : ℕ → Bool) (ys : List ℕ) (n : ℕ) → test x ≡ t → (s ≡ true → t ≡ true → u ≡ true) → count_by test ys ≤ n
    → count_by test (cond s (x ∷ ys) ys) ≤ cond u 1 0 + n
kept-one true true u x test ys n is stronger most =
    omega (arith, counted test x ys, ap {B = ℕ} (λ (b : Bool). cond b 1 0) is, ap {B = ℕ} (λ (b : Bool). cond b 1 0) (stronger refl refl), most)
kept-one true false u x test ys n is stronger most = omega (arith, counted test x ys, ap {B = ℕ} (λ (b : Bool). cond b 1 0) is, most)
kept-one false t u x test ys n is stronger most = omega (arith, most)

-- what passes two tests, one after the other, passes a third where that follows
count-kept : (kept test third : ℕ → Bool) (xs : List ℕ) → ((p : ℕ) → kept p ≡ true → test p ≡ true → third p ≡ true)
    → count_by test (filter kept xs) ≤ count_by third xs
count-kept kept test third [] follows = omega arith
count-kept kept test third (x ∷ xs) follows =
    omega (
      arith,
      counted third x xs,
      kept-one (kept x) (test x) (third x) x test (filter kept xs) (count_by third xs) refl (follows x) (count-kept kept test third xs follows),
    )

-- ---- maps that no instruction takes

-- the value of an instruction that takes no map
entry-unmapped : (field : FieldId) (maps : List AddMap) (len : ℕ) (i : Instr) (word : ℕ) (entries : List ℕ) → FitsAt field 0 len i
    → entry field maps i word entries ≡ entry field [] i word entries
entry-unmapped field maps len Rnd word entries fit = refl
entry-unmapped field maps len (Const value) word entries fit = refl
entry-unmapped field maps len (Copy from) word entries fit = refl
entry-unmapped field maps len (Add left right) word entries fit = refl
entry-unmapped field maps len (Mul left right) word entries fit = refl
entry-unmapped field maps len (Sq from) word entries fit = refl
entry-unmapped field maps len (Map map from) word entries fit = absurd (omega (arith, fit.0))

-- a run of instructions that take no map
run-unmapped : (field : FieldId) (maps : List AddMap) (len : ℕ) (is : List Instr) (tape entries : List ℕ) → AllFit field 0 len is
    → run field maps is tape entries ≡ run field [] is tape entries
unfolding run
run-unmapped field maps len [] tape entries fit = refl
run-unmapped field maps len (i ∷ is) tape entries fit =
    ap (λ (x : ℕ). run field maps is (drop (takes i) tape) (entries ++ x ∷ [])) (entry-unmapped field maps len i (slice_index tape 0) entries fit.0)
    ∙ run-unmapped field maps (len + 1) is (drop (takes i) tape) (entries ++ entry field [] i (slice_index tape 0) entries ∷ []) fit.1

-- ---- members of joined and made lists

-- no number is missing where there are none
empty : (xs : List ℕ) → length xs ≡ 0 → xs ≡ []
empty [] none = refl
empty (x ∷ xs) none = absurd (omega (arith, none))

-- what is in two joined lists is in one of them
in-append : (xs ys : List ℕ) (q : ℕ) → is_in (xs ++ ys) q ≡ true → (is_in xs q ≡ true) ⊎ (is_in ys q ≡ true)
in-append [] ys q e = inr e
in-append (x ∷ xs) ys q e = elim (in-cases x (xs ++ ys) q e) [
  | inl first ↦ inl (in-first x xs q first)
  | inr later ↦ elim (in-append xs ys q later) [
    | inl left ↦ inl (in-later x xs q left)
    | inr right ↦ inr right
  ]
]

-- what is in the first of two joined lists is in them
in-left_of : (xs ys : List ℕ) (q : ℕ) → is_in xs q ≡ true → is_in (xs ++ ys) q ≡ true
in-left_of [] ys q e = absurd (false≢true e)
in-left_of (x ∷ xs) ys q e = elim (in-cases x xs q e) [
  | inl first ↦ in-first x (xs ++ ys) q first
  | inr later ↦ in-later x (xs ++ ys) q (in-left_of xs ys q later)
]

-- what is made of a list is made of one of its numbers
in-map : (f : ℕ → ℕ) (xs : List ℕ) (q : ℕ) → is_in (map f xs) q ≡ true → (x : ℕ) × (is_in xs x ≡ true) × (q ≡ f x)
in-map f [] q e = absurd (false≢true e)
in-map f (x ∷ xs) q e = elim (in-cases (f x) (map f xs) q e) [
  | inl first ↦ (x, in-first x xs x refl, first)
  | inr later ↦ (
      let found = in-map f xs q later in
      (found.0, in-later x xs found.0 found.1, found.2))
]

-- the number at a place of a list is in it
in-at : (xs : List ℕ) (i : ℕ) → i < length xs → is_in xs (slice_index xs i) ≡ true
in-at [] i within = absurd (omega (arith, within))
in-at (x ∷ xs) zero within = in-first x xs x refl
in-at (x ∷ xs) (suc i) within = in-later x xs (slice_index xs i) (in-at xs i (omega (arith, within)))

-- a number of a list of small ones is small
in-below : (q : ℕ) (xs : List ℕ) (x : ℕ) → AllBelow q xs → is_in xs x ≡ true → x < q
unfolding AllBelow
in-below q [] x below e = absurd (false≢true e)
in-below q (y ∷ ys) x below e = elim (in-cases y ys x e) [
  | inl here ↦ subst (λ (n : ℕ). n < q) (sym here) below.0
  | inr there ↦ in-below q ys x below.1 there
]

-- what is said of each position of a list
in-all : (P : ℕ → Type 0) (xs : List ℕ) (x : ℕ) → AllByRecursion P xs → is_in xs x ≡ true → P x
in-all P [] x all e = absurd (false≢true e)
in-all P (y ∷ ys) x all e = elim (in-cases y ys x e) [
  | inl here ↦ subst P (sym here) all.0
  | inr there ↦ in-all P ys x all.1 there
]

-- ---- what an observer asks

-- a position among the shares is that of some share of one of the operands
share-at : (n m p : ℕ) → p < m * n → (k : ℕ) × (i : ℕ) × (k < m) × (i < n) × (p ≡ n * k + i)
share-at n zero p below = absurd (omega (arith, below, zero-mul n))
share-at n (suc m) p below = elim (cases_lt p (m * n)) [
  | inl before ↦ (
      let found = share-at n m p before in
      (found.0, found.1, omega (arith, found.2), found.3, found.4))
  | inr later ↦ (m, p - m * n, omega arith, omega (arith, below, later, suc-mul m n), omega (arith, later, mul_comm n m))
]

module _ (g : GadgetForm) (here : IsGadget g) (shown : AreAllShown g) (maps : List AddMap)
    (probes outs : List ℕ) (probes_below : AllBelow (length g.instrs) probes) (outs_below : AllBelow (g.order + 1) outs)
    (few : length probes + length outs < g.order + 1) where
  -- the positions of the probes, and of the outs that are seen
  abbrev pub probed : List ℕ
  probed = map (λ k. share_count g + k) probes

  -- the positions of the outs that are seen
  abbrev pub given : List ℕ
  given = map (λ o. slice_index g.outs o) outs

  -- all of them
  abbrev pub seen_at : List ℕ
  seen_at = probed ++ given

  -- the set of these positions
  abbrev pub set : List ℕ
  set = filter (is_in seen_at) (range_with_len (share_count g) (length g.instrs))

  -- an out that is seen stands at the position of an instruction
  out-within : (o : ℕ) → o < g.order + 1 → (share_count g ≤ slice_index g.outs o) × (slice_index g.outs o < position_count g)
  out-within o below =
      in-all (λ p. (share_count g ≤ p) × (p < position_count g)) g.outs (slice_index g.outs o) here.outs.within
      (in-at g.outs o (omega (arith, below, here.outs.count)))

  -- all that is seen stands at positions of instructions
  seen-within : (p : ℕ) → is_in seen_at p ≡ true → (share_count g ≤ p) × (p < position_count g)
  seen-within p there = elim (in-append probed given p there) [
    | inl probe ↦ (
        let k = in-map (λ k. share_count g + k) probes p probe in
        let below : k.0 < length g.instrs = in-below (length g.instrs) probes k.0 probes_below k.1 in
        (omega (arith, k.2), omega (arith, k.2, below)))
    | inr out ↦ (
        let o = in-map (λ o. slice_index g.outs o) outs p out in
        let within = out-within o.0 (in-below (g.order + 1) outs o.0 outs_below o.1) in
        (omega (arith, o.2, within.0), omega (arith, o.2, within.1)))
  ]

  -- each is in the set
  in-set : (p : ℕ) → is_in seen_at p ≡ true → is_in set p ≡ true
  in-set p there =
      let within = seen-within p there in
      in-filter (is_in seen_at) (range_with_len (share_count g) (length g.instrs)) p (in-range (share_count g) (length g.instrs) p within.0 within.1) there

  -- so many are seen
  seen-length : length seen_at ≡ length probes + length outs
  seen-length =
      length-append probed given
      ∙ ap (λ (n : ℕ). n + length given) (length-map probes (λ k. share_count g + k))
      ∙ ap (λ (n : ℕ). length probes + n) (length-map outs (λ o. slice_index g.outs o))

  -- the set has no more
  set-few : length set ≤ g.order
  set-few =
      let counted : length set ≡ count_by (is_in seen_at) (range_with_len (share_count g) (length g.instrs)) =
      length-filter (is_in seen_at) (range_with_len (share_count g) (length g.instrs)) in
      omega (arith, counted, count-in seen_at (share_count g) (length g.instrs), seen-length, few)

  -- the positions of the set that are no outs come from probes
  inner-few : inner g set ≤ length probes
  inner-few =
      let most : inner g set ≤ count_by (is_in probed) (range_with_len (share_count g) (length g.instrs)) =
      count-kept (is_in seen_at) (λ p. not (is_in g.outs p)) (is_in probed) (range_with_len (share_count g) (length g.instrs)) (λ p there no_out. probe p there no_out) in
      omega (arith, most, count-in probed (share_count g) (length g.instrs), length-map probes (λ k. share_count g + k))
    where
      probe : (p : ℕ) → is_in seen_at p ≡ true → not (is_in g.outs p) ≡ true → is_in probed p ≡ true
      probe p there no_out = elim (in-append probed given p there) [
        | inl is_probe ↦ is_probe
        | inr out ↦ (
            let o = in-map (λ o. slice_index g.outs o) outs p out in
            let below : o.0 < g.order + 1 = in-below (g.order + 1) outs o.0 outs_below o.1 in
            let is_out : is_in g.outs (slice_index g.outs o.0) ≡ true = in-at g.outs o.0 (omega (arith, below, here.outs.count)) in
            absurd (false≢true (sym (not-true (is_in g.outs p) no_out) ∙ ap (is_in g.outs) o.2 ∙ is_out)))
      ]

  -- the empty set is shown
  none-shown : IsShown g []
  unfolding Leaves
  none-shown = (
    [],
    record { taken = []; leaves = refl; ended = λ p there. absurd (false≢true there) },
    λ k below. omega (arith, count-none (range_with_len 0 (g.order + 1))),
  )

  -- the set is shown
  pub set-shown : IsShown g set
  set-shown = elim (cases_eq (length set) 0) [
    | inl none ↦ subst (IsShown g) (sym (empty set none)) none-shown
    | inr some ↦ shown set (record {
      some = omega (arith, some);
      few = set-few;
      ascend = ascend-filter (is_in seen_at) (share_count g) (length g.instrs) (position_count g) (omega arith);
    })
  ]

  -- what is left of it
  abbrev pub rest : List ℕ
  rest = set-shown.0

  -- the indexes of shares of an operand that are asked
  abbrev pub asked : ℕ → List ℕ
  asked k = if nat_lt k (operands g.kind) then filter (occurs_in g rest k) (range_with_len 0 (g.order + 1)) else []

  -- no more than there are probes
  pub asked-few : (k : ℕ) → length (asked k) ≤ length probes
  asked-few k = elim (cases_lt k (operands g.kind)) [
    | inl below ↦ rw (lt-ltb k (operands g.kind) below)
        (omega (arith, length-filter (occurs_in g rest k) (range_with_len 0 (g.order + 1)), set-shown.2 k below, inner-few))
    | inr above ↦ rw (le-ltb k (operands g.kind) above) (omega arith)
  ]

  -- an index whose share occurs is asked
  asked-has : (k i p : ℕ) → k < operands g.kind → i < g.order + 1 → is_in rest p ≡ true → occurs ((g.order + 1) * k + i) (polynomial_of g p) ≡ true
      → Contains (asked k) i
  asked-has k i p below within there occurring =
      contains-in (asked k) i
      (ap (λ (b : Bool). is_in (if b then filter (occurs_in g rest k) (range_with_len 0 (g.order + 1)) else []) i) (lt-ltb k (operands g.kind) below)
      ∙ in-filter (occurs_in g rest k) (range_with_len 0 (g.order + 1)) i (in-range 0 (g.order + 1) i (omega arith) (omega (arith, within)))
      (any-some (λ p. occurs ((g.order + 1) * k + i) (polynomial_of g p)) rest p there occurring))

  -- an entry of the run is the value of its position
  entry-at : (state tape : List ℕ) (p : ℕ) → Elements (size g.field) (share_count g) state → Elements (size g.field) (randoms g.instrs) tape
      → p < position_count g → slice_index (run g.field maps g.instrs tape state) p ≡ at g here state tape p
  entry-at state tape p shares elements within =
      ap (λ (es : List ℕ). slice_index es p)
      (run-unmapped g.field maps (share_count g) g.instrs tape state here.fit ∙ sym (polynomials-run g state tape here shares elements))
      ∙ sym (value-at g.field (state ++ tape) (polynomials g) p (omega (arith, within, polynomials-length g)))

  -- what is seen is the values of the positions
  view-at : (state tape : List ℕ) → Elements (size g.field) (share_count g) state → Elements (size g.field) (randoms g.instrs) tape
      → block_view (length state) (standing g) probes outs (run g.field maps g.instrs tape state) ≡ map (at g here state tape) seen_at
  view-at state tape shares elements =
      let es : List ℕ = run g.field maps g.instrs tape state in
      let value_at : ℕ → ℕ = at g here state tape in
      ap (λ (n : ℕ). observation (map (λ k. n + k) probes) es ++ observation outs (observation g.outs es)) shares.count
      ∙ ap (λ (xs : List ℕ). xs ++ observation outs (observation g.outs es))
      (map-same (λ p. slice_index es p) value_at probed (λ p held. entry-at state tape p shares elements (seen-within p (in-left p (in-contains probed p held))).1))
      ∙ ap (λ (xs : List ℕ). map value_at probed ++ xs)
      (map-same (λ o. slice_index (observation g.outs es) o) (λ o. value_at (slice_index g.outs o)) outs (λ o held. out-at o (in-below (g.order + 1) outs o outs_below (in-contains outs o held)))
      ∙ sym (map-map value_at (λ o. slice_index g.outs o) outs))
      ∙ sym (map-append value_at probed given)
    where
      in-left : (p : ℕ) → is_in probed p ≡ true → is_in seen_at p ≡ true
      in-left p there = in-left_of probed given p there

      out-at : (o : ℕ) → o < g.order + 1 → slice_index (observation g.outs (run g.field maps g.instrs tape state)) o ≡ at g here state tape (slice_index g.outs o)
      out-at o below =
          get_or-map (λ p. slice_index (run g.field maps g.instrs tape state) p) g.outs o 0 0 (omega (arith, below, here.outs.count))
          ∙ entry-at state tape (slice_index g.outs o) shares elements (out-within o below).1

  -- the ways depend on the asked shares alone
  pub asked-decide : DependsAt g.field maps (g.order + 1) (operands g.kind) 0 (standing g) probes outs asked
  asked-decide = depends-unpublic g.field maps (g.order + 1) (operands g.kind) (standing g) probes outs asked (λ first second seen one two agree.
      let left : Elements (size g.field) (share_count g) first = record { count = one.count ∙ mul_comm (g.order + 1) (operands g.kind); below = one.below } in
      let right : Elements (size g.field) (share_count g) second = record { count = two.count ∙ mul_comm (g.order + 1) (operands g.kind); below = two.below } in
      let looked : (ℕ → ℕ) → List ℕ → ℕ = λ u s. one_if_equal (map u seen_at) seen in
      let ways_are : (state : List ℕ) → Elements (size g.field) (share_count g) state
      → block_ways g.field maps (standing g) state probes outs seen ≡ total (size g.field) (randoms g.instrs) (λ tape. looked (at g here state tape) tape) =
      λ state shares. total-same (size g.field) (randoms g.instrs)
      (λ tape. one_if_equal (block_view (length state) (standing g) probes outs (run g.field maps g.instrs tape state)) seen)
      (λ tape. looked (at g here state tape) tape)
      (λ tape elements. ap (λ (xs : List ℕ). one_if_equal xs seen) (view-at state tape shares elements)) in
      ways_are first left
      ∙ rest-decides g here set-shown.1.taken set rest set-shown.1.leaves first second left right
      (λ p i there below occurring. agreed first second agree p i there occurring (share-at (g.order + 1) (operands g.kind) i below))
      looked
      (λ u v s same. ap (λ (xs : List ℕ). one_if_equal xs seen) (map-same u v seen_at (λ p held. same p (in-set p (in-contains seen_at p held)))))
      (λ j within p there occurring u. record { same = λ s t first second agree. refl })
      ∙ sym (ways_are second right))
    where
      agreed : (first second : List ℕ)
          → ((k i : ℕ) → k < operands g.kind → i < g.order + 1 → Contains (asked k) i → slice_index first ((g.order + 1) * k + i) ≡ slice_index second ((g.order + 1) * k + i))
          → (p v : ℕ) → is_in rest p ≡ true → occurs v (polynomial_of g p) ≡ true
          → ((k : ℕ) × (i : ℕ) × (k < operands g.kind) × (i < g.order + 1) × (v ≡ (g.order + 1) * k + i)) → slice_index first v ≡ slice_index second v
      agreed first second agree p v there occurring (k, i, below, within, is) =
          ap (slice_index first) is
          ∙ agree k i below within (asked-has k i p below within there (ap (λ (w : ℕ). occurs w (polynomial_of g p)) (sym is) ∙ occurring))
          ∙ sym (ap (slice_index second) is)

-- where every set of at most as many positions as the order is shown, the gadget is strong
pub strong-from_shown : (g : GadgetForm) → IsGadget g → AreAllShown g → (maps : List AddMap) → IsStrong g.field maps (g.order + 1) (operands g.kind) 0 (standing g)
strong-from_shown g here shown maps probes outs probes_below outs_below few = (
  asked g here shown maps probes outs probes_below outs_below few,
  asked-few g here shown maps probes outs probes_below outs_below few,
  asked-decide g here shown maps probes outs probes_below outs_below few,
)
