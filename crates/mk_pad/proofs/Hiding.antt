-- An observer of a set sees as much as one of its rest: random elements hide what was taken out.
use Rattle.std.proofs.Common.{◌≡◌, ◌≢◌, ◌⊎◌, inl, inr, ℕ, zero, suc, ◌+◌, ◌-◌, ◌<◌, Bool, true, false, List, [], ◌∷◌, ◌++◌, length, not, nat_eq, slice_index, bit_xor, cond, if◌then◌else◌, refl, sym, ◌∙◌, ap, subst, arith, eq-eqb, ne_eqb, length-append}
use Rattle.std.specs.Prelude.{◌||◌}
use Rattle.std.specs.List.{AllByRecursion, filter, list_any}
use Rattle.std.proofs.lemmas.Bool.{cases_eq, cases_lt, false≢true}
use Rattle.std.proofs.lemmas.List.{get_or_append_left, get_or-append-add}
use Rattle.mk_field.specs.declared.field.FieldId.{FieldId}
use Rattle.mk_field.specs.Field.{size, bits, product, raised}
use Rattle.mk_field.proofs.Sum.{sum-assoc, sum-left_comm, sum-comm}
use Rattle.mk_code.specs.Counting.{Elements, total}
use Rattle.mk_code.specs.CountingLaws.{Overlooks}
use Rattle.mk_code.specs.Trace.{randoms}
use Rattle.mk_code.proofs.Totals.{total-same, Elements-append}
use Rattle.mk_code.proofs.TakenOut.{total-renamed}
use Rattle.mk_pad.specs.declared.term.Term.{Term}
use Rattle.mk_pad.specs.Form.{GadgetForm, IsGadget, share_count}
use Rattle.mk_pad.specs.Polynomial.{monomial_at, term_at, value, IsTerm, IsPolynomial}
use Rattle.mk_pad.specs.Positions.{variable_count, polynomials}
use Rattle.mk_pad.specs.Shown.{has_variable, occurs, IsAdded, polynomial_of, is_in, without, MayTake, Leaves}
use Rattle.mk_pad.proofs.Values.{value-in_field}
use Rattle.mk_pad.proofs.Entries.{variable-at, polynomial_at-fits}
use Rattle.mk_pad.proofs.Right.{polynomials-fit}
use Rattle.mk_pad.proofs.Members.{or-none, or-second, bool-cases, any-none, in-from_without, in-without}

-- ---- what the value of a polynomial depends on

-- a monomial depends on the variables that have an exponent
monomial-same : (field : FieldId) (es xs ys : List ℕ) → length xs ≡ length ys
    → ((i : ℕ) → slice_index es i ≢ 0 → slice_index xs i ≡ slice_index ys i) → monomial_at field es xs ≡ monomial_at field es ys
unfolding monomial_at raised
monomial-same field [] xs ys long same = refl
monomial-same field (e ∷ es) [] [] long same = refl
monomial-same field (e ∷ es) [] (y ∷ ys) long same = absurd (omega (arith, long))
monomial-same field (e ∷ es) (x ∷ xs) [] long same = absurd (omega (arith, long))
monomial-same field (zero ∷ es) (x ∷ xs) (y ∷ ys) long same =
    ap (product field 1) (monomial-same field es xs ys (omega (arith, long)) (λ i other. same (suc i) other))
monomial-same field (suc e ∷ es) (x ∷ xs) (y ∷ ys) long same =
    ap (λ (z : ℕ). product field (raised field z (suc e)) (monomial_at field es xs)) (same 0 (λ bad. absurd (omega (arith, bad))))
    ∙ ap (product field (raised field y (suc e))) (monomial-same field es xs ys (omega (arith, long)) (λ i other. same (suc i) other))

-- a variable with an exponent is one of the term's
has-of : (v : ℕ) (t : Term) → slice_index t.exponents v ≢ 0 → has_variable v t ≡ true
has-of v t other = ap not (ne_eqb (slice_index t.exponents v) 0 other)

-- a polynomial depends on the variables that occur in it
pub value-same : (field : FieldId) (ps : List Term) (xs ys : List ℕ) → length xs ≡ length ys
    → ((i : ℕ) → occurs i ps ≡ true → slice_index xs i ≡ slice_index ys i) → value field ps xs ≡ value field ps ys
unfolding value
value-same field [] xs ys long same = refl
value-same field (t ∷ ts) xs ys long same =
    ap (λ (m : ℕ). bit_xor (product field t.coefficient m) (value field ts xs))
    (monomial-same field t.exponents xs ys long (λ i other. same i (first i (has-of i t other))))
    ∙ ap (bit_xor (term_at field t ys)) (value-same field ts xs ys long (λ i there. same i (or-second (has_variable i t) (occurs i ts) there)))
  where
    first : (i : ℕ) → has_variable i t ≡ true → occurs i (t ∷ ts) ≡ true
    first i has = ap (λ (b : Bool). b || occurs i ts) has

-- the terms that a test keeps, and the others
value-one : (field : FieldId) (b : Bool) (t : Term) (ps qs : List Term) (xs : List ℕ)
    → bit_xor (value field (cond b (t ∷ ps) ps) xs) (value field (cond (not b) (t ∷ qs) qs) xs) ≡ bit_xor (term_at field t xs) (bit_xor (value field ps xs) (value field qs xs))
unfolding value
value-one field true t ps qs xs = sum-assoc (term_at field t xs) (value field ps xs) (value field qs xs)
value-one field false t ps qs xs = sum-left_comm (value field ps xs) (term_at field t xs) (value field qs xs)

-- a polynomial is the sum of the terms that a test keeps and of the others
value-split : (field : FieldId) (test : Term → Bool) (ps : List Term) (xs : List ℕ)
    → value field ps xs ≡ bit_xor (value field (filter test ps) xs) (value field (filter (λ t. not (test t)) ps) xs)
unfolding value
value-split field test [] xs = refl
value-split field test (t ∷ ts) xs =
    ap (bit_xor (term_at field t xs)) (value-split field test ts xs)
    ∙ sym (value-one field (test t) t (filter test ts) (filter (λ u. not (test u)) ts) xs)

-- the terms of a polynomial that don't have the variable
abbrev others : ℕ → List Term → List Term
others v ps = filter (λ t. not (has_variable v t)) ps

-- one term more of those that don't have it
free-one : (v : ℕ) (t : Term) (ts : List Term) (b : Bool) → has_variable v t ≡ b → occurs v ts ≡ false → occurs v (cond (not b) (t ∷ ts) ts) ≡ false
free-one v t ts true e none = none
free-one v t ts false e none = ap (λ (c : Bool). c || occurs v ts) e ∙ none

-- it doesn't occur in them
others-free : (v : ℕ) (ps : List Term) → occurs v (others v ps) ≡ false
others-free v [] = refl
others-free v (t ∷ ts) = free-one v t (others v ts) (has_variable v t) refl (others-free v ts)

-- one term more, or not
fit-one : (field : FieldId) (n : ℕ) (b : Bool) (t : Term) (ts : List Term) → IsTerm field n t → AllByRecursion (IsTerm field n) ts
    → AllByRecursion (IsTerm field n) (cond b (t ∷ ts) ts)
fit-one field n true t ts first fit = (first, fit)
fit-one field n false t ts first fit = fit

-- they are terms
others-fit : (field : FieldId) (n v : ℕ) (ps : List Term) → AllByRecursion (IsTerm field n) ps → AllByRecursion (IsTerm field n) (others v ps)
others-fit field n v [] fit = tt
others-fit field n v (t ∷ ts) fit = fit-one field n (not (has_variable v t)) t (others v ts) fit.0 (others-fit field n v ts fit.1)

-- where no term passes a test, none is kept
filter-none : (test : Term → Bool) (ps : List Term) → list_any test ps ≡ false → filter test ps ≡ []
filter-none test [] none = refl
filter-none test (t ∷ ts) none =
    let parts = or-none (test t) (list_any test ts) none in
    ap (λ (b : Bool). cond b (t ∷ filter test ts) (filter test ts)) parts.0 ∙ filter-none test ts parts.1

-- where a variable is added, it occurs
added-occurs : (n v : ℕ) (ps : List Term) → IsAdded n v ps → occurs v ps ≡ true
added-occurs n v ps added = elim (bool-cases (occurs v ps)) [
  | inl there ↦ there
  | inr none ↦ absurd (omega (arith, ap length (sym (filter-none (has_variable v) ps none) ∙ added)))
]

-- where a variable is added, the value is the sum of the element and of what doesn't depend on it
added-value : (field : FieldId) (n v : ℕ) (ps : List Term) (xs : List ℕ) → IsAdded n v ps → Elements (size field) n xs → v < n
    → value field ps xs ≡ bit_xor (value field (others v ps) xs) (slice_index xs v)
added-value field n v ps xs added here within =
    value-split field (has_variable v) ps xs
    ∙ ap (λ (ts : List Term). bit_xor (value field ts xs) (value field (others v ps) xs)) added
    ∙ ap (λ (a : ℕ). bit_xor a (value field (others v ps) xs)) (variable-at field n v xs here within)
    ∙ sum-comm (slice_index xs v) (value field (others v ps) xs)

-- ---- shares, and a tape behind them

-- an element of the shares
left-at : (state tape : List ℕ) (i : ℕ) → i < length state → slice_index (state ++ tape) i ≡ slice_index state i
left-at state tape i within = get_or_append_left state tape 0 i within

-- an element of the tape
right-at : (state tape : List ℕ) (base j : ℕ) → length state ≡ base → slice_index (state ++ tape) (base + j) ≡ slice_index tape j
right-at state tape base j long = ap (λ (n : ℕ). slice_index (state ++ tape) (n + j)) (sym long) ∙ get_or-append-add state tape j 0

-- a number below another one, or not
pub below-cases : (i b : ℕ) → (i < b) ⊎ ((k : ℕ) × (i ≡ b + k))
below-cases i b = elim (cases_lt i b) [
  | inl less ↦ inl less
  | inr more ↦ inr (i - b, omega (arith, more))
]

-- elements at two joined lists, where the tapes agree off one place
joined-same : (base j i : ℕ) (state s t : List ℕ) → length state ≡ base → i ≢ base + j → ((k : ℕ) → k ≢ j → slice_index s k ≡ slice_index t k)
    → (i < base) ⊎ ((k : ℕ) × (i ≡ base + k)) → slice_index (state ++ s) i ≡ slice_index (state ++ t) i
joined-same base j i state s t long differ agree (inl less) =
    left-at state s i (omega (arith, long)) ∙ sym (left-at state t i (omega (arith, long)))
joined-same base j i state s t long differ agree (inr (k, is)) =
    ap (slice_index (state ++ s)) is ∙ right-at state s base k long
    ∙ agree k (λ same. differ (is ∙ ap (λ (n : ℕ). base + n) same))
    ∙ sym (ap (slice_index (state ++ t)) is ∙ right-at state t base k long)

-- a value doesn't depend on a random element that doesn't occur
value-over : (field : FieldId) (ps : List Term) (base j : ℕ) (state s t : List ℕ) → length state ≡ base → occurs (base + j) ps ≡ false
    → length s ≡ length t → ((i : ℕ) → i ≢ j → slice_index s i ≡ slice_index t i) → value field ps (state ++ s) ≡ value field ps (state ++ t)
value-over field ps base j state s t long none same agree =
    value-same field ps (state ++ s) (state ++ t) (length-append state s ∙ ap (λ (n : ℕ). length state + n) same ∙ sym (length-append state t))
    (λ i there. joined-same base j i state s t long (λ e. false≢true (sym none ∙ sym (ap (λ (v : ℕ). occurs v ps) e) ∙ there)) agree (below-cases i base))

-- ---- one position is given another value

-- the values u, but a at position p
abbrev put : ℕ → ℕ → (ℕ → ℕ) → ℕ → ℕ
put p a u q = if nat_eq q p then a else u q

-- at p
put-here : (p a : ℕ) (u : ℕ → ℕ) (q : ℕ) → q ≡ p → put p a u q ≡ a
put-here p a u q same = rw (eq-eqb q p same) refl

-- and elsewhere
put-other : (p a : ℕ) (u : ℕ → ℕ) (q : ℕ) → q ≢ p → put p a u q ≡ u q
put-other p a u q differ = rw (ne_eqb q p differ) refl

-- ---- what is taken out

module _ (g : GadgetForm) (here : IsGadget g) where
  -- the value of a position, for these shares and this tape
  abbrev pub at : List ℕ → List ℕ → ℕ → ℕ
  at state tape p = value g.field (polynomial_of g p) (state ++ tape)

  -- the size of the field, and the number of random elements
  abbrev q : ℕ
  q = size g.field

  -- the number of random elements
  abbrev count : ℕ
  count = randoms g.instrs

  -- what is looked at depends on the values of these positions
  abbrev pub Reads : List ℕ → ((ℕ → ℕ) → List ℕ → ℕ) → Type 0
  Reads left h = (u v : ℕ → ℕ) (s : List ℕ) → ((p : ℕ) → is_in left p ≡ true → u p ≡ v p) → h u s ≡ h v s

  -- and, beside them, on no random element that occurs in them
  abbrev pub LeavesOut : List ℕ → ((ℕ → ℕ) → List ℕ → ℕ) → Type 0
  LeavesOut left h =
      (j : ℕ) → j < count → (p : ℕ) → is_in left p ≡ true → occurs (share_count g + j) (polynomial_of g p) ≡ true
      → (u : ℕ → ℕ) → Overlooks q count j (h u)

  -- the sum over all tapes
  abbrev over_tapes : List ℕ → ((ℕ → ℕ) → List ℕ → ℕ) → ℕ
  over_tapes state h = total q count (λ tape. h (at state tape) tape)

  -- the polynomial of a position is one
  fits : (p : ℕ) → IsPolynomial g.field (variable_count g) (polynomial_of g p)
  fits p = polynomial_at-fits g.field (variable_count g) (polynomials g) p (polynomials-fit g here)

  module _ (left : List ℕ) (p j : ℕ) (there : is_in left p ≡ true) (may : MayTake g left p) (is : may.random ≡ share_count g + j) (below : j < count)
      (h : (ℕ → ℕ) → List ℕ → ℕ) (reads : Reads left h) (leaves : LeavesOut left h) where
    -- the random element is added at the position
    added : IsAdded (variable_count g) (share_count g + j) (polynomial_of g p)
    added = subst (λ (v : ℕ). IsAdded (variable_count g) v (polynomial_of g p)) is may.added

    -- and occurs in no other
    free : (r : ℕ) → is_in left r ≡ true → r ≢ p → occurs (share_count g + j) (polynomial_of g r) ≡ false
    free r in_left differ =
        sym (ap (λ (v : ℕ). occurs v (polynomial_of g r)) is)
        ∙ any-none (λ r. occurs may.random (polynomial_of g r)) (without p left) r may.alone (in-without p left r in_left differ)

    -- what is looked at, where the position has the value of the random element
    abbrev pub hidden : (ℕ → ℕ) → List ℕ → ℕ
    hidden u s = h (put p (slice_index s j) u) s

    -- values that agree at the others agree at all, once the position is given one value
    put-same : (a : ℕ) (u v : ℕ → ℕ) → ((r : ℕ) → is_in left r ≡ true → r ≢ p → u r ≡ v r) → (r : ℕ) → is_in left r ≡ true → put p a u r ≡ put p a v r
    put-same a u v same r in_left = elim (cases_eq r p) [
      | inl e ↦ put-here p a u r e ∙ sym (put-here p a v r e)
      | inr differ ↦ put-other p a u r differ ∙ same r in_left differ ∙ sym (put-other p a v r differ)
    ]

    -- it depends on the others alone
    hidden-reads : Reads (without p left) hidden
    hidden-reads u v s same =
        reads (put p (slice_index s j) u) (put p (slice_index s j) v) s
        (put-same (slice_index s j) u v (λ r in_left differ. same r (in-without p left r in_left differ)))

    -- and on no random element that occurs in them
    hidden-leaves : LeavesOut (without p left) hidden
    hidden-leaves i within r in_others occurring u = record {
      same = λ s t first second agree.
          let parts = in-from_without p left r in_others in
          let other : j ≢ i = λ same. false≢true (sym (free r parts.0 parts.1) ∙ ap (λ (k : ℕ). occurs (share_count g + k) (polynomial_of g r)) same ∙ occurring) in
          ap (λ (a : ℕ). h (put p a u) s) (agree j other)
          ∙ (leaves i within r parts.0 occurring (put p (slice_index t j) u)).same s t first second agree;
    }

    -- the sum of the others
    abbrev masked : List ℕ → List ℕ → ℕ
    masked state s = value g.field (others (share_count g + j) (polynomial_of g p)) (state ++ s)

    -- the totals are the same
    taken-same : (state : List ℕ) → Elements q (share_count g) state → over_tapes state h ≡ over_tapes state hidden
    taken-same state shares =
        let looked : ℕ → List ℕ → ℕ = λ a s. h (put p a (at state s)) s in
        total-same q count (λ s. h (at state s) s) (λ s. looked (bit_xor (masked state s) (slice_index s j)) s)
        (λ s tape. reads (at state s) (put p (bit_xor (masked state s) (slice_index s j)) (at state s)) s (λ r in_left. split s tape r))
        ∙ total-renamed (bits g.field) count j (masked state) looked below
        (λ s tape. value-in_field g.field (variable_count g) (others (share_count g + j) (polynomial_of g p)) (state ++ s)
        (others-fit g.field (variable_count g) (share_count g + j) (polynomial_of g p) (fits p).terms))
        (record {
          same = λ s t first second agree.
              value-over g.field (others (share_count g + j) (polynomial_of g p)) (share_count g) j state s t shares.count
              (others-free (share_count g + j) (polynomial_of g p)) (first.count ∙ sym second.count) agree;
        })
        (λ a. record {
          same = λ s t first second agree.
              (leaves j below p there (added-occurs (variable_count g) (share_count g + j) (polynomial_of g p) added) (put p a (at state s))).same s t first second agree
              ∙ reads (put p a (at state s)) (put p a (at state t)) t
              (put-same a (at state s) (at state t) (λ r in_left differ.
              value-over g.field (polynomial_of g r) (share_count g) j state s t shares.count (free r in_left differ) (first.count ∙ sym second.count) agree));
        })
      where
        split : (s : List ℕ) → Elements q count s → (r : ℕ) → at state s r ≡ put p (bit_xor (masked state s) (slice_index s j)) (at state s) r
        split s tape r = elim (cases_eq r p) [
          | inl same ↦
              ap (at state s) same
              ∙ added-value g.field (variable_count g) (share_count g + j) (polynomial_of g p) (state ++ s) added
              (Elements-append q (share_count g) count state s shares tape) (omega (arith, below))
              ∙ ap (bit_xor (masked state s)) (right-at state s (share_count g) j shares.count)
              ∙ sym (put-here p (bit_xor (masked state s) (slice_index s j)) (at state s) r same)
          | inr differ ↦ sym (put-other p (bit_xor (masked state s) (slice_index s j)) (at state s) r differ)
        ]

  -- states with the same shares where the rest reads them show as much of the whole set
  pub rest-decides : (taken left rest : List ℕ) → Leaves g taken left rest → (first second : List ℕ) → Elements q (share_count g) first → Elements q (share_count g) second
      → ((p i : ℕ) → is_in rest p ≡ true → i < share_count g → occurs i (polynomial_of g p) ≡ true → slice_index first i ≡ slice_index second i)
      → (h : (ℕ → ℕ) → List ℕ → ℕ) → Reads left h → LeavesOut left h → over_tapes first h ≡ over_tapes second h
  unfolding Leaves
  rest-decides [] left rest same first second one two agree h reads leaves =
      total-same q count (λ s. h (at first s) s) (λ s. h (at second s) s)
      (λ s tape. reads (at first s) (at second s) s (λ p in_left.
      value-same g.field (polynomial_of g p) (first ++ s) (second ++ s)
      (length-append first s ∙ ap (λ (n : ℕ). n + length s) (one.count ∙ sym two.count) ∙ sym (length-append second s))
      (λ i occurring. entries s i (below-cases i (share_count g)) (λ less. agree p i (subst (λ (xs : List ℕ). is_in xs p ≡ true) same in_left) less occurring))))
    where
      entries : (s : List ℕ) (i : ℕ) → (i < share_count g) ⊎ ((k : ℕ) × (i ≡ share_count g + k)) → (i < share_count g → slice_index first i ≡ slice_index second i)
          → slice_index (first ++ s) i ≡ slice_index (second ++ s) i
      entries s i (inl less) e = left-at first s i (omega (arith, one.count)) ∙ e less ∙ sym (left-at second s i (omega (arith, two.count)))
      entries s i (inr (k, is)) e =
          ap (slice_index (first ++ s)) is ∙ right-at first s (share_count g) k one.count
          ∙ sym (ap (slice_index (second ++ s)) is ∙ right-at second s (share_count g) k two.count)
  rest-decides (p ∷ ps) left rest leaves_all first second one two agree h reads leaves =
      let there = leaves_all.0 in
      let may = leaves_all.1 in
      let j : ℕ = may.random - share_count g in
      let is : may.random ≡ share_count g + j = omega (arith, may.is_random.0) in
      let below : j < count = omega (arith, may.is_random.0, may.is_random.1) in
      taken-same left p j there may is below h reads leaves first one
      ∙ rest-decides ps (without p left) rest leaves_all.2 first second one two agree (hidden left p j there may is below h reads leaves)
      (hidden-reads left p j there may is below h reads leaves) (hidden-leaves left p j there may is below h reads leaves)
      ∙ sym (taken-same left p j there may is below h reads leaves second two)
