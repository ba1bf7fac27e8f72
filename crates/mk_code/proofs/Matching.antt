-- Two totals are equal where each observation is made equally often and equal observations go with equal
-- numbers.
use Rattle.std.proofs.Common.{◌≡◌, ◌⊎◌, ℕ, zero, suc, ◌+◌, ◌<◌, List, [], ◌∷◌, ◌++◌, map, refl, sym, ◌∙◌, ap, subst, arith, inl, inr, nat_eq, eq-eqb, ne_eqb}
use Rattle.std.proofs.lemmas.Bool.{cases_eq, cond-true, cond-false}
use Rattle.mk_code.specs.Counting.{sum_below, total, one_if_equal, Elements}
use Rattle.mk_code.proofs.Sums.{sum_below-same}
use Rattle.mk_code.proofs.Totals.{Elements-cons, Elements-nil}

-- the sum of f over a list of tapes
unfoldable sum_of : (List ℕ → ℕ) → List (List ℕ) → ℕ
sum_of f [] = 0
sum_of f (s ∷ ss) = f s + sum_of f ss

-- the sum over tapes one behind the other
sum_of-append : (f : List ℕ → ℕ) (ss ts : List (List ℕ)) → sum_of f (ss ++ ts) ≡ sum_of f ss + sum_of f ts
unfolding sum_of
sum_of-append f [] ts = omega arith
sum_of-append f (s ∷ ss) ts = omega (arith, sum_of-append f ss ts)

-- the lists of f below q one behind the other
unfoldable joined : ℕ → (ℕ → List (List ℕ)) → List (List ℕ)
joined zero f = []
joined (suc q) f = joined q f ++ f q

-- the sum over joined lists
sum_of-joined : (q : ℕ) (g : List ℕ → ℕ) (f : ℕ → List (List ℕ)) → sum_of g (joined q f) ≡ sum_below q (λ a. sum_of g (f a))
unfolding sum_of joined sum_below
sum_of-joined zero g f = refl
sum_of-joined (suc q) g f = omega (arith, sum_of-append g (joined q f) (f q), sum_of-joined q g f)

-- the sum over tapes with one more element in front
sum_of-front : (g : List ℕ → ℕ) (a : ℕ) (ss : List (List ℕ)) → sum_of g (map (λ s. a ∷ s) ss) ≡ sum_of (λ s. g (a ∷ s)) ss
unfolding sum_of
sum_of-front g a [] = refl
sum_of-front g a (s ∷ ss) = ap (λ (n : ℕ). g (a ∷ s) + n) (sum_of-front g a ss)

-- all lists of n numbers below q
unfoldable tapes : ℕ → ℕ → List (List ℕ)
tapes q zero = [] ∷ []
tapes q (suc n) = joined q (λ a. map (λ s. a ∷ s) (tapes q n))

-- a total is the sum over them
total-tapes : (q n : ℕ) (g : List ℕ → ℕ) → total q n g ≡ sum_of g (tapes q n)
unfolding total tapes sum_of
total-tapes q zero g = omega arith
total-tapes q (suc n) g =
    sum_below-same q (λ a. total q n (λ rest. g (a ∷ rest))) (λ a. sum_of g (map (λ s. a ∷ s) (tapes q n)))
    (λ a below. total-tapes q n (λ rest. g (a ∷ rest)) ∙ sym (sum_of-front g a (tapes q n)))
    ∙ sym (sum_of-joined q g (λ a. map (λ s. a ∷ s) (tapes q n)))

-- each of the tapes is such a one
unfoldable Each : (List ℕ → Type 0) → List (List ℕ) → Type 0
Each P [] = Unit {0}
Each P (s ∷ ss) = P s × Each P ss

-- tapes one behind the other
Each-append : (P : List ℕ → Type 0) (ss ts : List (List ℕ)) → Each P ss → Each P ts → Each P (ss ++ ts)
unfolding Each
Each-append P [] ts front back = back
Each-append P (s ∷ ss) ts front back = (front.0, Each-append P ss ts front.1 back)

-- the first of them, and those behind
Each-parts : (P : List ℕ → Type 0) (ss ts : List (List ℕ)) → Each P (ss ++ ts) → Each P ss × Each P ts
unfolding Each
Each-parts P [] ts all = (tt, all)
Each-parts P (s ∷ ss) ts all =
    let parts : Each P ss × Each P ts = Each-parts P ss ts all.1 in
    ((all.0, parts.0), parts.1)

-- joined tapes
Each-joined : (P : List ℕ → Type 0) (q : ℕ) (f : ℕ → List (List ℕ)) → ((a : ℕ) → a < q → Each P (f a)) → Each P (joined q f)
unfolding Each joined
Each-joined P zero f all = tt
Each-joined P (suc q) f all = Each-append P (joined q f) (f q) (Each-joined P q f (λ a below. all a (omega arith))) (all q (omega arith))

-- one more element in front
Each-front : (q n a : ℕ) (ss : List (List ℕ)) → a < q → Each (Elements q n) ss → Each (Elements q (suc n)) (map (λ s. a ∷ s) ss)
unfolding Each
Each-front q n a [] below all = tt
Each-front q n a (s ∷ ss) below all = (Elements-cons q n a s below all.0, Each-front q n a ss below all.1)

-- all lists of n numbers below q are lists of n elements
Each-tapes : (q n : ℕ) → Each (Elements q n) (tapes q n)
unfolding Each tapes
Each-tapes q zero = (Elements-nil q, tt)
Each-tapes q (suc n) = Each-joined (Elements q (suc n)) q (λ a. map (λ s. a ∷ s) (tapes q n)) (λ a below. Each-front q n a (tapes q n) below (Each-tapes q n))

-- a list equals itself
pub one_if_equal-self : (xs : List ℕ) → one_if_equal xs xs ≡ 1
unfolding one_if_equal
one_if_equal-self [] = refl
one_if_equal-self (x ∷ xs) = cond-true (nat_eq x x) (one_if_equal xs xs) 0 (eq-eqb x x refl) ∙ one_if_equal-self xs

-- lists are equal, or this is 0
pub one_if_equal-cases : (xs ys : List ℕ) → (xs ≡ ys) ⊎ (one_if_equal xs ys ≡ 0)
unfolding one_if_equal
one_if_equal-cases [] [] = inl refl
one_if_equal-cases [] (y ∷ ys) = inr refl
one_if_equal-cases (x ∷ xs) [] = inr refl
one_if_equal-cases (x ∷ xs) (y ∷ ys) = elim (cases_eq x y) [
  | inl same ↦ elim (one_if_equal-cases xs ys) [
    | inl rest ↦ inl (cc)
    | inr none ↦ inr (cond-true (nat_eq x y) (one_if_equal xs ys) 0 (eq-eqb x y same) ∙ none)
  ]
  | inr differ ↦ inr (cond-false (nat_eq x y) (one_if_equal xs ys) 0 (ne_eqb x y differ))
]

-- how many of the tapes make an observation
abbrev made : (List ℕ → List ℕ) → List (List ℕ) → List ℕ → ℕ
made u ss seen = sum_of (λ s. one_if_equal (u s) seen) ss

-- one of the tapes that makes it, with those before and behind
record Found (u : List ℕ → List ℕ) (ss : List (List ℕ)) (seen : List ℕ) : Type 0 where
  before : List (List ℕ)
  tape : List ℕ
  behind : List (List ℕ)
  parts : ss ≡ before ++ tape ∷ behind
  shows : u tape ≡ seen

-- an observation is made by none of the tapes, or by one
find : (u : List ℕ → List ℕ) (ss : List (List ℕ)) (seen : List ℕ) → (made u ss seen ≡ 0) ⊎ Found u ss seen
unfolding sum_of
find u [] seen = inl refl
find u (s ∷ ss) seen = elim (one_if_equal-cases (u s) seen) [
  | inl same ↦ inr (record { before = []; tape = s; behind = ss; parts = refl; shows = same })
  | inr none ↦ elim (find u ss seen) [
    | inl rest ↦ inl (omega (arith, none, rest))
    | inr found ↦ inr (record {
      before = s ∷ found.before;
      tape = found.tape;
      behind = found.behind;
      parts = ap (λ (ts : List (List ℕ)). s ∷ ts) found.parts;
      shows = found.shows;
    })
  ]
]

-- the sum over tapes, one of them taken out
sum_of-out : (f : List ℕ → ℕ) (before : List (List ℕ)) (tape : List ℕ) (behind : List (List ℕ))
    → sum_of f (before ++ tape ∷ behind) ≡ f tape + sum_of f (before ++ behind)
unfolding sum_of
sum_of-out f before tape behind = omega (arith, sum_of-append f before (tape ∷ behind), sum_of-append f before behind)

-- two lists of tapes that make each observation equally often have equal sums, where equal observations go
-- with equal numbers: a tape of the first and one of the second with its observation are taken out
lists-matched : (P : List ℕ → Type 0) (u v : List ℕ → List ℕ) (g h : List ℕ → ℕ) (ss ts : List (List ℕ)) → Each P ss → Each P ts
    → ((s t : List ℕ) → P s → P t → u s ≡ v t → g s ≡ h t)
    → ((seen : List ℕ) → made u ss seen ≡ made v ts seen)
    → sum_of g ss ≡ sum_of h ts
unfolding sum_of Each
lists-matched P u v g h [] [] left right same even = refl
lists-matched P u v g h [] (t ∷ ts) left right same even = absurd (omega (arith, even (v t), one_if_equal-self (v t)))
lists-matched P u v g h (s ∷ ss) ts left right same even = elim (find v ts (u s)) [
  | inl none ↦ absurd (omega (arith, even (u s), one_if_equal-self (u s), none))
  | inr found ↦
      let rest : List (List ℕ) = found.before ++ found.behind in
      let parts : Each P found.before × Each P (found.tape ∷ found.behind) =
      Each-parts P found.before (found.tape ∷ found.behind) (subst (Each P) found.parts right) in
      let here : g s ≡ h found.tape = same s found.tape left.0 parts.1.0 (sym found.shows) in
      let inner : sum_of g ss ≡ sum_of h rest =
      lists-matched P u v g h ss rest left.1 (Each-append P found.before found.behind parts.0 parts.1.1) same
      (λ seen.
      let one : one_if_equal (v found.tape) seen ≡ one_if_equal (u s) seen = ap (λ (o : List ℕ). one_if_equal o seen) found.shows in
      let out : made v ts seen ≡ one_if_equal (v found.tape) seen + made v rest seen =
      ap (λ (l : List (List ℕ)). made v l seen) found.parts ∙ sum_of-out (λ t. one_if_equal (v t) seen) found.before found.tape found.behind in
      omega (arith, even seen, one, out)) in
      let out : sum_of h ts ≡ h found.tape + sum_of h rest =
      ap (sum_of h) found.parts ∙ sum_of-out h found.before found.tape found.behind in
      omega (arith, here, inner, out)
]

-- each observation is made by equally many tapes, and equal observations go with equal numbers: equal totals
pub total-matched : (q n : ℕ) (u v : List ℕ → List ℕ) (g h : List ℕ → ℕ)
    → ((seen : List ℕ) → total q n (λ s. one_if_equal (u s) seen) ≡ total q n (λ s. one_if_equal (v s) seen))
    → ((s t : List ℕ) → Elements q n s → Elements q n t → u s ≡ v t → g s ≡ h t)
    → total q n g ≡ total q n h
total-matched q n u v g h even same =
    total-tapes q n g
    ∙ lists-matched (Elements q n) u v g h (tapes q n) (tapes q n) (Each-tapes q n) (Each-tapes q n) same
    (λ seen. sym (total-tapes q n (λ s. one_if_equal (u s) seen)) ∙ even seen ∙ total-tapes q n (λ s. one_if_equal (v s) seen))
    ∙ sym (total-tapes q n h)
