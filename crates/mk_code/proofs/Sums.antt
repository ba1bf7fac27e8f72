-- Laws of sums over the numbers below q.
use Rattle.std.proofs.Common.{◌≡◌, ℕ, zero, suc, ◌+◌, ◌^◌, ◌<◌, Bool, nat_eq, if◌then◌else◌, bit_xor, refl, sym, ◌∙◌, ap, arith, inl, inr, eq-eqb, ne_eqb}
use Rattle.std.proofs.lemmas.Bool.{cases_eq, cond-true, cond-false}
use Rattle.mk_field.proofs.Sum.{sum-below, sum-cancel}
use Rattle.mk_code.specs.Counting.{sum_below}

-- functions that are equal below q have equal sums
pub sum_below-same : (q : ℕ) (f g : ℕ → ℕ) → ((a : ℕ) → a < q → f a ≡ g a) → sum_below q f ≡ sum_below q g
unfolding sum_below
sum_below-same zero f g same = refl
sum_below-same (suc q) f g same =
    let front : sum_below q f ≡ sum_below q g = sum_below-same q f g (λ a below. same a (omega arith)) in
    let last : f q ≡ g q = same q (omega arith) in
    cc

-- the sum of zeros
pub sum_below-zero : (q : ℕ) → sum_below q (λ a. 0) ≡ 0
unfolding sum_below
sum_below-zero zero = refl
sum_below-zero (suc q) = ap (λ (n : ℕ). n + 0) (sum_below-zero q)

-- the sum of sums
pub sum_below-add : (q : ℕ) (f g : ℕ → ℕ) → sum_below q (λ a. f a + g a) ≡ sum_below q f + sum_below q g
unfolding sum_below
sum_below-add zero f g = refl
sum_below-add (suc q) f g = omega (arith, sum_below-add q f g)

-- two sums change places
pub sum_below-exchange : (p q : ℕ) (f : ℕ → ℕ → ℕ)
    → sum_below p (λ a. sum_below q (λ b. f a b)) ≡ sum_below q (λ b. sum_below p (λ a. f a b))
unfolding sum_below
sum_below-exchange zero q f = sym (sum_below-zero q)
sum_below-exchange (suc p) q f =
    ap (λ (n : ℕ). n + sum_below q (λ b. f p b)) (sum_below-exchange p q f)
    ∙ sym (sum_below-add q (λ b. sum_below p (λ a. f a b)) (λ b. f p b))

-- where a function is 0 at all numbers below q but one, its sum is its value there
pub sum_below-single : (q c : ℕ) (f : ℕ → ℕ) → c < q → sum_below q (λ a. if nat_eq a c then f a else 0) ≡ f c
unfolding sum_below
sum_below-single zero c f below = absurd (omega arith)
sum_below-single (suc q) c f below = elim (cases_eq q c) [
  | inl same ↦
      let front : sum_below q (λ a. if nat_eq a c then f a else 0) ≡ 0 =
      sum_below-same q (λ a. if nat_eq a c then f a else 0) (λ a. 0) (λ a lt. cond-false (nat_eq a c) (f a) 0 (ne_eqb a c (λ e. absurd (omega arith)))) ∙ sum_below-zero q in
      let last : (if nat_eq q c then f q else 0) ≡ f c = cond-true (nat_eq q c) (f q) 0 (eq-eqb q c same) ∙ ap f same in
      omega (arith, front, last)
  | inr differ ↦
      let front : sum_below q (λ a. if nat_eq a c then f a else 0) ≡ f c = sum_below-single q c f (omega arith) in
      let last : (if nat_eq q c then f q else 0) ≡ 0 = cond-false (nat_eq q c) (f q) 0 (ne_eqb q c differ) in
      omega (arith, front, last)
]

-- tests that hold together are the same
tests-same : (a b c d : ℕ) → (a ≡ b → c ≡ d) → (c ≡ d → a ≡ b) → nat_eq a b ≡ nat_eq c d
tests-same a b c d there back = elim (cases_eq a b) [
  | inl same ↦ eq-eqb a b same ∙ sym (eq-eqb c d (there same))
  | inr differ ↦ ne_eqb a b differ ∙ sym (ne_eqb c d (λ e. differ (back e)))
]

-- renaming the numbers below q by a map that is its own inverse leaves the sum
pub sum_below-renamed : (q : ℕ) (swap : ℕ → ℕ) (f : ℕ → ℕ)
    → ((a : ℕ) → a < q → swap a < q) → ((a : ℕ) → a < q → swap (swap a) ≡ a)
    → sum_below q (λ a. f (swap a)) ≡ sum_below q f
sum_below-renamed q swap f closed inverse =
    sum_below-same q (λ a. f (swap a)) (λ a. sum_below q (λ b. if nat_eq b (swap a) then f b else 0)) (λ a lt. sym (sum_below-single q (swap a) f (closed a lt)))
    ∙ sum_below-exchange q q (λ a b. if nat_eq b (swap a) then f b else 0)
    ∙ sum_below-same q (λ b. sum_below q (λ a. if nat_eq b (swap a) then f b else 0)) f (λ b lt.
    sum_below-same q (λ a. if nat_eq b (swap a) then f b else 0) (λ a. if nat_eq a (swap b) then f b else 0) (λ a below.
    ap (λ (t : Bool). if t then f b else 0) (tests-same b (swap a) a (swap b)
    (λ e. sym (inverse a below) ∙ ap swap (sym e))
    (λ e. sym (inverse b lt) ∙ ap swap (sym e))))
    ∙ sum_below-single q (swap b) (λ a. f b) (closed b lt))

-- adding an element to all of them leaves the sum
pub sum_below-moved : (k d : ℕ) (f : ℕ → ℕ) → d < 2 ^ k → sum_below (2 ^ k) (λ a. f (bit_xor d a)) ≡ sum_below (2 ^ k) f
sum_below-moved k d f below = sum_below-renamed (2 ^ k) (bit_xor d) f (λ a lt. sum-below k d a below lt) (λ a lt. sum-cancel d a)
